-- The bytes stand in the entry's slot, which the other slots do not meet.
use Rattle.std.proofs.Common.{arith, ◌≡◌, ◌+◌, ◌<◌, ◌≤◌, ◌∙◌, sym, vec_len, length}
use Rattle.std.specs.Prelude.{Some, None, slice_index_or}
use Rattle.std.proofs.lemmas.List.{get_or_read_under}
use Rattle.fast_dict.proofs.Extended.{text_behind, behind_elsewhere}
use Rattle.fast_dict.proofs.slots.Slots.write_behind.Goals as goal

pub returns-in-Some-clause-text : goal.returns-in-Some-clause-text
returns-in-Some-clause-text c =
    let s = c.args.self.now in
    let place = c.in-Some.place in
    let part = c.args.part.now in
    let b : c.args.entry < vec_len s.places = omega (arith, s.paired, c.requires.there) in
    let at : slice_index_or s.places.items c.args.entry None ≡ Some place =
    sym (get_or_read_under _ _ _ _ None c.index.ensures b s.places.ok.0) ∙ c.in-Some.is in
    let h : place + s.max_text ≤ vec_len s.block = s.within c.args.entry place at in
    rw (at, c.copy_into.ensures.items) (text_behind s.block.items part place c.args.keep (omega (arith, h, s.block.ok.0, c.requires.fits)))

pub returns-in-Some-clause-others : goal.returns-in-Some-clause-others
returns-in-Some-clause-others c i size ne small =
    let s = c.args.self.now in
    let place = c.in-Some.place in
    let b : c.args.entry < vec_len s.places = omega (arith, s.paired, c.requires.there) in
    let at : slice_index_or s.places.items c.args.entry None ≡ Some place =
    sym (get_or_read_under _ _ _ _ None c.index.ensures b s.places.ok.0) ∙ c.in-Some.is in
    let h : place + s.max_text ≤ vec_len s.block = s.within c.args.entry place at in
    let k : place + s.max_text ≤ length s.block.items = omega (arith, h, s.block.ok.0) in
    rw c.copy_into.ensures.items (behind_elsewhere s.block.items c.args.part.now s.places.items c.args.entry place c.args.keep i s.max_text
    size c.requires.fits small k ne at s.ordered)
