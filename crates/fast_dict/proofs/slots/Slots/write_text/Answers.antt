-- The other slots do not meet this one.
use Rattle.std.proofs.Common.{arith, ◌≡◌, ◌+◌, ◌<◌, ◌≤◌, ◌∙◌, sym, vec_len, length}
use Rattle.std.specs.Prelude.{Some, None, slice_index_or}
use Rattle.std.proofs.lemmas.List.{get_or_read_under}
use Rattle.fast_dict.proofs.Blocks.{text_elsewhere}
use Rattle.fast_dict.proofs.slots.Slots.write_text.Goals as goal

pub returns-in-Some-clause-others : goal.returns-in-Some-clause-others
returns-in-Some-clause-others c i size ne small =
    let b : c.args.entry < vec_len c.args.self.now.places = omega (arith, c.args.self.now.paired, c.requires.there) in
    let at : slice_index_or c.args.self.now.places.items c.args.entry None ≡ Some c.in-Some.place =
    sym (get_or_read_under _ _ _ _ None c.index.ensures b c.args.self.now.places.ok.0) ∙ c.in-Some.is in
    let h : c.in-Some.place + c.args.self.now.max_text ≤ vec_len c.args.self.now.block = c.args.self.now.within c.args.entry c.in-Some.place at in
    let k : c.in-Some.place + c.args.self.now.max_text ≤ length c.args.self.now.block.items = omega (arith, h, c.args.self.now.block.ok.0) in
    rw c.copy_into.ensures.items (text_elsewhere c.args.self.now.block.items c.args.text.now c.args.self.now.places.items c.args.entry
    c.in-Some.place c.in-Some.place i c.args.self.now.max_text size (omega arith)
    (omega (arith, c.requires.fits)) small k ne at c.args.self.now.ordered)
