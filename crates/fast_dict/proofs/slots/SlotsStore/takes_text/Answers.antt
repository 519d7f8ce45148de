-- There is a place for each entry.
use Rattle.std.proofs.Common.{◌<◌, ◌∙◌, ap, arith, vec_len}
use Rattle.std.specs.Prelude.{is_some, None}
use Rattle.std.proofs.lemmas.List.{get_or_read_under}
use Rattle.fast_dict.proofs.Slotted.{place_of_entry}
use Rattle.fast_dict.proofs.slots.SlotsStore.takes_text.Goals as goal

pub index-requires : goal.index-requires
index-requires c = let h = place_of_entry c.args.self.now c.args.entry c.requires in omega (arith, h, c.args.self.now.paired)

pub returns : goal.returns
returns c =
    let h = place_of_entry c.args.self.now c.args.entry c.requires in
    let b : c.args.entry < vec_len c.args.self.now.places = omega (arith, h, c.args.self.now.paired) in
    c.is_some.ensures ∙ ap is_some (get_or_read_under _ _ _ _ None c.index.ensures b c.args.self.now.places.ok.0)
