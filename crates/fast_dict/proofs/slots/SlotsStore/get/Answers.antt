-- The entry of that number, with its text.
use Rattle.std.proofs.Common.{◌∙◌, sym}
use Rattle.fast_dict.specs.meaning.Slots.{get-entries}
use Rattle.fast_dict.proofs.Slotted.{place_of_entry}
use Rattle.fast_dict.proofs.slots.SlotsStore.get.Goals as goal

pub previous-requires : goal.previous-requires
previous-requires c = place_of_entry c.args.self.now c.args.entry c.requires

pub returns : goal.returns
returns c = c.previous.ensures ∙ sym (get-entries c.args.self.now.block.items c.args.self.now.places.items c.args.self.now.entries.items c.args.entry)
