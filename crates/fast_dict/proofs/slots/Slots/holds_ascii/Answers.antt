-- The entry of that number, and its slot.
use Rattle.std.proofs.Common.{◌∙◌, sym}
use Rattle.std.specs.Prelude.{None, slice_index_or}
use Rattle.fast_dict.specs.meaning.Slots.{text_in}
use Rattle.fast_dict.proofs.Slotted.{place_of_entry, ascii_entry}
use Rattle.fast_dict.proofs.slots.Slots.holds_ascii.Goals as goal

pub entry-requires : goal.entry-requires
entry-requires c = place_of_entry c.args.self.now c.args.entry c.requires

pub returns-in-Ascii-clause-text : goal.returns-in-Ascii-clause-text
returns-in-Ascii-clause-text c _ =
    let place = slice_index_or c.args.self.now.places.items c.args.entry None in (
      text_in c.args.self.now.block.items place c.in-Ascii.field-0,
      ascii_entry c.args.self.now c.args.entry c.in-Ascii.field-0 (sym c.entry.ensures.value ∙ c.in-Ascii.is),
    )
