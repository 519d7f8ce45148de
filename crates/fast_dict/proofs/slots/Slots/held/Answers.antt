-- The entry of that number, with the text of its slot.
use Rattle.std.proofs.Common.{◌∙◌, ap, sym}
use Rattle.std.specs.Prelude.{slice_index_or, None}
use Rattle.fast_dict.specs.meaning.Entry.{with_text, text_length}
use Rattle.fast_dict.specs.meaning.Slots.{text_in, get-entries}
use Rattle.fast_dict.specs.declared.entry.Entry.TheVariants.{Undefined}
use Rattle.fast_dict.proofs.Slotted.{place_of_entry}
use Rattle.fast_dict.proofs.slots.Slots.held.Goals as goal

pub entry-requires : goal.entry-requires
entry-requires c = place_of_entry c.args.self.now c.args.entry c.requires

pub returns : goal.returns
returns c =
    let block = c.args.self.now.block.items in
    let places = c.args.self.now.places.items in
    let entries = c.args.self.now.entries.items in
    let text = text_in block (slice_index_or places c.args.entry None) (text_length (slice_index_or entries c.args.entry Undefined)) in
    (text, ap (λ e. with_text e text) c.entry.ensures.value ∙ sym (get-entries block places entries c.args.entry))
