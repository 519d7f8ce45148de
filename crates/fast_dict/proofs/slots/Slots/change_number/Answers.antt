-- The entry of that number changes alone.
use Rattle.std.proofs.Common.{refl, ap, ◌∙◌, []}
use Rattle.std.specs.Prelude.{slice_index_or, slice_set, None}
use Rattle.fast_dict.specs.meaning.Entry.{with_text}
use Rattle.fast_dict.specs.meaning.Slots.{entries_data}
use Rattle.fast_dict.proofs.Slotted.{place_of_entry, put-entries, number-entry}
use Rattle.fast_dict.proofs.slots.Slots.change_number.Goals as goal

pub index_mut-requires : goal.index_mut-requires
index_mut-requires c = place_of_entry c.args.self.now c.args.entry c.requires.there

pub returns-clause-entry : goal.returns-clause-entry
returns-clause-entry c =
    let block = c.args.self.now.block.items in
    let places = c.args.self.now.places.items in
    let entries = c.args.self.now.entries.items in
    ap (λ e. entries_data block places (slice_set entries c.args.entry e)) c.change.ensures
    ∙ put-entries block block places entries c.args.entry c.args.self.now.max_text c.args.held (with_text c.args.held [])
    (λ j size n h. refl) c.args.self.now.fitting
    (number-entry block (slice_index_or places c.args.entry None) c.args.held c.requires.number)
