-- The entry of that number changes alone.
use Rattle.std.proofs.Common.{refl, []}
use Rattle.std.specs.Prelude.{slice_index_or, None}
use Rattle.fast_dict.specs.meaning.Entry.{with_text}
use Rattle.fast_dict.proofs.Slotted.{place_of_entry, put-entries, number-entry}
use Rattle.fast_dict.proofs.slots.Slots.set_number.Goals as goal

pub put-requires-clause-there : goal.put-requires-clause-there
put-requires-clause-there c = place_of_entry c.args.self.now c.args.entry c.requires.there

pub returns-clause-entry : goal.returns-clause-entry
returns-clause-entry c =
    let block = c.args.self.now.block.items in
    let places = c.args.self.now.places.items in
    rw (c.put.ensures.entries, c.put.ensures.places, c.put.ensures.block)
    (put-entries block block places c.args.self.now.entries.items c.args.entry c.args.self.now.max_text c.args.held
    (with_text c.args.held []) (λ j size n h. refl) c.args.self.now.fitting
    (number-entry block (slice_index_or places c.args.entry None) c.args.held c.requires.number))
