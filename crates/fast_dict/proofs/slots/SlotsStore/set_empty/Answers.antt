-- The entry of that number changes alone.
use Rattle.std.proofs.Common.{refl}
use Rattle.fast_dict.specs.meaning.Dictionary.{empty}
use Rattle.fast_dict.specs.declared.entry.Entry.TheVariants.{Empty}
use Rattle.fast_dict.proofs.Slotted.{place_of_entry, put-entries}
use Rattle.fast_dict.proofs.slots.SlotsStore.set_empty.Goals as goal

pub put-requires-clause-there : goal.put-requires-clause-there
put-requires-clause-there c = place_of_entry c.args.self.now c.args.entry c.requires

pub returns-clause-entry : goal.returns-clause-entry
returns-clause-entry c = rw (c.put.ensures.entries, c.put.ensures.places, c.put.ensures.block)
    (put-entries c.args.self.now.block.items c.args.self.now.block.items c.args.self.now.places.items c.args.self.now.entries.items
    c.args.entry c.args.self.now.max_text Empty empty (λ j size n h. refl) c.args.self.now.fitting refl)
