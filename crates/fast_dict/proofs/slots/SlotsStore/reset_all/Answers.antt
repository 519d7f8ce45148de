-- All entries are undefined.
use Rattle.fast_dict.specs.meaning.Slots.{length-entries}
use Rattle.fast_dict.proofs.Slotted.{fresh-entries}
use Rattle.fast_dict.proofs.slots.SlotsStore.reset_all.Goals as goal

pub returns-clause-entries : goal.returns-clause-entries
returns-clause-entries c = rw (c.clear_all.ensures.items, length-entries, ← c.args.self.now.entries.ok.0) (fresh-entries _ _ _)
