-- All entries but the first are undefined.
use Rattle.fast_dict.proofs.Slotted.{others_fit, reset-entries}
use Rattle.fast_dict.proofs.slots.SlotsStore.reset.Goals as goal

pub invariant_of-self-clause-fitting : goal.invariant_of-self-clause-fitting
invariant_of-self-clause-fitting c i = rw c.clear_others.ensures.items
    (others_fit c.args.self.now.entries.items _ c.args.self.now.max_text c.args.self.now.fitting i)

pub returns-then-not-is_empty-clause-entries : goal.returns-then-not-is_empty-clause-entries
returns-then-not-is_empty-clause-entries c = rw (c.clear_others.ensures.items, c.args.self.now.entries.ok.0) (reset-entries _ _ _)
