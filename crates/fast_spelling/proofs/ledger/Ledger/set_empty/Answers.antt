-- The entries are as short as they were.
use Rattle.fast_spelling.proofs.ledger.Ledger.set_empty.Goals as goal

pub invariant_of-self : goal.invariant_of-self
invariant_of-self c = record { kept = c.clear_at.ensures.kept c.self.inside.max_text c.self.invariant.kept; begun = c.self.invariant.begun }
