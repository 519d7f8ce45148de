-- All entries but the first are undefined.
use Rattle.fast_dict.proofs.Listed.{others_fit, reset-held}
use Rattle.fast_dict.proofs.lists.ListsStore.reset.Goals as goal

pub invariant_of-self : goal.invariant_of-self
invariant_of-self c = record {
  fitting = λ i. rw c.clear_others.ensures.items
      (others_fit c.args.self.now.entries.items _ c.args.self.now.max_text c.args.self.now.fitting i);
}

pub returns-then-not-is_empty-clause-entries : goal.returns-then-not-is_empty-clause-entries
returns-then-not-is_empty-clause-entries c = rw (c.clear_others.ensures.items, c.args.self.now.entries.ok.0) (reset-held _)
