-- One entry is changed.
use Rattle.std.proofs.Common.{ℕ, ◌≤◌, ap, sym, subst, length}
use Rattle.fast_value.specs.meaning.Kinds.{text_of}
use Rattle.fast_value.specs.meaning.Values.{scalar_data}
use Rattle.fast_spelling.specs.meaning.Ledgers.{LedgerData}
use Rattle.fast_spelling.proofs.ledger.Ledger.set.Goals as goal

pub invariant_of-self : goal.invariant_of-self
invariant_of-self c = record {
  kept = c.assign_at.ensures.kept c.self.inside.max_text c.self.invariant.kept
      (subst (λ (m : ℕ). length (text_of (scalar_data c.args.scalar)) ≤ m)
      (sym (ap (λ (s : LedgerData). s.max_text) c.self.view_is)) c.requires.short);
  begun = c.self.invariant.begun;
}
