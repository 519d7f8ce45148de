-- In the next message nothing was changed yet.
use Rattle.std.proofs.Common.{◌+◌, ◌∙◌, ap, arith}
use Rattle.fast_spelling.specs.meaning.Ledgers.{LedgerData}
use Rattle.fast_spelling.proofs.bytes.Ledgers.{all_unchanged, settled_kept, settled_before, kept_before}
use Rattle.fast_spelling.proofs.ledger.Ledger.commit.Goals as goal

pub invariant_of-self : goal.invariant_of-self
invariant_of-self c = record {
  kept = settled_kept c.self.inside.max_text 1 c.settle_all.new.entries.items
      (c.settle_all.ensures.short c.self.inside.max_text (λ k d h. (c.self.invariant.kept k d h).0)) c.settle_all.ensures.settled;
  begun = omega arith;
}

pub returns-then-self-clause-before : goal.returns-then-self-clause-before
returns-then-self-clause-before c = all_unchanged 1 c.settle_all.new.entries.items
    (settled_before 1 c.settle_all.new.entries.items (omega arith) c.settle_all.ensures.settled)
    ∙ c.settle_all.ensures.now ∙ ap (λ (s : LedgerData). s.now) c.self.view_is

pub returns-clause-before : goal.returns-clause-before
returns-clause-before c = all_unchanged (c.self.inside.epoch + 1) c.self.inside.entries.items
    (kept_before c.self.inside.max_text c.self.inside.epoch c.self.inside.entries.items c.self.invariant.kept)
    ∙ ap (λ (s : LedgerData). s.now) c.self.view_is
