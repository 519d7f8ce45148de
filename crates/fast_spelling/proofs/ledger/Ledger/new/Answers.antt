-- All entries are undefined, and of no message.
use Rattle.std.proofs.Common.{arith}
use Rattle.fast_spelling.proofs.bytes.Ledgers.{all_unchanged, settled_kept, settled_before}
use Rattle.fast_spelling.proofs.ledger.Ledger.new.Goals as goal

pub invariant_of-result : goal.invariant_of-result
invariant_of-result c = record {
  kept = settled_kept c.args.max_text 1 c.in_ok-undefined_entries.field-0.items
      (c.in_ok-undefined_entries.ensures.short c.args.max_text) c.in_ok-undefined_entries.ensures.settled;
  begun = omega arith;
}

pub returns-clause-before : goal.returns-clause-before
returns-clause-before c = all_unchanged 1 c.in_ok-undefined_entries.field-0.items
    (settled_before 1 c.in_ok-undefined_entries.field-0.items (omega arith) c.in_ok-undefined_entries.ensures.settled)
