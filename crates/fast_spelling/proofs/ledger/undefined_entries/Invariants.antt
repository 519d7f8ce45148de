-- So many entries so far, all undefined and of no message.
use Rattle.std.proofs.Common.{◌≡◌, ℕ}
use Rattle.std.specs.Prelude.{replicate, All}
use Rattle.fast_dict.specs.meaning.Dictionary.{undefined}
use Rattle.fast_spelling.specs.declared.entry.Entry.{Entry}
use Rattle.fast_spelling.specs.meaning.Entries.{IsShort}
use Rattle.fast_spelling.specs.meaning.Ledgers.{all_now}
use Rattle.fast_spelling.proofs.ledger.undefined_entries.Given as goal

abbrev pub invariant-loop : goal.invariant-loop
invariant-loop l = record {
  now : all_now l.entries.items ≡ replicate l.counter undefined;
  settled : All (λ (e : Entry). e.epoch ≡ 0) l.entries.items;
  short : (m : ℕ) → All (IsShort m) l.entries.items;
}
