-- What the entries hold stays; those so far are of no message.
use Rattle.std.proofs.Common.{◌≡◌, ◌<◌, ℕ, length}
use Rattle.std.specs.Prelude.{All, slice_index_or}
use Rattle.fast_spelling.specs.declared.entry.Entry.{Entry}
use Rattle.fast_spelling.specs.meaning.Entries.{IsShort}
use Rattle.fast_spelling.specs.meaning.Ledgers.{all_now}
use Rattle.fast_spelling.proofs.ledger.settle_all.Given as goal

abbrev pub invariant-loop-i : goal.invariant-loop-i
invariant-loop-i l = record {
  now : all_now l.entries.items ≡ all_now l.initial.entries.items;
  short : (m : ℕ) → All (IsShort m) l.initial.entries.items → All (IsShort m) l.entries.items;
  settled : (k : ℕ) (d : Entry) → k < l.i → (slice_index_or l.entries.items k d).epoch ≡ 0;
  long : length l.entries.items ≡ length l.initial.entries.items;
}
