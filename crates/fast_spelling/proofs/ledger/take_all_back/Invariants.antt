-- The entries so far hold what they held before.
use Rattle.std.proofs.Common.{◌≡◌, ◌++◌, ℕ, length, take, drop}
use Rattle.fast_spelling.specs.meaning.Ledgers.{all_now, all_before, AreKept}
use Rattle.fast_spelling.proofs.ledger.take_all_back.Given as goal

abbrev pub invariant-loop-i : goal.invariant-loop-i
invariant-loop-i l = record {
  now : all_now l.entries.items ≡ take l.i (all_before l.epoch l.initial.entries.items) ++ drop l.i (all_now l.initial.entries.items);
  before : all_before l.epoch l.entries.items ≡ all_before l.epoch l.initial.entries.items;
  kept : (m : ℕ) → AreKept l.epoch m l.initial.entries.items → AreKept l.epoch m l.entries.items;
  long : length l.entries.items ≡ length l.initial.entries.items;
}
