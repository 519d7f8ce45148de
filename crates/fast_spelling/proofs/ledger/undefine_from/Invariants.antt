-- The entries so far are undefined, but for the first ones.
use Rattle.std.proofs.Common.{◌≡◌, ◌++◌, ◌-◌, ℕ, length, take, drop}
use Rattle.std.specs.Prelude.{replicate}
use Rattle.fast_dict.specs.meaning.Dictionary.{undefined}
use Rattle.fast_spelling.specs.meaning.Ledgers.{all_now, all_before, AreKept}
use Rattle.fast_spelling.proofs.ledger.undefine_from.Given as goal

abbrev pub invariant-loop-i : goal.invariant-loop-i
invariant-loop-i l = record {
  now : all_now l.entries.items ≡ take l.first (all_now l.initial.entries.items) ++ replicate (l.i - l.first) undefined
      ++ drop l.i (all_now l.initial.entries.items);
  before : all_before l.epoch l.entries.items ≡ all_before l.epoch l.initial.entries.items;
  kept : (m : ℕ) → AreKept l.epoch m l.initial.entries.items → AreKept l.epoch m l.entries.items;
  long : length l.entries.items ≡ length l.initial.entries.items;
}
