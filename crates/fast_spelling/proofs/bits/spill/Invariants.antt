-- The upper bits have been appended.
use Rattle.std.proofs.Common.{◌≡◌, ◌++◌, ◌-◌, ◌/◌, ◌^◌}
use Rattle.fast_spelling.specs.device.Presence.{low_bits}
use Rattle.fast_spelling.proofs.bits.spill.Given as goal

abbrev pub invariant-loop-i : goal.invariant-loop-i
invariant-loop-i l = l.more.items ≡ l.initial.more.items ++ low_bits l.i (l.word / 2 ^ (l.count - l.i))
