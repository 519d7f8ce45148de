-- So many are the same, and more where what is left begins alike.
use Rattle.std.proofs.Common.{◌≡◌, ◌+◌, ◌-◌, ◌≤◌, drop, length}
use Rattle.fast_dict.specs.meaning.Rule.{common_front}
use Rattle.fast_dict.proofs.rule.common.common_eights.Given as goal

abbrev pub invariant-loop-size : goal.invariant-loop-size
invariant-loop-size l = record {
  size : l.size + common_front (drop l.size l.a) (drop l.size l.b) ≡ common_front l.a l.b;
  in_a : l.size ≤ length l.a;
  in_b : l.size ≤ length l.b;
}

abbrev pub decreases-loop-size : goal.decreases-loop-size
decreases-loop-size l = length l.a - l.size
