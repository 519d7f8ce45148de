-- So many are the same from the back, and more where what is left ends alike.
use Rattle.std.proofs.Common.{◌≡◌, ◌+◌, ◌-◌, ◌≤◌, drop, length, reverse}
use Rattle.fast_dict.specs.meaning.Rule.{common_front, common_back}
use Rattle.fast_dict.proofs.rule.common.common_back.Given as goal

abbrev pub invariant-loop-size : goal.invariant-loop-size
invariant-loop-size l = record {
  size : l.size + common_front (drop l.size (reverse l.a)) (drop l.size (reverse l.b)) ≡ common_back l.a l.b;
  in_a : l.size ≤ length l.a;
  in_b : l.size ≤ length l.b;
}

abbrev pub decreases-loop-size : goal.decreases-loop-size
decreases-loop-size l = length l.a - l.size
