use Rattle.std.proofs.Common.{◌≡◌, ◌≤◌, ◌∷◌, ◌++◌, length}
use Rattle.std.specs.Prelude.{decimal}
use Rattle.fast_lines.proofs.numbers.more_digits.Given as goal

-- the digits so far are those of the number
abbrev pub invariant-loop-rest : goal.invariant-loop-rest
invariant-loop-rest l = (l.fn.first ∷ l.others ≡ decimal l.number ++ l.rest) × (1 ≤ l.number)

abbrev pub decreases-loop-rest : goal.decreases-loop-rest
decreases-loop-rest l = length l.rest
