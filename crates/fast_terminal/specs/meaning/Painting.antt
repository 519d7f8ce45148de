-- A target of lines in colors.
use Rattle.fast_terminal.specs.declared.painted.Painted.{Painted}

-- the target to which the lines are written
abbrev pub target_of : {T : Type 0} → Painted T → T
target_of s = s.inner
