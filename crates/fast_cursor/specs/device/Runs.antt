-- Runs of a program's ops, by where they begin.
use Rattle.std.specs.Prelude.{ℕ, List, drop}
use Rattle.fast_program.specs.declared.ops.Op.{Op}
use Rattle.fast_program.specs.device.Runs.{run_nodes, HasEnd}

-- the nodes of the run that begins at an index
abbrev pub run_at : List Op → ℕ → List ℕ
run_at ops at = run_nodes (drop at ops)

-- A run begins at an index, followed by an End.
abbrev pub IsRun : List Op → ℕ → Type 0
IsRun ops at = HasEnd (drop at ops)
