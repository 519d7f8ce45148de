-- The ops of nodes, which a decoder's loop reads.
use Rattle.std.specs.Prelude.{◌≡◌, ℕ, if◌then◌else◌}
use Rattle.fast_tree.specs.declared.instructions.Shape.{Shape}
use Rattle.fast_program.specs.declared.codes.Code.TheVariants.{General}
use Rattle.fast_program.specs.declared.ops.Op.{Op}
use Rattle.fast_program.specs.device.Codes.{IsCoded}
use Rattle.fast_program.specs.device.Runs.{is_end}

-- The op is of the node with the number and shape.
abbrev pub IsOpOf : Op → ℕ → Shape → Type 0
IsOpOf op n shape = (op.node ≡ n) × IsCoded op.code op.entry shape

-- the op of the same node that the loop leaves to the general path; an End stays one
abbrev pub general_op : Op → Op
general_op op = if is_end op.code then op else record op { code = General }
