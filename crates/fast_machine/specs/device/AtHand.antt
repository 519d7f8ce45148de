-- The part of a stream that a machine waits for, or at which it has stopped.
use Rattle.std.specs.Prelude.{ℕ, Option, Some, None}
use Rattle.fast_cursor.specs.device.Segments.{first_node}
use Rattle.fast_machine.specs.declared.in_hand.Due.{Due}
use Rattle.fast_machine.specs.declared.in_hand.Due.TheVariants.{Nothing, SegmentMap, Instruction}
use Rattle.fast_machine.specs.declared.machine.Machine.{Machine}
use Rattle.fast_machine.specs.declared.machine.Waiting.{Waiting}
use Rattle.fast_machine.specs.declared.machine.Waiting.TheVariants as Awaited

-- an instruction's node, if there is one
abbrev pub at_node : Option ℕ → Due
at_node None = Nothing
at_node (Some node) = Instruction node

-- the next instruction of the innermost segment
abbrev pub stopped_at : Machine → Due
stopped_at m = at_node (first_node m.cursor.left)

-- The map of a segment comes before its first instruction.
abbrev pub awaited_at : Waiting → Due → Due
awaited_at (Awaited.SegmentMap bits) next = SegmentMap
awaited_at waiting next = next

-- the part that a machine waits for
abbrev pub awaited : Machine → Due
awaited m = awaited_at m.waiting (stopped_at m)
