use Rattle.std.proofs.Common.{length}
use Rattle.fast_records.specs.device.Room.{SameBuffers, IsOpen}
use Rattle.fast_records.specs.device.Waiting.{Moves}
use Rattle.fast_records.specs.meaning.Waiting.{pending}
use Rattle.fast_records.proofs.waiting.hand_over.Given as goal

abbrev pub invariant-first : goal.invariant-first
invariant-first l = SameBuffers l.fn.room l.room × Moves l.fn.room l.fn.waiting l.room l.waiting × IsOpen l.room

abbrev pub decreases-first : goal.decreases-first
decreases-first l = length (pending l.waiting)
