use Rattle.std.proofs.Common.{◌≡◌, length}
use Rattle.fast_wire.specs.meaning.Entities.{HaveNoStop}
use Rattle.fast_template_tests.proofs.tests.wire.entities_byte_by_byte.Given as goal

abbrev pub invariant-loop-len : goal.invariant-loop-len
invariant-loop-len g l = record { unstopped : HaveNoStop l.w; count : length l.w ≡ l.len }
