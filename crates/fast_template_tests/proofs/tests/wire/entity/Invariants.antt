use Rattle.std.proofs.Common.{◌<◌, length}
use Rattle.fast_wire.specs.meaning.Entities.{HaveNoStop}
use Rattle.fast_template_tests.proofs.tests.wire.entity.Given as goal

abbrev pub invariant-loop-byte : goal.invariant-loop-byte
invariant-loop-byte l = record { unstopped : HaveNoStop l.entity; room : length l.entity < 10 }
