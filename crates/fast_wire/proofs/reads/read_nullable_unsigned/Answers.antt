-- The goal that a wrong body would leave: `search` proves it of this one, and a named one says at once what is missing.
use Rattle.std.proofs.Common.{rules}
use Rattle.fast_wire.proofs.reads.read_nullable_unsigned.Goals as goal

pub judge_nullable_unsigned-requires-clause-meaning : goal.judge_nullable_unsigned-requires-clause-meaning
judge_nullable_unsigned-requires-clause-meaning c = search rules
