-- A goal that a wrong body would leave: `search` proves it of this one, and a named one says at once what is missing.
use Rattle.std.proofs.Common.{rules}
use Rattle.fast_decoder.proofs.recorder.Recorded.copy_of.Goals as goal

pub returns-in-GroupEnd : goal.returns-in-GroupEnd
returns-in-GroupEnd c = search rules
