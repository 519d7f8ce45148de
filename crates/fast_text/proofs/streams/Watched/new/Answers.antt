-- A goal that a wrong body would leave: `search` proves it of this one, and a named one says at once what is missing.
use Rattle.std.proofs.Common.{rules}
use Rattle.fast_text.proofs.streams.Watched.new.Goals as goal

pub returns-clause-good : goal.returns-clause-good
returns-clause-good g c = search rules
