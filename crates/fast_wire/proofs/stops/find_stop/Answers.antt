-- The goal that a wrong body would leave: `search` proves it of this one, and a named one says at once what is missing.
use Rattle.std.proofs.Common.{rules}
use Rattle.fast_wire.proofs.stops.find_stop.Goals as goal

pub loop-i-init : goal.loop-i-init
loop-i-init c = search rules
