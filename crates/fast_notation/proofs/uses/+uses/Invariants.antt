use Rattle.std.proofs.Common.{take}
use Rattle.std.specs.Prelude.{All}
use Rattle.fast_notation.specs.device.Sound.{IsSound, uses_in}
use Rattle.fast_notation.proofs.uses.+uses.Given as goal

abbrev pub invariant-check_fields-loop-field : goal.invariant-check_fields-loop-field
invariant-check_fields-loop-field l = All IsSound (uses_in (take l.field-index l.fields))
