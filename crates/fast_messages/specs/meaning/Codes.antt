-- The numbers of what is wrong with a line.
use Rattle.std.specs.Prelude.{ℕ}
use Rattle.fast_messages.specs.declared.faults.LineFault.{LineFault}
use Rattle.fast_messages.specs.declared.faults.LineFault.TheVariants.{Form, UnknownTemplate, OutOfPlace, WrongValue, PassedOver, WrongCount, Missing}

-- the number of a kind
abbrev pub line_number : LineFault → ℕ
line_number Form = 1
line_number UnknownTemplate = 2
line_number OutOfPlace = 3
line_number WrongValue = 4
line_number PassedOver = 5
line_number WrongCount = 6
line_number Missing = 7
