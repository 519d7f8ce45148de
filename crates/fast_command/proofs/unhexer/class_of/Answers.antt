use Rattle.std.proofs.Common.{arith}
use Rattle.fast_command.proofs.Characters.{decimal_digit, lower_digit, upper_digit}
use Rattle.fast_command.proofs.unhexer.class_of.Goals as goal

pub returns-in-48-to-57 : goal.returns-in-48-to-57
returns-in-48-to-57 c = decimal_digit c.args.character (omega arith) (omega arith)

pub returns-in-48-to-57-2 : goal.returns-in-48-to-57-2
returns-in-48-to-57-2 c = upper_digit c.args.character (omega arith) (omega arith)

pub returns-in-48-to-57-3 : goal.returns-in-48-to-57-3
returns-in-48-to-57-3 c = lower_digit c.args.character (omega arith) (omega arith)
