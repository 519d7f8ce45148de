use Rattle.std.proofs.Common.{arith}
use Rattle.std.proofs.lemmas.Grind.{common_steps}
use Rattle.fast_lines.proofs.BigNumbers.{is_number_text}
use Rattle.fast_lines.proofs.values.is_number.Goals as goal

pub returns-in-32 : goal.returns-in-32
returns-in-32 c = is_number_text c.args.text.now _ _ c.is_number_of.result c.is_number_of.ensures (grind (arith, common_steps))
