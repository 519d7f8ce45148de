use Rattle.fast_lines.proofs.Escapes.{all_plain}
use Rattle.fast_lines.proofs.texts.stands_alike.Goals as goal

pub returns : goal.returns
returns c = λ t. all_plain c.args.text.now (c.are_plain.ensures.0 t)
