use Rattle.std.proofs.lemmas.Result.{IfOk-weaker}
use Rattle.fast_usage.proofs.commands.with_arg.Goals as goal

pub returns : goal.returns
returns c = IfOk-weaker c.arg.result _ _ (λ r h. (c.in_ok-command.field-0, c.in_ok-command.was, h)) c.arg.ensures
