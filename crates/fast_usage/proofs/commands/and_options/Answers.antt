use Rattle.std.proofs.lemmas.Result.{IfOk-weaker, IfOk-at_ok}
use Rattle.fast_usage.proofs.commands.and_options.Goals as goal

pub returns : goal.returns
returns c = IfOk-weaker c.with_options.result _ _ (λ r h. (c.in_ok-command.field-0, c.in_ok-command.was, h)) c.with_options.ensures

pub with_options-requires : goal.with_options-requires
with_options-requires c = IfOk-at_ok _ c.in_ok-command.was c.requires
