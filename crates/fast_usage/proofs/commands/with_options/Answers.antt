use Rattle.std.proofs.Common.{codes}
use Rattle.std.proofs.lemmas.Result.{IfOk-weaker}
use Rattle.fast_usage.specs.meaning.Commands.{flag_rule}
use Rattle.fast_usage.proofs.Making.{makes_rule_of}
use Rattle.fast_usage.proofs.commands.with_options.Goals as goal

pub returns : goal.returns
returns c =
    let one = IfOk-weaker c.with_arg-command.result _ _
    (makes_rule_of _ (flag_rule (codes "explain")) c.with_limits.result c.flag_arg.result c.with_limits.ensures c.flag_arg.ensures.rule
    c.flag_arg.ensures.local)
    c.with_arg-command.ensures in
    IfOk-weaker c.with_arg.result _ _
    (makes_rule_of _ (flag_rule (codes "no-explain")) c.with_arg-command.result c.flag_arg-2.result one c.flag_arg-2.ensures.rule c.flag_arg-2.ensures.local)
    c.with_arg.ensures
