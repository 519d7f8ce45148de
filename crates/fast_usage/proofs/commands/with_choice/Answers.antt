use Rattle.std.proofs.Common.{codes}
use Rattle.std.proofs.lemmas.Result.{IfOk-weaker}
use Rattle.fast_usage.specs.meaning.Commands.{number_rule, text_rule}
use Rattle.fast_usage.proofs.Making.{makes_rule_of}
use Rattle.fast_usage.proofs.commands.with_choice.Goals as goal

pub returns : goal.returns
returns c = λ app before.
    let one = IfOk-weaker c.with_arg-command.result _ _
    (makes_rule_of app (number_rule (codes "from")) c.args.command c.number_arg.result before c.number_arg.ensures.rule c.number_arg.ensures.local)
    c.with_arg-command.ensures in
    let two = IfOk-weaker c.with_arg-command-2.result _ _
    (makes_rule_of _ (number_rule (codes "limit")) c.with_arg-command.result c.number_arg-2.result one c.number_arg-2.ensures.rule c.number_arg-2.ensures.local)
    c.with_arg-command-2.ensures in
    IfOk-weaker c.with_arg.result _ _
    (makes_rule_of _ (text_rule (codes "only")) c.with_arg-command-2.result c.text_arg.result two c.text_arg.ensures.rule c.text_arg.ensures.local)
    c.with_arg.ensures
