use Rattle.std.proofs.Common.{codes}
use Rattle.std.proofs.lemmas.Result.{IfOk-weaker}
use Rattle.fast_usage.specs.meaning.Commands.{flag_rule, text_rule}
use Rattle.fast_usage.proofs.Making.{makes_rule_of}
use Rattle.fast_usage.proofs.commands.with_form.Goals as goal

pub returns : goal.returns
returns c = λ app before.
    let one = IfOk-weaker c.with_arg-command.result _ _
    (makes_rule_of app (flag_rule (codes "bytes")) c.args.command c.flag_arg.result before c.flag_arg.ensures.rule c.flag_arg.ensures.local)
    c.with_arg-command.ensures in
    let two = IfOk-weaker c.with_arg-command-2.result _ _
    (makes_rule_of _ (flag_rule (codes "json")) c.with_arg-command.result c.flag_arg-2.result one c.flag_arg-2.ensures.rule c.flag_arg-2.ensures.local)
    c.with_arg-command-2.ensures in
    IfOk-weaker c.with_arg.result _ _
    (makes_rule_of _ (text_rule (codes "color")) c.with_arg-command-2.result c.text_arg.result two c.text_arg.ensures.rule c.text_arg.ensures.local)
    c.with_arg.ensures
