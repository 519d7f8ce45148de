use Rattle.std.proofs.Common.{refl, codes}
use Rattle.std.proofs.lemmas.Result.{IfOk-weaker}
use Rattle.clap.specs.Simple.{app_of}
use Rattle.fast_usage.specs.meaning.Commands.{templates_rule, input_rule, flag_rule}
use Rattle.fast_usage.proofs.Making.{makes_rule, makes_rule_of}
use Rattle.fast_usage.proofs.commands.with_input.Goals as goal

pub returns : goal.returns
returns c =
    let app = app_of c.args.command in
    let one = IfOk-weaker c.arg-command.result _ _ (λ r h. makes_rule app templates_rule c.args.command r c.templates_arg.result (record {
      is = refl;
      local = c.requires;
    }) c.templates_arg.ensures.rule c.templates_arg.ensures.local h) c.arg-command.ensures in
    let two = IfOk-weaker c.with_arg-command.result _ _ (makes_rule_of _ input_rule c.arg-command.result c.input_arg.result one
    c.input_arg.ensures.rule c.input_arg.ensures.local) c.with_arg-command.ensures in
    IfOk-weaker c.with_arg.result _ _ (makes_rule_of _ (flag_rule (codes "hex")) c.with_arg-command.result c.flag_arg.result two
    c.flag_arg.ensures.rule c.flag_arg.ensures.local) c.with_arg.ensures
