use Rattle.std.proofs.Common.{refl, codes}
use Rattle.std.proofs.lemmas.Result.{IfOk-weaker}
use Rattle.clap.specs.Simple.{app_of}
use Rattle.fast_usage.specs.meaning.Commands.{number_rule}
use Rattle.fast_usage.proofs.Making.{makes_rule, makes_rule_of}
use Rattle.fast_usage.proofs.commands.with_limits.Goals as goal

pub returns : goal.returns
returns c =
    let app = app_of c.args.command in
    let texts = IfOk-weaker c.arg-command.result _ _ (λ r h. makes_rule app (number_rule (codes "max-text")) c.args.command r c.number_arg.result (record {
      is = refl;
      local = c.requires;
    }) c.number_arg.ensures.rule c.number_arg.ensures.local h) c.arg-command.ensures in
    let both = IfOk-weaker c.with_arg-command.result _ _ (makes_rule_of _
    (number_rule (codes "max-elements")) c.arg-command.result c.number_arg-2.result texts c.number_arg-2.ensures.rule
    c.number_arg-2.ensures.local) c.with_arg-command.ensures in
    IfOk-weaker c.with_arg.result _ _ (makes_rule_of _ (number_rule (codes "max-total")) c.with_arg-command.result c.number_arg-3.result
    both c.number_arg-3.ensures.rule c.number_arg-3.ensures.local) c.with_arg.ensures
