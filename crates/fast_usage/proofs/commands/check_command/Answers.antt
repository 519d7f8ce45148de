use Rattle.std.proofs.Common.{codes, ap, ◌∙◌, ◌≡◌, rules, false}
use Rattle.std.proofs.lemmas.Result.{IfOk-weaker}
use Rattle.clap.specs.Simple.{app_of, app_of_fields, new_app}
use Rattle.clap.specs.declared.builder.command.Command.TheViews.{out-Command}
use Rattle.fast_usage.specs.meaning.Commands.{templates_rule, flag_rule}
use Rattle.fast_usage.proofs.Making.{makes_rule, makes_rule_of, makes_options_of}
use Rattle.fast_usage.proofs.commands.check_command.Goals as goal

pub returns : goal.returns
returns c =
    let bare : app_of c.after_help.result ≡ new_app (codes "check") = ap app_of_fields c.after_help.ensures
    ∙ ap app_of_fields c.about.ensures ∙ c.new.ensures.app in
    let local : (out-Command c.after_help.result).has_globals ≡ false = search rules in
    let one = IfOk-weaker c.arg-command.result _ _ (λ r h. makes_rule _ templates_rule c.after_help.result r c.templates_arg.result (record {
      is = bare;
      local = local;
    }) c.templates_arg.ensures.rule c.templates_arg.ensures.local h) c.arg-command.ensures in
    let two = IfOk-weaker c.with_arg-command.result _ _ (makes_rule_of _
    (flag_rule (codes "list")) c.arg-command.result c.flag_arg.result one c.flag_arg.ensures.rule c.flag_arg.ensures.local)
    c.with_arg-command.ensures in
    IfOk-weaker c.and_options.result _ _ (makes_options_of _ c.with_arg-command.result two) c.and_options.ensures

pub and_options-requires : goal.and_options-requires
and_options-requires c =
    let bare : app_of c.after_help.result ≡ new_app (codes "check") = ap app_of_fields c.after_help.ensures
    ∙ ap app_of_fields c.about.ensures ∙ c.new.ensures.app in
    let local : (out-Command c.after_help.result).has_globals ≡ false = search rules in
    let one = IfOk-weaker c.arg-command.result _ _ (λ r h. makes_rule _ templates_rule c.after_help.result r c.templates_arg.result (record {
      is = bare;
      local = local;
    }) c.templates_arg.ensures.rule c.templates_arg.ensures.local h) c.arg-command.ensures in
    IfOk-weaker c.with_arg-command.result _ _ (λ r h. (makes_rule_of _
    (flag_rule (codes "list")) c.arg-command.result c.flag_arg.result one c.flag_arg.ensures.rule c.flag_arg.ensures.local r h).local)
    c.with_arg-command.ensures
