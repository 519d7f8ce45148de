use Rattle.std.proofs.Common.{codes, ap, ◌∙◌, ◌≡◌}
use Rattle.std.proofs.lemmas.Result.{IfOk-weaker}
use Rattle.clap.specs.Simple.{app_of, app_of_fields, new_app}
use Rattle.fast_usage.specs.meaning.Commands.{flag_rule, with_input}
use Rattle.fast_usage.proofs.Making.{makes_rule_of, makes_options_of}
use Rattle.fast_usage.proofs.commands.show_command.Goals as goal

pub returns : goal.returns
returns c =
    let bare : app_of c.about-command.result ≡ new_app (codes "show") = ap app_of_fields c.about-command.ensures ∙ c.new.ensures.app in
    let given = IfOk-weaker c.with_input-command.result _ _ (λ r h. record { is = h.is ∙ ap with_input bare; local = h.local }) c.with_input-command.ensures in
    let four = IfOk-weaker c.with_arg-command.result _ _
    (makes_rule_of _ (flag_rule (codes "strict")) c.with_input-command.result c.flag_arg.result given c.flag_arg.ensures.rule c.flag_arg.ensures.local)
    c.with_arg-command.ensures in
    let formed = c.with_form-command.ensures _ (c.with_choice.ensures _ four) in
    IfOk-weaker c.and_options.result _ _ (makes_options_of _ c.with_form-command.result formed) c.and_options.ensures

pub and_options-requires : goal.and_options-requires
and_options-requires c =
    let four = IfOk-weaker c.with_arg-command.result _ _
    (makes_rule_of _ (flag_rule (codes "strict")) c.with_input-command.result c.flag_arg.result c.with_input-command.ensures
    c.flag_arg.ensures.rule c.flag_arg.ensures.local)
    c.with_arg-command.ensures in
    IfOk-weaker c.with_form-command.result _ _ (λ r h. h.local) (c.with_form-command.ensures _ (c.with_choice.ensures _ four))
