use Rattle.std.proofs.Common.{codes, ap, ◌∙◌, ◌≡◌}
use Rattle.std.proofs.lemmas.Result.{IfOk-weaker}
use Rattle.clap.specs.Simple.{app_of, app_of_fields, new_app}
use Rattle.fast_usage.specs.meaning.Commands.{with_input}
use Rattle.fast_usage.proofs.Making.{makes_options_of}
use Rattle.fast_usage.proofs.commands.convert_command.Goals as goal

pub returns : goal.returns
returns c =
    let bare : app_of c.after_help-command.result ≡ new_app (codes "convert") = ap app_of_fields c.after_help-command.ensures
    ∙ ap app_of_fields c.about.ensures ∙ c.new.ensures.app in
    let given = IfOk-weaker c.with_input-command.result _ _ (λ r h. record { is = h.is ∙ ap with_input bare; local = h.local }) c.with_input-command.ensures in
    IfOk-weaker c.and_options.result _ _ (makes_options_of (with_input (new_app (codes "convert"))) c.with_input-command.result given) c.and_options.ensures

pub and_options-requires : goal.and_options-requires
and_options-requires c = IfOk-weaker c.with_input-command.result _ _ (λ r h. h.local) c.with_input-command.ensures
