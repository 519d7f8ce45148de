use Rattle.std.proofs.Common.{ap, ◌∙◌, ◌≡◌, rules, true, false}
use Rattle.std.proofs.lemmas.Result.{IfOk-weaker}
use Rattle.clap.specs.Simple.{App, app_of_fields}
use Rattle.clap.specs.declared.builder.command.Command.TheViews.{out-Command}
use Rattle.fast_usage.specs.meaning.Commands.{check_app, show_app, convert_app, codes_app}
use Rattle.fast_usage.proofs.Making.{makes_command_of}
use Rattle.fast_usage.proofs.commands.fastcat_command.Goals as goal

pub returns : goal.returns
returns c =
    let named = ap app_of_fields c.after_help.ensures ∙ ap app_of_fields c.version.ensures
    ∙ ap (λ (a : App). record a { top = record a.top { has_version = true } }) (ap app_of_fields c.about.ensures ∙ c.new.ensures.app) in
    let bare = ap app_of_fields c.subcommand_required-command.ensures
    ∙ ap (λ (a : App). record a { top = record a.top { subcommand_required = true } }) named in
    let local : (out-Command c.subcommand_required-command.result).has_globals ≡ false = search rules in
    let one = makes_command_of _ check_app c.subcommand_required-command.result c.check_command.result (record {
      is = bare;
      local = local;
    }) c.check_command.ensures c.in_ok-command.command c.in_ok-command.ensures in
    let two = makes_command_of _ show_app c.in_ok-command.command c.show_command.result one c.show_command.ensures
    c.in_ok-command-2.command c.in_ok-command-2.ensures in
    let three = makes_command_of _ convert_app c.in_ok-command-2.command c.convert_command.result two c.convert_command.ensures
    c.in_ok-command-3.command c.in_ok-command-3.ensures in
    IfOk-weaker c.with_subcommand-4.result _ _ (makes_command_of _ codes_app c.in_ok-command-3.command c.codes_command.result three
    c.codes_command.ensures) c.with_subcommand-4.ensures
