-- The commands that fastcat's words may name, and what each takes.
use Rattle.std.specs.Prelude.{◌≡◌, true, false, Some, codes, pos}
use Rattle.clap.specs.Walk.{Text, Rule}
use Rattle.clap.specs.Simple.{App, app_of, new_app, new_rule, with_rule, with_subcommand}
use Rattle.clap.specs.declared.builder.action.ArgAction.TheVariants.{SetTrue}
use Rattle.clap.specs.declared.builder.command.Command.{Command}
use Rattle.clap.specs.declared.builder.command.Command.TheViews.{out-Command}
use Rattle.clap.specs.declared.builder.value_parser.ValueParser.TheVariants as parser

-- T, which has to be there, and F
abbrev pub templates_rule : Rule
templates_rule = record (new_rule (codes "templates")) { value_names = 1; required = true }

abbrev pub input_rule : Rule
input_rule = record (new_rule (codes "input")) { value_names = 1 }

-- a flag `--name`
abbrev pub flag_rule : Text → Rule
flag_rule name = record (new_rule name) { long = Some name; action = Some SetTrue }

-- an option `--name N` with a number of 32 bits
abbrev pub number_rule : Text → Rule
number_rule name = record (new_rule name) { long = Some name; value_names = 1; parser = Some (parser.Signed (pos 0) (pos 4294967295)) }

-- an option `--name TEXT`
abbrev pub text_rule : Text → Rule
text_rule name = record (new_rule name) { long = Some name; value_names = 1 }

-- the limits on texts, sequences and messages
abbrev pub with_limits : App → App
with_limits a = with_rule (with_rule (with_rule a (number_rule (codes "max-text"))) (number_rule (codes "max-elements"))) (number_rule (codes "max-total"))

-- the options of all subcommands
abbrev pub with_options : App → App
with_options a = with_rule (with_rule (with_limits a) (flag_rule (codes "explain"))) (flag_rule (codes "no-explain"))

-- T, F and the flag of hexadecimal digits
abbrev pub with_input : App → App
with_input a = with_rule (with_rule (with_rule a templates_rule) input_rule) (flag_rule (codes "hex"))

-- which messages are shown
abbrev pub with_choice : App → App
with_choice a = with_rule (with_rule (with_rule a (number_rule (codes "from"))) (number_rule (codes "limit"))) (text_rule (codes "only"))

-- in which form
abbrev pub with_form : App → App
with_form a = with_rule (with_rule (with_rule a (flag_rule (codes "bytes"))) (flag_rule (codes "json"))) (text_rule (codes "color"))

-- `fastcat check T`
abbrev pub check_app : App
check_app = with_options (with_rule (with_rule (new_app (codes "check")) templates_rule) (flag_rule (codes "list")))

-- `fastcat show T [F]`
abbrev pub show_app : App
show_app = with_options (with_form (with_choice (with_rule (with_input (new_app (codes "show"))) (flag_rule (codes "strict")))))

-- `fastcat convert T [F]`
abbrev pub convert_app : App
convert_app = with_options (with_input (new_app (codes "convert")))

-- `fastcat codes`
abbrev pub codes_app : App
codes_app = new_app (codes "codes")

-- one of the four has to be named, or the version asked for
abbrev pub fastcat_app : App
fastcat_app =
    let bare = new_app (codes "fastcat") in
    let required = record bare { top = record bare.top { has_version = true; subcommand_required = true } } in
    with_subcommand (with_subcommand (with_subcommand (with_subcommand required check_app.top) show_app.top) convert_app.top) codes_app.top

-- the command is this one, and has no global argument
pub record MakesApp (app : App) (c : Command) : Type 0 where
  pub is : app_of c ≡ app
  pub local : (out-Command c).has_globals ≡ false
