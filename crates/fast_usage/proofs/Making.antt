-- The command that takes the words.
use Rattle.std.proofs.Common.{◌≡◌, true, false, Result, Ok, refl, ap, ap₂, ◌∙◌, ◌||◌}
use Rattle.std.specs.Result.{IfOk}
use Rattle.std.proofs.lemmas.Result.{IfOk-at_ok}
use Rattle.clap.specs.Built.{AddsArg, AddsSubcommand}
use Rattle.clap.specs.Faults.{is_simple_and_free}
use Rattle.clap.specs.Simple.{App, app_of, is_simple, with_rule, with_subcommand}
use Rattle.clap.specs.Walk.{Rule, rule_of}
use Rattle.clap.specs.declared.builder.arg.Arg.{Arg}
use Rattle.clap.specs.declared.builder.command.Command.{Command}
use Rattle.clap.specs.declared.builder.command.Command.TheViews.{out-Command}
use Rattle.clap.proofs.OnLiterals.{clap_on_literals}
use Rattle.fast_usage.specs.meaning.Commands.{MakesApp, fastcat_app, with_options}

-- one more argument
pub makes_rule : (app : App) (r : Rule) (old new : Command) (a : Arg) → MakesApp app old → rule_of a ≡ r → a.global ≡ false
    → AddsArg old a new → MakesApp (with_rule app r) new
makes_rule app r old new a before rule local adds = record {
  is = adds.shape local ∙ ap₂ with_rule before.is rule;
  local = adds.globals ∙ ap₂ (λ x y. x || y) before.local local;
}

-- one more argument leaves a command without global ones
pub still_local : (old new : Command) (a : Arg) → (out-Command old).has_globals ≡ false → a.global ≡ false → AddsArg old a new
    → (out-Command new).has_globals ≡ false
still_local old new a before local adds = adds.globals ∙ ap₂ (λ x y. x || y) before local

-- one more subcommand
pub makes_command : (app sub : App) (old given new : Command) → MakesApp app old → MakesApp sub given → AddsSubcommand old given new
    → MakesApp (with_subcommand app sub.top) new
makes_command app sub old given new before inner adds = record {
  is = adds.shape inner.local ∙ ap₂ with_subcommand before.is (ap (λ (a : App). a.top) inner.is);
  local = adds.globals ∙ ap₂ (λ x y. x || y) before.local inner.local;
}

-- one more argument of a command that was made, where it was
pub makes_rule_of : {E : Type 0} (app : App) (r : Rule) (command : Result Command E) (a : Arg) → IfOk command (MakesApp app) → rule_of a ≡ r → a.global ≡ false
    → (new : Command) → (old : Command) × (command ≡ Ok old) × AddsArg old a new → MakesApp (with_rule app r) new
makes_rule_of app r command a before rule local new (old, is, adds) = makes_rule app r old new a (IfOk-at_ok (MakesApp app) is before) rule local adds

-- one more subcommand that was made
pub makes_command_of : {E : Type 0} (app sub : App) (old : Command) (given : Result Command E) → MakesApp app old → IfOk given (MakesApp sub)
    → (new : Command) → (inner : Command) × (given ≡ Ok inner) × AddsSubcommand old inner new → MakesApp (with_subcommand app sub.top) new
makes_command_of app sub old given before made new (inner, is, adds) = makes_command app sub old inner new before (IfOk-at_ok (MakesApp sub) is made) adds

-- the options of a command that was made
pub makes_options_of : {E : Type 0} (app : App) (command : Result Command E) → IfOk command (MakesApp app)
    → (new : Command) → (old : Command) × (command ≡ Ok old) × MakesApp (with_options (app_of old)) new → MakesApp (with_options app) new
makes_options_of app command before new (old, is, made) =
    let at = IfOk-at_ok (MakesApp app) is before in
    record { is = made.is ∙ ap with_options at.is; local = made.local }

-- the command is simple, and its arguments are free
pub fastcat_simple : is_simple fastcat_app ≡ true
unfolding clap_on_literals
fastcat_simple = refl

pub fastcat_free : is_simple_and_free fastcat_app ≡ true
unfolding clap_on_literals
fastcat_free = refl
