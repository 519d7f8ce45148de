-- What the command makes of the words.
use Rattle.std.proofs.Common.{◌≡◌, Bool, true, false, List, [], ◌∷◌, Option, Some, None, refl, ap₂, is_some, option_map, ◌&&◌, not}
use Rattle.clap.specs.Faults.{fault_of, built_fault, check_fault, defaults_fault, entered_fault, settle_fault, walk_fault}
use Rattle.clap.specs.Kinds.{Kinds, or_else, check_kinds}
use Rattle.clap.specs.Simple.{App, argument_words, built, entered, names_of, subcommand_of}
use Rattle.clap.specs.Walk.{Text, finished, nothing_held, settled, stop_after, walk, walk_from}
use Rattle.clap.specs.Facts.{explicit_source}
use Rattle.clap.specs.Takes.{is_given}
use Rattle.std.specs.List.{list_any}
use Rattle.fast_usage.specs.meaning.Commands.{fastcat_app}

-- what fails by no kind does not fail by its last step
last_none : (a b : Kinds) → or_else a b ≡ [] → b ≡ []
last_none [] b none = none
last_none (k ∷ ks) b none = absurd (cc)

-- no subcommand is missed
not_missed : (help missed argument : Bool) → check_kinds help missed argument ≡ [] → missed ≡ false
not_missed true missed argument none = absurd (cc)
not_missed false true argument none = absurd (cc)
not_missed false false argument none = refl

-- what is wanted and not missed is there
is_there : (there wanted : Bool) → wanted ≡ true → (not there && wanted) ≡ false → there ≡ true
is_there true wanted is none = refl
is_there false wanted is none = absurd (cc)

-- words that a command takes name a subcommand, where one is required
one_named : (a : App) (words : List Text) → a.top.subcommand_required ≡ true → built_fault a nothing_held words ≡ []
    → is_some (entered a (stop_after a.top.rules (names_of a) words)) ≡ true
one_named a words required none =
    let w = walk a.top.rules (names_of a) nothing_held words in
    let rows = finished a.top.rules w.held in
    let has = is_some (entered a w.stopped) in
    let checks = check_fault a.top rows has in
    let defaults = defaults_fault (settled a.top.rules w.held).rows a.top.rules in
    let settles = settle_fault a.top.rules a.top.args_override_self w.held in
    let inside = entered_fault a w.stopped in
    let walks = walk_fault a.top (names_of a) (walk_from nothing_held) words in
    let checked : checks ≡ [] =
    last_none defaults checks (last_none settles (or_else defaults checks)
    (last_none inside (or_else settles (or_else defaults checks))
    (last_none walks (or_else inside (or_else settles (or_else defaults checks))) none))) in
    let help = not has && (a.top.arg_required_else_help && not (list_any (λ r. explicit_source r.source) rows)) in
    let argument = not (a.top.subcommand_negates_reqs && has) && list_any (λ q. q.required && not (is_given q.id rows)) a.top.rules in
    is_there has a.top.subcommand_required required (not_missed help (not has && a.top.subcommand_required) argument checked)

-- words that are taken name a subcommand
pub names_one : (words : List Text) → fault_of fastcat_app words ≡ [] → is_some (subcommand_of fastcat_app words) ≡ true
names_one words none = one_named (built fastcat_app) (argument_words fastcat_app words) refl none

-- the name and the rows of a subcommand that was found
pub found_both : {X A B : Type 0} (f : X → A) (g : X → B) (o : Option X) (a : A) (b : B) → option_map f o ≡ Some a
    → option_map (λ (p : A × B). p.1) (option_map {U = A × B} (λ x. (f x, g x)) o) ≡ Some b → option_map {U = A × B} (λ x. (f x, g x)) o ≡ Some (a, b)
found_both f g None a b name rows = absurd (cc)
found_both {X} {A} {B} f g (Some x) a b name rows =
    let y : f x ≡ a = cc in
    let z : g x ≡ b = cc in
    ap₂ {C = Option (A × B)} (λ p q. Some (p, q)) y z

-- what is mapped is there exactly if it was
pub still_there : {X Y : Type 0} (f : X → Y) (o : Option X) → is_some (option_map f o) ≡ is_some o
still_there f None = refl
still_there f (Some x) = refl
