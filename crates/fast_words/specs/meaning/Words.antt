-- What the words that fastcat takes ask for.
use Rattle.std.specs.Prelude.{◌≡◌, ℕ, ◌<◌, ◌^◌, Bool, true, false, List, Option, Some, None, unwrap_or, option_map, codes}
use Rattle.std.specs.Prelude.{if◌then◌else◌}
use Rattle.std.specs.Str.{bytes_eq}
use Rattle.std.specs.Str.Parse.{IsNumeral, digits_value, without_leading_plus}
use Rattle.clap.specs.Walk.{Text, Row, first_of, one_of}
use Rattle.fast_words.specs.declared.plans.Task.{Task}
use Rattle.fast_words.specs.declared.plans.Task.TheVariants.{Check, Show, Convert, Codes}
use Rattle.fast_words.specs.declared.plans.Plan.{Plan}

-- the task of a subcommand's name
abbrev pub task_named : Text → Task
task_named name =
    if bytes_eq name (codes "check") then Check
    else if bytes_eq name (codes "convert") then Convert
    else if bytes_eq name (codes "codes") then Codes
    else Show

-- a flag, by the text that was found for it
abbrev pub IsFlag : Option Text → Bool → Type 0
IsFlag None b = b ≡ false
IsFlag (Some t) b = (t ≡ codes "true" → b ≡ true) × (t ≡ codes "false" → b ≡ false)

-- the text is a number of 32 bits
abbrev pub IsNumber : Text → Type 0
IsNumber t = IsNumeral 10 (without_leading_plus t) × (digits_value 10 (without_leading_plus t) < 2 ^ 32)

-- a number, by the text that was found for it, and by what is understood without one
abbrev pub IsNumberOr : ℕ → Option Text → ℕ → Type 0
IsNumberOr otherwise None n = n ≡ otherwise
IsNumberOr otherwise (Some t) n = (IsNumber t → n ≡ digits_value 10 (without_leading_plus t)) × (¬ (IsNumber t) → n ≡ otherwise)

-- a number, by the text that was found for it, if there was one
abbrev pub IsNumberIf : Option Text → Option ℕ → Type 0
IsNumberIf None r = r ≡ None
IsNumberIf (Some t) r = (IsNumber t → r ≡ Some (digits_value 10 (without_leading_plus t))) × (¬ (IsNumber t) → r ≡ None)

-- what was found for a name
abbrev pub IsFlagAt : Text → List Row → Bool → Type 0
IsFlagAt name rows b = IsFlag (one_of name rows) b

abbrev pub IsNumberAt : Text → List Row → ℕ → ℕ → Type 0
IsNumberAt name rows otherwise n = IsNumberOr otherwise (one_of name rows) n

abbrev pub IsNumberIfAt : Text → List Row → Option ℕ → Type 0
IsNumberIfAt name rows r = IsNumberIf (one_of name rows) r

-- The plan is what a subcommand's name and rows ask for.
pub record IsPlanOf (name : Text) (rows : List Row) (p : Plan) : Type 0 where
  pub task : p.task ≡ task_named name
  pub templates : p.templates.now ≡ unwrap_or (first_of (codes "templates") rows) (codes "@vectors")
  pub input : option_map (λ s. s.now) p.input ≡ first_of (codes "input") rows
  pub hex : IsFlagAt (codes "hex") rows p.hex
  pub strict : IsFlagAt (codes "strict") rows p.strict
  pub list : IsFlagAt (codes "list") rows p.list
  pub bytes : IsFlagAt (codes "bytes") rows p.bytes
  pub json : IsFlagAt (codes "json") rows p.json
  pub from : IsNumberAt (codes "from") rows 0 p.from
  pub limit : IsNumberIfAt (codes "limit") rows p.limit
  pub only : option_map (λ s. s.now) p.only ≡ first_of (codes "only") rows
  pub color : option_map (λ s. s.now) p.color ≡ first_of (codes "color") rows
  pub explain : IsFlagAt (codes "explain") rows p.explain
  pub no_explain : IsFlagAt (codes "no-explain") rows p.no_explain
  pub max_text : IsNumberAt (codes "max-text") rows 1024 p.max_text
  pub max_elements : IsNumberAt (codes "max-elements") rows 1000 p.max_elements
  pub max_total : IsNumberAt (codes "max-total") rows 1000 p.max_total
