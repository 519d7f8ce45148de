-- What follows from a plan.
use Rattle.std.specs.Prelude.{◌≡◌, ◌≢◌, ◌&&◌, if◌then◌else◌, Bool, true, false, not, nat_lt, is_some, Option, Some, None, option_map, codes}
use Rattle.std.specs.Str.{bytes_eq}
use Rattle.clap.specs.Walk.{Text}
use Rattle.fast_words.specs.declared.plans.Plan.{Plan}
use Rattle.fast_words.specs.declared.plans.Task.{Task}
use Rattle.fast_words.specs.declared.plans.Task.TheVariants.{Show, Convert}
use Rattle.fast_words.specs.declared.decisions.Origin.{Origin}
use Rattle.fast_words.specs.declared.decisions.Origin.TheVariants.{BuiltIn, StandardInput, File}
use Rattle.fast_words.specs.declared.decisions.Conflict.{Conflict}
use Rattle.fast_words.specs.declared.decisions.Conflict.TheVariants as The

-- a path, which is no word
abbrev pub IsTemplatesPath : Text → Text → Type 0
IsTemplatesPath path word = (path ≡ word) × (word ≢ codes "@vectors") × (word ≢ codes "-")

-- where templates are read, by the word for them
abbrev pub AreAt : Text → Origin → Type 0
AreAt word BuiltIn = word ≡ codes "@vectors"
AreAt word StandardInput = word ≡ codes "-"
AreAt word (File path) = IsTemplatesPath path.now word

-- where an input is read, by the word for it, if there is one
abbrev pub IsAt : Option Text → Origin → Type 0
IsAt _ BuiltIn = ⊥
IsAt None origin = origin ≡ StandardInput
IsAt (Some word) StandardInput = word ≡ codes "-"
IsAt (Some word) (File path) = (path.now ≡ word) × (word ≢ codes "-")

-- whether an input is standard input
abbrev pub is_standard : Option Text → Bool
is_standard None = true
is_standard (Some word) = bytes_eq word (codes "-")

-- whether a command reads an input
abbrev pub reads_input : Task → Bool
reads_input Show = true
reads_input Convert = true
reads_input _ = false

-- the conflict of a command line
abbrev pub conflict_of : Plan → Option Conflict
conflict_of p =
    if p.explain && p.no_explain then Some The.Explanation
    else if reads_input p.task && (bytes_eq p.templates.now (codes "-") && is_standard (option_map (λ s. s.now) p.input)) then Some The.StandardInput
    else None

-- whether colors are asked for wherever the lines go
abbrev pub is_always : Option Text → Bool
is_always None = false
is_always (Some word) = bytes_eq word (codes "always")

-- the conflict of the options for the form of lines with their bytes
abbrev pub bytes_conflict_of : Plan → Option Conflict
bytes_conflict_of p =
    if p.json then Some The.BytesAndJson
    else if is_some p.only then Some The.BytesAndOnly
    else if nat_lt 0 p.from then Some The.BytesAndFrom
    else if is_some p.limit then Some The.BytesAndLimit
    else if is_always (option_map (λ s. s.now) p.color) then Some The.BytesAndColor
    else None

-- the conflict of the options for the form of what is shown
abbrev pub form_conflict_of : Plan → Option Conflict
form_conflict_of p =
    if p.bytes then bytes_conflict_of p
    else if p.json && is_always (option_map (λ s. s.now) p.color) then Some The.JsonAndColor
    else None

-- whether a failure is explained, where standard error is a terminal or not
abbrev pub is_explained : Plan → Bool → Bool
is_explained p terminal = if p.explain then true else (terminal && not p.no_explain)
