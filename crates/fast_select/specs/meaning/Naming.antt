-- Which template a word names.
use Rattle.std.specs.Prelude.{◌≡◌, ◌≢◌, ◌⊎◌, ◌==◌, ◌&&◌, ℕ, ◌<◌, ◌^◌, Bool, List, slice_get, is_none, Option, Some, None, string_bytes}
use Rattle.std.specs.Str.Parse.{IsNumeral, digits_value, without_leading_plus}
use Rattle.fast_tree.specs.declared.instructions.Template.{Template}
use Rattle.fast_template.specs.declared.sets.Templates.{Templates}
use Rattle.fast_template.specs.meaning.Flat.{templates_of}
use Rattle.fast_select.specs.declared.choice.Choice.{Choice}
use Rattle.fast_select.specs.declared.choice.ChoiceError.{ChoiceError}
use Rattle.fast_select.specs.declared.choice.ChoiceError.TheVariants.{Unknown, Memory}

-- all messages are chosen
abbrev pub is_of_all : Choice → Bool
is_of_all c = c.from == 0 && is_none c.limit && is_none c.only

-- the word is a number of 32 bits in decimal digits, which a plus sign may lead
abbrev pub IsId : List ℕ → ℕ → Type 0
IsId word id = IsNumeral 10 (without_leading_plus word) × (digits_value 10 (without_leading_plus word) < 2 ^ 32)
    × (digits_value 10 (without_leading_plus word) ≡ id)

-- no template has the name
abbrev pub IsNoName : Templates → List ℕ → Type 0
IsNoName templates word = (j : ℕ) (t : Template) → slice_get (templates_of templates) j ≡ Some t → string_bytes t.name ≢ word

-- no template has the identifier
abbrev pub IsNoId : Templates → ℕ → Type 0
IsNoId templates id = (j : ℕ) (t : Template) → slice_get (templates_of templates) j ≡ Some t → t.id ≢ Some id

-- The word is the name of the template with the number; or it is no name, and the identifier of that template.
pub record IsNamed (templates : Templates) (word : List ℕ) (number : ℕ) : Type 0 where
  pub template : Template
  pub found : slice_get (templates_of templates) number ≡ Some template
  pub how : (string_bytes template.name ≡ word) ⊎ IsNoName templates word × ((id : ℕ) × IsId word id × (template.id ≡ Some id))

-- The word is no name, and no identifier.
pub record IsUnnamed (templates : Templates) (word : List ℕ) : Type 0 where
  pub no_name : IsNoName templates word
  pub no_id : (id : ℕ) → IsId word id → IsNoId templates id

-- a word that is reported names no template
abbrev pub IsRightError : Templates → ChoiceError → Type 0
IsRightError templates (Unknown u) = IsUnnamed templates u.word.now
IsRightError templates Memory = Unit {0}
