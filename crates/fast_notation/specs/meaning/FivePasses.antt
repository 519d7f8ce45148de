-- The properties that the first five passes over a file show.
use Rattle.std.specs.Prelude.{◌≡◌, ◌≢◌, ◌⊎◌, ℕ, List, All, AllPairs, Option, Some}
use Rattle.toml.specs.Data.{Members}
use Rattle.fast_notation.specs.declared.codes.StaticCode.{StaticCode}
use Rattle.fast_tree.specs.meaning.AsWritten.{DeclaredTemplate, all_uses}
use Rattle.fast_notation.specs.meaning.Notation.{WritesSet}
use Rattle.fast_notation.specs.device.References.{KnowsReferences}
use Rattle.fast_notation.specs.device.Sound.{IsSound}
use Rattle.fast_notation.specs.meaning.Unwritten.{IsUnwritten}
use Rattle.fast_notation.specs.meaning.Faults.{IsFaultAt}

-- The document writes the templates, whose names and identifiers are distinct, whose operators are sound, and whose references name
-- templates of the set.
pub record IsWellWritten (read : Option Members) (ts : List DeclaredTemplate) : Type 0 where
  pub document : Members
  pub reads : read ≡ Some document
  pub shape : WritesSet document ts
  pub names : AllPairs (λ a b. a.name ≢ b.name) ts
  pub ids : AllPairs (λ a b. (id : ℕ) → a.id ≡ Some id → b.id ≢ Some id) ts
  pub sound : All (λ t. All IsSound (all_uses t.fields)) ts
  pub known : KnowsReferences ts

-- The document writes templates, and the code's condition holds at one of them.
pub record IsFaulty (read : Option Members) (code : StaticCode) (template : Option ℕ) : Type 0 where
  pub document : Members
  pub written : List DeclaredTemplate
  pub reads : read ≡ Some document
  pub shape : WritesSet document written
  pub stands : IsFaultAt written code template

-- The fault of a file.
abbrev pub IsAtFault : Option Members → StaticCode → Option ℕ → Type 0
IsAtFault read code template = IsUnwritten read code template ⊎ IsFaulty read code template
