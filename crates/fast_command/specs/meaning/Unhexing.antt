-- A hexadecimal text as far as it was taken.
use Rattle.std.specs.Prelude.{◌≡◌, ℕ, List, [], ◌∷◌, ◌++◌, length, All}
use Rattle.fast_value.specs.meaning.Initial.{IsHex, IsHexDigit}
use Rattle.fast_lines.specs.meaning.Hex.{IsBlank, IsHexOrBlank, digits_in, ArePairs}
use Rattle.fast_command.specs.declared.unhexer.Class.{Class}
use Rattle.fast_command.specs.declared.unhexer.Class.TheVariants.{Blank, Digit, Other}
use Rattle.fast_command.specs.declared.unhexer.Place.{Place}
use Rattle.fast_command.specs.declared.unhexer.Place.TheVariants.{Between, InPair, Bad}
use Rattle.fast_command.specs.declared.unhexer.Unhexer.{Unhexer}

-- what the class of a character says of it
abbrev pub IsOfClass : ℕ → Class → Type 0
IsOfClass c Blank = IsBlank c
IsOfClass c Digit = (n : ℕ) × IsHexDigit c n
IsOfClass c Other = ¬ (IsHexOrBlank c)

-- The text stands there, and has given the bytes.
abbrev pub StandsAt : Place → List ℕ → List ℕ → Type 0
StandsAt Between t v = All IsHexOrBlank t × IsHex (digits_in t) v
StandsAt (InPair d) t v = All IsHexOrBlank t × ((front : List ℕ) × (n : ℕ) × (digits_in t ≡ front ++ d ∷ []) × IsHexDigit d n × IsHex front v)
StandsAt (Bad place) t v = (front rest : List ℕ) × (c : ℕ) × (t ≡ front ++ c ∷ rest) × All IsHexOrBlank front × ¬ (IsHexOrBlank c)
    × ArePairs (digits_in front) v × (place ≡ length front)

-- The text was taken, and has given the bytes.
pub record Unhexes (u : Unhexer) (t v : List ℕ) : Type 0 where
  pub len : u.len ≡ length t
  pub at : StandsAt u.place t v

-- the digits that wait at a place
abbrev pub waiting : Place → ℕ
waiting Between = 0
waiting (InPair d) = 1
waiting (Bad place) = 0

-- the digits that wait
abbrev pub pending : Unhexer → ℕ
pending u = waiting u.place
