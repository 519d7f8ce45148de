-- The shortest encoding of an integer.
use Rattle.std.specs.Prelude.{◌≡◌, ℕ, Bool, true, List, ℤ, Option, IfSome}
use Rattle.fast_wire.specs.meaning.Integers.{Range, IsWithin, SpellsInt}

-- The bytes encode the integer in strict mode, for any range that contains it; so they are its shortest encoding.
abbrev pub IsShortest : Bool → Bool → Option ℤ → List ℕ → Type 0
IsShortest is_signed nullable x w = (range : Range) → range.is_signed ≡ is_signed → IfSome x (IsWithin range) → SpellsInt true range nullable x w
