-- The faults of an integer.
use Rattle.std.specs.Prelude.{◌≡◌, ◌⊎◌, ℕ, ◌≤◌, Bool, IsTrue, List, length, take, ℤ}
use Rattle.fast_wire.specs.meaning.Entities.{HaveNoStop, IsEntity, IsOverlong}
use Rattle.fast_wire.specs.meaning.Integers.{Range, value, IsOutside}
use Rattle.fast_wire.specs.declared.reads.WireFault.{WireFault}
use Rattle.fast_wire.specs.declared.reads.WireFault.TheVariants.{R6, D2}

-- The bytes decide this fault, and no fewer of them would: an overlong entity in strict mode; ten bytes without a stop bit, or an integer
-- outside the range.
abbrev pub IsWrongInt : Bool → Range → Bool → WireFault → List ℕ → Type 0
IsWrongInt strict range nullable R6 w = IsEntity w × (length w ≤ 10) × IsTrue strict × IsOverlong (value range) w
IsWrongInt strict range nullable D2 w = HaveNoStop w × (length w ≡ 10) ⊎ IsOutside strict range nullable w

-- no entity that the bytes begin with is overlong
abbrev pub NoneIsOverlong : (List ℕ → ℤ) → List ℕ → Type 0
NoneIsOverlong value bytes = (n : ℕ) → IsEntity (take n bytes) → ¬ (IsOverlong value (take n bytes))
