-- Integers as entities.
use Rattle.std.specs.Prelude.{◌≡◌, ℕ, suc, ◌≤◌, ◌^◌, Bool, true, false, IsTrue, if◌then◌else◌, List, length, ℤ, pos, negsuc, ◌-ℤ◌, neg_ℤ}
use Rattle.std.specs.Prelude.{◌≤ℤ◌, Option, Some, None, IfSome}
use Rattle.fast_wire.specs.meaning.Entities.{IsEntity, number, signed, IsOverlong}

-- The form of an entity, in two's complement or not, and the least and the greatest integer that it may encode.
pub record Range : Type 0 where
  pub is_signed : Bool
  pub low : ℤ
  pub high : ℤ

-- the integers of n bits
-- FAST 1.1: Template Definition, Primitive Field Types.
abbrev pub unsigned_range : ℕ → Range
unsigned_range bits = record { is_signed = false; low = pos 0; high = pos (2 ^ bits) -ℤ pos 1 }

-- the integers from 0 to a greatest one
-- FAST 1.1: Transfer Encoding, Integers.
abbrev pub unsigned_up_to : ℕ → Range
unsigned_up_to top = record { is_signed = false; low = pos 0; high = pos top }

-- the integers from a least to a greatest one, in two's complement
-- FAST 1.1: Transfer Encoding, Integers.
abbrev pub signed_between : ℤ → ℤ → Range
signed_between low high = record { is_signed = true; low = low; high = high }

-- the bits without the sign are counted
-- FAST 1.1: Template Definition, Primitive Field Types.
abbrev pub signed_range : ℕ → Range
signed_range bits = record { is_signed = true; low = neg_ℤ (pos (2 ^ bits)); high = pos (2 ^ bits) -ℤ pos 1 }

-- the range of exponents
-- FAST 1.1: Transfer Encoding, Scaled Numbers.
abbrev pub exponent_range : Range
exponent_range = record { is_signed = true; low = neg_ℤ (pos 63); high = pos 63 }

-- all that ten bytes hold, also after the nullable form has subtracted its one
abbrev pub delta_range : Range
delta_range = signed_range 69

-- the integer lies in the range
-- FAST 1.1: Transfer Encoding, Integers.
abbrev pub IsWithin : Range → ℤ → Type 0
IsWithin range x = (range.low ≤ℤ x) × (x ≤ℤ range.high)

-- the integer that an entity encodes in a mandatory type
-- FAST 1.1: Transfer Encoding, Integers.
abbrev pub value : Range → List ℕ → ℤ
value range w = if range.is_signed then signed w else pos (number w)

-- The nullable form raises what isn't negative by one, and so has 0 free for NULL.
-- FAST 1.1: Transfer Encoding, Nullable Types.
abbrev pub raised : ℤ → ℤ
raised (pos n) = pos (suc n)
raised (negsuc n) = negsuc n

-- Sent as n, the integer is x, or NULL if x is None.
-- FAST 1.1: Transfer Encoding, Nullable Types.
abbrev pub Means : Bool → ℤ → Option ℤ → Type 0
Means false n None = ⊥
Means false n (Some x) = n ≡ x
Means true n None = n ≡ pos 0
Means true n (Some x) = n ≡ raised x

-- The bytes are an entity that may encode an integer: of at most ten bytes, in strict mode none too many.
-- FAST 1.1: Transfer Encoding, Integers.
pub record IsInteger (strict : Bool) (range : Range) (w : List ℕ) : Type 0 where
  pub entity : IsEntity w
  pub short : length w ≤ 10
  pub shortest : IsTrue strict → ¬ (IsOverlong (value range) w)

-- The bytes encode the integer, or NULL.
-- FAST 1.1: Transfer Encoding, Integers.
pub record SpellsInt (strict : Bool) (range : Range) (nullable : Bool) (x : Option ℤ) (w : List ℕ) : Type 0 where
  pub form : IsInteger strict range w
  pub meaning : Means nullable (value range w) x
  pub fits : IfSome x (IsWithin range)

-- The bytes are an entity that may encode an integer, and that integer lies outside the range.
-- FAST 1.1: Error Codes, D2.
abbrev pub IsOutside : Bool → Range → Bool → List ℕ → Type 0
IsOutside strict range nullable w = (x : ℤ) × IsInteger strict range w × Means nullable (value range w) (Some x) × ¬ (IsWithin range x)
