-- Integers as entities of a few bytes.
use Rattle.std.specs.Prelude.{◌≡◌, ℕ, ◌≤◌, List, length, ℤ}
use Rattle.fast_wire.specs.meaning.Entities.{IsEntity, number, signed, IsOverlong}

-- The bytes are an entity of so many bytes that has this number.
pub record IsGroups (sum len : ℕ) (w : List ℕ) : Type 0 where
  pub entity : IsEntity w
  pub count : length w ≡ len
  pub value : number w ≡ sum

-- The bytes are the shortest entity that stands for the integer in two's complement.
pub record IsLeast (x : ℤ) (w : List ℕ) : Type 0 where
  pub entity : IsEntity w
  pub short : length w ≤ 10
  pub value : signed w ≡ x
  pub shortest : ¬ (IsOverlong signed w)
