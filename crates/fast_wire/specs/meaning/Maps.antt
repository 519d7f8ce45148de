-- Presence maps.
use Rattle.std.specs.Prelude.{◌≡◌, ◌≢◌, ℕ, ◌+◌, ◌-◌, ◌/◌, ◌%◌, ◌^◌, ◌<◌, ◌≤◌, max, Bool, false, IsTrue, nat_eq, List, [], ◌∷◌, ◌++◌, map}
use Rattle.std.specs.Prelude.{length, flat_map, slice_index}
use Rattle.fast_wire.specs.meaning.Entities.{HaveNoStop, IsEntity}

-- a map's greatest length in bytes
abbrev pub map_limit : ℕ
map_limit = 146

-- the lower seven bits of a byte, the most significant first
-- FAST 1.1: Transfer Encoding, Presence Map.
abbrev pub seven_bits : ℕ → List Bool
seven_bits byte = map (λ k. nat_eq ((byte / 2 ^ k) % 2) 1) (6 ∷ 5 ∷ 4 ∷ 3 ∷ 2 ∷ 1 ∷ 0 ∷ [])

-- the bits of a map, most significant first
-- FAST 1.1: Transfer Encoding, Presence Map.
abbrev pub bits : List ℕ → List Bool
bits w = flat_map seven_bits w

-- The first bit. The bits after the last one are all zero.
-- FAST 1.1: Transfer Encoding, Presence Map.
abbrev pub first_bit : List Bool → Bool
first_bit [] = false
first_bit (bit ∷ rest) = bit

-- the bits after the first one
-- FAST 1.1: Transfer Encoding, Presence Map.
abbrev pub later_bits : List Bool → List Bool
later_bits [] = []
later_bits (bit ∷ rest) = rest

-- The last byte could be left out: there are others before it, and none of its seven bits is set.
-- FAST 1.1: Error Codes, R7.
abbrev pub HasSpareByte : List ℕ → Type 0
HasSpareByte w = (front : List ℕ) × (byte last : ℕ) × (w ≡ front ++ byte ∷ last ∷ []) × (last % 128 ≡ 0)

-- the bytes that a map of n bits may have
-- FAST 1.1: Error Codes, R8.
abbrev pub bytes_for : ℕ → ℕ
bytes_for n = max 1 ((n + 6) / 7)

-- The bytes are a map, without regard to its segment.
-- FAST 1.1: Transfer Encoding, Presence Map.
pub record IsMap (strict : Bool) (w : List ℕ) : Type 0 where
  pub entity : IsEntity w
  pub short : length w ≤ map_limit
  pub shortest : IsTrue strict → ¬ (HasSpareByte w)

-- The first `len` of these cells, none of which has the stop bit, hold all set bits, and no fewer of them would, except for the first.
pub record IsBuilt (cells : List ℕ) (len : ℕ) : Type 0 where
  pub count : length cells ≡ map_limit
  pub some : 1 ≤ len
  pub few : len ≤ map_limit
  pub unstopped : HaveNoStop cells
  pub blank : (k : ℕ) → len ≤ k → slice_index cells k ≡ 0
  pub needed : 1 < len → slice_index cells (len - 1) ≢ 0
