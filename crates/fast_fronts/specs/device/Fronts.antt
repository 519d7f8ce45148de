-- The first entity of a list of bytes, as an integer.
use Rattle.std.specs.Prelude.{◌≡◌, ℕ, ◌+◌, ◌-◌, ◌*◌, ◌/◌, ◌^◌, ◌++◌, ◌<◌, ◌≤◌, All, Bool, List, [], ◌∷◌, length, take, drop, ℤ, Option, Result, Ok, Err}
use Rattle.fast_wire.specs.meaning.Entities.{HaveNoStop}
use Rattle.fast_wire.specs.meaning.Integers.{Range, SpellsInt}
use Rattle.fast_wire.specs.declared.reads.WireFault.{WireFault}
use Rattle.fast_wire.specs.meaning.Faulty.{IsWrongInt}
use Rattle.fast_wire.specs.device.Words.{IsFrontWord}
use Rattle.fast_fronts.specs.declared.fronts.First.{First}
use Rattle.fast_fronts.specs.declared.fronts.First.TheVariants.{Whole, Wrong, Cut}

-- The front of the bytes: an integer, which `meant` gives of the result; bytes that decide a fault; or a proper prefix of an entity.
abbrev pub IsFirstInt : {T : Type 0} → (T → Option ℤ) → Bool → Range → Bool → First T → List ℕ → Type 0
IsFirstInt meant strict range nullable (Whole x n) bytes = (n ≤ length bytes) × SpellsInt strict range nullable (meant x) (take n bytes)
IsFirstInt meant strict range nullable (Wrong fault n) bytes = (n ≤ length bytes) × IsWrongInt strict range nullable fault (take n bytes)
IsFirstInt meant strict range nullable Cut bytes = HaveNoStop bytes × (length bytes < 10)

-- the result of reading an entity of this length
abbrev pub first_of : {T : Type 0} → Result T WireFault → ℕ → First T
first_of (Ok x) len = Whole x len
first_of (Err fault) len = Wrong fault len

-- The word is eight bytes, the first one the lowest: the first of these, and zeros for those that are missing.
pub record IsLoaded (word : ℕ) (bytes : List ℕ) : Type 0 where
  pub zeros : List ℕ
  pub none : All (λ byte. byte ≡ 0) zeros
  pub front : IsFrontWord word (bytes ++ zeros)

-- the bytes as a number, the first one the lowest
abbrev pub little : List ℕ → ℕ
little [] = 0
little (byte ∷ w) = little w * 2 ^ 8 + byte

-- The number of the last seven bytes; where there are fewer, these are the upper ones of the seven.
abbrev pub IsTail : ℕ → List ℕ → Type 0
IsTail tail bytes = tail / 2 ^ (56 - 8 * length bytes) ≡ little (drop (length bytes - 7) bytes)
