-- The results of the functions that read units.
use Rattle.std.specs.Prelude.{◌≢◌, ℕ, ◌<◌, ◌≤◌, Bool, true, false, List, [], ◌∷◌, length, take, ℤ, Option, Some, None, IfSome}
use Rattle.fast_wire.specs.meaning.Entities.{HaveNoStop}
use Rattle.fast_wire.specs.meaning.Integers.{Range, unsigned_up_to, signed_between, IsWithin}
use Rattle.fast_wire.specs.meaning.Texts.{SpellsAscii}
use Rattle.fast_fronts.specs.declared.fronts.First.{First}
use Rattle.fast_stream.specs.meaning.Units.{ascii_text}
use Rattle.fast_stream.specs.meaning.Phrases.{wrong, cut}
use Rattle.fast_units.specs.declared.progress.Progress.{Progress}
use Rattle.fast_units.specs.declared.progress.Progress.TheVariants.{Whole, Wrong, Cut}
use Rattle.fast_units.specs.declared.units.IntegerRange.{IntegerRange}
use Rattle.fast_units.specs.declared.units.IntegerRange.TheVariants.{Unsigned, Signed}

-- the range of integers on the wire
abbrev pub range_data : IntegerRange → Range
range_data (Unsigned top) = unsigned_up_to top
range_data (Signed low top) = signed_between low top

-- the same result, with another form of the integer
abbrev pub first_mapped : {T U : Type 0} → (T → U) → First T → First U
first_mapped f (First.Whole x n) = First.Whole (f x) n
first_mapped f (First.Wrong fault n) = First.Wrong fault n
first_mapped f First.Cut = First.Cut

-- These bytes of an integer that is cut have no stop bit, and are fewer than ten.
pub record IsOpen (w : List ℕ) : Type 0 where
  pub no_stop : HaveNoStop w
  pub short : length w < 10

-- An integer has at most ten bytes.
abbrev pub IsShort : {T : Type 0} → List ℕ → Progress T → Type 0
IsShort rest (Whole x n) = n ≤ 10
IsShort rest (Wrong c n) = Unit {0}
IsShort rest Cut = IsOpen rest

-- The integer lies in the range.
abbrev pub IsRanged : {T : Type 0} → (T → Option ℤ) → Range → Progress T → Type 0
IsRanged meant range (Whole x n) = IfSome (meant x) (IsWithin range)
IsRanged meant range (Wrong c n) = Unit {0}
IsRanged meant range Cut = Unit {0}

-- what holds if a unit is cut
abbrev pub IfCut : {T : Type 0} → Progress T → Type 0 → Type 0
IfCut (Whole x n) P = Unit {0}
IfCut (Wrong c n) P = Unit {0}
IfCut Cut P = P

-- the string in the scratch, or NULL
abbrev pub text_or_null : List ℕ → Bool → Option (List ℕ)
text_or_null scratch true = Some scratch
text_or_null scratch false = None

-- The first byte, if there is one, is neither a zero nor a bare stop bit.
abbrev pub BeginsWithCharacter : List ℕ → Type 0
BeginsWithCharacter [] = Unit {0}
BeginsWithCharacter (byte ∷ w) = (byte ≢ 0x00) × (byte ≢ 0x80)

-- The result of the bytes as a string, which is in the scratch once it is complete.
abbrev pub IsNextText : Bool → ℕ → List ℕ → List ℕ → Progress Bool → Type 0
IsNextText nullable room rest scratch (Whole is_text n) = (0 < n) × (n ≤ length rest)
    × SpellsAscii nullable room (text_or_null scratch is_text) (take n rest)
IsNextText nullable room rest scratch (Wrong c n) = (0 < n) × (n ≤ length rest) × ascii_text nullable room (take n rest) [] (wrong c)
IsNextText nullable room rest scratch Cut = ascii_text nullable room rest [] cut
