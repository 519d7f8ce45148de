-- The values that a line can have, as the types of values bound them.
use Rattle.std.specs.Prelude.{ℕ, ◌<◌, ◌^◌, All, ◌≢◌, List}
use Rattle.fast_value.specs.meaning.Kinds.{ScalarData, U, I, Dec, AsciiText, UnicodeText, ByteVector, IsWithin, signed_range}
use Rattle.fast_stream.specs.meaning.Events.{EventData, FieldValue}

-- The value is one of the Rust type's. Texts are no narrower there than in lines.
abbrev pub IsHeld : ScalarData → Type 0
IsHeld (U n) = n < 2 ^ 64
IsHeld (I x) = IsWithin (signed_range 63) x
IsHeld (Dec e m) = IsWithin (signed_range 31) e × IsWithin (signed_range 63) m
IsHeld (AsciiText v) = Unit {0}
IsHeld (UnicodeText v) = Unit {0}
IsHeld (ByteVector v) = All (λ c. c < 256) v

-- the elements of a vector of bytes are bytes, as in each value of the Rust type
abbrev pub HasBytes : ScalarData → Type 0
HasBytes (ByteVector v) = All (λ c. c < 256) v
HasBytes v = Unit {0}

-- so of the value of an event
abbrev pub HoldsBytes : EventData → Type 0
HoldsBytes (FieldValue n v) = HasBytes v
HoldsBytes e = Unit {0}

-- the text has no such byte
abbrev pub Lacks : ℕ → List ℕ → Type 0
Lacks byte text = All (λ c. c ≢ byte) text
