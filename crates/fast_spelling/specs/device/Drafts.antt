-- What is appended to a message in the making.
use Rattle.std.specs.Prelude.{◌≡◌, ◌⊎◌, ℕ, ◌≤◌, ◌<◌, ◌^◌, Bool, true, List, [], ◌∷◌, ◌++◌, length, All, pos, Some, ℤ, false}
use Rattle.fast_wire.specs.meaning.Shortest.{IsShortest}
use Rattle.fast_value.specs.declared.kinds.Kind.{Kind}
use Rattle.fast_value.specs.declared.kinds.Kind.TheVariants.{UInt32, Int32, UInt64, Int64, Decimal, Ascii, Unicode, Bytes}
use Rattle.fast_value.specs.meaning.Kinds.{ScalarData, U, I, Dec, AsciiText, UnicodeText, ByteVector, exponent_range, signed_range, IsWithin}
use Rattle.fast_tree.specs.meaning.Tree.{FieldData}
use Rattle.fast_dict.specs.meaning.Operators.{Sent, nothing, null, value, integer_delta, decimal_delta, text_delta}
use Rattle.fast_spelling.specs.meaning.Encoding.{ShortestText, ShortestMap}
use Rattle.fast_spelling.specs.declared.faults.EncodeFault.{EncodeFault}
use Rattle.fast_spelling.specs.declared.faults.EncodeFault.TheVariants.{Memory}

-- The list is longer by something that is so.
abbrev pub Adds : {A : Type 0} → (List A → Type 0) → List A → List A → Type 0
Adds {A} P old new = (w : List A) × (new ≡ old ++ w) × P w

-- memory was refused, or this is the fault
abbrev pub IsTold : (EncodeFault → Type 0) → EncodeFault → Type 0
IsTold refuses c = (c ≡ Memory) ⊎ refuses c

-- A value that can be written in a kind: of its form and range, a text short enough to be counted.
abbrev pub IsSendableValue : Kind → ScalarData → Type 0
IsSendableValue UInt32 (U n) = n < 2 ^ 32
IsSendableValue UInt64 (U n) = n < 2 ^ 64
IsSendableValue Int32 (I x) = IsWithin (signed_range 31) x
IsSendableValue Int64 (I x) = IsWithin (signed_range 63) x
IsSendableValue Decimal (Dec e m) = IsWithin exponent_range e × IsWithin (signed_range 63) m
IsSendableValue Ascii (AsciiText v) = (length v < 2 ^ 31) × All (λ c. c < 128) v
IsSendableValue Unicode (UnicodeText v) = length v < 2 ^ 31
IsSendableValue Bytes (ByteVector v) = length v < 2 ^ 31
IsSendableValue kind v = ⊥

-- a text's part that can be written in a kind
abbrev pub IsSendablePart : Kind → List ℕ → Type 0
IsSendablePart Ascii v = (length v < 2 ^ 31) × All (λ c. c < 128) v
IsSendablePart kind v = length v < 2 ^ 31

-- An item that can be written for a field.
abbrev pub IsSendable : FieldData → Sent → Type 0
IsSendable f nothing = Unit {0}
IsSendable f null = f.optional ≡ true
IsSendable f (value v) = IsSendableValue f.kind v
IsSendable f (integer_delta k) = IsWithin (signed_range 68) k
IsSendable f (decimal_delta k j) = IsWithin (signed_range 68) k × IsWithin (signed_range 68) j
IsSendable f (text_delta k part) = IsWithin (signed_range 31) k × IsSendablePart f.kind part

-- two signed integers, of which the first may be nullable
abbrev pub SpellsPair : Bool → ℤ → ℤ → List ℕ → Type 0
SpellsPair nullable x y w = (u v : List ℕ) × IsShortest true nullable (Some x) u × IsShortest true false (Some y) v × (w ≡ u ++ v)

-- a text, or a part of one, wherever it has room
abbrev pub SpellsPart : Kind → Bool → List ℕ → List ℕ → Type 0
SpellsPart kind nullable t w = (room : ℕ) → length t ≤ room → ShortestText kind nullable room (Some t) w

-- The bytes are the value in a kind, whatever the range that an integer lies in, and whatever the room of a text.
abbrev pub SpellsValue : Kind → Bool → ScalarData → List ℕ → Type 0
SpellsValue kind nullable (U n) w = IsShortest false nullable (Some (pos n)) w
SpellsValue kind nullable (I x) w = IsShortest true nullable (Some x) w
SpellsValue kind nullable (Dec e m) w = SpellsPair nullable e m w
SpellsValue kind nullable (AsciiText t) w = SpellsPart kind nullable t w
SpellsValue kind nullable (UnicodeText t) w = SpellsPart kind nullable t w
SpellsValue kind nullable (ByteVector t) w = SpellsPart kind nullable t w

-- the bytes are the item of the field
abbrev pub SpellsItem : FieldData → Sent → List ℕ → Type 0
SpellsItem f nothing w = w ≡ []
SpellsItem f null w = w ≡ 0x80 ∷ []
SpellsItem f (value v) w = SpellsValue f.kind f.optional v w
SpellsItem f (integer_delta k) w = IsShortest true f.optional (Some k) w
SpellsItem f (decimal_delta k j) w = SpellsPair f.optional k j w
SpellsItem f (text_delta k part) w = (u v : List ℕ) × IsShortest true f.optional (Some k) u × SpellsPart f.kind false part v × (w ≡ u ++ v)

-- Behind the bytes before a segment stand its map, if it has one, and its own bytes.
abbrev pub Closes : Bool → List ℕ → List ℕ → List Bool → List ℕ → Type 0
Closes has_map before inside b new = (m : List ℕ) × ShortestMap has_map b m × (new ≡ before ++ (m ++ inside))
