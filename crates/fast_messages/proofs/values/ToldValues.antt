-- A text is one value, also where nothing is known of bytes.
use Rattle.std.proofs.Common.{◌≡◌, ℕ, ◌/◌, ◌%◌, List, [], ◌∷◌, refl, ap, arith}
use Rattle.std.specs.Prelude.{flat_map}
use Rattle.fast_value.specs.meaning.Kinds.{ScalarData, U, I, Dec, AsciiText, UnicodeText, ByteVector}
use Rattle.fast_lines.specs.meaning.Lines.{hex_digit, hex_byte, written}
use Rattle.fast_lines.proofs.Escapes.{same_byte}
use Rattle.fast_lines.proofs.OneValue.{same_value}
use Rattle.fast_messages.specs.meaning.Lined.{IsTold}

same_bytes : (v w : List ℕ) → flat_map hex_byte v ≡ flat_map hex_byte w → v ≡ w
same_bytes [] [] h = refl
same_bytes [] (d ∷ w) h = cc h
same_bytes (c ∷ v) [] h = cc h
same_bytes (c ∷ v) (d ∷ w) h =
    let high : hex_digit (c / 16) ≡ hex_digit (d / 16) = cc in
    let low : hex_digit (c % 16) ≡ hex_digit (d % 16) = cc in
    let rest : flat_map hex_byte v ≡ flat_map hex_byte w = cc in
    cc (same_byte c d high low, same_bytes v w rest)

heads : (a b : ℕ) (s t : List ℕ) → a ∷ s ≡ b ∷ t → a ≡ b
heads a b s t h = cc (h)

behind : (a b : ℕ) (s t : List ℕ) → a ∷ b ∷ s ≡ a ∷ b ∷ t → s ≡ t
behind a b s t h = cc (h)

pub told_value : (v w : ScalarData) → IsTold v → IsTold w → written v ≡ written w → v ≡ w
told_value (U v) (U w) a b h = same_value (U v) (U w) a b h
told_value (U v) (I w) a b h = same_value (U v) (I w) a b h
told_value (U v) (Dec w w2) a b h = same_value (U v) (Dec w w2) a b h
told_value (U v) (AsciiText w) a b h = same_value (U v) (AsciiText w) a b h
told_value (U v) (UnicodeText w) a b h = same_value (U v) (UnicodeText w) a b h
told_value (U v) (ByteVector w) a b h = let l : 0x75 ≡ 0x62 = heads 0x75 0x62 _ _ h in absurd (omega (arith, l))
told_value (I v) (U w) a b h = same_value (I v) (U w) a b h
told_value (I v) (I w) a b h = same_value (I v) (I w) a b h
told_value (I v) (Dec w w2) a b h = same_value (I v) (Dec w w2) a b h
told_value (I v) (AsciiText w) a b h = same_value (I v) (AsciiText w) a b h
told_value (I v) (UnicodeText w) a b h = same_value (I v) (UnicodeText w) a b h
told_value (I v) (ByteVector w) a b h = let l : 0x69 ≡ 0x62 = heads 0x69 0x62 _ _ h in absurd (omega (arith, l))
told_value (Dec v v2) (U w) a b h = same_value (Dec v v2) (U w) a b h
told_value (Dec v v2) (I w) a b h = same_value (Dec v v2) (I w) a b h
told_value (Dec v v2) (Dec w w2) a b h = same_value (Dec v v2) (Dec w w2) a b h
told_value (Dec v v2) (AsciiText w) a b h = same_value (Dec v v2) (AsciiText w) a b h
told_value (Dec v v2) (UnicodeText w) a b h = same_value (Dec v v2) (UnicodeText w) a b h
told_value (Dec v v2) (ByteVector w) a b h = let l : 0x64 ≡ 0x62 = heads 0x64 0x62 _ _ h in absurd (omega (arith, l))
told_value (AsciiText v) (U w) a b h = same_value (AsciiText v) (U w) a b h
told_value (AsciiText v) (I w) a b h = same_value (AsciiText v) (I w) a b h
told_value (AsciiText v) (Dec w w2) a b h = same_value (AsciiText v) (Dec w w2) a b h
told_value (AsciiText v) (AsciiText w) a b h = same_value (AsciiText v) (AsciiText w) a b h
told_value (AsciiText v) (UnicodeText w) a b h = same_value (AsciiText v) (UnicodeText w) a b h
told_value (AsciiText v) (ByteVector w) a b h = let l : 0x61 ≡ 0x62 = heads 0x61 0x62 _ _ h in absurd (omega (arith, l))
told_value (UnicodeText v) (U w) a b h = same_value (UnicodeText v) (U w) a b h
told_value (UnicodeText v) (I w) a b h = same_value (UnicodeText v) (I w) a b h
told_value (UnicodeText v) (Dec w w2) a b h = same_value (UnicodeText v) (Dec w w2) a b h
told_value (UnicodeText v) (AsciiText w) a b h = same_value (UnicodeText v) (AsciiText w) a b h
told_value (UnicodeText v) (UnicodeText w) a b h = same_value (UnicodeText v) (UnicodeText w) a b h
told_value (UnicodeText v) (ByteVector w) a b h = let l : 0x73 ≡ 0x62 = heads 0x73 0x62 _ _ h in absurd (omega (arith, l))
told_value (ByteVector v) (U w) a b h = let l : 0x62 ≡ 0x75 = heads 0x62 0x75 _ _ h in absurd (omega (arith, l))
told_value (ByteVector v) (I w) a b h = let l : 0x62 ≡ 0x69 = heads 0x62 0x69 _ _ h in absurd (omega (arith, l))
told_value (ByteVector v) (Dec w w2) a b h = let l : 0x62 ≡ 0x64 = heads 0x62 0x64 _ _ h in absurd (omega (arith, l))
told_value (ByteVector v) (AsciiText w) a b h = let l : 0x62 ≡ 0x61 = heads 0x62 0x61 _ _ h in absurd (omega (arith, l))
told_value (ByteVector v) (UnicodeText w) a b h = let l : 0x62 ≡ 0x73 = heads 0x62 0x73 _ _ h in absurd (omega (arith, l))
told_value (ByteVector v) (ByteVector w) a b h = ap ByteVector (same_bytes v w (behind 0x62 0x20 _ _ h))
