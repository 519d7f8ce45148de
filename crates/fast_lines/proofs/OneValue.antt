-- A text is one value.
use Rattle.std.proofs.Common.{◌≡◌, ℕ, ◌/◌, ◌%◌, List, [], ◌∷◌, ◌++◌, codes, decimal, append_assoc, refl, ap, sym, ◌∙◌, inr, ℤ, flat_map, arith}
use Rattle.std.specs.Fmt.{signed_decimal}
use Rattle.std.proofs.lemmas.Fmt.{decimal_injective, signed_decimal_injective}
use Rattle.fast_value.specs.meaning.Kinds.{ScalarData, U, I, Dec, AsciiText, UnicodeText, ByteVector, IsWithin, signed_range}
use Rattle.fast_lines.specs.meaning.Lines.{hex_digit, hex_byte, written, quoted}
use Rattle.fast_lines.specs.meaning.Values.{IsHeld}
use Rattle.fast_lines.proofs.Numerals.{small_from_range, small_from_narrow}
use Rattle.fast_lines.proofs.Escapes.{quoted_is_one, same_byte}
use Rattle.fast_lines.proofs.Splits.{first_split, signed_lacks}

-- what stands behind the letter and the space
pub behind_letter : (a b : ℕ) (s t : List ℕ) → a ∷ 0x20 ∷ s ≡ b ∷ 0x20 ∷ t → (a ≡ b) × (s ≡ t)
behind_letter a b s t h = (cc, cc)

-- bytes are as their digits
same_bytes : (v w : List ℕ) → flat_map hex_byte v ≡ flat_map hex_byte w → v ≡ w
same_bytes [] [] h = refl
same_bytes [] (d ∷ w) h = cc h
same_bytes (c ∷ v) [] h = cc h
same_bytes (c ∷ v) (d ∷ w) h =
    let high : hex_digit (c / 16) ≡ hex_digit (d / 16) = cc in
    let low : hex_digit (c % 16) ≡ hex_digit (d % 16) = cc in
    let rest : flat_map hex_byte v ≡ flat_map hex_byte w = cc in
    cc (same_byte c d high low, same_bytes v w rest)

-- the letter of a value
abbrev pub letter : ScalarData → ℕ
letter (U n) = 0x75
letter (I x) = 0x69
letter (Dec e m) = 0x64
letter (AsciiText v) = 0x61
letter (UnicodeText v) = 0x73
letter (ByteVector v) = 0x62

-- what stands behind the letter and its space
abbrev pub spelled : ScalarData → List ℕ
spelled (U n) = decimal n
spelled (I x) = signed_decimal x
spelled (Dec e m) = signed_decimal m ++ 0x65 ∷ signed_decimal e
spelled (AsciiText v) = quoted v
spelled (UnicodeText v) = quoted v
spelled (ByteVector v) = flat_map hex_byte v

pub as_spelled : (v : ScalarData) → written v ≡ letter v ∷ 0x20 ∷ spelled v
as_spelled (U n) = refl
as_spelled (I x) = refl
as_spelled (Dec e m) = ap (λ s. 0x64 ∷ 0x20 ∷ s) (append_assoc (signed_decimal m) (codes "e") (signed_decimal e))
as_spelled (AsciiText v) = refl
as_spelled (UnicodeText v) = refl
as_spelled (ByteVector v) = refl

-- values of one letter that are spelled alike
same_spelled : (v w : ScalarData) → IsHeld v → IsHeld w → letter v ≡ letter w → spelled v ≡ spelled w → v ≡ w
same_spelled (U n) (U m) a b l h = ap U (decimal_injective n m a b h)
same_spelled (I x) (I y) a b l h = ap I (signed_decimal_injective x y (small_from_range x a) (small_from_range y b) h)
same_spelled (Dec e m) (Dec f n) a b l h =
    let lacks = λ (z : ℤ) (r : IsWithin (signed_range 63) z). signed_lacks 0x65 z (small_from_range z r) (inr (omega arith)) in
    let parts = first_split 0x65 (signed_decimal m) (signed_decimal n) (signed_decimal e) (signed_decimal f) (lacks m a.1) (lacks n b.1) h in
    let exponent = signed_decimal_injective e f (small_from_narrow e a.0) (small_from_narrow f b.0) parts.1 in
    let mantissa = signed_decimal_injective m n (small_from_range m a.1) (small_from_range n b.1) parts.0 in
    cc (exponent, mantissa)
same_spelled (AsciiText v) (AsciiText w) a b l h = ap AsciiText (quoted_is_one v w h)
same_spelled (UnicodeText v) (UnicodeText w) a b l h = ap UnicodeText (quoted_is_one v w h)
same_spelled (ByteVector v) (ByteVector w) a b l h = ap ByteVector (same_bytes v w h)
same_spelled v w a b l h = absurd (omega (arith, l))

pub same_value : (v w : ScalarData) → IsHeld v → IsHeld w → written v ≡ written w → v ≡ w
same_value v w a b h = let parts = behind_letter (letter v) (letter w) (spelled v) (spelled w) (sym (as_spelled v) ∙ h ∙ as_spelled w) in
    same_spelled v w a b parts.0 parts.1
