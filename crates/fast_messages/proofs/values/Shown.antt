-- The values of a kind can be read back from their lines.
use Rattle.std.proofs.Common.{◌≡◌, ℕ, zero, suc, ◌/◌, ◌%◌, ◌<◌, ◌≤◌, ◌^◌, Bool, true, ◌&&◌, List, [], ◌∷◌, ◌++◌, length, get_or, codes}
use Rattle.std.proofs.Common.{IsUtf8, ℤ, inl, inr, refl, sym, ap₂, subst, arith, append-nil}
use Rattle.std.specs.Prelude.{All, decimal, flat_map}
use Rattle.std.specs.Fmt.{signed_decimal}
use Rattle.std.proofs.lemmas.Bool.{and_parts, cases_lt, cases_eq}
use Rattle.std.proofs.lemmas.Bool.Decides.{nat_tests}
use Rattle.std.proofs.lemmas.Grind.{flat_map-append}
use Rattle.std.proofs.lemmas.List.Elements.{All-nil, All-cons, All-head, All-tail}
use Rattle.std.proofs.lemmas.Str.{IsUtf8-append, IsUtf8-nil, IsUtf8-encode, IsUtf8-from_ascii, encode_ascii, inside_one}
use Rattle.std.proofs.lemmas.Str.Ascii.{IsAscii-from_all}
use lib.Utf8.{scalar, scalars, encode, encodes}
use Rattle.fast_value.specs.declared.kinds.Kind.{Kind}
use Rattle.fast_value.specs.declared.kinds.Kind.TheVariants.{UInt32, Int32, UInt64, Int64, Decimal, Ascii, Unicode, Bytes}
use Rattle.fast_value.specs.declared.settings.Limits.{Limits}
use Rattle.fast_value.specs.meaning.Kinds.{ScalarData, U, I, Dec, AsciiText, UnicodeText, ByteVector, IsWithin, signed_range, IsOfKind}
use Rattle.fast_lines.specs.meaning.Lines.{hex_digit, hex_byte, escaped, quoted, written}
use Rattle.fast_lines.specs.meaning.Values.{IsHeld, HasBytes}
use Rattle.fast_lines.proofs.Escapes.{plain_stands}
use Rattle.fast_lines.proofs.Numerals.{decimal_is_utf8, signed_is_utf8}
use Rattle.fast_messages.proofs.names.LinedEvents.{wider, exponent}
use Rattle.fast_messages.proofs.texts.LineTexts.{are_low, word}

-- what stands for an ASCII character is ASCII
abbrev are_escaped_low : ℕ → Bool
are_escaped_low zero = true
are_escaped_low (suc n) = are_low (escaped n) && are_escaped_low n

low_below : (n : ℕ) → are_escaped_low n ≡ true → (c : ℕ) → c < n → are_low (escaped c) ≡ true
low_below zero e c h = absurd (omega (arith, h))
low_below (suc n) e c h =
    let p = and_parts (are_low (escaped n)) (are_escaped_low n) e in
    elim (cases_eq c n) [ inl same ↦ rw same p.0 | inr other ↦ low_below n p.1 c (omega (arith, h, other)) ]

all_low : are_escaped_low 128 ≡ true
all_low = refl

-- other bytes stand for themselves
high_kept : (bs : List ℕ) → ((k : ℕ) → k < length bs → 128 ≤ get_or bs k 0) → flat_map escaped bs ≡ bs
high_kept [] h = refl
high_kept (c ∷ bs) h =
    let high : 128 ≤ c = h 0 (omega arith) in
    let plain : escaped c ≡ c ∷ [] = plain_stands c (
      omega (arith, high),
      λ (e : c ≡ 0x7F). omega (arith, high, e),
      λ (e : c ≡ 0x22). omega (arith, high, e),
      λ (e : c ≡ 0x5C). omega (arith, high, e),
    ) in
    ap₂ (λ (a b : List ℕ). a ++ b) plain (high_kept bs (λ k below. h (suc k) (omega (arith, below))))

one_char : (c : ℕ) → scalar c ≡ true → IsUtf8 (flat_map escaped (encode c))
one_char c ok = elim (cases_lt c 128) [
  | inl small ↦ subst (λ (bs : List ℕ). IsUtf8 (flat_map escaped bs)) (sym (encode_ascii c small))
      (subst IsUtf8 (sym (append-nil (escaped c))) (word (escaped c) (low_below 128 all_low c small)))
  | inr big ↦
      let high : (k : ℕ) → k < length (encode c) → 128 ≤ get_or (encode c) k 0 = λ k below. elim (cases_lt (get_or (encode c) k 0) 128) [
        | inl low ↦ absurd (let same : c ≡ get_or (encode c) k 0 = inside_one c [] (encode c) k (sym (append-nil (encode c))) below low in
            omega (arith, same, low, big))
        | inr h ↦ h
      ] in
      subst IsUtf8 (sym (high_kept (encode c) high)) (IsUtf8-encode c ok)
]

all_chars : (cs : List ℕ) → scalars cs ≡ true → IsUtf8 (flat_map escaped (encodes cs))
all_chars [] e = IsUtf8-nil
all_chars (c ∷ cs) e =
    let p = and_parts (scalar c) (scalars cs) e in
    subst IsUtf8 (sym (flat_map-append escaped (encode c) (encodes cs)))
    (IsUtf8-append (flat_map escaped (encode c)) (flat_map escaped (encodes cs)) (one_char c p.0) (all_chars cs p.1))

-- a text between quotes
pub quoted_utf8 : (v : List ℕ) → IsUtf8 v → IsUtf8 (quoted v)
quoted_utf8 v (cs, both) =
    IsUtf8-append (0x22 ∷ []) (flat_map escaped v ++ 0x22 ∷ []) (word (0x22 ∷ []) refl)
    (IsUtf8-append (flat_map escaped v) (0x22 ∷ []) (subst (λ (bs : List ℕ). IsUtf8 (flat_map escaped bs)) both.1 (all_chars cs both.0))
    (word (0x22 ∷ []) refl))

-- bytes as digits
digit_low : (n : ℕ) → n < 16 → hex_digit n < 128
digit_low n h = grind (arith, nat_tests)

hex_low : (v : List ℕ) → All (λ c. c < 256) v → All (λ c. c < 128) (flat_map hex_byte v)
hex_low [] h = All-nil (λ c. c < 128)
hex_low (c ∷ v) h =
    let own : c < 256 = All-head (λ c. c < 256) c v h in
    All-cons (λ c. c < 128) (hex_digit (c / 16)) (hex_digit (c % 16) ∷ flat_map hex_byte v) (digit_low (c / 16) (omega (arith, own)))
    (All-cons (λ c. c < 128) (hex_digit (c % 16)) (flat_map hex_byte v) (digit_low (c % 16) (omega arith)) (hex_low v (All-tail (λ c. c < 256) c v h)))

-- a letter, and what is behind it
behind : (letter text : List ℕ) → are_low letter ≡ true → IsUtf8 text → IsUtf8 (letter ++ text)
behind letter text low h = IsUtf8-append letter text (word letter low) h

unsigned_shown : (n : ℕ) → n < 2 ^ 64 → IsUtf8 (written (U n))
unsigned_shown n small = behind (codes "u ") (decimal n) refl (decimal_is_utf8 (decimal n) n small refl)

signed_shown : (x : ℤ) → IsWithin (signed_range 63) x → IsUtf8 (written (I x))
signed_shown x range = behind (codes "i ") (signed_decimal x) refl (signed_is_utf8 (signed_decimal x) x range refl)

decimal_shown : (e m : ℤ) → IsWithin (signed_range 31) e → IsWithin (signed_range 63) m → IsUtf8 (written (Dec e m))
decimal_shown e m h k =
    behind (codes "d ") (signed_decimal m ++ codes "e" ++ signed_decimal e) refl
    (IsUtf8-append (signed_decimal m ++ codes "e") (signed_decimal e)
    (IsUtf8-append (signed_decimal m) (codes "e") (signed_is_utf8 (signed_decimal m) m k refl) (word (codes "e") refl))
    (signed_is_utf8 (signed_decimal e) e (wider e h) refl))

pub values_are_shown : (l : Limits) (kind : Kind) (v : ScalarData) → IsOfKind l kind v → HasBytes v → IsHeld v × IsUtf8 (written v)
values_are_shown l UInt32 (U n) h b = let small : n < 2 ^ 64 = omega (arith, h) in (small, unsigned_shown n small)
values_are_shown l UInt64 (U n) h b = (h, unsigned_shown n h)
values_are_shown l Int32 (I x) h b = (wider x h, signed_shown x (wider x h))
values_are_shown l Int64 (I x) h b = (h, signed_shown x h)
values_are_shown l Decimal (Dec e m) h b = ((exponent e h.0, h.1), decimal_shown e m (exponent e h.0) h.1)
values_are_shown l Ascii (AsciiText v) h b = (tt, behind (codes "a ") (quoted v) refl (quoted_utf8 v (IsUtf8-from_ascii v (IsAscii-from_all v h.1))))
values_are_shown l Unicode (UnicodeText v) h b = (tt, behind (codes "s ") (quoted v) refl (quoted_utf8 v h.1))
values_are_shown l Bytes (ByteVector v) h b = (
  b,
  behind (codes "b ") (flat_map hex_byte v) refl
      (IsUtf8-from_ascii (flat_map hex_byte v) (IsAscii-from_all (flat_map hex_byte v) (hex_low v b))),
)
values_are_shown l kind v h b = absurd h
