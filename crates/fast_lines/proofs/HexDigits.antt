-- Bytes as two lower case digits each.
use Rattle.std.proofs.Common.{◌≡◌, ℕ, ◌+◌, ◌*◌, ◌/◌, ◌%◌, ◌<◌, zero, suc, List, [], ◌∷◌, refl, ap, inl, inr, get_or, arith}
use Rattle.std.specs.Prelude.{flat_map, slice_index, All}
use Rattle.std.proofs.lemmas.List.Elements.{All-nil, All-cons, All-head, All-tail}
use Rattle.std.proofs.lemmas.Bool.{cases_lt}
use Rattle.std.proofs.lemmas.Bool.Decides.{nat_tests}
use Rattle.fast_value.specs.meaning.Initial.{IsHexDigit, IsHex}
use Rattle.fast_lines.specs.device.Bytes.{IsNotUpper}
use Rattle.hex.specs.Hex.{encode_with, encode_lower, lower_digits}
use Rattle.fast_lines.specs.meaning.Lines.{hex_digit, hex_byte}

-- a digit of the table
pub digit_of_table : (n : ℕ) → n < 16 → slice_index lower_digits n ≡ hex_digit n
digit_of_table zero h = refl
digit_of_table (suc zero) h = refl
digit_of_table (suc (suc zero)) h = refl
digit_of_table (suc (suc (suc zero))) h = refl
digit_of_table (suc (suc (suc (suc zero)))) h = refl
digit_of_table (suc (suc (suc (suc (suc zero))))) h = refl
digit_of_table (suc (suc (suc (suc (suc (suc zero)))))) h = refl
digit_of_table (suc (suc (suc (suc (suc (suc (suc zero))))))) h = refl
digit_of_table (suc (suc (suc (suc (suc (suc (suc (suc zero)))))))) h = refl
digit_of_table (suc (suc (suc (suc (suc (suc (suc (suc (suc zero))))))))) h = refl
digit_of_table (suc (suc (suc (suc (suc (suc (suc (suc (suc (suc zero)))))))))) h = refl
digit_of_table (suc (suc (suc (suc (suc (suc (suc (suc (suc (suc (suc zero))))))))))) h = refl
digit_of_table (suc (suc (suc (suc (suc (suc (suc (suc (suc (suc (suc (suc zero)))))))))))) h = refl
digit_of_table (suc (suc (suc (suc (suc (suc (suc (suc (suc (suc (suc (suc (suc zero))))))))))))) h = refl
digit_of_table (suc (suc (suc (suc (suc (suc (suc (suc (suc (suc (suc (suc (suc (suc zero)))))))))))))) h = refl
digit_of_table (suc (suc (suc (suc (suc (suc (suc (suc (suc (suc (suc (suc (suc (suc (suc zero))))))))))))))) h = refl
digit_of_table (suc (suc (suc (suc (suc (suc (suc (suc (suc (suc (suc (suc (suc (suc (suc (suc n)))))))))))))))) h = absurd (omega arith)

-- bytes in lower case
pub lower_bytes : (bytes : List ℕ) → ((i : ℕ) → get_or bytes i 0 < 256) → encode_lower bytes ≡ flat_map hex_byte bytes
unfolding encode_with
lower_bytes [] h = refl
lower_bytes (b ∷ rest) h =
    let small : b < 256 = h 0 in
    let high = digit_of_table (b / 16) (omega arith) in
    let low = digit_of_table (b % 16) (omega arith) in
    rw (high, low, lower_bytes rest (λ i. h (suc i))) refl

-- a digit in lower case
lower_digit : (c n : ℕ) → IsHexDigit c n → IsNotUpper c → c ≡ hex_digit n
lower_digit c n h low = grind (arith, nat_tests)

pub digit_is_hex : (n : ℕ) → n < 16 → IsHexDigit (hex_digit n) n × IsNotUpper (hex_digit n)
digit_is_hex n h = elim (cases_lt n 10) [
  | inl small ↦ let e : hex_digit n ≡ 0x30 + n = grind (arith, nat_tests) in (inl (small, e), inl (omega (arith, e)))
  | inr big ↦ let e : hex_digit n ≡ 0x57 + n = grind (arith, nat_tests) in (inr (inl (big, h, e)), inr (omega (arith, e)))
]

-- what digits in lower case mean is written so
pub hex_is_written : (text v : List ℕ) → IsHex text v → All IsNotUpper text → text ≡ flat_map hex_byte v
hex_is_written [] v h low = rw h refl
hex_is_written (c ∷ []) v h low = absurd h
hex_is_written (c ∷ d ∷ text) v h low =
    let rest = All-tail IsNotUpper c (d ∷ text) low in
    let first = lower_digit c h.0 h.3 (All-head IsNotUpper c (d ∷ text) low) in
    let second = lower_digit d h.1 h.4 (All-head IsNotUpper d text rest) in
    let others = hex_is_written text h.2 h.5 (All-tail IsNotUpper d text rest) in
    let small = digit_small d h.1 h.4 in
    let high : (16 * h.0 + h.1) / 16 ≡ h.0 = omega (arith, small) in
    let low_part : (16 * h.0 + h.1) % 16 ≡ h.1 = omega (arith, small) in
    rw (h.6, first, second, others, high, low_part) refl
  where
    digit_small : (c n : ℕ) → IsHexDigit c n → n < 16
    digit_small c n (inl g) = let a = g.0 in omega (arith, a)
    digit_small c n (inr (inl g)) = g.1
    digit_small c n (inr (inr g)) = g.1

-- what is written so is digits in lower case
pub written_is_hex : (v : List ℕ) → All (λ c. c < 256) v → IsHex (flat_map hex_byte v) v × All IsNotUpper (flat_map hex_byte v)
written_is_hex [] small = (refl, All-nil IsNotUpper)
written_is_hex (c ∷ v) small =
    let others = written_is_hex v (All-tail (λ c. c < 256) c v small) in
    let byte = All-head (λ c. c < 256) c v small in
    let first = digit_is_hex (c / 16) (omega (arith, byte)) in
    let second = digit_is_hex (c % 16) (omega arith) in
    let whole : c ≡ 16 * (c / 16) + c % 16 = omega arith in (
      (c / 16, c % 16, v, first.0, second.0, others.0, ap (λ b. b ∷ v) whole),
      All-cons IsNotUpper (hex_digit (c / 16)) (hex_digit (c % 16) ∷ flat_map hex_byte v) first.1
          (All-cons IsNotUpper (hex_digit (c % 16)) (flat_map hex_byte v) second.1 others.1),
    )
