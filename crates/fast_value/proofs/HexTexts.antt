-- Pairs of hexadecimal digits, as the crate `hex` reads them and as initial values define them.
use Rattle.std.proofs.Common.{◌≡◌, ℕ, ◌+◌, ◌*◌, ◌%◌, inl, inr, List, [], ◌∷◌, length, refl, ap, sym, ◌∙◌, arith, Option, Some, None, Result, Ok, Err}
use Rattle.std.specs.Result.{result_unwrap_or}
use Rattle.std.proofs.lemmas.Bool.{cases_eq}
use Rattle.hex.specs.Hex.{hex_digit_value, digit_or_error, value_at, pair_value, decode_pairs, decode_of, ◌>>=◌}
use Rattle.hex.specs.declared.error.FromHexError.{FromHexError}
use Rattle.hex.proofs.HexLemmas.{decode_of-even, decode_of-odd}
use Rattle.hex.proofs.Pairs.{cons_byte, decode_pairs-ok_pair}
use Rattle.fast_value.specs.meaning.Initial.{IsHexDigit, IsHex}

-- a digit that is read
read_digit : (c n : ℕ) → hex_digit_value c ≡ Some n → IsHexDigit c n
read_digit c n h = grind (arith)

-- a digit reads as its number
digit_reads : (c n : ℕ) → IsHexDigit c n → hex_digit_value c ≡ Some n
digit_reads c n (inl h) = grind (arith)
digit_reads c n (inr (inl h)) = grind (arith)
digit_reads c n (inr (inr h)) = grind (arith)

-- what an `Ok` after `>>=` shows
bind_ok : {A B : Type 0} (r : Result A FromHexError) (f : A → Result B FromHexError) (y : B)
    → (r >>= f) ≡ Ok y → (x : A) × (r ≡ Ok x) × (f x ≡ Ok y)
bind_ok (Ok x) f y h = (x, refl, h)
bind_ok (Err e) f y h = cc h

-- the value of a digit that is read
value_read : (c i : ℕ) (o : Option ℕ) (v : ℕ) → digit_or_error c i o ≡ Ok v → o ≡ Some v
value_read c i (Some w) v h = cc
value_read c i None v h = cc h

-- what is decoded by pairs is what the digits mean
pairs_are_hex : (i : ℕ) (text v : List ℕ) → decode_pairs i text ≡ Ok v → IsHex text v
unfolding decode_pairs
pairs_are_hex i [] v h = cc
pairs_are_hex i (c ∷ []) v h = cc h
pairs_are_hex i (c ∷ d ∷ text) v h =
    let p0 = bind_ok (pair_value c d i) _ v h in
    let p1 = bind_ok (value_at c i) _ p0.0 p0.1 in
    let p2 = bind_ok (value_at d (i + 1)) _ p0.0 p1.2 in
    let p3 = bind_ok (decode_pairs (i + 2) text) _ v p0.2 in
    let e : p0.0 ∷ p3.0 ≡ v = ap (λ (r : Result (List ℕ) FromHexError). result_unwrap_or r []) p3.2 in
    let byte : p1.0 * 16 + p2.0 ≡ p0.0 = ap (λ (r : Result ℕ FromHexError). result_unwrap_or r 0) p2.2 in
    let same : p0.0 ≡ 16 * p1.0 + p2.0 = omega (arith, byte) in (
      p1.0,
      p2.0,
      p3.0,
      read_digit c p1.0 (value_read c i (hex_digit_value c) p1.0 p1.1),
      read_digit d p2.0 (value_read d (i + 1) (hex_digit_value d) p2.0 p2.1),
      pairs_are_hex (i + 2) text p3.0 p3.1,
      sym e ∙ ap (λ b. b ∷ p3.0) same,
    )

-- what digits mean is decoded by pairs
hex_is_pairs : (i : ℕ) (text v : List ℕ) → IsHex text v → (length text % 2 ≡ 0) × (decode_pairs i text ≡ Ok v)
unfolding decode_pairs
hex_is_pairs i [] v h = (refl, ap Ok (sym h))
hex_is_pairs i (c ∷ []) v h = absurd h
hex_is_pairs i (c ∷ d ∷ text) v h =
    let ih = hex_is_pairs (i + 2) text h.2 h.5 in
    let even = ih.0 in
    let high : value_at c i ≡ Ok h.0 = ap (digit_or_error c i) (digit_reads c h.0 h.3) in
    let low : value_at d (i + 1) ≡ Ok h.1 = ap (digit_or_error d (i + 1)) (digit_reads d h.1 h.4) in
    let pair : pair_value c d i ≡ Ok (h.0 * 16 + h.1) = rw (high, low) refl in
    let same : h.0 * 16 + h.1 ≡ 16 * h.0 + h.1 = omega arith in (
      omega (arith, even),
      decode_pairs-ok_pair i c d (h.0 * 16 + h.1) text pair ∙ ap (cons_byte (h.0 * 16 + h.1)) ih.1
          ∙ ap (λ b. Ok (b ∷ h.2)) same ∙ ap Ok (sym h.6),
    )

-- what is decoded is what the digits mean
pub decoded_is_hex : (text v : List ℕ) → decode_of text ≡ Ok v → IsHex text v
decoded_is_hex text v h = elim (cases_eq (length text % 2) 1) [
  | inl odd ↦ cc (sym h ∙ decode_of-odd text odd)
  | inr even ↦ pairs_are_hex 0 text v (sym (decode_of-even text (let e : length text % 2 ≡ 0 = omega arith in e)) ∙ h)
]

-- what digits mean is decoded
pub hex_is_decoded : (text v : List ℕ) → IsHex text v → decode_of text ≡ Ok v
hex_is_decoded text v h = let p = hex_is_pairs 0 text v h in decode_of-even text p.0 ∙ p.1
