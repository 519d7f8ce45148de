-- A map in strict mode ends with a byte that has a bit set, or is one byte.
use Rattle.std.proofs.Common.{◌≡◌, ◌≢◌, ℕ, suc, ◌+◌, ◌*◌, ◌-◌, ◌%◌, ◌/◌, ◌^◌, ◌<◌, ◌≤◌, ◌⊎◌, inl, inr, true, false, List, refl, ap, sym}
use Rattle.std.proofs.Common.{◌∙◌, length, get_or, arith}
use Rattle.std.proofs.lemmas.Bool.{cases_lt, cases_eq}
use Rattle.std.proofs.lemmas.Bool.Decides.{Decides-eqb}
use Rattle.fast_wire.specs.meaning.Maps.{bits, IsMap, bytes_for}
use Rattle.fast_wire.specs.meaning.Laws.{MapIsShortest, MapIsNarrow}
use Rattle.fast_wire.proofs.map_bits.Bits.{bit_of, bit-at, bit-past}
use Rattle.fast_wire.proofs.map_bits.Spare.{last_split}
use Rattle.fast_wire.proofs.stop_bits.FirstStop.{entity_is_long}

-- a bit that is set in a byte
record SetBit (byte : ℕ) : Type 0 where
  pub place : ℕ
  pub within : place < 7
  pub set : bit_of byte (6 - place) ≡ true

at : (byte place : ℕ) → place < 7 → byte / 2 ^ (6 - place) % 2 ≡ 1 → SetBit byte
at byte place h e = record { place = place; within = h; set = (Decides-eqb (byte / 2 ^ (6 - place) % 2) 1).1 e }

by_six : (byte : ℕ) → byte % 128 ≢ 0 → byte / 2 % 2 ≢ 1 → byte / 4 % 2 ≢ 1 → byte / 8 % 2 ≢ 1 → byte / 16 % 2 ≢ 1 → byte / 32 % 2 ≢ 1
    → byte / 64 % 2 ≢ 1 → byte / 1 % 2 ≡ 1
by_six byte some b c d e f g = omega arith

set_bit : (byte : ℕ) → byte % 128 ≢ 0 → SetBit byte
set_bit byte some = one (cases_eq (byte / 2 % 2) 1) (cases_eq (byte / 4 % 2) 1) (cases_eq (byte / 8 % 2) 1) (cases_eq (byte / 16 % 2) 1)
    (cases_eq (byte / 32 % 2) 1) (cases_eq (byte / 64 % 2) 1)
  where
    one : (byte / 2 % 2 ≡ 1) ⊎ (byte / 2 % 2 ≡ 1 → ⊥) → (byte / 4 % 2 ≡ 1) ⊎ (byte / 4 % 2 ≡ 1 → ⊥) → (byte / 8 % 2 ≡ 1) ⊎ (byte / 8 % 2 ≡ 1 → ⊥)
        → (byte / 16 % 2 ≡ 1) ⊎ (byte / 16 % 2 ≡ 1 → ⊥) → (byte / 32 % 2 ≡ 1) ⊎ (byte / 32 % 2 ≡ 1 → ⊥)
        → (byte / 64 % 2 ≡ 1) ⊎ (byte / 64 % 2 ≡ 1 → ⊥) → SetBit byte
    one (inl h) c d e f g = at byte 5 (omega arith) h
    one (inr b) (inl h) d e f g = at byte 4 (omega arith) h
    one (inr b) (inr c) (inl h) e f g = at byte 3 (omega arith) h
    one (inr b) (inr c) (inr d) (inl h) f g = at byte 2 (omega arith) h
    one (inr b) (inr c) (inr d) (inr e) (inl h) g = at byte 1 (omega arith) h
    one (inr b) (inr c) (inr d) (inr e) (inr f) (inl h) = at byte 0 (omega arith) h
    one (inr b) (inr c) (inr d) (inr e) (inr f) (inr g) = at byte 6 (omega arith) (by_six byte some b c d e f g)

-- a set bit in the last byte of a map of two bytes or more
record LastBit (w : List ℕ) : Type 0 where
  pub place : ℕ
  pub last : suc (place / 7) ≡ length w
  pub set : get_or (bits w) place false ≡ true

last_bit : (w : List ℕ) → IsMap true w → 1 < length w → LastBit w
last_bit w m l =
    let s = last_split w l in
    let b = set_bit (get_or w (length w - 1) 0) (λ e. m.shortest refl (s.0, s.1, get_or w (length w - 1) 0, s.2, e)) in
    let place = 7 * (length w - 1) + b.place in
    let q : place / 7 ≡ length w - 1 = omega (arith, b.within) in
    let r : place % 7 ≡ b.place = omega (arith, b.within) in
    record {
      place = place;
      last = omega arith;
      set = bit-at w place ∙ ap (λ (n : ℕ). bit_of (get_or w n 0) (6 - place % 7)) q ∙ ap (λ (n : ℕ). bit_of (get_or w (length w - 1) 0) (6 - n)) r ∙ b.set;
    }

pub map_is_shortest : MapIsShortest
map_is_shortest v w m entity same = by (cases_lt (length v) (length w))
  where
    by : (length v < length w) ⊎ (length w ≤ length v) → length w ≤ length v
    by (inl h) =
        let b = last_bit w m (omega (arith, entity_is_long v entity)) in
        let none : get_or (bits v) b.place false ≡ false = bit-past v b.place (omega (arith, b.last)) in
        let clash : false ≡ true = sym none ∙ same b.place ∙ b.set in
        absurd (cc)
    by (inr h) = h

pub map_is_narrow : MapIsNarrow
map_is_narrow n w m none = by (cases_lt 1 (length w))
  where
    by : (1 < length w) ⊎ (length w ≤ 1) → length w ≤ bytes_for n
    by (inl h) = inside (last_bit w m h) (cases_lt (last_bit w m h).place n)
      where
        inside : (b : LastBit w) → (b.place < n) ⊎ (n ≤ b.place) → length w ≤ bytes_for n
        inside b (inl l) = omega (arith, b.last)
        inside b (inr g) = let clash : false ≡ true = sym (none b.place g) ∙ b.set in absurd (cc)
    by (inr h) = omega arith
