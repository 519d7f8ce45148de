-- Maps of one byte, and of two.
use Rattle.std.proofs.Common.{◌≡◌, ◌≢◌, ℕ, ◌++◌, ◌+◌, ◌*◌, ◌^◌, ◌<◌, List, [], ◌∷◌, length}
use Rattle.std.proofs.Common.{zero, suc, get_or, refl, ap, ◌∙◌, arith}
use Rattle.std.specs.Prelude.{Bool, true, bit_or}
use Rattle.std.proofs.lemmas.List.{length-append}
use Rattle.std.proofs.lemmas.Nat.{or_comm, or_shifted}
use Rattle.fast_wire.specs.meaning.Maps.{bits, IsMap}
use Rattle.fast_wire.proofs.map_bits.Building.{bit_kept}

-- the stop bit is none of the seven
seven_same : {a b c d e f g a' b' c' d' e' f' g' : Bool} → a ≡ a' → b ≡ b' → c ≡ c' → d ≡ d' → e ≡ e' → f ≡ f' → g ≡ g'
    → a ∷ b ∷ c ∷ d ∷ e ∷ f ∷ g ∷ [] ≡ a' ∷ b' ∷ c' ∷ d' ∷ e' ∷ f' ∷ g' ∷ []
seven_same p q r s t u v = cc

pub stopped_bits : (x : ℕ) → bits (bit_or x 128 ∷ []) ≡ bits (x ∷ [])
stopped_bits x = seven_same (bit_kept x 128 6 refl) (bit_kept x 128 5 refl) (bit_kept x 128 4 refl) (bit_kept x 128 3 refl)
    (bit_kept x 128 2 refl) (bit_kept x 128 1 refl) (bit_kept x 128 0 refl)

pub one_byte_map : (x : ℕ) → x < 128 → IsMap true (bit_or x 128 ∷ [])
one_byte_map x h =
    let s : bit_or (1 * 2 ^ 7) x ≡ 1 * 2 ^ 7 + x = or_shifted 1 7 x h in
    let is : bit_or x 128 ≡ 128 + x = or_comm x 128 ∙ s in
    record {
      entity = ([], bit_or x 128, refl, (λ k d g. absurd (omega (arith, g))), omega (arith, is));
      short = omega arith;
      shortest = λ _ (front, byte, last, e, _). let long : 1 ≡ length front + 2 = longer front byte last e in absurd (omega (arith, long));
    }
  where
    longer : (front : List ℕ) (byte last : ℕ) → bit_or x 128 ∷ [] ≡ front ++ byte ∷ last ∷ [] → 1 ≡ length front + 2
    longer front byte last e = ap length e ∙ length-append front (byte ∷ last ∷ [])

pub two_byte_map : (a x : ℕ) → a < 128 → x < 128 → x ≢ 0 → IsMap true (a ∷ bit_or x 128 ∷ [])
two_byte_map a x front small some =
    let s : bit_or (1 * 2 ^ 7) x ≡ 1 * 2 ^ 7 + x = or_shifted 1 7 x small in
    let is : bit_or x 128 ≡ 128 + x = or_comm x 128 ∙ s in
    record {
      entity = (a ∷ [], bit_or x 128, refl, first, omega (arith, is));
      short = omega arith;
      shortest = λ _ (before, byte, last, e, none). let same : bit_or x 128 ≡ last = last_is before byte last e in some (omega (arith, same, none, is, small));
    }
  where
    first : (k d : ℕ) → k < 1 → get_or (a ∷ []) k d < 128
    first zero d g = front
    first (suc k) d g = absurd (omega (arith, g))

    last_is : (before : List ℕ) (byte last : ℕ) → a ∷ bit_or x 128 ∷ [] ≡ before ++ byte ∷ last ∷ [] → bit_or x 128 ≡ last
    last_is [] byte last e = cc
    last_is (b ∷ before) byte last e = let long : 2 ≡ length (b ∷ before) + 2 = ap length e ∙ length-append (b ∷ before) (byte ∷ last ∷ []) in
        absurd (omega (arith, long))
