-- Bits of which none was clear in a map have a map, which is no longer.
use Rattle.std.proofs.Common.{◌≡◌, ◌⊎◌, inl, inr, ℕ, zero, suc, ◌+◌, ◌*◌, ◌-◌, ◌/◌, ◌%◌, ◌<◌, ◌≤◌, ◌^◌, List, [], ◌∷◌, length, get_or, refl}
use Rattle.std.proofs.Common.{ap, sym, ◌∙◌, arith}
use Rattle.std.specs.Prelude.{Bool, true, false, max, bit_or, replicate, slice_index_or, slice_set}
use Rattle.std.proofs.Math.Nat.{zero-div}
use Rattle.std.proofs.lemmas.Bool.{cases_lt, cases_eq, cases_Bool, false_from_ne_true}
use Rattle.std.proofs.lemmas.List.{get_or_past, get_or-set_same, get_or-set_other}
use Rattle.fast_wire.specs.meaning.Maps.{bits, first_bit, later_bits, IsMap, IsBuilt}
use Rattle.fast_wire.proofs.map_bits.Bits.{bit_of, bit-at}
use Rattle.fast_wire.proofs.map_bits.Building.{bit_set, built_blank, built_more, some_bit}
use Rattle.fast_wire.proofs.map_bits.Finishing.{finished, finished_map, finished_bits}
use Rattle.fast_wire.proofs.stop_bits.FirstStop.{entity_is_long}
use Rattle.fast_wire.proofs.map_bits.Narrow.{map_is_narrow}
use Rattle.fast_spelling.specs.meaning.Encoding.{SameBits}
use Rattle.fast_spelling.proofs.bytes.Bits.{length_bits}
use Rattle.fast_spelling.proofs.again.FieldsAgain.{Uses}

-- a bit that is used and set was set before
later_is : (b : List Bool) (i : ℕ) → slice_index_or (later_bits b) i false ≡ slice_index_or b (suc i) false
later_is [] i = refl
later_is (x ∷ b) i = refl

first_is : (b : List Bool) → first_bit b ≡ slice_index_or b 0 false
first_is [] = refl
first_is (x ∷ b) = refl

set_before : (b left left' : List Bool) → Uses b left left' → (i : ℕ) → slice_index_or b i false ≡ true → slice_index_or left i false ≡ true
set_before [] left left' h i e = absurd (cc e)
set_before (x ∷ b) left left' h zero e = sym (first_is left) ∙ h.0 e
set_before (x ∷ b) left left' h (suc i) e = sym (later_is left i) ∙ set_before b (later_bits left) left' h.1 i e

-- Cells that hold the first n of these bits.
record Holds (b : List Bool) (n : ℕ) : Type 0 where
  pub cells : List ℕ
  pub len : ℕ
  pub built : IsBuilt cells len
  pub same : (i : ℕ) → i < n → slice_index_or (bits cells) i false ≡ slice_index_or b i false
  pub clear : (i : ℕ) → n ≤ i → slice_index_or (bits cells) i false ≡ false

blank_at : (n k : ℕ) → get_or (replicate {A = ℕ} n 0) k 0 ≡ 0
blank_at zero k = refl
blank_at (suc n) zero = refl
blank_at (suc n) (suc k) = blank_at n k

no_bits : (n i : ℕ) → slice_index_or (bits (replicate {A = ℕ} n 0)) i false ≡ false
no_bits n i = bit-at (replicate {A = ℕ} n 0) i ∙ ap (λ (c : ℕ). bit_of c (6 - i % 7)) (blank_at n (i / 7)) ∙ rw (zero-div (2 ^ (6 - i % 7))) refl

module _ (b : List Bool) (few : (i : ℕ) → slice_index_or b i false ≡ true → i < 1022) where
  same_clear : (n : ℕ) (h : Holds b n) → slice_index_or b n false ≡ false → (i : ℕ) → (i < n) ⊎ (n ≤ i) → i < suc n
      → slice_index_or (bits h.cells) i false ≡ slice_index_or b i false
  same_clear n h e i (inl l) m = h.same i l
  same_clear n h e i (inr g) m = let k : i ≡ n = omega (arith, g, m) in h.clear i g ∙ sym e ∙ ap (λ (j : ℕ). slice_index_or b j false) (sym k)

  same_set : (n : ℕ) (h : Holds b n) (v : List Bool) → v ≡ slice_set (bits h.cells) n true → n < length (bits h.cells)
      → slice_index_or b n false ≡ true → (i : ℕ) → (i ≡ n) ⊎ (i ≡ n → ⊥) → i < suc n → slice_index_or v i false ≡ slice_index_or b i false
  same_set n h v is long e i (inl k) m = ap (λ (z : List Bool). slice_index_or z i false) is
      ∙ ap (λ (j : ℕ). slice_index_or (slice_set (bits h.cells) n true) j false) k ∙ get_or-set_same (bits h.cells) n true false long
      ∙ sym e ∙ ap (λ (j : ℕ). slice_index_or b j false) (sym k)
  same_set n h v is long e i (inr other) m = ap (λ (z : List Bool). slice_index_or z i false) is
      ∙ get_or-set_other (bits h.cells) n i true false other ∙ h.same i (omega (arith, m, below i other m))
    where
      below : (i : ℕ) → (i ≡ n → ⊥) → i < suc n → i < n
      below i o l = on (cases_lt i n)
        where
          on : (i < n) ⊎ (n ≤ i) → i < n
          on (inl h) = h
          on (inr g) = absurd (o (omega (arith, g, l)))

  holds_more : (n : ℕ) → Holds b n → (slice_index_or b n false ≡ true) ⊎ (slice_index_or b n false ≡ false) → Holds b (suc n)
  holds_more n h (inr e) = record {
    cells = h.cells;
    len = h.len;
    built = h.built;
    same = λ i l. same_clear n h e i (cases_lt i n) l;
    clear = λ i g. h.clear i (omega (arith, g));
  }
  holds_more n h (inl e) =
      let inside : n < 1022 = few n e in
      let cell : n / 7 < 146 = omega (arith, inside) in
      let mask = some_bit (n % 7) (omega arith) in
      let there : n / 7 < length h.cells = omega (arith, cell, h.built.count) in
      let is = bit_set h.cells n there in
      let long : n < length (bits h.cells) = omega (arith, length_bits h.cells, h.built.count, inside) in
      record {
        cells = slice_set h.cells (n / 7) (bit_or (get_or h.cells (n / 7) 0) (64 / 2 ^ (n % 7)));
        len = max h.len (n / 7 + 1);
        built = built_more h.cells h.len (n / 7) (64 / 2 ^ (n % 7)) h.built cell mask.0 mask.1;
        same = λ i l. same_set n h (bits (slice_set h.cells (n / 7) (bit_or (get_or h.cells (n / 7) 0) (64 / 2 ^ (n % 7))))) is long e i (cases_eq i n) l;
        clear = λ i g. ap (λ (z : List Bool). slice_index_or z i false) is
            ∙ get_or-set_other (bits h.cells) n i true false (λ k. absurd (omega (arith, g, k))) ∙ h.clear i (omega (arith, g));
      }

  holds : (n : ℕ) → Holds b n
  holds zero = record { cells = replicate 146 0; len = 1; built = built_blank; same = λ i h. absurd (omega (arith, h)); clear = λ i h. no_bits 146 i }
  holds (suc n) = holds_more n (holds n) (cases_Bool (slice_index_or b n false))

  -- the map of these bits
  pub mapped : (m : List ℕ) × IsMap true m × SameBits (bits m) b
  mapped =
      let h = holds (length b) in
      (finished h.cells h.len h.built, finished_map h.cells h.len h.built, λ i. finished_bits h.cells h.len h.built i ∙ by h i (cases_lt i (length b)))
    where
      by : (h : Holds b (length b)) (i : ℕ) → (i < length b) ⊎ (length b ≤ i) → slice_index_or (bits h.cells) i false ≡ slice_index_or b i false
      by h i (inl l) = h.same i l
      by h i (inr g) = h.clear i g ∙ sym (get_or_past b i false g)

-- Bits that are used of a map have a map.
pub map_again : (strict : Bool) (m : List ℕ) (b left' : List Bool) → IsMap strict m → Uses b (bits m) left'
    → (v : List ℕ) × IsMap true v × SameBits (bits v) b × (length v ≤ length m)
map_again strict m b left' h uses =
    let set : (i : ℕ) → slice_index_or b i false ≡ true → i < 7 * length m =
    λ i e. inside i (set_before b (bits m) left' uses i e) (cases_lt i (7 * length m)) in
    let some = entity_is_long m h.entity in
    let (v, is_map, same) = mapped b (λ i e. omega (arith, set i e, h.short)) in
    let narrow = map_is_narrow (7 * length m) v is_map (λ i g. same i ∙ unset i g set) in
    (v, is_map, same, omega (arith, narrow, some))
  where
    inside : (i : ℕ) → slice_index_or (bits m) i false ≡ true → (i < 7 * length m) ⊎ (7 * length m ≤ i) → i < 7 * length m
    inside i e (inl l) = l
    inside i e (inr g) = let none : slice_index_or (bits m) i false ≡ false =
        get_or_past (bits m) i false (omega (arith, length_bits m, g)) in absurd (cc (e, none))

    unset : (i : ℕ) → 7 * length m ≤ i → ((i : ℕ) → slice_index_or b i false ≡ true → i < 7 * length m) → slice_index_or b i false ≡ false
    unset i g set = false_from_ne_true (slice_index_or b i false) (λ e. absurd (omega (arith, g, set i e)))
