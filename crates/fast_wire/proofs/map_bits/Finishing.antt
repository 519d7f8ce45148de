-- The shortest map of built cells.
use Rattle.std.proofs.Common.{◌≡◌, ℕ, zero, suc, ◌+◌, ◌*◌, ◌-◌, ◌%◌, ◌/◌, ◌^◌, ◌<◌, ◌≤◌, ◌⊎◌, inl, inr, true, false, List, [], ◌∷◌, ◌++◌}
use Rattle.std.proofs.Common.{refl, ap, sym, ◌∙◌, length, take, get_or, arith, length-append}
use Rattle.std.specs.Prelude.{bit_or}
use Rattle.std.proofs.lemmas.Bool.{cases_order}
use Rattle.std.proofs.lemmas.List.{get_or_past, get_or_push, get_or_append_left, get_or-take, length-take-le, take_all}
use Rattle.std.proofs.lemmas.List.Elements.{All-take}
use Rattle.std.proofs.lemmas.Nat.{or_comm, or_shifted}
use Rattle.fast_wire.specs.meaning.Maps.{bits, HasSpareByte, IsMap, IsBuilt}
use Rattle.fast_wire.proofs.map_bits.Bits.{bit_of, bit-at}
use Rattle.fast_wire.proofs.map_bits.Building.{bit_kept}
use Rattle.fast_wire.proofs.map_bits.Spare.{last_of}

module _ (cells : List ℕ) (len : ℕ) (b : IsBuilt cells len) where
  abbrev last : ℕ
  last = bit_or (get_or cells (len - 1) 0) 128

  abbrev pub finished : List ℕ
  finished = take (len - 1) cells ++ last ∷ []

  -- what is left after so many pushes of the cells in front, and one of the last
  pub pushed : (items w : List ℕ) (i : ℕ) → items ≡ take i (take (len - 1) cells) → length (take (len - 1) cells) ≤ i → w ≡ items ++ last ∷ [] → w ≡ finished
  pushed items w i e all is = is ∙ ap (λ v. v ++ last ∷ []) (e ∙ take_all i (take (len - 1) cells) all)

  within : len - 1 < length cells
  within = omega (arith, b.count, b.some, b.few)

  front_long : length (take (len - 1) cells) ≡ len - 1
  front_long = length-take-le (len - 1) cells (omega (arith, within))

  last_is : last ≡ 128 + get_or cells (len - 1) 0
  last_is =
      let s : bit_or (1 * 2 ^ 7) (get_or cells (len - 1) 0) ≡ 1 * 2 ^ 7 + get_or cells (len - 1) 0 =
      or_shifted 1 7 (get_or cells (len - 1) 0) (b.unstopped (len - 1) 0 within) in
      or_comm (get_or cells (len - 1) 0) 128 ∙ s

  long : length finished ≡ len
  long = length-append (take (len - 1) cells) (last ∷ []) ∙ rw front_long (omega (arith, b.some))

  not_spare : HasSpareByte finished → ⊥
  not_spare (front, byte, end, e, none) =
      let l : length finished ≡ length front + 2 = ap length e ∙ length-append front (byte ∷ end ∷ []) in
      let place : len - 1 ≡ length (front ++ byte ∷ end ∷ []) - 1 = omega (arith, long, ap length e) in
      let same : last ≡ end = sym (get_or_push (take (len - 1) cells) last 0 (len - 1) front_long) ∙ ap (λ w. get_or w (len - 1) 0) e
      ∙ ap (λ (n : ℕ). get_or (front ++ byte ∷ end ∷ []) n 0) place ∙ last_of front byte end in
      absurd (omega (arith, b.unstopped (len - 1) 0 within, b.needed, long, last_is))

  pub finished_map : IsMap true finished
  finished_map = record {
    entity = (take (len - 1) cells, last, refl, All-take (λ byte. byte < 128) (len - 1) cells b.unstopped, omega (arith, last_is));
    short = omega (arith, long, b.few);
    shortest = λ t. not_spare;
  }

  -- The stop bit is none of the seven.
  stop_apart : (x k : ℕ) → k < 7 → bit_of (bit_or x 128) k ≡ bit_of x k
  stop_apart x zero h = bit_kept x 128 0 refl
  stop_apart x (suc zero) h = bit_kept x 128 1 refl
  stop_apart x (suc (suc zero)) h = bit_kept x 128 2 refl
  stop_apart x (suc (suc (suc zero))) h = bit_kept x 128 3 refl
  stop_apart x (suc (suc (suc (suc zero)))) h = bit_kept x 128 4 refl
  stop_apart x (suc (suc (suc (suc (suc zero))))) h = bit_kept x 128 5 refl
  stop_apart x (suc (suc (suc (suc (suc (suc zero)))))) h = bit_kept x 128 6 refl
  stop_apart x (suc (suc (suc (suc (suc (suc (suc k))))))) h = absurd (omega arith)

  byte_by : (q k : ℕ) → k < 7 → (q ≡ len - 1) ⊎ ((q < len - 1) ⊎ (len - 1 < q)) → bit_of (get_or finished q 0) k ≡ bit_of (get_or cells q 0) k
  byte_by q k h (inl e) =
      ap (λ (n : ℕ). bit_of (get_or finished n 0) k) e ∙ ap (λ (n : ℕ). bit_of n k) (get_or_push (take (len - 1) cells) last 0 (len - 1) front_long)
      ∙ stop_apart (get_or cells (len - 1) 0) k h ∙ ap (λ (n : ℕ). bit_of (get_or cells n 0) k) (sym e)
  byte_by q k h (inr (inl l)) =
      ap (λ (n : ℕ). bit_of n k) (get_or_append_left (take (len - 1) cells) (last ∷ []) 0 q (omega (arith, front_long)) ∙ get_or-take (len - 1) cells q 0 l)
  byte_by q k h (inr (inr g)) =
      ap (λ (n : ℕ). bit_of n k) (get_or_past finished q 0 (omega (arith, long)) ∙ sym (b.blank q (omega arith)))

  pub finished_bits : (i : ℕ) → get_or (bits finished) i false ≡ get_or (bits cells) i false
  finished_bits i = bit-at finished i ∙ byte_by (i / 7) (6 - i % 7) (omega arith) (cases_order (i / 7) (len - 1)) ∙ sym (bit-at cells i)
