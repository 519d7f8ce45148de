-- The mark behind the bits of a word.
use Rattle.std.proofs.Common.{refl, sym, ap, subst, ◌∙◌, arith, inl, inr}
use Rattle.std.specs.Prelude.{◌≡◌, ◌⊎◌, ℕ, zero, suc, ◌+◌, ◌-◌, ◌*◌, ◌/◌, ◌%◌, ◌^◌, ◌<◌, ◌≤◌, min, nat_le, Bool, List, [], ◌∷◌, length, drop}
use Rattle.std.specs.Int.Count.{count_trailing_zeros}
use Rattle.std.proofs.lemmas.List.{drop_all, nil_from_length}
use Rattle.std.proofs.lemmas.Bool.{cases_lt}
use Rattle.std.proofs.lemmas.Nat.{mod-pow-add}
use Rattle.fast_wire.specs.meaning.Maps.{map_limit, bits, first_bit, later_bits}
use Rattle.fast_cursor.specs.device.MapPlaces.{HasTop, left_in, used_at, IsWord, IsPlace}
use Rattle.fast_cursor.specs.declared.map_place.MapPlace.{MapPlace}
use Rattle.fast_cursor.proofs.MapBits.{length-bits, later-drop}
use Rattle.fast_cursor.proofs.MapWords.{top-zeros, top-left}

-- the zeros below the lowest bit that is set
even-zeros : (k n x : ℕ) → n ≡ 2 * x → count_trailing_zeros (suc k) n ≡ suc (count_trailing_zeros k x)
unfolding count_trailing_zeros
even-zeros k n x e =
    let r : n % 2 ≡ 0 = omega arith in
    let q : n / 2 ≡ x = omega arith in
    rw (r, q) refl

odd-zeros : (k n : ℕ) → n % 2 ≡ 1 → count_trailing_zeros (suc k) n ≡ 0
unfolding count_trailing_zeros
odd-zeros k n e = rw e refl

parity : (n : ℕ) → (n % 2 ≡ 0) ⊎ (n % 2 ≡ 1)
parity n = elim (cases_lt (n % 2) 1) [
  | inl h ↦ inl (omega (arith, h))
  | inr h ↦ inr (omega (arith, h))
]

-- They are the same where higher bits are left out, if one is set among those that stay.
low-zeros : (k n : ℕ) → count_trailing_zeros k (n % 2 ^ k) < k → count_trailing_zeros (suc k) n ≡ count_trailing_zeros k (n % 2 ^ k)
low-zeros zero n h = absurd (omega (arith, h))
low-zeros (suc k) n h =
    let x : ℕ = n / 2 in
    let m : ℕ = x % 2 ^ k in
    let step : suc k ≡ k + 1 = omega arith in
    let split : n % 2 ^ suc k ≡ m * 2 + n % 2 = ap (λ j. n % 2 ^ j) step ∙ mod-pow-add n k 1 in
    elim (parity n) [
      | inl e ↦
          let half : n ≡ 2 * x = omega (arith, e) in
          let low : n % 2 ^ suc k ≡ 2 * m = omega (arith, e, split) in
          let here : count_trailing_zeros (suc k) (n % 2 ^ suc k) ≡ suc (count_trailing_zeros k m) = even-zeros k (n % 2 ^ suc k) m low in
          even-zeros (suc k) n x half ∙ ap suc (low-zeros k x (omega (arith, here, h))) ∙ sym here
      | inr e ↦
          let low : (n % 2 ^ suc k) % 2 ≡ 1 = omega (arith, e, split) in
          odd-zeros (suc k) n e ∙ sym (odd-zeros k (n % 2 ^ suc k) low)
    ]

zeros-of-top : count_trailing_zeros 64 9223372036854775808 ≡ 63
unfolding count_trailing_zeros
zeros-of-top = refl

-- the zeros below the mark
pub top-mark : (n word : ℕ) (bs : List Bool) → n ≤ 63 → HasTop n word bs → count_trailing_zeros 64 word ≡ 63 - n
top-mark zero word bs l h = ap (count_trailing_zeros 64) h ∙ zeros-of-top
top-mark (suc n) word bs l h =
    let m : ℕ = word % 9223372036854775808 in
    let low : word * 2 % 18446744073709551616 ≡ 2 * m = omega arith in
    let above : count_trailing_zeros 64 (word * 2 % 18446744073709551616) ≡ 63 - n =
    top-mark n (word * 2 % 18446744073709551616) (later_bits bs) (omega arith) h.1 in
    let half : count_trailing_zeros 64 (word * 2 % 18446744073709551616) ≡ suc (count_trailing_zeros 63 m) =
    even-zeros 63 (word * 2 % 18446744073709551616) m low in
    let here : count_trailing_zeros 64 word ≡ count_trailing_zeros 63 m = low-zeros 63 word (omega (arith, above, half)) in
    omega (arith, above, half, here)

pub top-is-left : (n word : ℕ) (bs : List Bool) → n ≤ 63 → HasTop n word bs → left_in word ≡ n
top-is-left n word bs l h = let e = top-mark n word bs l h in omega (arith, e)

-- the zeros below the mark, by the bits before it
pub mark-at : (word : ℕ) (bs : List Bool) → HasTop (left_in word) word bs → count_trailing_zeros 64 word ≡ 63 - left_in word
mark-at word bs h = top-mark (left_in word) word bs (omega arith) h

-- a word whose lowest bit that is set is that of the mark of 56 bits
pub left-of-marked : (x : ℕ) → left_in (x * 256 + 128) ≡ 56
left-of-marked x =
    let e : count_trailing_zeros 64 (x * 256 + 128) ≡ 7
    = even-zeros 63 (x * 256 + 128) (x * 128 + 64) (omega arith)
    ∙ ap suc (even-zeros 62 (x * 128 + 64) (x * 64 + 32) (omega arith)
    ∙ ap suc (even-zeros 61 (x * 64 + 32) (x * 32 + 16) (omega arith)
    ∙ ap suc (even-zeros 60 (x * 32 + 16) (x * 16 + 8) (omega arith)
    ∙ ap suc (even-zeros 59 (x * 16 + 8) (x * 8 + 4) (omega arith)
    ∙ ap suc (even-zeros 58 (x * 8 + 4) (x * 4 + 2) (omega arith)
    ∙ ap suc (even-zeros 57 (x * 4 + 2) (x * 2 + 1) (omega arith) ∙ ap suc (odd-zeros 56 (x * 2 + 1) (omega arith)))))))) in
    omega (arith, e)

pub marked-left : (y word : ℕ) → word ≡ y * 256 % 18446744073709551616 + 128 → left_in word ≡ 56
marked-left y word e =
    let x : ℕ = y * 256 % 18446744073709551616 / 256 in
    let same : word ≡ x * 256 + 128 = omega (arith, e) in
    ap left_in same ∙ left-of-marked x

-- how many bits of a map are used, where so many are left in the word
abbrev pub used_by : List ℕ → ℕ → ℕ → ℕ
used_by [] end left = 0
used_by (b ∷ map) end left = 7 * end - left

pub used-by : (map : List ℕ) (end word left : ℕ) → left_in word ≡ left → used_at map end word ≡ used_by map end left
used-by [] end word left e = refl
used-by (b ∷ map) end word left e = ap (λ n. 7 * end - n) e

-- none
pub used-none : (map : List ℕ) (word : ℕ) → left_in word ≡ 56 → used_at map 8 word ≡ 0
used-none [] word e = refl
used-none (b ∷ map) word e = omega (arith, e)

pub used-some : (map : List ℕ) (end word : ℕ) → 0 < length map → used_at map end word ≡ 7 * end - left_in word
used-some [] end word h = absurd (omega (arith, h))
used-some (b ∷ map) end word h = refl

pub word-is : (map : List ℕ) (end left word : ℕ) → left ≤ 56 → 8 ≤ end → (map ≡ [] → end ≡ 8)
    → HasTop left word (drop (used_by map end left) (bits map)) → IsWord map end word
word-is map end left word l ends none h =
    let same : left_in word ≡ left = top-is-left left word (drop (used_by map end left) (bits map)) (omega arith) h in
    record {
      few = omega (arith, same);
      ends = ends;
      none = none;
      top = subst (λ n. HasTop n word (drop (used_at map end word) (bits map))) (sym same)
          (subst (λ n. HasTop left word (drop n (bits map))) (sym (used-by map end word left same)) h);
    }

-- the word of the bits of the eight bytes before the end
pub word-whole : (map : List ℕ) (end word : ℕ) → 8 ≤ end → (map ≡ [] → end ≡ 8) → HasTop 56 word (drop (7 * (end - 8)) (bits map)) → IsWord map end word
word-whole [] end word e none h =
    let at : 7 * (end - 8) ≡ 0 = let same = none refl in omega (arith, same) in
    word-is [] end 56 word (omega arith) e none (subst (λ n. HasTop 56 word (drop n [])) at h)
word-whole (b ∷ map) end word e none h =
    let at : 7 * (end - 8) ≡ 7 * end - 56 = omega arith in
    word-is (b ∷ map) end 56 word (omega arith) e none (subst (λ n. HasTop 56 word (drop n (bits (b ∷ map)))) at h)

-- the same word, of which bits are shifted out
pub word-shifted : (map : List ℕ) (end left word : ℕ) → 0 < length map → 8 ≤ end → left ≤ 56 → word < 18446744073709551616
    → HasTop 56 word (drop (7 * (end - 8)) (bits map)) → IsWord map end (word * 2 ^ (56 - left) % 18446744073709551616)
word-shifted [] end left word here e l fits h = absurd (omega (arith, here))
word-shifted (b ∷ map) end left word here e l fits h =
    word-is (b ∷ map) end left (word * 2 ^ (56 - left) % 18446744073709551616) l e (λ n. absurd (let f = ap length n in omega (arith, f)))
    (top-left (b ∷ map) end left word e l fits h)

-- no map
pub word-none : IsWord [] 8 128
word-none = word-is [] 8 56 128 (omega arith) (omega arith) (λ _. refl) (top-zeros 56 128 refl)

pub place-none : IsPlace [] (record { word = 128; end = 8; len = 0 })
place-none = record { short = omega arith; is = word-none }

-- Eight bytes further on the next bit is the same. The count of bytes stays where it can't go on, which is behind the last one.
pub next-word : (map : List ℕ) (end left next : ℕ) → length map ≤ map_limit → left ≡ 0 → next ≡ min (end + 8) 4294967295
    → drop (7 * next - 56) (bits map) ≡ drop (7 * end - left) (bits map)
next-word map end left next short none e =
    let len : length (bits map) ≡ 7 * length map = length-bits map in
    elim (cases_lt 4294967295 (end + 8)) [
      | inl h ↦ drop_all (7 * next - 56) (bits map) (omega (arith, h)) ∙ sym (drop_all (7 * end - left) (bits map) (omega (arith, h)))
      | inr h ↦ let same : 7 * next - 56 ≡ 7 * end - left = omega (arith, h) in ap (λ n. drop n (bits map)) same
    ]

-- A bit is left in a word that is not spent.
pub word-some : (map : List ℕ) (end word : ℕ) → IsWord map end word → (word ≡ 9223372036854775808 → ⊥) → 0 < left_in word
word-some map end word s more = elim (cases_lt 0 (left_in word)) [
  | inl h ↦ h
  | inr h ↦ let none : left_in word ≡ 0 = omega (arith, h) in absurd (more (subst (λ n. HasTop n word (drop (used_at map end word) (bits map))) none s.top))
]

-- None is left in one that is.
pub word-spent : (word : ℕ) → word ≡ 9223372036854775808 → left_in word ≡ 0
word-spent word e = top-is-left 0 word [] (omega arith) e

-- the next bit
pub word-top : (map : List ℕ) (end word : ℕ) → IsWord map end word → (word ≡ 9223372036854775808 → ⊥)
    → nat_le 9223372036854775808 word ≡ first_bit (drop (used_at map end word) (bits map))
word-top map end word s more =
    let some : 0 < left_in word = word-some map end word s more in
    let count : left_in word ≡ suc (left_in word - 1) = omega (arith, some) in
    (subst (λ n. HasTop n word (drop (used_at map end word) (bits map))) count s.top).0

-- one bit more is used
used-later : (map : List ℕ) (end word : ℕ) → IsWord map end word → 0 < left_in word
    → drop (used_by map end (left_in word - 1)) (bits map) ≡ later_bits (drop (used_at map end word) (bits map))
used-later [] end word s some = refl
used-later (b ∷ map) end word s some =
    let few : left_in word ≤ 56 = s.few in
    let ends : 8 ≤ end = s.ends in
    let next : 7 * end - (left_in word - 1) ≡ suc (7 * end - left_in word) = omega (arith, few, ends, some) in
    ap (λ n. drop n (bits (b ∷ map))) next ∙ sym (later-drop (bits (b ∷ map)) (7 * end - left_in word))

top-later : (map : List ℕ) (end word : ℕ) → IsWord map end word → (word ≡ 9223372036854775808 → ⊥)
    → HasTop (left_in word - 1) (word * 2 % 18446744073709551616) (drop (used_by map end (left_in word - 1)) (bits map))
top-later map end word s more =
    let some : 0 < left_in word = word-some map end word s more in
    let count : left_in word ≡ suc (left_in word - 1) = omega (arith, some) in
    let top : HasTop (suc (left_in word - 1)) word (drop (used_at map end word) (bits map)) =
    subst (λ n. HasTop n word (drop (used_at map end word) (bits map))) count s.top in
    subst (HasTop (left_in word - 1) (word * 2 % 18446744073709551616)) (sym (used-later map end word s some)) top.1

pub word-used : (map : List ℕ) (end word : ℕ) → IsWord map end word → (word ≡ 9223372036854775808 → ⊥) → IsWord map end (word * 2 % 18446744073709551616)
word-used map end word s more =
    let few : left_in word ≤ 56 = s.few in
    word-is map end (left_in word - 1) (word * 2 % 18446744073709551616) (omega (arith, few)) s.ends s.none (top-later map end word s more)

pub word-later : (map : List ℕ) (end word : ℕ) → IsWord map end word → (word ≡ 9223372036854775808 → ⊥)
    → drop (used_at map end (word * 2 % 18446744073709551616)) (bits map) ≡ later_bits (drop (used_at map end word) (bits map))
word-later map end word s more =
    let few : left_in word ≤ 56 = s.few in
    let same : left_in (word * 2 % 18446744073709551616) ≡ left_in word - 1
    = top-is-left (left_in word - 1) (word * 2 % 18446744073709551616) (drop (used_by map end (left_in word - 1)) (bits map))
    (omega (arith, few)) (top-later map end word s more) in
    ap (λ n. drop n (bits map)) (used-by map end (word * 2 % 18446744073709551616) (left_in word - 1) same)
    ∙ used-later map end word s (word-some map end word s more)

-- The next bits stand in the word of the eight bytes behind those of a word that is spent.
pub bits-next : (map : List ℕ) (end word next new : ℕ) → length map ≤ map_limit → word ≡ 9223372036854775808 → left_in new ≡ 56
    → next ≡ min (end + 8) 4294967295 → drop (used_at map next new) (bits map) ≡ drop (used_at map end word) (bits map)
bits-next [] end word next new short spent whole e = refl
bits-next (b ∷ map) end word next new short spent whole e = ap (λ n. drop (7 * next - n) (bits (b ∷ map))) whole
    ∙ next-word (b ∷ map) end (left_in word) next short (word-spent word spent) e

-- As many bits are shifted out of a word as are used of it, if a byte of the map has come.
pub record IsShift (p : MapPlace) (used : ℕ) : Type 0 where
  pub left : ℕ
  pub few : left ≤ 56
  pub is : used ≡ 56 - left
  pub same : (front : List ℕ) → length front ≡ p.len → 7 * p.end - left ≡ used_at front p.end p.word

pub shift-first : (front : List ℕ) (p : MapPlace) (used : ℕ) → p.len ≡ 0 → length front ≡ p.len → IsPlace front p → used ≡ 0 → IsShift p used
shift-first front p used none count s nought =
    let end : p.end ≡ 8 = s.is.none (nil_from_length front (count ∙ none)) in
    record {
      left = 56;
      few = omega arith;
      is = nought;
      same = λ other n. let e : used_at other p.end p.word ≡ 0 = ap (λ w. used_at w p.end p.word) (nil_from_length other (n ∙ none)) in omega (arith, e, end);
    }

pub shift-later : (front : List ℕ) (p : MapPlace) (used : ℕ) → 0 < p.len → IsPlace front p → used ≡ count_trailing_zeros 64 p.word - 7 → IsShift p used
shift-later front p used some s e =
    let few : left_in p.word ≤ 56 = s.is.few in
    let at = mark-at p.word (drop (used_at front p.end p.word) (bits front)) s.is.top in
    record {
      left = left_in p.word;
      few = few;
      is = omega (arith, e, at, few);
      same = λ other n. sym (used-some other p.end p.word (omega (arith, some, n)));
    }

-- the place whose word is that of the eight bytes before its end, of which bits are shifted out
pub place-shifted : (map : List ℕ) (p : MapPlace) (used word : ℕ) → IsShift p used → length map ≤ map_limit → 0 < length map → 8 ≤ p.end
    → word < 18446744073709551616 → HasTop 56 word (drop (7 * (p.end - 8)) (bits map))
    → IsPlace map (record { word = word * 2 ^ used % 18446744073709551616; end = p.end; len = length map })
place-shifted map p used word s short here e fits h = record {
  short = short;
  is = subst (λ n. IsWord map p.end (word * 2 ^ n % 18446744073709551616)) (sym s.is) (word-shifted map p.end s.left word here e s.few fits h);
}

pub used-shifted : (map front : List ℕ) (p : MapPlace) (used word : ℕ) → IsShift p used → 0 < length map → 8 ≤ p.end
    → word < 18446744073709551616 → HasTop 56 word (drop (7 * (p.end - 8)) (bits map)) → length front ≡ p.len
    → used_at map p.end (word * 2 ^ used % 18446744073709551616) ≡ used_at front p.end p.word
used-shifted map front p used word s here e fits h count =
    let few : s.left ≤ 56 = s.few in
    let left : left_in (word * 2 ^ (56 - s.left) % 18446744073709551616) ≡ s.left
    = top-is-left s.left (word * 2 ^ (56 - s.left) % 18446744073709551616) (drop (7 * p.end - s.left) (bits map)) (omega (arith, few))
    (top-left map p.end s.left word e few fits h) in
    ap (λ n. used_at map p.end (word * 2 ^ n % 18446744073709551616)) s.is
    ∙ used-some map p.end (word * 2 ^ (56 - s.left) % 18446744073709551616) here
    ∙ ap (λ n. 7 * p.end - n) left
    ∙ s.same front count
