-- The first stop bit of eight bytes, by the zeros below it.
use Rattle.std.proofs.Common.{◌≡◌, ◌≢◌, ℕ, zero, suc, ◌+◌, ◌*◌, ◌-◌, ◌%◌, ◌/◌, ◌^◌, ◌<◌, ◌≤◌, ◌⊎◌, inl, inr, List, [], ◌∷◌, ◌++◌, refl, ap}
use Rattle.std.proofs.Common.{sym, subst, ◌∙◌, length, map, replicate, arith, lit<, length-append, append_assoc}
use Rattle.std.specs.Prelude.{All, bit_and}
use Rattle.std.specs.Int.{w32, w64, from_be_bytes, from_le_bytes}
use lib.Count.{count_trailing_zeros}
use Rattle.std.proofs.Math.Nat.{add-mul, mul_assoc, mul-le-mul_right}
use Rattle.std.proofs.lemmas.Bool.{cases_lt}
use Rattle.std.proofs.lemmas.List.{get_or_push, get_or_append_left, get_or-append-add}
use Rattle.std.proofs.lemmas.List.Elements.{All-nil, All-cons, All-head, All-tail}
use Rattle.std.proofs.lemmas.Nat.{and_mask, and_block, pow-add, shr_high}
use Rattle.fast_wire.specs.meaning.Entities.{HaveNoStop, IsEntity, number}
use Rattle.fast_wire.specs.device.Words.{word_of}

-- each below 256
abbrev pub AreBytes : List ℕ → Type 0
AreBytes w = All (λ byte. byte < 256) w

-- the stop bit of a byte
abbrev stop : ℕ → ℕ
stop byte = bit_and byte 128

pub word-append : (u v : List ℕ) → word_of (u ++ v) ≡ word_of u * 2 ^ (8 * length v) + word_of v
word-append [] v = omega arith
word-append (b ∷ u) v =
    let p : 2 ^ (8 * length u + 8 * length v) ≡ 2 ^ (8 * length u) * 2 ^ (8 * length v) = pow-add 2 (8 * length u) (8 * length v) in
    let e : 8 * length (u ++ v) ≡ 8 * length u + 8 * length v = omega (arith, length-append u v) in
    let m : b * (2 ^ (8 * length u) * 2 ^ (8 * length v)) ≡ b * 2 ^ (8 * length u) * 2 ^ (8 * length v) =
    sym (mul_assoc b (2 ^ (8 * length u)) (2 ^ (8 * length v))) in
    rw (e, p, word-append u v, m, add-mul) (omega arith)

pub word-lt : (w : List ℕ) → AreBytes w → word_of w < 2 ^ (8 * length w)
word-lt [] bytes = omega arith
word-lt (b ∷ w) bytes =
    let h : word_of w < 2 ^ (8 * length w) = word-lt w (All-tail (λ byte. byte < 256) b w bytes) in
    let k : b * 2 ^ (8 * length w) ≤ 255 * 2 ^ (8 * length w) =
    mul-le-mul_right (2 ^ (8 * length w)) (omega (arith, All-head (λ byte. byte < 256) b w bytes)) in
    let e : 8 * suc (length w) ≡ 8 * length w + 8 = omega arith in
    let p : 2 ^ (8 * length w + 8) ≡ 2 ^ (8 * length w) * 256 = pow-add 2 (8 * length w) 8 in
    rw (e, p) (omega arith)

-- the same with the digits the other way round
abbrev pub turned_of : List ℕ → ℕ
turned_of [] = 0
turned_of (b ∷ w) = turned_of w * 2 ^ 8 + b

-- A mask that is the same for each byte.
and_turned : (w : List ℕ) (m : ℕ) → m < 256 → AreBytes w → bit_and (turned_of w) (turned_of (replicate (length w) m)) ≡ turned_of (map (λ b. bit_and b m) w)
and_turned [] m h bytes = refl
and_turned (b ∷ w) m h bytes =
    and_block 8 (turned_of w) (turned_of (replicate (length w) m)) b m (All-head (λ byte. byte < 256) b w bytes) h
    ∙ ap (λ (n : ℕ). n * 2 ^ 8 + bit_and b m) (and_turned w m h (All-tail (λ byte. byte < 256) b w bytes))

nothing : (a : ℕ) → bit_and a 0 ≡ 0
nothing a = and_mask a 0 ∙ omega arith

stop_of_small : (b : ℕ) → b < 128 → stop b ≡ 0
stop_of_small b h =
    let k : bit_and (0 * 2 ^ 7 + b) (1 * 2 ^ 7 + 0) ≡ bit_and 0 1 * 2 ^ 7 + bit_and b 0 = and_block 7 0 1 b 0 h (lit< tt) in
    let e : 0 * 2 ^ 7 + b ≡ b = omega arith in
    ap stop (sym e) ∙ k ∙ rw (nothing b) refl

stop_of_large : (b : ℕ) → 128 ≤ b → b < 256 → stop b ≡ 128
stop_of_large b h l =
    let k : bit_and (1 * 2 ^ 7 + (b - 128)) (1 * 2 ^ 7 + 0) ≡ bit_and 1 1 * 2 ^ 7 + bit_and (b - 128) 0 = and_block 7 1 1 (b - 128) 0 (omega arith) (lit< tt) in
    let e : 1 * 2 ^ 7 + (b - 128) ≡ b = omega arith in
    ap stop (sym e) ∙ k ∙ rw (nothing (b - 128)) refl

pub front_are_bytes : (u v : List ℕ) → AreBytes (u ++ v) → AreBytes u
front_are_bytes u v bytes = λ k d h. subst (λ n. n < 256) (get_or_append_left u v d k h) (bytes k d (omega (arith, length-append u v)))

last_is_byte : (front : List ℕ) (last : ℕ) → AreBytes (front ++ last ∷ []) → last < 256
last_is_byte front last bytes = subst (λ n. n < 256) (get_or_push front last 0 (length front) refl)
    (bytes (length front) 0 (omega (arith, length-append front (last ∷ []))))

-- the zeros below the lowest one
even_zeros : (k n x : ℕ) → n ≡ 2 * x → count_trailing_zeros (suc k) n ≡ suc (count_trailing_zeros k x)
unfolding count_trailing_zeros
even_zeros k n x e =
    let r : n % 2 ≡ 0 = omega arith in
    let q : n / 2 ≡ x = omega arith in
    rw (r, q) refl

odd_zeros : (k n : ℕ) → n % 2 ≡ 1 → count_trailing_zeros (suc k) n ≡ 0
unfolding count_trailing_zeros
odd_zeros k n e = rw e refl

-- seven and eight of them
seven_zeros : (k x : ℕ) → count_trailing_zeros (8 + k) (x * 256 + 128) ≡ 7
seven_zeros k x =
    let s : 8 + k ≡ suc (suc (suc (suc (suc (suc (suc (suc k))))))) = omega arith in
    ap (λ (n : ℕ). count_trailing_zeros n (x * 256 + 128)) s
    ∙ even_zeros _ (x * 256 + 128) (x * 128 + 64) (omega arith)
    ∙ ap suc (even_zeros _ (x * 128 + 64) (x * 64 + 32) (omega arith)
    ∙ ap suc (even_zeros _ (x * 64 + 32) (x * 32 + 16) (omega arith)
    ∙ ap suc (even_zeros _ (x * 32 + 16) (x * 16 + 8) (omega arith)
    ∙ ap suc (even_zeros _ (x * 16 + 8) (x * 8 + 4) (omega arith)
    ∙ ap suc (even_zeros _ (x * 8 + 4) (x * 4 + 2) (omega arith)
    ∙ ap suc (even_zeros _ (x * 4 + 2) (x * 2 + 1) (omega arith) ∙ ap suc (odd_zeros k (x * 2 + 1) (omega arith))))))))

eight_zeros : (k x : ℕ) → count_trailing_zeros (8 + k) (x * 256 + 0) ≡ 8 + count_trailing_zeros k x
eight_zeros k x =
    let s : 8 + k ≡ suc (suc (suc (suc (suc (suc (suc (suc k))))))) = omega arith in
    ap (λ (n : ℕ). count_trailing_zeros n (x * 256 + 0)) s
    ∙ even_zeros _ (x * 256 + 0) (x * 128) (omega arith)
    ∙ ap suc (even_zeros _ (x * 128) (x * 64) (omega arith)
    ∙ ap suc (even_zeros _ (x * 64) (x * 32) (omega arith)
    ∙ ap suc (even_zeros _ (x * 32) (x * 16) (omega arith)
    ∙ ap suc (even_zeros _ (x * 16) (x * 8) (omega arith)
    ∙ ap suc (even_zeros _ (x * 8) (x * 4) (omega arith)
    ∙ ap suc (even_zeros _ (x * 4) (x * 2) (omega arith) ∙ ap suc (even_zeros k (x * 2) x (omega arith))))))))
    ∙ omega arith

-- The zeros below the first stop bit, of a word of 8 k bits that the front fits into.
zeros_before : (front : List ℕ) (last : ℕ) (rest : List ℕ) (k : ℕ) → HaveNoStop front → 128 ≤ last → last < 256 → length front < k
    → count_trailing_zeros (8 * k) (turned_of (map stop (front ++ last ∷ rest))) + 1 ≡ 8 * length front + 8
zeros_before front last rest zero none h l few = absurd (omega arith)
zeros_before [] last rest (suc k) none h l few =
    let e : 8 * suc k ≡ 8 + 8 * k = omega arith in
    let z = seven_zeros (8 * k) (turned_of (map stop rest)) in
    rw (e, stop_of_large last h l) (omega (arith, z))
zeros_before (b ∷ front) last rest (suc k) none h l few =
    let e : 8 * suc k ≡ 8 + 8 * k = omega arith in
    let s : stop b ≡ 0 = stop_of_small b (All-head (λ byte. byte < 128) b front none) in
    let z = eight_zeros (8 * k) (turned_of (map stop (front ++ last ∷ rest))) in
    let i = zeros_before front last rest k (All-tail (λ byte. byte < 128) b front none) h l (omega arith) in
    rw (e, s) (omega (arith, z, i))

-- a stop bit somewhere, and so a first entity
record Split (w : List ℕ) : Type 0 where
  pub front : List ℕ
  pub rest : List ℕ
  pub whole : w ≡ front ++ rest
  pub entity : IsEntity front

one_longer : (b : ℕ) (w : List ℕ) → b < 128 → Split w → Split (b ∷ w)
one_longer b w h s = record {
  front = b ∷ s.front;
  rest = s.rest;
  whole = ap (λ v. b ∷ v) s.whole;
  entity = (b ∷ s.entity.0, s.entity.1, ap (λ v. b ∷ v) s.entity.2, All-cons (λ byte. byte < 128) b s.entity.0 h s.entity.3, s.entity.4);
}

first_entity : (w : List ℕ) → turned_of (map stop w) ≢ 0 → Split w
first_entity [] some = absurd (some refl)
first_entity (b ∷ w) some = by (cases_lt b 128) (first_entity w)
  where
    by : (b < 128) ⊎ (128 ≤ b) → (turned_of (map stop w) ≢ 0 → Split w) → Split (b ∷ w)
    by (inl h) behind = one_longer b w h (behind (λ e. some (rw (stop_of_small b h, e) (omega arith))))
    by (inr h) behind = record { front = b ∷ []; rest = w; whole = refl; entity = ([], b, refl, All-nil (λ byte. byte < 128), h) }

-- the value of a word as its bytes are loaded
pub word-loaded : (w : List ℕ) → length w ≡ 8 → from_be_bytes w64 w ≡ word_of w
word-loaded [] l = absurd (omega arith)
word-loaded (a ∷ []) l = absurd (omega arith)
word-loaded (a ∷ b ∷ []) l = absurd (omega arith)
word-loaded (a ∷ b ∷ c ∷ []) l = absurd (omega arith)
word-loaded (a ∷ b ∷ c ∷ d ∷ []) l = absurd (omega arith)
word-loaded (a ∷ b ∷ c ∷ d ∷ e ∷ []) l = absurd (omega arith)
word-loaded (a ∷ b ∷ c ∷ d ∷ e ∷ f ∷ []) l = absurd (omega arith)
word-loaded (a ∷ b ∷ c ∷ d ∷ e ∷ f ∷ g ∷ []) l = absurd (omega arith)
word-loaded (a ∷ b ∷ c ∷ d ∷ e ∷ f ∷ g ∷ h ∷ []) l = omega arith
word-loaded (a ∷ b ∷ c ∷ d ∷ e ∷ f ∷ g ∷ h ∷ i ∷ w) l = absurd (omega arith)

-- the same of four bytes
pub word-loaded_short : (w : List ℕ) → length w ≡ 4 → from_be_bytes w32 w ≡ word_of w
word-loaded_short [] l = absurd (omega arith)
word-loaded_short (a ∷ []) l = absurd (omega arith)
word-loaded_short (a ∷ b ∷ []) l = absurd (omega arith)
word-loaded_short (a ∷ b ∷ c ∷ []) l = absurd (omega arith)
word-loaded_short (a ∷ b ∷ c ∷ d ∷ []) l = omega arith
word-loaded_short (a ∷ b ∷ c ∷ d ∷ e ∷ w) l = absurd (omega arith)

pub turned-loaded_short : (w : List ℕ) → length w ≡ 4 → from_le_bytes w32 w ≡ turned_of w
turned-loaded_short [] l = absurd (omega arith)
turned-loaded_short (a ∷ []) l = absurd (omega arith)
turned-loaded_short (a ∷ b ∷ []) l = absurd (omega arith)
turned-loaded_short (a ∷ b ∷ c ∷ []) l = absurd (omega arith)
turned-loaded_short (a ∷ b ∷ c ∷ d ∷ []) l = omega arith
turned-loaded_short (a ∷ b ∷ c ∷ d ∷ e ∷ w) l = absurd (omega arith)

pub turned-loaded : (w : List ℕ) → length w ≡ 8 → from_le_bytes w64 w ≡ turned_of w
turned-loaded [] l = absurd (omega arith)
turned-loaded (a ∷ []) l = absurd (omega arith)
turned-loaded (a ∷ b ∷ []) l = absurd (omega arith)
turned-loaded (a ∷ b ∷ c ∷ []) l = absurd (omega arith)
turned-loaded (a ∷ b ∷ c ∷ d ∷ []) l = absurd (omega arith)
turned-loaded (a ∷ b ∷ c ∷ d ∷ e ∷ []) l = absurd (omega arith)
turned-loaded (a ∷ b ∷ c ∷ d ∷ e ∷ f ∷ []) l = absurd (omega arith)
turned-loaded (a ∷ b ∷ c ∷ d ∷ e ∷ f ∷ g ∷ []) l = absurd (omega arith)
turned-loaded (a ∷ b ∷ c ∷ d ∷ e ∷ f ∷ g ∷ h ∷ []) l = omega arith
turned-loaded (a ∷ b ∷ c ∷ d ∷ e ∷ f ∷ g ∷ h ∷ i ∷ w) l = absurd (omega arith)

-- zeros in front change neither number
pub word-zeros : (k : ℕ) (w : List ℕ) → word_of (replicate k 0 ++ w) ≡ word_of w
word-zeros zero w = refl
word-zeros (suc k) w = rw (word-zeros k w) (omega arith)

pub number-zeros : (k : ℕ) (w : List ℕ) → number (replicate k 0 ++ w) ≡ number w
number-zeros zero w = refl
number-zeros (suc k) w = rw (number-zeros k w) (omega arith)

pub rest_are_bytes : (u v : List ℕ) → AreBytes (u ++ v) → AreBytes v
rest_are_bytes u v bytes = λ k d h. subst (λ n. n < 256) (get_or-append-add u v k d) (bytes (length u + k) d (omega (arith, length-append u v)))

pub entity_is_long : (w : List ℕ) → IsEntity w → 0 < length w
entity_is_long w (front, last, e, none, h) = rw (e, length-append) (omega arith)

-- What the stop bits of eight bytes tell: an entity in front, how many bytes it has, and the word of these bytes.
pub record Told (w : List ℕ) (zeros : ℕ) : Type 0 where
  pub front : List ℕ
  pub rest : List ℕ
  pub whole : w ≡ front ++ rest
  pub entity : IsEntity front
  pub count : zeros + 1 ≡ 8 * length front
  pub word : word_of w / 2 ^ (8 * length rest) ≡ word_of front

abbrev pub stops_of : ℕ → ℕ
stops_of x = bit_and x 0x8080_8080_8080_8080

pub told : (w : List ℕ) → length w ≡ 8 → AreBytes w → stops_of (from_le_bytes w64 w) ≢ 0 → Told w (count_trailing_zeros 64 (stops_of (from_le_bytes w64 w)))
told w l bytes some = by (first_entity w (λ e. some (stops ∙ e)))
  where
    stops : stops_of (from_le_bytes w64 w) ≡ turned_of (map stop w)
    stops = ap stops_of (turned-loaded w l) ∙ ap (λ n. bit_and (turned_of w) (turned_of (replicate n 128))) (sym l) ∙ and_turned w 128 (lit< tt) bytes

    count_by : (front rest : List ℕ) → w ≡ front ++ rest → IsEntity front → count_trailing_zeros 64 (stops_of (from_le_bytes w64 w)) + 1 ≡ 8 * length front
    count_by front rest e (before, last, is, none, h) =
        let all : w ≡ before ++ last ∷ rest = e ∙ ap (λ v. v ++ rest) is ∙ append_assoc before (last ∷ []) rest in
        let fronts : AreBytes front = front_are_bytes front rest (subst AreBytes e bytes) in
        let few : length front ≤ 8 = omega (arith, length-append front rest, ap length e) in
        let size : length front ≡ length before + 1 = ap length is ∙ length-append before (last ∷ []) in
        let z = zeros_before before last rest 8 none h (last_is_byte before last (subst AreBytes is fronts)) (omega arith) in
        let c : count_trailing_zeros 64 (stops_of (from_le_bytes w64 w)) ≡ count_trailing_zeros 64 (turned_of (map stop (before ++ last ∷ rest))) =
        ap (λ (n : ℕ). count_trailing_zeros 64 n) (stops ∙ ap (λ v. turned_of (map stop v)) all) in
        omega (arith, z)

    by : Split w → Told w (count_trailing_zeros 64 (stops_of (from_le_bytes w64 w)))
    by s =
        let rest : AreBytes s.rest = rest_are_bytes s.front s.rest (subst AreBytes s.whole bytes) in
        record {
          front = s.front;
          rest = s.rest;
          whole = s.whole;
          entity = s.entity;
          count = count_by s.front s.rest s.whole s.entity;
          word = ap (λ (n : ℕ). n / 2 ^ (8 * length s.rest)) (ap word_of s.whole ∙ word-append s.front s.rest)
              ∙ shr_high (word_of s.front) (8 * length s.rest) (word_of s.rest) (word-lt s.rest rest);
        }

-- the same of four bytes
abbrev pub short_stops_of : ℕ → ℕ
short_stops_of x = bit_and x 0x8080_8080

pub told_short : (w : List ℕ) → length w ≡ 4 → AreBytes w → short_stops_of (from_le_bytes w32 w) ≢ 0
    → Told w (count_trailing_zeros 32 (short_stops_of (from_le_bytes w32 w)))
told_short w l bytes some = by (first_entity w (λ e. some (stops ∙ e)))
  where
    stops : short_stops_of (from_le_bytes w32 w) ≡ turned_of (map stop w)
    stops = ap short_stops_of (turned-loaded_short w l) ∙ ap (λ n. bit_and (turned_of w) (turned_of (replicate n 128))) (sym l)
        ∙ and_turned w 128 (lit< tt) bytes

    count_by : (front rest : List ℕ) → w ≡ front ++ rest → IsEntity front
        → count_trailing_zeros 32 (short_stops_of (from_le_bytes w32 w)) + 1 ≡ 8 * length front
    count_by front rest e (before, last, is, none, h) =
        let all : w ≡ before ++ last ∷ rest = e ∙ ap (λ v. v ++ rest) is ∙ append_assoc before (last ∷ []) rest in
        let fronts : AreBytes front = front_are_bytes front rest (subst AreBytes e bytes) in
        let few : length front ≤ 4 = omega (arith, length-append front rest, ap length e) in
        let size : length front ≡ length before + 1 = ap length is ∙ length-append before (last ∷ []) in
        let z = zeros_before before last rest 4 none h (last_is_byte before last (subst AreBytes is fronts)) (omega arith) in
        let c : count_trailing_zeros 32 (short_stops_of (from_le_bytes w32 w)) ≡ count_trailing_zeros 32 (turned_of (map stop (before ++ last ∷ rest))) =
        ap (λ (n : ℕ). count_trailing_zeros 32 n) (stops ∙ ap (λ v. turned_of (map stop v)) all) in
        omega (arith, z)

    by : Split w → Told w (count_trailing_zeros 32 (short_stops_of (from_le_bytes w32 w)))
    by s =
        let rest : AreBytes s.rest = rest_are_bytes s.front s.rest (subst AreBytes s.whole bytes) in
        record {
          front = s.front;
          rest = s.rest;
          whole = s.whole;
          entity = s.entity;
          count = count_by s.front s.rest s.whole s.entity;
          word = ap (λ (n : ℕ). n / 2 ^ (8 * length s.rest)) (ap word_of s.whole ∙ word-append s.front s.rest)
              ∙ shr_high (word_of s.front) (8 * length s.rest) (word_of s.rest) (word-lt s.rest rest);
        }
