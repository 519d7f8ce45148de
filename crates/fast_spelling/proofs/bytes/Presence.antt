-- The bits of a segment as those of a number.
use Rattle.std.proofs.Common.{◌≡◌, ◌⊎◌, inl, inr, ℕ, zero, suc, ◌+◌, ◌-◌, ◌*◌, ◌/◌, ◌%◌, ◌^◌, ◌<◌, ◌≤◌, ◌++◌, List, [], ◌∷◌, refl, ap, sym, ◌∙◌, arith}
use Rattle.std.specs.Prelude.{Bool, false, nat_eq, slice_index_or, replicate, length, take, drop}
use Rattle.std.specs.Int.Count.{count_leading_zeros, leading_unique}
use Rattle.std.proofs.Math.Nat.{add-mul, div-div-eq-div-mul, div-lt_iff_lt-mul, mod-add-div', mod-lt, mul-add}
use Rattle.std.proofs.Math.Nat.{mul_assoc, mul-lt-mul_of_pos_right, one-le-pow, pow-le-pow_right, pow-suc, two-pow-succ}
use Rattle.std.proofs.lemmas.Bool.{cases_lt}
use Rattle.std.proofs.lemmas.Nat.{leading_top, le-div, pow-add}
use Rattle.std.proofs.lemmas.List.{append-nil, append_assoc, length-append, replicate-append-replicate}
use Rattle.std.proofs.Math.Seq.{take-append_seam, take-append-add, drop-append_seam, drop-append-add}
use Rattle.fast_wire.specs.meaning.Maps.{bits, seven_bits}
use Rattle.fast_spelling.specs.device.Presence.{low_bits, bits_after}
use Rattle.fast_spelling.specs.meaning.Encoding.{SameBits}
use Rattle.fast_spelling.proofs.bytes.Bits.{blank}

double : (j : ℕ) → 2 ^ suc j ≡ 2 * 2 ^ j
double j = omega (arith, two-pow-succ j)

pub no_bits : (w : ℕ) → low_bits 0 w ≡ []
unfolding low_bits
no_bits w = refl

-- one bit more
low_next : (n w b : ℕ) → b < 2 → low_bits (suc n) (w * 2 + b) ≡ low_bits n w ++ nat_eq b 1 ∷ []
unfolding low_bits
low_next n w b h =
    let q : (w * 2 + b) / 2 ≡ w = omega (arith, h) in
    let r : (w * 2 + b) % 2 ≡ b = omega (arith, h) in
    ap (λ (x : ℕ). low_bits n x ++ nat_eq ((w * 2 + b) % 2) 1 ∷ []) q ∙ ap (λ (x : ℕ). low_bits n w ++ nat_eq x 1 ∷ []) r

-- how many bits a word has after its most significant one
after_is : (w j : ℕ) → j ≤ 63 → 2 ^ j ≤ w → w < 2 ^ suc j → bits_after w ≡ low_bits j w
after_is w j few low high =
    let twice : 2 ^ suc j ≡ 2 * 2 ^ j = double j in
    let count : 63 - j ≡ count_leading_zeros 64 w = leading_unique 64 w (63 - j) (suc j) (omega (arith, few)) high (omega (arith, low, twice)) in
    let left : 63 - (63 - j) ≡ j = omega (arith, few) in
    ap (λ (k : ℕ). low_bits (63 - k) w) (sym count) ∙ ap (λ (k : ℕ). low_bits k w) left

pub after_one : bits_after 1 ≡ []
after_one = after_is 1 0 (omega arith) (omega arith) (omega arith) ∙ no_bits 1

pub after_next : (w b : ℕ) → 1 ≤ w → w < 2 ^ 63 → b < 2 → bits_after (w * 2 + b) ≡ bits_after w ++ nat_eq b 1 ∷ []
after_next w b some room h =
    let (j, e, low, high) = leading_top 64 w (omega (arith, some)) (omega (arith, room)) in
    let few : suc j ≤ 63 = fits j low in
    let one : 2 ^ suc j ≡ 2 * 2 ^ j = double j in
    let two : 2 ^ suc (suc j) ≡ 2 * 2 ^ suc j = double (suc j) in
    after_is (w * 2 + b) (suc j) few (omega (arith, low, one)) (omega (arith, high, two, h)) ∙ low_next j w b h
    ∙ ap (λ (l : List Bool). l ++ nat_eq b 1 ∷ []) (sym (after_is w j (omega (arith, few)) low high))
  where
    fits : (j : ℕ) → 2 ^ j ≤ w → suc j ≤ 63
    fits j low = by (cases_lt j 63)
      where
        by : (j < 63) ⊎ (63 ≤ j) → suc j ≤ 63
        by (inl g) = omega (arith, g)
        by (inr g) = let large : 2 ^ 63 ≤ 2 ^ j = pow-le-pow_right (omega arith) g in absurd (omega (arith, large, low, room))

-- zeros behind bits do not count
padded : (b : List Bool) (k i : ℕ) → slice_index_or (b ++ replicate k false) i false ≡ slice_index_or b i false
padded [] k i = blank k i
padded (x ∷ b) k zero = refl
padded (x ∷ b) k (suc i) = padded b k i

-- a number that is shifted to the left
shifted : (n m q : ℕ) → low_bits (n + m) (q * 2 ^ m) ≡ low_bits n q ++ replicate m false
unfolding low_bits
shifted n zero q =
    let one : q * 2 ^ 0 ≡ q = omega arith in
    let none : n + 0 ≡ n = omega arith in
    ap (λ (x : ℕ). low_bits (n + 0) x) one ∙ ap (λ (k : ℕ). low_bits k q) none ∙ sym (append-nil (low_bits n q))
shifted n (suc m) q =
    let twice : q * 2 ^ suc m ≡ q * 2 ^ m * 2 + 0 = let e = ap (λ (x : ℕ). q * x) (two-pow-succ m) ∙ mul-add q (2 ^ m) (2 ^ m) in omega (arith, e) in
    let long : n + suc m ≡ suc (n + m) = omega arith in
    let next : m + 1 ≡ suc m = omega arith in
    ap (λ (x : ℕ). low_bits (n + suc m) x) twice ∙ ap (λ (k : ℕ). low_bits k (q * 2 ^ m * 2 + 0)) long
    ∙ low_next (n + m) (q * 2 ^ m) 0 (omega arith) ∙ ap (λ (l : List Bool). l ++ false ∷ []) (shifted n m q)
    ∙ append_assoc (low_bits n q) (replicate m false) (false ∷ [])
    ∙ ap (λ (l : List Bool). low_bits n q ++ l) (replicate-append-replicate m 1 false ∙ ap (λ (k : ℕ). replicate k false) next)

-- the upper and the lower bits of a number
pub split : (n m x : ℕ) → low_bits (n + m) x ≡ low_bits n (x / 2 ^ m) ++ low_bits m x
unfolding low_bits
split n zero x =
    let one : x ≡ x / 2 ^ 0 = omega arith in
    let none : n + 0 ≡ n = omega arith in
    ap (λ (k : ℕ). low_bits k x) none ∙ ap (low_bits n) one ∙ sym (append-nil (low_bits n (x / 2 ^ 0)))
split n (suc m) x =
    let long : n + suc m ≡ suc (n + m) = omega arith in
    let half : x / 2 / 2 ^ m ≡ x / 2 ^ suc m = div-div-eq-div-mul x 2 (2 ^ m) ∙ ap (λ (y : ℕ). x / y) (sym (double m)) in
    ap (λ (k : ℕ). low_bits k x) long ∙ ap (λ (l : List Bool). l ++ nat_eq (x % 2) 1 ∷ []) (split n m (x / 2))
    ∙ append_assoc (low_bits n (x / 2 / 2 ^ m)) (low_bits m (x / 2)) (nat_eq (x % 2) 1 ∷ [])
    ∙ ap (λ (y : ℕ). low_bits n y ++ low_bits (suc m) x) half

top_first : (m x : ℕ) → low_bits (suc m) x ≡ nat_eq ((x / 2 ^ m) % 2) 1 ∷ low_bits m x
unfolding low_bits
top_first m x = let long : suc m ≡ 1 + m = omega arith in ap (λ (k : ℕ). low_bits k x) long ∙ split 1 m x

-- the seven bits of a byte
pub of_byte : (x : ℕ) → low_bits 7 x ≡ seven_bits x
of_byte x = top_first 6 x ∙ ap (λ (l : List Bool). at 6 ∷ l) (top_first 5 x ∙ ap (λ (l : List Bool). at 5 ∷ l) (top_first 4 x
    ∙ ap (λ (l : List Bool). at 4 ∷ l) (top_first 3 x ∙ ap (λ (l : List Bool). at 3 ∷ l) (top_first 2 x
    ∙ ap (λ (l : List Bool). at 2 ∷ l) (top_first 1 x ∙ ap (λ (l : List Bool). at 1 ∷ l) (top_first 0 x ∙ ap (λ (l : List Bool). at 0 ∷ l) (no_bits x)))))))
  where
    at : ℕ → Bool
    at k = nat_eq ((x / 2 ^ k) % 2) 1

-- bits above the lower ones do not count
above : (n a r : ℕ) → low_bits n (a * 2 ^ n + r) ≡ low_bits n r
unfolding low_bits
above zero a r = refl
above (suc n) a r =
    let e = ap (λ (x : ℕ). a * x) (two-pow-succ n) ∙ mul-add a (2 ^ n) (2 ^ n) in
    let half : (a * 2 ^ suc n + r) / 2 ≡ a * 2 ^ n + r / 2 = omega (arith, e) in
    let rest : (a * 2 ^ suc n + r) % 2 ≡ r % 2 = omega (arith, e) in
    ap (λ (x : ℕ). low_bits n x ++ nat_eq ((a * 2 ^ suc n + r) % 2) 1 ∷ []) half
    ∙ ap (λ (x : ℕ). low_bits n (a * 2 ^ n + r / 2) ++ nat_eq x 1 ∷ []) rest
    ∙ ap (λ (l : List Bool). l ++ nat_eq (r % 2) 1 ∷ []) (above n a (r / 2))

-- a number that is not zero has at most 63 zeros before it
pub few_zeros : (w : ℕ) → 1 ≤ w → w < 2 ^ 64 → count_leading_zeros 64 w ≤ 63
few_zeros w some room = let (j, e, low, high) = leading_top 64 w (omega (arith, some)) room in omega (arith, e)

-- how many bits they are
pub length_low : (n x : ℕ) → length (low_bits n x) ≡ n
unfolding low_bits
length_low zero x = refl
length_low (suc n) x = let next : n + 1 ≡ suc n = omega arith in length-append (low_bits n (x / 2)) (nat_eq (x % 2) 1 ∷ [])
    ∙ ap (λ (k : ℕ). k + 1) (length_low n (x / 2)) ∙ next

-- The bits of a word from an index on are its lower ones,
pub later_bits : (w from : ℕ) → from ≤ 63 - count_leading_zeros 64 w
    → drop from (bits_after w) ≡ low_bits (63 - (count_leading_zeros 64 w + from)) w
later_bits w from few =
    let k : ℕ = 63 - (count_leading_zeros 64 w + from) in
    let all : 63 - count_leading_zeros 64 w ≡ from + k = omega (arith, few) in
    let upper = low_bits from (w / 2 ^ k) in
    ap (λ (n : ℕ). drop from (low_bits n w)) all ∙ ap (drop from) (split from k w)
    ∙ ap (λ (n : ℕ). drop n (upper ++ low_bits k w)) (sym (length_low from (w / 2 ^ k))) ∙ drop-append_seam upper (low_bits k w)

-- and those before it are the bits of a word that is shifted to the right.
pub first_bits : (w from : ℕ) → 1 ≤ w → w < 2 ^ 64 → from ≤ 63 - count_leading_zeros 64 w
    → (1 ≤ w / 2 ^ (63 - (count_leading_zeros 64 w + from))) × (bits_after (w / 2 ^ (63 - (count_leading_zeros 64 w + from))) ≡ take from (bits_after w))
first_bits w from some room few =
    let (j, e, low, high) = leading_top 64 w (omega (arith, some)) room in
    let k : ℕ = 63 - (count_leading_zeros 64 w + from) in
    let all : j ≡ from + k = omega (arith, few, e) in
    let count : 63 - count_leading_zeros 64 w ≡ from + k = omega (arith, few) in
    let size : 2 ^ j ≡ 2 ^ from * 2 ^ k = ap (λ (n : ℕ). 2 ^ n) all ∙ pow-add 2 from k in
    let next : suc j ≡ suc from + k = omega (arith, all) in
    let more : 2 ^ suc j ≡ 2 ^ suc from * 2 ^ k = ap (λ (n : ℕ). 2 ^ n) next ∙ pow-add 2 (suc from) k in
    let some_k : 0 < 2 ^ k = let one = one-le-pow k 2 (omega arith) in omega (arith, one) in
    let least : 2 ^ from ≤ w / 2 ^ k = le-div (2 ^ from) w (2 ^ k) some_k (omega (arith, low, size)) in
    let most : w / 2 ^ k < 2 ^ suc from = (div-lt_iff_lt-mul some_k).1 (omega (arith, high, more)) in
    let one : 1 ≤ 2 ^ from = one-le-pow from 2 (omega arith) in
    let upper = low_bits from (w / 2 ^ k) in
    let word : bits_after (w / 2 ^ k) ≡ upper = after_is (w / 2 ^ k) from (omega (arith, few)) least most in
    let first : take from (bits_after w) ≡ upper =
    ap (λ (n : ℕ). take from (low_bits n w)) count ∙ ap (take from) (split from k w)
    ∙ ap (λ (n : ℕ). take n (upper ++ low_bits k w)) (sym (length_low from (w / 2 ^ k))) ∙ take-append_seam upper (low_bits k w) in
    (omega (arith, one, least), word ∙ sym first)

-- A word of which only the lower k bits are left, from the most significant bit on.
pub top_bits : (w k : ℕ) → w < 2 ^ 64 → k ≤ 63 → SameBits (low_bits 64 (w * 2 ^ (63 - k) % 2 ^ 64 * 2 % 2 ^ 64)) (low_bits k w)
top_bits w k room few =
    let a : ℕ = w / 2 ^ k in
    let r : ℕ = w % 2 ^ k in
    let p : ℕ = 2 ^ (63 - k) in
    let some : 1 ≤ 2 ^ k = one-le-pow k 2 (omega arith) in
    let is : w ≡ a * 2 ^ k + r = let e = mod-add-div' w (2 ^ k) in omega (arith, e) in
    let small : r < 2 ^ k = mod-lt w (omega (arith, some)) in
    let sum : k + (63 - k) ≡ 63 = omega (arith, few) in
    let full : 2 ^ k * p ≡ 2 ^ 63 = sym (pow-add 2 k (63 - k)) ∙ ap (λ (n : ℕ). 2 ^ n) sum in
    let parts : w * p ≡ a * 2 ^ 63 + r * p = ap (λ (x : ℕ). x * p) is ∙ add-mul (a * 2 ^ k) r p ∙ ap (λ (x : ℕ). x + r * p) (mul_assoc a (2 ^ k) p
    ∙ ap (λ (x : ℕ). a * x) full) in
    let less : r * p < 2 ^ k * p = mul-lt-mul_of_pos_right small (one-le-pow (63 - k) 2 (omega arith)) in
    let next : 64 - k ≡ suc (63 - k) = omega (arith, few) in
    let both : r * 2 ^ (64 - k) ≡ r * p + r * p = ap (λ (n : ℕ). r * 2 ^ n) next ∙ ap (λ (x : ℕ). r * x) (two-pow-succ (63 - k)) ∙ mul-add r p p in
    let top : w * 2 ^ (63 - k) % 2 ^ 64 * 2 % 2 ^ 64 ≡ r * 2 ^ (64 - k) = omega (arith, full, parts, less, both) in
    let long : k + (64 - k) ≡ 64 = omega (arith, few) in
    let left : low_bits 64 (r * 2 ^ (64 - k)) ≡ low_bits k r ++ replicate (64 - k) false =
    ap (λ (n : ℕ). low_bits n (r * 2 ^ (64 - k))) (sym long) ∙ shifted k (64 - k) r in
    let word : low_bits k w ≡ low_bits k r = ap (low_bits k) is ∙ above k a r in
    λ i. ap (λ (l : List Bool). slice_index_or l i false) (ap (low_bits 64) top ∙ left) ∙ padded (low_bits k r) (64 - k) i
    ∙ ap (λ (l : List Bool). slice_index_or l i false) (sym word)

-- The bits of a number are those of one byte, if they end there,
pub byte_bits : (top : ℕ) → top < 2 ^ 64 → top * 128 % 2 ^ 64 ≡ 0 → SameBits (bits (top / 2 ^ 57 ∷ [])) (low_bits 64 top)
byte_bits top room none =
    let cell : ℕ = top / 2 ^ 57 in
    let whole : top ≡ cell * 2 ^ 57 = omega (arith, none, room) in
    let all : low_bits 64 top ≡ bits (cell ∷ []) ++ replicate 57 false =
    ap (low_bits 64) whole ∙ shifted 7 57 cell ∙ ap (λ (l : List Bool). l ++ replicate 57 false) (of_byte cell) in
    λ i. sym (padded (bits (cell ∷ [])) 57 i) ∙ ap (λ (l : List Bool). slice_index_or l i false) (sym all)

-- and those of two bytes, if they end there.
pub pair_bits : (top : ℕ) → top < 2 ^ 64 → top * 16384 % 2 ^ 64 ≡ 0
    → SameBits (bits (top / 2 ^ 57 ∷ top * 128 % 2 ^ 64 / 2 ^ 57 ∷ [])) (low_bits 64 top)
pair_bits top room none =
    let a : ℕ = top / 2 ^ 57 in
    let b : ℕ = top * 128 % 2 ^ 64 / 2 ^ 57 in
    let whole : top ≡ (a * 2 ^ 7 + b) * 2 ^ 50 = omega (arith, none, room) in
    let upper : (a * 2 ^ 7 + b) / 2 ^ 7 ≡ a = omega (arith, room) in
    let both : low_bits 14 (a * 2 ^ 7 + b) ≡ bits (a ∷ b ∷ []) =
    split 7 7 (a * 2 ^ 7 + b) ∙ ap (λ (x : ℕ). low_bits 7 x ++ low_bits 7 (a * 2 ^ 7 + b)) upper
    ∙ ap (λ (l : List Bool). l ++ low_bits 7 (a * 2 ^ 7 + b)) (of_byte a)
    ∙ ap (λ (l : List Bool). seven_bits a ++ l) (above 7 a b ∙ of_byte b) in
    let all : low_bits 64 top ≡ bits (a ∷ b ∷ []) ++ replicate 50 false =
    ap (low_bits 64) whole ∙ shifted 14 50 (a * 2 ^ 7 + b) ∙ ap (λ (l : List Bool). l ++ replicate 50 false) both in
    λ i. sym (padded (bits (a ∷ b ∷ [])) 50 i) ∙ ap (λ (l : List Bool). slice_index_or l i false) (sym all)

-- One bit of a word after those above it.
pub next_bit : (w n i : ℕ) → i < n → low_bits i (w / 2 ^ (n - i)) ++ nat_eq ((w / 2 ^ (n - 1 - i)) % 2) 1 ∷ [] ≡ low_bits (i + 1) (w / 2 ^ (n - (i + 1)))
unfolding low_bits
next_bit w n i less =
    let here : n - (i + 1) ≡ n - 1 - i = omega (arith, less) in
    let before : n - i ≡ suc (n - 1 - i) = omega (arith, less) in
    let more : i + 1 ≡ suc i = omega arith in
    let half : w / 2 ^ (n - 1 - i) / 2 ≡ w / 2 ^ (n - i) = div-div-eq-div-mul w (2 ^ (n - 1 - i)) 2
    ∙ ap (λ (y : ℕ). w / y) (sym (pow-suc 2 (n - 1 - i)) ∙ ap (λ (k : ℕ). 2 ^ k) (sym before)) in
    ap (λ (y : ℕ). low_bits i y ++ nat_eq ((w / 2 ^ (n - 1 - i)) % 2) 1 ∷ []) (sym half)
    ∙ ap (λ (k : ℕ). low_bits (suc i) (w / 2 ^ k)) (sym here) ∙ ap (λ (k : ℕ). low_bits k (w / 2 ^ (n - (i + 1)))) (sym more)

-- All bits of a word.
pub all_bits : (w i : ℕ) → 63 - count_leading_zeros 64 w ≡ i → low_bits i (w / 2 ^ (63 - count_leading_zeros 64 w - i)) ≡ bits_after w
all_bits w i is =
    let none : 63 - count_leading_zeros 64 w - i ≡ 0 = omega (arith, is) in
    let one : w / 2 ^ 0 ≡ w = omega arith in
    ap (λ (k : ℕ). low_bits i (w / 2 ^ k)) none ∙ ap (low_bits i) one ∙ ap (λ (k : ℕ). low_bits k w) (sym is)

-- What is in a vector and a word, from an index that is in the word on,
pub in_word : (more : List Bool) (word : ℕ) (all : List Bool) (from size : ℕ) → more ++ bits_after word ≡ all → size ≡ length more → size ≤ from
    → drop (from - size) (bits_after word) ≡ drop from all
in_word more word all from size whole is far =
    let index : length more + (from - size) ≡ from = omega (arith, is, far) in
    sym (drop-append-add more (bits_after word) (from - size)) ∙ ap (λ (n : ℕ). drop n (more ++ bits_after word)) index ∙ ap (drop from) whole

-- and up to there.
pub up_to_word : (more : List Bool) (word : ℕ) (all : List Bool) (to size : ℕ) → more ++ bits_after word ≡ all → size ≡ length more → size ≤ to
    → more ++ take (to - size) (bits_after word) ≡ take to all
up_to_word more word all to size whole is far =
    let index : length more + (to - size) ≡ to = omega (arith, is, far) in
    sym (take-append-add more (bits_after word) (to - size)) ∙ ap (λ (n : ℕ). take n (more ++ bits_after word)) index ∙ ap (take to) whole
