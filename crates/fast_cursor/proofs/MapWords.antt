-- Words that hold bits of a map.
use Rattle.std.proofs.Common.{refl, sym, ap, subst, ◌∙◌, arith, rules, inl, inr, lit<}
use Rattle.std.specs.Prelude.{◌≡◌, ℕ, zero, suc, ◌+◌, ◌-◌, ◌*◌, ◌/◌, ◌%◌, ◌^◌, ◌<◌, ◌≤◌, min, nat_eq, nat_le, Bool, false, List, [], ◌∷◌}
use Rattle.std.specs.Prelude.{◌++◌, length, drop, take}
use Rattle.std.proofs.lemmas.List.{drop_all, drop-drop, take-append-drop, length-take-le, length-drop}
use Rattle.std.proofs.lemmas.Bool.{cases_lt, le-leb}
use Rattle.std.proofs.lemmas.Nat.{pow-add, pow_pos, mul-mod_first, shl_whole}
use Rattle.std.proofs.lemmas.Grind.{flat_map-append}
use Rattle.std.proofs.Math.Nat.{mul-le-mul_left, mul-le-mul_right, add-mul, suc-mul, mul_assoc, add_assoc, mod-lt, pow-suc, pow-succ'}
use Rattle.fast_wire.specs.meaning.Entities.{number}
use Rattle.fast_wire.specs.meaning.Maps.{bits, seven_bits, later_bits}
use Rattle.fast_wire.proofs.numbers.Judging.{power_of_128}
use Rattle.fast_wire.proofs.numbers.Numbers.{number-lt}
use Rattle.fast_cursor.specs.device.MapPlaces.{HasTop}

low-test : (word : ℕ) → word < 9223372036854775808 → nat_le 9223372036854775808 word ≡ false
low-test word h = search (rules, h)

-- behind the last bit
pub top-zeros : (n word : ℕ) → word * 2 ^ n ≡ 9223372036854775808 → HasTop n word []
top-zeros zero word e = omega (arith, e)
top-zeros (suc n) word e =
    let twice : word * 2 * 2 ^ n ≡ 9223372036854775808 = let f = pow-succ' 2 n in mul_assoc word 2 (2 ^ n) ∙ ap (λ x. word * x) (sym f) ∙ e in
    let some : 0 < 2 ^ n = pow_pos n in
    let small : word * 2 * 1 ≤ word * 2 * 2 ^ n = mul-le-mul_left (word * 2) some in
    let same : word * 2 ≡ word * 2 % 18446744073709551616 = omega (arith, small, twice) in
    (low-test word (omega (arith, small, twice)), subst (λ w. HasTop n w []) same (top-zeros n (word * 2) twice))

-- a place behind the last bit
pub top-past : (at : ℕ) (bs : List Bool) → length bs ≤ at → HasTop 56 128 (drop at bs)
top-past at bs h = subst (HasTop 56 128) (sym (drop_all at bs h)) (top-zeros 56 128 refl)

-- one bit before others
top-bit : (n word d y : ℕ) (bs : List Bool) → d < 2 → word ≡ d * 9223372036854775808 + y → y < 9223372036854775808 → HasTop n (y * 2) bs
    → HasTop (suc n) word (nat_eq d 1 ∷ bs)
top-bit n word zero y bs two e small h =
    let same : word * 2 % 18446744073709551616 ≡ y * 2 = omega arith in
    (low-test word (omega arith), subst (λ w. HasTop n w bs) (sym same) h)
top-bit n word (suc zero) y bs two e small h =
    let same : word * 2 % 18446744073709551616 ≡ y * 2 = omega arith in
    (le-leb 9223372036854775808 word (omega arith), subst (λ w. HasTop n w bs) (sym same) h)
top-bit n word (suc (suc d)) y bs two e small h = absurd (omega arith)

-- the bits of a byte before others
pub top-byte : (n z b : ℕ) (bs : List Bool) → z < 144115188075855872 → HasTop n (z * 128) bs
    → HasTop (suc (suc (suc (suc (suc (suc (suc n))))))) ((b % 128) * 144115188075855872 + z) (seven_bits b ++ bs)
top-byte n z b bs small h =
    let last : HasTop n (64 * z * 2) bs = let same : z * 128 ≡ 64 * z * 2 = omega arith in subst (λ w. HasTop n w bs) same h in
    let bits-0 : List Bool = nat_eq (b / 1 % 2) 1 ∷ bs in
    let bits-1 : List Bool = nat_eq (b / 2 % 2) 1 ∷ bits-0 in
    let bits-2 : List Bool = nat_eq (b / 4 % 2) 1 ∷ bits-1 in
    let bits-3 : List Bool = nat_eq (b / 8 % 2) 1 ∷ bits-2 in
    let bits-4 : List Bool = nat_eq (b / 16 % 2) 1 ∷ bits-3 in
    let bits-5 : List Bool = nat_eq (b / 32 % 2) 1 ∷ bits-4 in
    top-bit (suc (suc (suc (suc (suc (suc n)))))) ((b % 128) * 144115188075855872 + z) (b / 64 % 2)
    ((b % 64) * 144115188075855872 + z) bits-5 (omega arith) (omega arith) (omega arith)
    (top-bit (suc (suc (suc (suc (suc n))))) (((b % 64) * 144115188075855872 + z) * 2) (b / 32 % 2)
    ((b % 32) * 288230376151711744 + 2 * z) bits-4 (omega arith) (omega arith) (omega arith)
    (top-bit (suc (suc (suc (suc n)))) (((b % 32) * 288230376151711744 + 2 * z) * 2) (b / 16 % 2)
    ((b % 16) * 576460752303423488 + 4 * z) bits-3 (omega arith) (omega arith) (omega arith)
    (top-bit (suc (suc (suc n))) (((b % 16) * 576460752303423488 + 4 * z) * 2) (b / 8 % 2) ((b % 8) * 1152921504606846976 + 8 * z) bits-2
    (omega arith) (omega arith) (omega arith)
    (top-bit (suc (suc n)) (((b % 8) * 1152921504606846976 + 8 * z) * 2) (b / 4 % 2) ((b % 4) * 2305843009213693952 + 16 * z) bits-1
    (omega arith) (omega arith) (omega arith)
    (top-bit (suc n) (((b % 4) * 2305843009213693952 + 16 * z) * 2) (b / 2 % 2) ((b % 2) * 4611686018427387904 + 32 * z) bits-0
    (omega arith) (omega arith) (omega arith)
    (top-bit n (((b % 2) * 4611686018427387904 + 32 * z) * 2) (b / 1 % 2) (64 * z) bs (omega arith) (omega arith) (omega arith) last))))))

-- the bits of some bytes before others
top-bytes : (w : List ℕ) (m c : ℕ) (bs : List Bool) → length w ≤ 8 → c < 2 ^ (64 - 7 * length w) → HasTop m (c * 2 ^ (7 * length w)) bs
    → HasTop (7 * length w + m) (number w * 2 ^ (64 - 7 * length w) + c) (bits w ++ bs)
top-bytes [] m c bs l low h =
    let e : m ≡ 0 + m = omega arith in
    let f : c * 2 ^ (7 * 0) ≡ 0 * 2 ^ (64 - 7 * 0) + c = omega arith in
    subst (λ x. HasTop (0 + m) x bs) f (subst (λ n. HasTop n (c * 2 ^ (7 * 0)) bs) e h)
top-bytes (b ∷ w) m c bs l low h =
    let k : ℕ = length w in
    let p : ℕ = 2 ^ (57 - 7 * k) in
    let z : ℕ = number w * p + c in
    let more : 64 - 7 * k ≡ 7 + (57 - 7 * k) = omega arith in
    let wide : 2 ^ (64 - 7 * k) ≡ 128 * p = ap (λ n. 2 ^ n) more ∙ pow-add 2 7 (57 - 7 * k) in
    let here : 64 - 7 * suc k ≡ 57 - 7 * k = omega arith in
    let below : c < p = subst (λ n. c < 2 ^ n) here low in
    let all : 7 * k + (57 - 7 * k) ≡ 57 = omega arith in
    let whole : 128 ^ k * p ≡ 144115188075855872 = ap (λ x. x * p) (power_of_128 k) ∙ sym (pow-add 2 (7 * k) (57 - 7 * k)) ∙ ap (λ n. 2 ^ n) all in
    let room : suc (number w) * p ≤ 128 ^ k * p = mul-le-mul_right p (number-lt w) in
    let one : suc (number w) * p ≡ number w * p + p = suc-mul (number w) p in
    let small : z < 144115188075855872 = omega (arith, room, one, whole, below) in
    let value : number (b ∷ w) * 2 ^ (64 - 7 * suc k) + c ≡ (b % 128) * 144115188075855872 + z
    = ap (λ n. number (b ∷ w) * 2 ^ n + c) here ∙ ap (λ x. x + c) (add-mul ((b % 128) * 128 ^ k) (number w) p
    ∙ ap (λ x. x + number w * p) (mul_assoc (b % 128) (128 ^ k) p ∙ ap (λ x. (b % 128) * x) whole))
    ∙ add_assoc ((b % 128) * 144115188075855872) (number w * p) c in
    let front : number w * 2 ^ (64 - 7 * k) ≡ number w * p * 128 = let e = mul_assoc (number w) p 128 in
    let f : 128 * p ≡ p * 128 = omega arith in ap (λ x. number w * x) (wide ∙ f) ∙ sym e in
    let next : number w * 2 ^ (64 - 7 * k) + c * 128 ≡ z * 128 = omega (arith, front) in
    let up : 7 * suc k ≡ 7 + 7 * k = omega arith in
    let moved : c * 2 ^ (7 * suc k) ≡ c * 128 * 2 ^ (7 * k) = ap (λ n. c * 2 ^ n) up ∙ ap (λ x. c * x) (pow-add 2 7 (7 * k))
    ∙ sym (mul_assoc c 128 (2 ^ (7 * k))) in
    let rest : HasTop (7 * k + m) (z * 128) (bits w ++ bs) =
    subst (λ x. HasTop (7 * k + m) x (bits w ++ bs)) next
    (top-bytes w m (c * 128) bs (omega arith) (omega (arith, wide, below)) (subst (λ x. HasTop m x bs) moved h)) in
    let count : suc (suc (suc (suc (suc (suc (suc (7 * k + m))))))) ≡ 7 * suc k + m = omega arith in
    subst (λ x. HasTop (7 * suc k + m) x (bits (b ∷ w) ++ bs)) (sym value)
    (subst (λ n. HasTop n ((b % 128) * 144115188075855872 + z) (bits (b ∷ w) ++ bs)) count (top-byte (7 * k + m) z b (bits w ++ bs) small rest))

-- the word of up to eight bytes, behind which others are only if they are eight
pub top-word : (w : List ℕ) (sum word : ℕ) (rest : List Bool) → length w ≤ 8 → sum ≡ number w
    → word ≡ (sum * 2 ^ (56 - 7 * length w) % 2 ^ 64) * 2 ^ 8 % 2 ^ 64 + 128 → (length w < 8 → rest ≡ []) → HasTop 56 word (bits w ++ rest)
top-word w sum word rest l e is none =
    let k : ℕ = length w in
    let m : ℕ = 56 - 7 * k in
    let count : 7 * k + m ≡ 56 = omega arith in
    let more : 64 - 7 * k ≡ m + 8 = omega arith in
    let fits : number w < 2 ^ (7 * k) = subst (λ x. number w < x) (power_of_128 k) (number-lt w) in
    let value : word ≡ number w * 2 ^ (64 - 7 * k) + 128
    = is ∙ ap (λ x. x + 128) (mul-mod_first (sum * 2 ^ m) (2 ^ 8) (2 ^ 64)
    ∙ ap (λ x. x % 2 ^ 64) (mul_assoc sum (2 ^ m) (2 ^ 8) ∙ ap (λ x. sum * x) (sym (pow-add 2 m 8)) ∙ ap (λ n. sum * 2 ^ n) (sym more)
    ∙ ap (λ s. s * 2 ^ (64 - 7 * k)) e)
    ∙ shl_whole (number w) (7 * k) (64 - 7 * k) 64 fits (omega arith)) in
    let room : 128 < 2 ^ (64 - 7 * k) = let wide : 2 ^ (64 - 7 * k) ≡ 2 ^ m * 256 = ap (λ n. 2 ^ n) more ∙ pow-add 2 m 8 in
    let some = pow_pos m in omega (arith, wide, some) in
    let mark : 128 * 2 ^ (7 * k) * 2 ^ m ≡ 9223372036854775808 = mul_assoc 128 (2 ^ (7 * k)) (2 ^ m)
    ∙ ap (λ x. 128 * x) (sym (pow-add 2 (7 * k) m) ∙ ap (λ n. 2 ^ n) count) in
    let behind : HasTop m (128 * 2 ^ (7 * k)) rest = elim (cases_lt k 8) [
      | inl h ↦ subst (HasTop m (128 * 2 ^ (7 * k))) (sym (none h)) (top-zeros m (128 * 2 ^ (7 * k)) mark)
      | inr h ↦
          let nought : m ≡ 0 = omega (arith, h) in
          let top : 128 * 2 ^ (7 * k) ≡ 9223372036854775808 = let one =
          subst (λ n. 128 * 2 ^ (7 * k) * 2 ^ n ≡ 9223372036854775808) nought mark in omega (arith, one) in
          subst (λ n. HasTop n (128 * 2 ^ (7 * k)) rest) (sym nought) top
    ] in
    subst (λ x. HasTop 56 x (bits w ++ rest)) (sym value) (subst (λ n. HasTop n (number w * 2 ^ (64 - 7 * k) + 128) (bits w ++ rest)) count
    (top-bytes w m 128 rest l room behind))

-- whole bytes are left out
pub bits-drop : (w : List ℕ) (n : ℕ) → drop (7 * n) (bits w) ≡ bits (drop n w)
bits-drop w zero = refl
bits-drop [] (suc n) = drop_all (7 * suc n) [] (omega arith)
bits-drop (b ∷ w) (suc n) = let e : 7 * suc n ≡ suc (suc (suc (suc (suc (suc (suc (7 * n))))))) = omega arith in
    ap (λ k. drop k (bits (b ∷ w))) e ∙ bits-drop w n

-- the word of the bytes from a place on
pub top-from : (map : List ℕ) (first n word : ℕ) → n ≡ min (length map - first) 8
    → ((rest : List Bool) → (length (take n (drop first map)) < 8 → rest ≡ []) → HasTop 56 word (bits (take n (drop first map)) ++ rest))
    → HasTop 56 word (drop (7 * first) (bits map))
top-from map first n word is top =
    let w : List ℕ = drop first map in
    let size : length w ≡ length map - first = length-drop first map in
    let count : length (take n w) ≡ n = length-take-le n w (omega (arith, size, is)) in
    let split : bits (take n w) ++ bits (drop n w) ≡ bits w = sym (flat_map-append seven_bits (take n w) (drop n w)) ∙ ap bits (take-append-drop n w) in
    subst (HasTop 56 word) (split ∙ sym (bits-drop map first)) (top (bits (drop n w)) (λ h. ap bits (drop_all n w (omega (arith, h, count, size, is)))))

drop-later : (k : ℕ) (bs : List Bool) → drop k (later_bits bs) ≡ drop (suc k) bs
drop-later zero [] = refl
drop-later (suc k) [] = refl
drop-later k (b ∷ bs) = refl

-- bits are shifted out
pub top-shift : (k n word : ℕ) (bs : List Bool) → word < 18446744073709551616 → HasTop (k + n) word bs
    → HasTop n (word * 2 ^ k % 18446744073709551616) (drop k bs)
top-shift zero n word bs fits h =
    let same : word ≡ word * 2 ^ 0 % 18446744073709551616 = omega arith in
    let count : 0 + n ≡ n = omega arith in
    subst (λ w. HasTop n w bs) same (subst (λ m. HasTop m word bs) count h)
top-shift (suc k) n word bs fits h =
    let m : ℕ = 18446744073709551616 in
    let twice : 2 ^ suc k ≡ 2 * 2 ^ k = let e = pow-suc 2 k in omega (arith, e) in
    let same : (word * 2 % m) * 2 ^ k % m ≡ word * 2 ^ suc k % m = mul-mod_first (word * 2) (2 ^ k) m
    ∙ ap (λ x. x % m) (mul_assoc word 2 (2 ^ k) ∙ ap (λ x. word * x) (sym twice)) in
    let count : suc k + n ≡ suc (k + n) = omega arith in
    let behind : HasTop (suc (k + n)) word bs = subst (λ m. HasTop m word bs) count h in
    subst (λ w. HasTop n w (drop (suc k) bs)) same (subst (HasTop n ((word * 2 % m) * 2 ^ k % m)) (drop-later k bs)
    (top-shift k n (word * 2 % m) (later_bits bs) (mod-lt (word * 2) (lit< tt)) behind.1))

-- what is left of a word behind so many bits
pub top-left : (map : List ℕ) (end left word : ℕ) → 8 ≤ end → left ≤ 56 → word < 18446744073709551616
    → HasTop 56 word (drop (7 * (end - 8)) (bits map)) → HasTop left (word * 2 ^ (56 - left) % 18446744073709551616)
    (drop (7 * end - left) (bits map))
top-left map end left word e l fits h =
    let count : 56 ≡ 56 - left + left = omega arith in
    let at : 7 * (end - 8) + (56 - left) ≡ 7 * end - left = omega arith in
    subst (HasTop left (word * 2 ^ (56 - left) % 18446744073709551616)) (drop-drop (56 - left) (7 * (end - 8)) (bits map) ∙ ap (λ n. drop n (bits map)) at)
    (top-shift (56 - left) left word (drop (7 * (end - 8)) (bits map)) fits (subst (λ n. HasTop n word (drop (7 * (end - 8)) (bits map))) count h))
