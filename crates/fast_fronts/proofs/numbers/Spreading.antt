-- An entity at the upper end of four bytes, brought to the lower end with its sign above it.
use Rattle.std.proofs.Common.{◌≡◌, ℕ, suc, ◌+◌, ◌*◌, ◌-◌, ◌%◌, ◌/◌, ◌^◌, ◌<◌, ◌≤◌, ◌⊎◌, inl, inr, List, [], ◌∷◌, ◌++◌, refl, ap, sym, subst}
use Rattle.std.proofs.Common.{◌∙◌, length, arith, lit<, length-append}
use Rattle.std.specs.Prelude.{pos, negsuc, ◌-ℤ◌, true, false}
use Rattle.std.proofs.Math.Nat.{div-le_self}
use Rattle.std.proofs.lemmas.Bool.{le-ltb, cases_lt}
use Rattle.std.proofs.lemmas.Bool.Decides.{nat_tests}
use Rattle.std.proofs.lemmas.Int.{ints, to_z-of_z, to_z_pos}
use Rattle.std.proofs.lemmas.List.Elements.{All-nil, All-cons, All-head, All-tail}
use mir.Syntax.{w32}
use mir.Val.{to_z, of_z}
use lib.Signed.{shr_z}
use Rattle.fast_wire.specs.meaning.Entities.{number, has_sign, signed}
use Rattle.fast_wire.specs.device.Words.{word_of, IsSpread}
use Rattle.fast_wire.proofs.numbers.Signs.{signed_clear, signed_set}
use Rattle.fast_wire.proofs.stop_bits.FirstStop.{AreBytes, word-lt, rest_are_bytes}

-- what the code computes of a word, shifted up by one bit and down to step
abbrev pub spread_of : ℕ → ℕ → ℕ
spread_of word step = of_z w32 (to_z w32 (of_z w32 (shr_z (to_z w32 (of_z w32 (to_z w32 (word * 2 % 4294967296)))) step)))

low_spread : (word step x : ℕ) → 0 < step → word * 2 % 4294967296 ≡ x → x < 2147483648 → spread_of word step ≡ x / step
low_spread word step x some e h =
    let small : x / step ≤ x = div-le_self x step in
    ap (λ y. of_z w32 (to_z w32 (of_z w32 (shr_z (to_z w32 (of_z w32 (to_z w32 y))) step)))) e
    ∙ ap (λ z. of_z w32 (to_z w32 (of_z w32 (shr_z (to_z w32 (of_z w32 z)) step)))) (to_z_pos w32 x h)
    ∙ ap (λ z. of_z w32 (to_z w32 (of_z w32 (shr_z z step)))) (to_z-of_z w32 (pos x) (record { sfits = h }))
    ∙ ap (of_z w32) (to_z-of_z w32 (pos (x / step)) (record { sfits = omega arith }))

high_spread : (word step x : ℕ) → 0 < step → word * 2 % 4294967296 ≡ x → 2147483648 ≤ x → x < 4294967296
    → spread_of word step ≡ 4294967296 - suc ((4294967296 - suc x) / step)
high_spread word step x some e h top =
    let n = 4294967296 - suc x in
    let is : to_z w32 x ≡ negsuc n = rw (le-ltb x 2147483648 h) refl in
    let small : n / step ≤ n = div-le_self n step in
    ap (λ y. of_z w32 (to_z w32 (of_z w32 (shr_z (to_z w32 (of_z w32 (to_z w32 y))) step)))) e
    ∙ ap (λ z. of_z w32 (to_z w32 (of_z w32 (shr_z (to_z w32 (of_z w32 z)) step)))) is
    ∙ ap (λ z. of_z w32 (to_z w32 (of_z w32 (shr_z z step)))) (to_z-of_z w32 (negsuc n) (record { sfits = omega arith }))
    ∙ ap (of_z w32) (to_z-of_z w32 (negsuc (n / step)) (record { sfits = omega arith }))

-- four bytes, each below 256
four : (a b c d : ℕ) → a < 256 → b < 256 → c < 256 → d < 256 → AreBytes (a ∷ b ∷ c ∷ d ∷ [])
four a b c d h i j k = All-cons (λ byte. byte < 256) a (b ∷ c ∷ d ∷ []) h
    (All-cons (λ byte. byte < 256) b (c ∷ d ∷ []) i (All-cons (λ byte. byte < 256) c (d ∷ []) j
    (All-cons (λ byte. byte < 256) d [] k (All-nil (λ byte. byte < 256)))))

-- the sign of the first byte
clear_of : (a : ℕ) (v : List ℕ) → a % 128 < 64 → has_sign (a ∷ v) ≡ false
clear_of a v h = grind (arith, nat_tests)

set_of : (a : ℕ) (v : List ℕ) → 64 ≤ a % 128 → has_sign (a ∷ v) ≡ true
set_of a v h = grind (arith, nat_tests)

-- bytes with the same sign stand for the same integer, if their numbers differ by as much as their powers of two
both_clear : (w v : List ℕ) → has_sign w ≡ false → has_sign v ≡ false → number w ≡ number v → signed w ≡ signed v
both_clear w v h i e = signed_clear w h ∙ ap pos e ∙ sym (signed_clear v i)

both_set : (w v : List ℕ) → has_sign w ≡ true → has_sign v ≡ true → number w + 128 ^ length v ≡ number v + 128 ^ length w → signed w ≡ signed v
both_set w v h i e =
    let d : pos (number w) -ℤ pos (128 ^ length w) ≡ pos (number v) -ℤ pos (128 ^ length v) = omega (arith, ints) in
    signed_set w h ∙ d ∙ sym (signed_set v i)

by_one : (a rest word u : ℕ) → a < 256 → rest < 16777216 → word ≡ (a) * 16777216 + rest → u ≡ spread_of word 33554432 → IsSpread u (a ∷ [])
by_one a rest word u h small is e = by (cases_lt (a % 128) 64)
  where
    by : (a % 128 < 64) ⊎ (64 ≤ a % 128) → IsSpread u (a ∷ [])
    by (inl clear) =
        let r : ℕ = a % 128 in
        let x : ℕ = (r * 1) * 33554432 + 2 * rest in
        let shifted : word * 2 % 4294967296 ≡ x = omega arith in
        let s : u ≡ x / 33554432 = e ∙ low_spread word 33554432 x (lit< tt) shifted (omega arith) in
        let w : List ℕ = 0 ∷ 0 ∷ 0 ∷ (a % 128) ∷ [] in (
          w,
          refl,
          four 0 0 0 (a % 128) (omega arith) (omega arith) (omega arith) (omega arith),
          omega arith,
          both_clear w (a ∷ []) refl (clear_of a ([]) clear) (omega arith),
        )
    by (inr set) =
        let r : ℕ = a % 128 in
        let x : ℕ = (r * 1) * 33554432 + 2 * rest in
        let shifted : word * 2 % 4294967296 ≡ x = omega arith in
        let s : u ≡ 4294967296 - suc ((4294967296 - suc x) / 33554432) = e ∙ high_spread word 33554432 x (lit< tt) shifted (omega arith) (omega arith) in
        let w : List ℕ = 255 ∷ 255 ∷ 255 ∷ (128 + a % 128) ∷ [] in (
          w,
          refl,
          four 255 255 255 (128 + a % 128) (omega arith) (omega arith) (omega arith) (omega arith),
          omega arith,
          both_set w (a ∷ []) refl (set_of a ([]) set) (omega arith),
        )

by_two : (a b rest word u : ℕ) → a < 256 → b < 256 → rest < 65536 → word ≡ (a * 256 + b) * 65536 + rest → u ≡ spread_of word 131072 → IsSpread u (a ∷ b ∷ [])
by_two a b rest word u h i small is e = by (cases_lt (a % 128) 64)
  where
    by : (a % 128 < 64) ⊎ (64 ≤ a % 128) → IsSpread u (a ∷ b ∷ [])
    by (inl clear) =
        let r : ℕ = a % 128 in
        let x : ℕ = (r * 256 + b) * 131072 + 2 * rest in
        let shifted : word * 2 % 4294967296 ≡ x = omega arith in
        let s : u ≡ x / 131072 = e ∙ low_spread word 131072 x (lit< tt) shifted (omega arith) in
        let w : List ℕ = 0 ∷ 0 ∷ (a % 128) ∷ b ∷ [] in (
          w,
          refl,
          four 0 0 (a % 128) b (omega arith) (omega arith) (omega arith) (i),
          omega arith,
          both_clear w (a ∷ b ∷ []) refl (clear_of a (b ∷ []) clear) (omega arith),
        )
    by (inr set) =
        let r : ℕ = a % 128 in
        let x : ℕ = (r * 256 + b) * 131072 + 2 * rest in
        let shifted : word * 2 % 4294967296 ≡ x = omega arith in
        let s : u ≡ 4294967296 - suc ((4294967296 - suc x) / 131072) = e ∙ high_spread word 131072 x (lit< tt) shifted (omega arith) (omega arith) in
        let w : List ℕ = 255 ∷ 255 ∷ (128 + a % 128) ∷ b ∷ [] in (
          w,
          refl,
          four 255 255 (128 + a % 128) b (omega arith) (omega arith) (omega arith) (i),
          omega arith,
          both_set w (a ∷ b ∷ []) refl (set_of a (b ∷ []) set) (omega arith),
        )

by_three : (a b c rest word u : ℕ) → a < 256 → b < 256 → c < 256 → rest < 256 → word ≡ (a * 65536 + b * 256 + c) * 256 + rest
    → u ≡ spread_of word 512 → IsSpread u (a ∷ b ∷ c ∷ [])
by_three a b c rest word u h i j small is e = by (cases_lt (a % 128) 64)
  where
    by : (a % 128 < 64) ⊎ (64 ≤ a % 128) → IsSpread u (a ∷ b ∷ c ∷ [])
    by (inl clear) =
        let r : ℕ = a % 128 in
        let x : ℕ = (r * 65536 + b * 256 + c) * 512 + 2 * rest in
        let shifted : word * 2 % 4294967296 ≡ x = omega arith in
        let s : u ≡ x / 512 = e ∙ low_spread word 512 x (lit< tt) shifted (omega arith) in
        let w : List ℕ = 0 ∷ (a % 128) ∷ b ∷ c ∷ [] in (
          w,
          refl,
          four 0 (a % 128) b c (omega arith) (omega arith) (i) (j),
          omega arith,
          both_clear w (a ∷ b ∷ c ∷ []) refl (clear_of a (b ∷ c ∷ []) clear) (omega arith),
        )
    by (inr set) =
        let r : ℕ = a % 128 in
        let x : ℕ = (r * 65536 + b * 256 + c) * 512 + 2 * rest in
        let shifted : word * 2 % 4294967296 ≡ x = omega arith in
        let s : u ≡ 4294967296 - suc ((4294967296 - suc x) / 512) = e ∙ high_spread word 512 x (lit< tt) shifted (omega arith) (omega arith) in
        let w : List ℕ = 255 ∷ (128 + a % 128) ∷ b ∷ c ∷ [] in (
          w,
          refl,
          four 255 (128 + a % 128) b c (omega arith) (omega arith) (i) (j),
          omega arith,
          both_set w (a ∷ b ∷ c ∷ []) refl (set_of a (b ∷ c ∷ []) set) (omega arith),
        )

by_four : (a b c d rest word u : ℕ) → a < 256 → b < 256 → c < 256 → d < 256 → rest < 1
    → word ≡ (a * 16777216 + b * 65536 + c * 256 + d) * 1 + rest → u ≡ spread_of word 2 → IsSpread u (a ∷ b ∷ c ∷ d ∷ [])
by_four a b c d rest word u h i j k small is e = by (cases_lt (a % 128) 64)
  where
    by : (a % 128 < 64) ⊎ (64 ≤ a % 128) → IsSpread u (a ∷ b ∷ c ∷ d ∷ [])
    by (inl clear) =
        let r : ℕ = a % 128 in
        let x : ℕ = (r * 16777216 + b * 65536 + c * 256 + d) * 2 + 2 * rest in
        let shifted : word * 2 % 4294967296 ≡ x = omega arith in
        let s : u ≡ x / 2 = e ∙ low_spread word 2 x (lit< tt) shifted (omega arith) in
        let w : List ℕ = (a % 128) ∷ b ∷ c ∷ d ∷ [] in (
          w,
          refl,
          four (a % 128) b c d (omega arith) (i) (j) (k),
          omega arith,
          both_clear w (a ∷ b ∷ c ∷ d ∷ []) (clear_of (a % 128) (b ∷ c ∷ d ∷ []) (omega arith)) (clear_of a (b ∷ c ∷ d ∷ []) clear) (omega arith),
        )
    by (inr set) =
        let r : ℕ = a % 128 in
        let x : ℕ = (r * 16777216 + b * 65536 + c * 256 + d) * 2 + 2 * rest in
        let shifted : word * 2 % 4294967296 ≡ x = omega arith in
        let s : u ≡ 4294967296 - suc ((4294967296 - suc x) / 2) = e ∙ high_spread word 2 x (lit< tt) shifted (omega arith) (omega arith) in
        let w : List ℕ = (128 + a % 128) ∷ b ∷ c ∷ d ∷ [] in (
          w,
          refl,
          four (128 + a % 128) b c d (omega arith) (i) (j) (k),
          omega arith,
          both_set w (a ∷ b ∷ c ∷ d ∷ []) (set_of (128 + a % 128) (b ∷ c ∷ d ∷ []) (omega arith)) (set_of a (b ∷ c ∷ d ∷ []) set) (omega arith),
        )

-- the rest of four bytes
rest_is : (front rest : List ℕ) → AreBytes (front ++ rest) → word_of rest < 2 ^ (8 * length rest)
rest_is front rest are = word-lt rest (rest_are_bytes front rest are)

pub spread_is : (word bits u : ℕ) (front rest : List ℕ) → bits ≡ 8 * length front → length (front ++ rest) ≡ 4 → AreBytes (front ++ rest)
    → word ≡ word_of (front ++ rest)
    → 8 ≤ bits → u ≡ spread_of word (2 ^ (33 - bits)) → IsSpread u front
spread_is word bits u [] rest count l are is some e = absurd (omega arith)
spread_is word bits u (a ∷ []) rest count l are is some e =
    let k : length rest ≡ 3 = omega arith in
    let h : a < 256 = All-head (λ byte. byte < 256) a rest are in
    let s : word_of rest < 16777216 = subst (λ n. word_of rest < 2 ^ (8 * n)) k (rest_is (a ∷ []) rest are) in
    let f : word ≡ a * 16777216 + word_of rest = is ∙ ap (λ n. a * 2 ^ (8 * n) + word_of rest) k in
    let b : 33 - bits ≡ 25 = omega arith in
    by_one a (word_of rest) word u h s f (e ∙ ap (λ n. spread_of word (2 ^ n)) b)
spread_is word bits u (a ∷ b ∷ []) rest count l are is some e =
    let k : length rest ≡ 2 = omega arith in
    let are1 : AreBytes (b ∷ rest) = All-tail (λ byte. byte < 256) a (b ∷ rest) are in
    let s : word_of rest < 65536 = subst (λ n. word_of rest < 2 ^ (8 * n)) k (rest_is (a ∷ b ∷ []) rest are) in
    let f : word ≡ a * 2 ^ (8 * suc 2) + (b * 2 ^ (8 * 2) + word_of rest) = is ∙ ap (λ n. a * 2 ^ (8 * suc n) + (b * 2 ^ (8 * n) + word_of rest)) k in
    let d : 33 - bits ≡ 17 = omega arith in
    by_two a b (word_of rest) word u (All-head (λ byte. byte < 256) a (b ∷ rest) are) (All-head (λ byte. byte < 256) b rest are1) s
    (omega arith) (e ∙ ap (λ n. spread_of word (2 ^ n)) d)
spread_is word bits u (a ∷ b ∷ c ∷ []) rest count l are is some e =
    let k : length rest ≡ 1 = omega arith in
    let are1 : AreBytes (b ∷ c ∷ rest) = All-tail (λ byte. byte < 256) a (b ∷ c ∷ rest) are in
    let are2 : AreBytes (c ∷ rest) = All-tail (λ byte. byte < 256) b (c ∷ rest) are1 in
    let s : word_of rest < 256 = subst (λ n. word_of rest < 2 ^ (8 * n)) k (rest_is (a ∷ b ∷ c ∷ []) rest are) in
    let f : word ≡ a * 2 ^ (8 * suc (suc 1)) + (b * 2 ^ (8 * suc 1) + (c * 2 ^ (8 * 1) + word_of rest)) = is
    ∙ ap (λ n. a * 2 ^ (8 * suc (suc n)) + (b * 2 ^ (8 * suc n) + (c * 2 ^ (8 * n) + word_of rest))) k in
    let d : 33 - bits ≡ 9 = omega arith in
    by_three a b c (word_of rest) word u (All-head (λ byte. byte < 256) a (b ∷ c ∷ rest) are)
    (All-head (λ byte. byte < 256) b (c ∷ rest) are1) (All-head (λ byte. byte < 256) c rest are2) s (omega arith)
    (e ∙ ap (λ n. spread_of word (2 ^ n)) d)
spread_is word bits u (a ∷ b ∷ c ∷ d ∷ []) rest count l are is some e =
    let k : length rest ≡ 0 = omega arith in
    let are1 : AreBytes (b ∷ c ∷ d ∷ rest) = All-tail (λ byte. byte < 256) a (b ∷ c ∷ d ∷ rest) are in
    let are2 : AreBytes (c ∷ d ∷ rest) = All-tail (λ byte. byte < 256) b (c ∷ d ∷ rest) are1 in
    let are3 : AreBytes (d ∷ rest) = All-tail (λ byte. byte < 256) c (d ∷ rest) are2 in
    let s : word_of rest < 1 = subst (λ n. word_of rest < 2 ^ (8 * n)) k (rest_is (a ∷ b ∷ c ∷ d ∷ []) rest are) in
    let f : word ≡ a * 2 ^ (8 * suc (suc (suc 0))) + (b * 2 ^ (8 * suc (suc 0)) + (c * 2 ^ (8 * suc 0) + (d * 2 ^ (8 * 0) + word_of rest)))
    = is ∙ ap (λ n. a * 2 ^ (8 * suc (suc (suc n))) + (b * 2 ^ (8 * suc
    (suc n)) + (c * 2 ^ (8 * suc n) + (d * 2 ^ (8 * n) + word_of rest)))) k in
    let z : 33 - bits ≡ 1 = omega arith in
    by_four a b c d (word_of rest) word u (All-head (λ byte. byte < 256) a (b ∷ c ∷ d ∷ rest) are)
    (All-head (λ byte. byte < 256) b (c ∷ d ∷ rest) are1) (All-head (λ byte. byte < 256) c (d ∷ rest) are2)
    (All-head (λ byte. byte < 256) d rest are3) s (omega arith) (e ∙ ap (λ n. spread_of word (2 ^ n)) z)
spread_is word bits u (a ∷ b ∷ c ∷ d ∷ x ∷ front) rest count l are is some e = absurd (omega (arith, length-append front rest))
