-- What a block's mask says.
use Rattle.std.proofs.Common.{◌≡◌, ℕ, ◌+◌, ◌-◌, ◌%◌, ◌^◌, ◌<◌, ◌≤◌, List, ap, sym, subst, ◌∙◌, length, get_or, arith, leb, w8, true, false}
use Rattle.std.proofs.Common.{cond, not, map, replicate}
use Rattle.std.specs.List.{prefix_len}
use lib.Lanes.{chunk, mask_l, zip2, top}
use mir.Val.{hbits}
use Rattle.std.proofs.lemmas.Simd.{length-chunk, get_or-chunk, tops_compared, zip2_splat_left, mask_l-mod}
use Rattle.std.proofs.lemmas.List.{length-map}
use Rattle.std.proofs.lemmas.Bool.Decides.{nat_tests}
use Rattle.std.proofs.lemmas.List.Sums.{prefix_len_passes, prefix_len_stops, prefix_len-le-length}

pub mask_is : (v : List ℕ) → length v ≡ 16 → mask_l (map (top (hbits w8))
    (zip2 (λ a b. cond (leb a b) (2 ^ 8 - 1) 0) (replicate 16 128) v)) % 2 ^ 64 ≡ mask_l (map (leb 128) v)
mask_is v h =
    let e = tops_compared w8 leb (replicate 16 128) v ∙ zip2_splat_left leb 128 16 v h in
    ap (λ ms. mask_l ms % 2 ^ 64) e ∙ mask_l-mod (map (leb 128) v) 64 (omega (arith, length-map v (leb 128)))

not_stop : (x : ℕ) → not (leb 128 x) ≡ true → x < 128
not_stop x h = grind (arith, nat_tests)

is_stop : (x : ℕ) → not (leb 128 x) ≡ false → 128 ≤ x
is_stop x h = grind (arith, nat_tests)

-- the bytes before the first stop of a block, and the stop
pub before_stop : (s : List ℕ) (at n k : ℕ) → n ≡ prefix_len (λ x. not (leb 128 x)) (chunk at 16 s) → n ≤ 16 → at ≤ k → k < at + n → get_or s k 0 < 128
before_stop s at n k e small le lt =
    let j : k - at < n = omega arith in
    let p = prefix_len_passes (λ x. not (leb 128 x)) (chunk at 16 s) (k - at) 0 (subst (λ m. k - at < m) e j) in
    let q : get_or (chunk at 16 s) (k - at) 0 ≡ get_or s (at + (k - at)) 0 = get_or-chunk at 16 s (k - at) 0 (omega arith) in
    let r : at + (k - at) ≡ k = omega arith in
    subst (λ m. get_or s m 0 < 128) r (subst (λ m. m < 128) q (not_stop _ p))

pub at_stop : (s : List ℕ) (at n : ℕ) → at + 16 ≤ length s → n ≡ prefix_len (λ x. not (leb 128 x)) (chunk at 16 s) → n < 16 → 128 ≤ get_or s (at + n) 0
at_stop s at n long e small =
    let l : length (chunk at 16 s) ≡ 16 = length-chunk at 16 s long in
    let p = prefix_len_stops (λ x. not (leb 128 x)) (chunk at 16 s) 0 (omega arith) in
    let q : get_or (chunk at 16 s) n 0 ≡ get_or s (at + n) 0 = get_or-chunk at 16 s n 0 small in
    subst (λ m. 128 ≤ m) q (is_stop _ (subst (λ m. not (leb 128 (get_or (chunk at 16 s) m 0)) ≡ false) (sym e) p))

pub small_prefix : (s : List ℕ) (at n : ℕ) → at + 16 ≤ length s → n ≡ prefix_len (λ x. not (leb 128 x)) (chunk at 16 s) → n ≤ 16
small_prefix s at n long e = omega (arith, length-chunk at 16 s long, prefix_len-le-length (λ x. not (leb 128 x)) (chunk at 16 s))
