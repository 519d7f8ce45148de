-- Bytes that are kept behind others, and the digits of an integer with a sign.
use borrow.Rule.Slice.PartMut.{put_mid, post_of}
use Rattle.std.proofs.Common.{◌≡◌, ℕ, ◌+◌, ◌≤◌, List, ◌∷◌, ◌++◌, refl, ap, ◌∙◌, length, take, arith, decimal, ℤ, pos, negsuc, ◌<ℤ◌}
use Rattle.std.proofs.lemmas.List.{take-append-le, length-take-le}
use Rattle.std.proofs.lemmas.Grind.{common_steps}
use Rattle.std.proofs.Math.Seq.{take-append-add}
use Rattle.std.specs.Fmt.{signed_decimal}
use Rattle.std.specs.Prelude.{unsigned_abs}

-- the front of a text, behind a list and before another
front_between : (a count : ℕ) (xs ys zs : List ℕ) → length xs ≡ a → count ≤ length ys → take (a + count) (xs ++ (ys ++ zs)) ≡ xs ++ take count ys
front_between a count xs ys zs long few = rw (← long) (take-append-add xs (ys ++ zs) count ∙ ap (λ (ws : List ℕ). xs ++ ws) (take-append-le count ys zs few))

-- the front of a block, behind what stands before it
pub kept_front : (a k count : ℕ) (xs ys : List ℕ) → a ≤ length xs → count ≤ length ys → take (a + count) (put_mid a k xs ys) ≡ take a xs ++ take count ys
kept_front a k count xs ys h few = front_between a count (take a xs) ys (post_of a k xs) (length-take-le a xs h) few

-- the sign of a negative integer, and its digits
pub with_sign : (z : ℤ) → z <ℤ pos 0 → 45 ∷ decimal (unsigned_abs z) ≡ signed_decimal z
with_sign (pos n) h = absurd (grind (arith, common_steps, h.lt))
with_sign (negsuc n) h = refl
