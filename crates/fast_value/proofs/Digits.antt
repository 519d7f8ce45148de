-- The number that decimal digits stand for, one digit after the other.
use Rattle.std.proofs.Common.{◌≡◌, ℕ, suc, ◌+◌, ◌-◌, ◌*◌, ◌^◌, ◌<◌, ◌≤◌, List, [], ◌∷◌, ◌++◌, length, take, get_or, ap, sym, ◌∙◌, arith, length-append}
use Rattle.std.specs.Prelude.{All}
use Rattle.std.specs.Char.{IsAsciiDigit}
use Rattle.std.proofs.Math.Nat.{pow-suc, mul-le-mul_right, pow-le-pow_right}
use Rattle.std.proofs.lemmas.List.{take_more}
use Rattle.std.proofs.lemmas.List.Elements.{All-head, All-tail}
use Rattle.fast_value.specs.meaning.Initial.{digits_value}

-- one digit more behind the others
pub digits_value-push : (ds : List ℕ) (d : ℕ) → digits_value (ds ++ d ∷ []) ≡ digits_value ds * 10 + (d - 0x30)
digits_value-push [] d = omega arith
digits_value-push (c ∷ ds) d =
    let ih = digits_value-push ds d in
    let l : length (ds ++ d ∷ []) ≡ suc (length ds) = length-append ds (d ∷ []) ∙ (let s : length ds + 1 ≡ suc (length ds) = omega arith in s) in
    let p : 10 ^ length (ds ++ d ∷ []) ≡ 10 ^ length ds * 10 = ap (λ n. 10 ^ n) l ∙ pow-suc 10 (length ds) in
    ap (λ q. (c - 0x30) * q + digits_value (ds ++ d ∷ [])) p ∙ ap (λ v. (c - 0x30) * (10 ^ length ds * 10) + v) ih ∙ omega arith

-- so many digits stand for a number below that power of ten
pub digits_value-small : (ds : List ℕ) → All IsAsciiDigit ds → digits_value ds < 10 ^ length ds
digits_value-small [] digits = omega arith
digits_value-small (d ∷ ds) digits =
    let ih = digits_value-small ds (All-tail IsAsciiDigit d ds digits) in
    let here = All-head IsAsciiDigit d ds digits in
    let small : d - 0x30 ≤ 9 = omega (arith, here) in
    let p = pow-suc 10 (length ds) in
    let m = mul-le-mul_right (10 ^ length ds) small in
    omega (arith, ih, p, m)

-- up to 20 digits
pub digits_value-below : (ds : List ℕ) → All IsAsciiDigit ds → length ds ≤ 20 → digits_value ds < 10 ^ 20
digits_value-below ds digits short =
    let small = digits_value-small ds digits in
    let p : 10 ^ length ds ≤ 10 ^ 20 = pow-le-pow_right (let z : 0 < 10 = omega arith in z) short in
    omega (arith, small, p)

-- one digit more is read
pub digits_value-more : (ds : List ℕ) (i d n : ℕ) → i < length ds → n ≡ digits_value (take i ds)
    → n * 10 + (get_or ds i d - 0x30) ≡ digits_value (take (i + 1) ds)
digits_value-more ds i d n inside read =
    ap (λ m. m * 10 + (get_or ds i d - 0x30)) read ∙ sym (ap digits_value (take_more ds i d inside) ∙ digits_value-push (take i ds) (get_or ds i d))
