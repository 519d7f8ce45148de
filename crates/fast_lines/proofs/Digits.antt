-- The digits of numbers, one after the other.
use Rattle.std.proofs.Common.{◌≡◌, ℕ, ◌+◌, ◌-◌, ◌*◌, ◌/◌, ◌%◌, ◌≤◌, ◌^◌, [], ◌∷◌, ◌++◌, ap, ◌∙◌, arith}
use Rattle.std.specs.Prelude.{decimal}
use Rattle.std.proofs.lemmas.Fmt.{decimal_digit, decimal_step}

-- a digit by itself
pub first_digit : (d : ℕ) → 48 ≤ d → d ≤ 57 → decimal (d - 48) ≡ d ∷ []
first_digit d low high = decimal_digit (d - 48) (omega (arith, low, high)) ∙ ap (λ (x : ℕ). x ∷ []) (omega (arith, low, high))

-- a digit behind those of a number
pub next_digit : (n d : ℕ) → 1 ≤ n → n ≤ 10 ^ 18 → 48 ≤ d → d ≤ 57 → decimal (10 * n + (d - 48)) ≡ decimal n ++ d ∷ []
next_digit n d some small low high =
    let front : (10 * n + (d - 48)) / 10 ≡ n = omega (arith, low, high) in
    let last : 48 + (10 * n + (d - 48)) % 10 ≡ d = omega (arith, low, high) in
    decimal_step (10 * n + (d - 48)) (omega (arith, some, low)) (omega (arith, small, low, high))
    ∙ ap (λ (x : ℕ). decimal x ++ (48 + (10 * n + (d - 48)) % 10) ∷ []) front ∙ ap (λ (x : ℕ). decimal n ++ x ∷ []) last
