-- Texts split at a byte.
use Rattle.std.proofs.Common.{◌≡◌, ◌≢◌, ◌⊎◌, ℕ, suc, ◌<◌, ◌≤◌, ◌^◌, List, [], ◌∷◌, ◌++◌, get_or, refl, sym, inl, inr, ℤ, pos, negsuc, arith}
use Rattle.std.specs.Prelude.{decimal}
use Rattle.std.specs.Fmt.{signed_decimal}
use Rattle.std.proofs.lemmas.Fmt.{decimal_is_IsNumeral}
use Rattle.std.proofs.lemmas.Str.Parse.{digit_at}
use Rattle.std.proofs.lemmas.List.Elements.{All-cons, All-head, All-tail, All-from_get_or}
use lib.Signed.{mag}
use Rattle.fast_lines.specs.meaning.Values.{Lacks}

-- The first such byte splits a text in one way.
pub first_split : (x : ℕ) (a b xs ys : List ℕ) → Lacks x a → Lacks x b → a ++ x ∷ xs ≡ b ++ x ∷ ys → (a ≡ b) × (xs ≡ ys)
first_split x [] [] xs ys la lb h = (refl, cc)
first_split x [] (d ∷ b) xs ys la lb h = let e : x ≡ d = cc in absurd (All-head (λ c. c ≢ x) d b lb (sym e))
first_split x (c ∷ a) [] xs ys la lb h = let e : c ≡ x = cc in absurd (All-head (λ c. c ≢ x) c a la e)
first_split x (c ∷ a) (d ∷ b) xs ys la lb h =
    let e : c ≡ d = cc in
    let g : a ++ x ∷ xs ≡ b ++ x ∷ ys = cc in
    let rest = first_split x a b xs ys (All-tail (λ c. c ≢ x) c a la) (All-tail (λ c. c ≢ x) d b lb) g in
    (cc (e, rest.0), rest.1)

-- A text with such a byte doesn't lack it.
pub no_split : (x : ℕ) (text a xs : List ℕ) → Lacks x text → text ≢ a ++ x ∷ xs
no_split x text a xs lacks h = at a (rw h at lacks)
  where
    at : (a : List ℕ) → Lacks x (a ++ x ∷ xs) → ⊥
    at [] l = All-head (λ c. c ≢ x) x xs l refl
    at (c ∷ a) l = at a (All-tail (λ c. c ≢ x) c (a ++ x ∷ xs) l)

-- a byte that is no digit
no_digit : (x c : ℕ) → (x < 48) ⊎ (57 < x) → 48 ≤ c → c ≤ 57 → c ≢ x
no_digit x c (inl small) low high e = omega (arith, small, low, e)
no_digit x c (inr big) low high e = omega (arith, big, high, e)

-- Digits lack what is no digit.
pub decimal_lacks : (x n : ℕ) → n < 2 ^ 64 → (x < 48) ⊎ (57 < x) → Lacks x (decimal n)
decimal_lacks x n small other =
    let digits = (decimal_is_IsNumeral n small).0 in
    All-from_get_or (λ c. c ≢ x) (decimal n) 0 (λ i inside (e : get_or (decimal n) i 0 ≡ x). let d =
    digit_at (decimal n) i digits.1 inside in no_digit x (get_or (decimal n) i 0) other d.0 d.1 e)

no_minus : (x : ℕ) → (x < 45) ⊎ (57 < x) → 45 ≢ x
no_minus x (inl small) e = omega (arith, small, e)
no_minus x (inr big) e = omega (arith, big, e)

pub signed_lacks : (x : ℕ) (z : ℤ) → mag z < 2 ^ 63 → (x < 45) ⊎ (57 < x) → Lacks x (signed_decimal z)
signed_lacks x (pos n) small other = decimal_lacks x n (omega (arith, small)) (elim other [ inl low ↦ inl (omega (arith, low)) | inr high ↦ inr high ])
signed_lacks x (negsuc n) small other = All-cons (λ c. c ≢ x) 45 (decimal (suc n)) (λ e. no_minus x other e)
    (decimal_lacks x (suc n) (omega (arith, small)) (elim other [ inl low ↦ inl (omega (arith, low)) | inr high ↦ inr high ]))
