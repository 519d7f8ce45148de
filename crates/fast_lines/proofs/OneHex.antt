-- Hexadecimal digits with blanks between them stand for one list of bytes, up to one place.
use Rattle.std.proofs.Common.{◌≡◌, ℕ, ◌+◌, ◌*◌, List, [], ◌∷◌, ◌++◌, Option, Some, None, length, length-append, refl, sym, ap, ap₂, subst, ◌∙◌, inl, inr, arith}
use Rattle.std.specs.Prelude.{All}
use Rattle.std.proofs.lemmas.List.Elements.{All-head, All-tail}
use Rattle.fast_value.specs.meaning.Initial.{IsHex, IsHexDigit}
use Rattle.fast_lines.specs.meaning.Hex.{IsHexOrBlank, digits_in, ArePairs, IsOddHex, Unhexed}

-- a character is one digit
same_digit : (c m n : ℕ) → IsHexDigit c m → IsHexDigit c n → m ≡ n
same_digit c m n (inl h) (inl i) = omega (arith, h.1, i.1)
same_digit c m n (inl h) (inr (inl i)) = omega (arith, h.0, h.1, i.0, i.2)
same_digit c m n (inl h) (inr (inr i)) = omega (arith, h.0, h.1, i.0, i.2)
same_digit c m n (inr (inl h)) (inl i) = omega (arith, i.0, i.1, h.0, h.2)
same_digit c m n (inr (inl h)) (inr (inl i)) = omega (arith, h.2, i.2)
same_digit c m n (inr (inl h)) (inr (inr i)) = omega (arith, h.0, h.2, i.1, i.2)
same_digit c m n (inr (inr h)) (inl i) = omega (arith, i.0, i.1, h.0, h.2)
same_digit c m n (inr (inr h)) (inr (inl i)) = omega (arith, i.0, i.2, h.1, h.2)
same_digit c m n (inr (inr h)) (inr (inr i)) = omega (arith, h.2, i.2)

-- digits in pairs are one list of bytes
pub same_bytes : (ds v w : List ℕ) → IsHex ds v → IsHex ds w → v ≡ w
same_bytes [] v w h i = h ∙ sym i
same_bytes (c ∷ []) v w h i = absurd h
same_bytes (c ∷ d ∷ ds) v w (high, low, rest, first, second, others, is) (up, down, back, one, two, more, also) =
    let upper : high ≡ up = same_digit c high up first one in
    let lower : low ≡ down = same_digit d low down second two in
    is ∙ ap₂ (λ (b : ℕ) (bs : List ℕ). b ∷ bs) (ap₂ (λ (x y : ℕ). 16 * x + y) upper lower) (same_bytes ds rest back others more) ∙ sym also

-- two digits for each byte
two_each : (ds v : List ℕ) → IsHex ds v → length ds ≡ 2 * length v
two_each [] v h = rw h refl
two_each (c ∷ []) v h = absurd h
two_each (c ∷ d ∷ ds) v h = rw h.6 (let e = two_each ds h.2 h.5 in omega arith)

-- lists with one more at the end
same_front : (xs ys : List ℕ) (x y : ℕ) → xs ++ x ∷ [] ≡ ys ++ y ∷ [] → xs ≡ ys
same_front [] [] x y e = refl
same_front [] (b ∷ []) x y e = absurd (cc e)
same_front [] (b ∷ c ∷ ys) x y e = absurd (cc e)
same_front (a ∷ []) [] x y e = absurd (cc e)
same_front (a ∷ c ∷ xs) [] x y e = absurd (cc e)
same_front (a ∷ xs) (b ∷ ys) x y e =
    let first : a ≡ b = cc e in
    let rest : xs ++ x ∷ [] ≡ ys ++ y ∷ [] = cc e in
    ap₂ (λ (z : ℕ) (zs : List ℕ). z ∷ zs) first (same_front xs ys x y rest)

-- pairs, and pairs with one digit more
odd_or_even : {A : Type 0} (ds v front w : List ℕ) (last : ℕ) → IsHex ds v → ds ≡ front ++ last ∷ [] → IsHex front w → A
odd_or_even ds v front w last h e i =
    let all = two_each ds v h in
    let some = two_each front w i in
    let long : length ds ≡ length front + 1 = ap (λ (xs : List ℕ). length xs) e ∙ length-append front (last ∷ []) in
    absurd (omega (arith, all, some, long))

same_pairs : (ds v w : List ℕ) → ArePairs ds v → ArePairs ds w → v ≡ w
same_pairs ds v w (inl h) (inl i) = same_bytes ds v w h i
same_pairs ds v w (inl h) (inr (front, last, e, i)) = odd_or_even ds v front w last h e i
same_pairs ds v w (inr (front, last, e, h)) (inl i) = odd_or_even ds w front v last i e h
same_pairs ds v w (inr (front, last, e, h)) (inr (other, end, f, i)) =
    let same : front ≡ other = same_front front other last end (sym e ∙ f) in
    same_bytes other v w (subst (λ (z : List ℕ). IsHex z v) same h) i

-- no bad character stands in a text of digits and blanks
none_bad : {A : Type 0} (front rest : List ℕ) (c : ℕ) → All IsHexOrBlank (front ++ c ∷ rest) → ¬ (IsHexOrBlank c) → A
none_bad [] rest c all bad = absurd (bad (All-head IsHexOrBlank c rest all))
none_bad (x ∷ front) rest c all bad = none_bad front rest c (All-tail IsHexOrBlank x (front ++ c ∷ rest) all) bad

-- the text before the first bad character
same_place : (xs ys rest more : List ℕ) (c d : ℕ) → xs ++ c ∷ rest ≡ ys ++ d ∷ more → All IsHexOrBlank xs → ¬ (IsHexOrBlank c)
    → All IsHexOrBlank ys → ¬ (IsHexOrBlank d) → xs ≡ ys
same_place [] [] rest more c d e all bad every wrong = refl
same_place [] (y ∷ ys) rest more c d e all bad every wrong = let same : y ≡ c = cc e in
    absurd (bad (subst IsHexOrBlank same (All-head IsHexOrBlank y ys every)))
same_place (x ∷ xs) [] rest more c d e all bad every wrong = let same : x ≡ d = cc e in
    absurd (wrong (subst IsHexOrBlank same (All-head IsHexOrBlank x xs all)))
same_place (x ∷ xs) (y ∷ ys) rest more c d e all bad every wrong =
    let first : x ≡ y = cc e in
    let others : xs ++ c ∷ rest ≡ ys ++ d ∷ more = cc e in
    ap₂ (λ (z : ℕ) (zs : List ℕ). z ∷ zs) first (same_place xs ys rest more c d others (All-tail IsHexOrBlank x xs all) bad
    (All-tail IsHexOrBlank y ys every) wrong)

odd_pairs : (ds v : List ℕ) → IsOddHex ds v → ArePairs ds v
odd_pairs ds v h = inr (h.0, h.1, h.3, h.5)

-- a text has a bad place or none
no_other : {A : Type 0} (t v w : List ℕ) (place : ℕ) → Unhexed t v None → Unhexed t w (Some place) → A
no_other t v w place h (inl i) = none_bad i.0 i.1 i.2 (subst (All IsHexOrBlank) i.3 h.0) i.5
no_other t v w place h (inr i) = let odd = i.1 in odd_or_even (digits_in t) v odd.0 w odd.1 h.1 odd.3 odd.5

pub one_unhexed : (t v w : List ℕ) (p q : Option ℕ) → Unhexed t v p → Unhexed t w q → (v ≡ w) × (p ≡ q)
one_unhexed t v w None None h i = (same_bytes (digits_in t) v w h.1 i.1, refl)
one_unhexed t v w None (Some q) h i = no_other t v w q h i
one_unhexed t v w (Some p) None h i = no_other t w v p i h
one_unhexed t v w (Some p) (Some q) (inl h) (inl i) =
    let same : h.0 ≡ i.0 = same_place h.0 i.0 h.1 i.1 h.2 i.2 (sym h.3 ∙ i.3) h.4 h.5 i.4 i.5 in (
      same_pairs (digits_in i.0) v w (subst (λ (z : List ℕ). ArePairs (digits_in z) v) same h.6) i.6,
      ap (λ (n : ℕ). Some n) (h.7 ∙ ap (λ (z : List ℕ). length z) same ∙ sym i.7),
    )
one_unhexed t v w (Some p) (Some q) (inl h) (inr i) = none_bad h.0 h.1 h.2 (subst (All IsHexOrBlank) h.3 i.0) h.5
one_unhexed t v w (Some p) (Some q) (inr h) (inl i) = none_bad i.0 i.1 i.2 (subst (All IsHexOrBlank) i.3 h.0) i.5
one_unhexed t v w (Some p) (Some q) (inr h) (inr i) =
    (same_pairs (digits_in t) v w (odd_pairs (digits_in t) v h.1) (odd_pairs (digits_in t) w i.1), ap (λ (n : ℕ). Some n) (h.2 ∙ sym i.2))
