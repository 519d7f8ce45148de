-- Sums, products and greatest numbers that stop at a limit.
use Rattle.std.proofs.Common.{◌≡◌, ℕ, ◌≤◌, ◌+◌, ◌*◌, min, max, suc, zero, ap, sym, subst, ◌∙◌, arith, inl, inr}
use Rattle.std.proofs.Math.Nat.{min-eq_left, min-eq_right, max-eq_left, max-eq_right, add_comm, mul_comm, mul-le-mul_left, min-le_left}
use Rattle.std.proofs.Math.Nat.{min-le_right, le_trans, le_antisymm, max-le, le-max_left, le-max_right}
use Rattle.std.proofs.lemmas.Bool.{cases_lt}

-- a sum whose first part had stopped
pub stopped_sum : (limit a b : ℕ) → min (min a limit + b) limit ≡ min (a + b) limit
stopped_sum limit a b =
    elim (cases_lt a limit) [
      | inl h ↦ ap (λ x. min (x + b) limit) (min-eq_left (omega (arith, h)))
      | inr h ↦ ap (λ x. min (x + b) limit) (min-eq_right (omega (arith, h))) ∙ min-eq_right (omega arith) ∙ sym (min-eq_right (omega (arith, h)))
    ]

-- one more
pub stopped_suc : (limit a : ℕ) → min (min a limit + 1) limit ≡ min (suc a) limit
stopped_suc limit a = stopped_sum limit a 1 ∙ ap (λ x. min x limit) (let e : a + 1 ≡ suc a = omega arith in e)

-- both parts of a sum had stopped
pub stopped_both : (limit a b : ℕ) → min (min a limit + min b limit) limit ≡ min (a + b) limit
stopped_both limit a b =
    stopped_sum limit a (min b limit) ∙ ap (λ x. min x limit) (add_comm a (min b limit)) ∙ stopped_sum limit b a ∙ ap (λ x. min x limit) (add_comm b a)

-- two more
pub stopped_two : (limit a : ℕ) → min (min a limit + 2) limit ≡ min (2 + a) limit
stopped_two limit a = stopped_sum limit a 2 ∙ ap (λ x. min x limit) (add_comm a 2)

-- a product whose first part had stopped
pub stopped_product : (limit a b : ℕ) → min (min a limit * b) limit ≡ min (b * a) limit
stopped_product limit a zero = ap (λ x. min x limit) (omega arith)
stopped_product limit a (suc b) =
    elim (cases_lt a limit) [
      | inl h ↦ ap (λ x. min (x * suc b) limit) (min-eq_left (omega (arith, h))) ∙ ap (λ x. min x limit) (mul_comm a (suc b))
      | inr h ↦ ap (λ x. min (x * suc b) limit) (min-eq_right h) ∙ min-eq_right (omega arith) ∙ sym (min-eq_right (omega (arith, h, mul-le-mul_left (suc b) h)))
    ]

-- what was less is no greater afterwards
stopped_order : (limit a b : ℕ) → a ≤ b → min a limit ≤ min b limit
stopped_order limit a b h =
    elim (cases_lt b limit) [
      | inl l ↦ subst (λ m. min a limit ≤ m) (sym (min-eq_left (omega (arith, l)))) (le_trans (min-le_left a limit) h)
      | inr l ↦ subst (λ m. min a limit ≤ m) (sym (min-eq_right l)) (min-le_right a limit)
    ]

-- the greater of two that had stopped
pub stopped_max : (limit a b : ℕ) → max (min a limit) (min b limit) ≡ min (max a b) limit
stopped_max limit a b =
    elim (cases_lt a b) [
      | inl h ↦ max-eq_right (stopped_order limit a b (omega (arith, h))) ∙ ap (λ x. min x limit) (sym (max-eq_right (omega (arith, h))))
      | inr h ↦ max-eq_left (stopped_order limit b a h) ∙ ap (λ x. min x limit) (sym (max-eq_left h))
    ]

-- the greatest of three
pub max_assoc : (a b c : ℕ) → max (max a b) c ≡ max a (max b c)
max_assoc a b c =
    let ab = le-max_left a b in
    let ba = le-max_right a b in
    let bc = le-max_left b c in
    let cb = le-max_right b c in
    le_antisymm (max-le (max-le (le-max_left a (max b c)) (le_trans bc (le-max_right a (max b c)))) (le_trans cb (le-max_right a (max b c))))
    (max-le (le_trans ab (le-max_left (max a b) c)) (max-le (le_trans ba (le-max_left (max a b) c)) (le-max_right (max a b) c)))

-- the less of two of which one had stopped
pub stopped_min : (limit a b : ℕ) → b ≤ limit → min (min a limit) b ≡ min a b
stopped_min limit a b h =
    elim (cases_lt a limit) [
      | inl l ↦ ap (λ x. min x b) (min-eq_left (omega (arith, l)))
      | inr l ↦ ap (λ x. min x b) (min-eq_right l) ∙ min-eq_right h ∙ sym (min-eq_right (le_trans h l))
    ]
