-- That a walk down the nodes of a set ends: a body names later nodes than the node that it stands in.
use Rattle.std.proofs.Common.{◌≡◌, ℕ, ◌<◌, ◌≤◌, ◌+◌, ◌-◌, ◌*◌, List, [], ◌∷◌, sym, subst, length, suc, zero, arith, min, inl, inr}
use Rattle.std.specs.Prelude.{slice_index}
use Rattle.std.proofs.Math.Nat.{min-le_left, min-le_right, min-eq_left, min-eq_right, le_trans}
use Rattle.std.proofs.lemmas.Bool.{cases_lt}
use Rattle.fast_tree.specs.meaning.Numbers.{AreBelow, AreBetween}

-- the least of some numbers, and the limit if there is none
abbrev pub least : ℕ → List ℕ → ℕ
least limit [] = limit
least limit (n ∷ ns) = min n (least limit ns)

-- what is left of a walk at a node, and at a body
abbrev pub left_at_node : ℕ → ℕ → ℕ
left_at_node limit n = 2 * (limit - n)

abbrev pub left_at_body : ℕ → List ℕ → ℕ
left_at_body limit ns = 2 * (limit - least limit ns) + 1

-- a number is not below the least
pub least_within : (limit : ℕ) (ns : List ℕ) (k : ℕ) → k < length ns → least limit ns ≤ slice_index ns k
least_within limit [] k inside = absurd (omega (arith, inside))
least_within limit (n ∷ ns) zero inside = min-le_left n (least limit ns)
least_within limit (n ∷ ns) (suc k) inside =
    let rest = least_within limit ns k (omega (arith, inside)) in
    le_trans (min-le_right n (least limit ns)) rest

-- the less of two greater numbers
above_both : (own a b : ℕ) → own < a → own < b → own < min a b
above_both own a b h i =
    elim (cases_lt a b) [
      | inl l ↦ subst (λ m. own < m) (sym (min-eq_left (omega (arith, l)))) h
      | inr l ↦ subst (λ m. own < m)
          (sym (min-eq_right (omega (arith, l)))) i
    ]

-- later numbers have a later least
pub least_later : (own limit : ℕ) (ns : List ℕ) → own < limit → AreBetween own limit ns → own < least limit ns
least_later own limit [] inside later = inside
least_later own limit (n ∷ ns) inside later =
    above_both own n (least limit ns) ((later 0 (omega arith)).0) (least_later own limit ns inside (λ k h. later (suc k) (omega (arith, h))))

-- a walk goes on from a body at one of its nodes
pub smaller_at_node : (limit : ℕ) (ns : List ℕ) (k n : ℕ) → k < length ns → slice_index ns k ≡ n → left_at_node limit n < left_at_body limit ns
smaller_at_node limit ns k n inside is =
    let h = least_within limit ns k inside in
    omega (arith, h, is)

-- a walk goes on from a node at its body
pub smaller_at_body : (limit n : ℕ) (ns : List ℕ) → n < limit → AreBetween n limit ns → left_at_body limit ns < left_at_node limit n
smaller_at_body limit n ns inside later =
    let h = least_later n limit ns inside later in
    omega (arith, h, inside)

-- later numbers are below the limit
pub all_below : (own limit : ℕ) (ns : List ℕ) → AreBetween own limit ns → AreBelow limit ns
all_below own limit ns later k inside = (later k inside).1
