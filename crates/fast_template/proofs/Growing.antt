-- A number for each element, one after the other.
use Rattle.std.proofs.Common.{◌≡◌, ℕ, ◌+◌, ◌<◌, List, [], ◌∷◌, ◌++◌, length, Some, ap, sym, subst, ◌∙◌, arith, inl, inr}
use Rattle.std.specs.Prelude.{slice_get, slice_index}
use Rattle.std.proofs.lemmas.Bool.{cases_lt}
use Rattle.std.proofs.lemmas.List.{get_or_append_left, get_or_push}
use Rattle.std.proofs.lemmas.Option.{slice_get_within}

-- before the first
pub none_yet : {X : Type 0} (f : X → ℕ) (xs : List X) (ws : List ℕ) (k : ℕ) (y : X) → k < 0 → slice_get xs k ≡ Some y → slice_index ws k ≡ f y
none_yet f xs ws k y below at = absurd (omega (arith, below))

-- behind the last
pub all_there : {X : Type 0} (f : X → ℕ) (xs : List X) (ws : List ℕ) (n : ℕ) → n ≡ length xs
    → ((k : ℕ) (y : X) → k < n → slice_get xs k ≡ Some y → slice_index ws k ≡ f y)
    → (k : ℕ) (y : X) → slice_get xs k ≡ Some y → slice_index ws k ≡ f y
all_there f xs ws n end each k y at = each k y (subst (λ m. k < m) (sym end) (slice_get_within xs k y at)) at

pub one_more : {X : Type 0} (f : X → ℕ) (xs : List X) (ws : List ℕ) (n w : ℕ) (x : X) → length ws ≡ n
    → ((k : ℕ) (y : X) → k < n → slice_get xs k ≡ Some y → slice_index ws k ≡ f y)
    → slice_get xs n ≡ Some x → w ≡ f x
    → (k : ℕ) (y : X) → k < n + 1 → slice_get xs k ≡ Some y → slice_index (ws ++ w ∷ []) k ≡ f y
one_more f xs ws n w x long each here is k y below at = elim (cases_lt k n) [
  | inl before ↦ get_or_append_left ws (w ∷ []) 0 k (omega (arith, before, long)) ∙ each k y before at
  | inr behind ↦
      let place : n ≡ k = omega (arith, behind, below) in
      let same : x ≡ y = cc in
      get_or_push ws w 0 k (long ∙ place) ∙ is ∙ ap f same
]
