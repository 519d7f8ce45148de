-- The fronts of the nodes so far, and one more.
use Rattle.std.proofs.Common.{◌≡◌, ◌⊎◌, ℕ, suc, zero, List, [], ◌∷◌, ◌++◌, Some, refl, ap, inl, inr, length, slice_get}
use Rattle.fast_text.specs.declared.front.Front.{Front}
use Rattle.fast_text.specs.device.Front.{IsFront, AreFronts}

-- what stands in a list with one more
among : (fs : List Front) (f g : Front) (n : ℕ) → slice_get (fs ++ f ∷ []) n ≡ Some g → (slice_get fs n ≡ Some g) ⊎ (length fs ≡ n) × (f ≡ g)
among [] f g zero h = inr (refl, cc)
among [] f g (suc n) h = absurd (cc)
among (x ∷ xs) f g zero h = inl h
among (x ∷ xs) f g (suc n) h = elim (among xs f g n h) [
  | inl e ↦ inl e
  | inr e ↦ inr (ap suc e.0, e.1)
]

-- one more
pub fronts_more : (text : ℕ → List ℕ) (fs : List Front) (f : Front) → AreFronts text fs → IsFront text (length fs) f → AreFronts text (fs ++ f ∷ [])
fronts_more text fs f all one = record {
  each = λ n g h. elim (among fs f g n h) [
    | inl e ↦ all.each n g e
    | inr e ↦ rw (← e.0, ← e.1) one
  ];
}
