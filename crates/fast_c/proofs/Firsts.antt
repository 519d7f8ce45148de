-- The first element that passes a test, one element on.
use Rattle.std.proofs.Common.{◌≡◌, ℕ, ◌+◌, suc, List, ◌∷◌, drop, slice_get, refl, ap, ◌∙◌, Some, Bool, true, false, arith}
use Rattle.std.proofs.lemmas.List.{drop_more}
use Rattle.std.proofs.lemmas.Option.{slice_get_within, get_or_from_slice_get}
use Rattle.fast_c.specs.meaning.Queries.{first_that}

-- what is left from an element on
drop_at : {A : Type 0} (xs : List A) (i : ℕ) (x : A) → slice_get xs i ≡ Some x → drop i xs ≡ x ∷ drop (i + 1) xs
drop_at xs i x found = drop_more xs i x (slice_get_within xs i x found) ∙ ap (λ y. y ∷ drop (i + 1) xs) (get_or_from_slice_get xs i x x found)

-- the element passes
pub first_here : {A : Type 0} (test : A → Bool) (xs : List A) (i : ℕ) (x : A) → slice_get xs i ≡ Some x → test x ≡ true → first_that test i (drop i xs) ≡ i
first_here test xs i x found passes = rw (drop_at xs i x found) (rw passes refl)

-- the element does not pass
pub first_past : {A : Type 0} (test : A → Bool) (xs : List A) (i : ℕ) (x : A) → slice_get xs i ≡ Some x → test x ≡ false
    → first_that test i (drop i xs) ≡ first_that test (i + 1) (drop (i + 1) xs)
first_past test xs i x found fails = rw (drop_at xs i x found)
    (rw fails (ap (λ n. first_that test n (drop (i + 1) xs)) (let e : suc i ≡ i + 1 = omega arith in e)))
