-- Elements of lists by their numbers.
use Rattle.std.proofs.Common.{◌≡◌, ℕ, ◌≤◌, List, refl, ap, sym, ◌∙◌, subst, length, map, take, slice_get, Option, Some, None}
use Rattle.std.specs.Prelude.{option_map, All}
use Rattle.std.proofs.lemmas.List.{take_all}
use Rattle.std.proofs.lemmas.Option.{slice_get-map}

-- what a function makes of the element
pub mapped_get : {A B : Type 0} (f : A → B) (xs : List A) (k : ℕ) (x : A) → slice_get xs k ≡ Some x → slice_get (map f xs) k ≡ Some (f x)
mapped_get f xs k x found = slice_get-map f xs k ∙ ap (option_map f) found

-- an element that a function made, and what it was made of
pub map_get_back : {A B : Type 0} (f : A → B) (xs : List A) (k : ℕ) (y : B) → slice_get (map f xs) k ≡ Some y → (x : A) × (slice_get xs k ≡ Some x) × (y ≡ f x)
map_get_back f xs k y found = of_mapped f (slice_get xs k) y (sym (slice_get-map f xs k) ∙ found)
  where
    of_mapped : {A B : Type 0} (f : A → B) (o : Option A) (y : B) → option_map f o ≡ Some y → (x : A) × (o ≡ Some x) × (y ≡ f x)
    of_mapped f None y h = absurd (cc)
    of_mapped f (Some x) y h = (x, refl, cc)

-- what holds of all that were taken, and nothing is left
pub all_taken : {A : Type 0} (P : A → Type 0) (xs : List A) (i : ℕ) → length xs ≤ i → All P (take i xs) → All P xs
all_taken P xs i end here = subst (All P) (take_all i xs end) here
