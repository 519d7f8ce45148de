-- Changes to a dictionary in order.
use Rattle.std.proofs.Common.{◌≡◌, ℕ, ◌+◌, ◌<◌, List, [], ◌∷◌, ◌++◌, length, take, map, refl, ap, ◌∙◌}
use Rattle.std.specs.Prelude.{suc, false, Result, Ok, Err, is_err, OnOk, slice_index_or, All}
use Rattle.std.proofs.lemmas.List.{take_more, length-replicate}
use Rattle.std.proofs.lemmas.List.{get_or-map as get_or-map_at}
use Rattle.std.proofs.Math.ListN.{length-set, length-map, get_or-map}
use Rattle.fast_dict.specs.meaning.Dictionary.{Dictionary, reset, undefined}
use Rattle.fast_dict.specs.meaning.Stores.{Terms}
use Rattle.fast_dict.specs.meaning.Commands.{CommandData, assign, make_empty, reset_others, reset_every, IsRunnable, after, after_all}

-- a reset keeps the number of entries
pub length-reset : (d : Dictionary) → length (reset d) ≡ length d
length-reset [] = refl
length-reset (x ∷ d) = ap suc (length-replicate (length d) undefined)

-- so does every change
pub length-after : (c : CommandData) (d : Dictionary) → length (after c d) ≡ length d
length-after (assign entry kind v) d = length-set _ _ _
length-after (make_empty entry) d = length-set _ _ _
length-after reset_others d = length-reset d
length-after reset_every d = length-replicate (length d) undefined

-- one change more
pub after_all-append : (cs : List CommandData) (c : CommandData) (d : Dictionary) → after_all (cs ++ c ∷ []) d ≡ after c (after_all cs d)
after_all-append [] c d = refl
after_all-append (x ∷ cs) c d = after_all-append cs c (after x d)

-- one more of a list of changes
pub after_more : {X : Type 0} (f : X → CommandData) (xs : List X) (k : ℕ) (x : X) (first now next : Dictionary) → k < length xs
    → now ≡ after_all (take k (map f xs)) first → next ≡ after (f (slice_index_or xs k x)) now
    → next ≡ after_all (take (k + 1) (map f xs)) first
after_more f xs k x first now next h p q =
    let b : k < length (map f xs) = rw length-map h in
    let m : take (k + 1) (map f xs) ≡ take k (map f xs) ++ f (slice_index_or xs k x) ∷ [] = take_more (map f xs) k (f x) b
    ∙ ap (λ y. take k (map f xs) ++ y ∷ []) (get_or-map f xs k x) in
    rw (m, after_all-append) (q ∙ ap (after (f (slice_index_or xs k x))) p)

-- so many entries as before
pub length-after_more : (c : CommandData) (first now next : Dictionary) → length now ≡ length first → next ≡ after c now → length next ≡ length first
length-after_more c first now next e q = ap length q ∙ length-after c now ∙ e

-- what holds at Ok, where there is no error
pub at_ok : {A E P : Type 0} (r : Result A E) → is_err r ≡ false → OnOk r P → P
at_ok (Ok a) e h = h
at_ok (Err x) e h = absurd (cc)

-- each of a list of changes meets its conditions also at a store that takes the same
pub runnable_at : {X : Type 0} (f : X → CommandData) (t now : Terms) (n m : ℕ) (xs : List X) (k : ℕ) (x : X) → now ≡ t → m ≡ n
    → k < length xs → All (IsRunnable t n) (map f xs) → IsRunnable now m (f (slice_index_or xs k x))
runnable_at f t now n m xs k x p q h all = let b : k < length (map f xs) = rw length-map h in rw (p, q, ← get_or-map f xs k x) (all k (f x) b)

-- one of a list of changes meets its conditions
pub runnable_here : {X : Type 0} (f : X → CommandData) (t : Terms) (n : ℕ) (xs : List X) (k : ℕ) (x : X) → k < length xs
    → IsRunnable t n (f (slice_index_or xs k x)) → (d : CommandData) → IsRunnable t n (slice_index_or (map f xs) k d)
runnable_here f t n xs k x h r d = rw (get_or-map_at f xs k x d h) r
