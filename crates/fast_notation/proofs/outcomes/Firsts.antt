-- The fault that is told of a set is the first.
use Rattle.std.proofs.Common.{◌≡◌, ◌≢◌, ◌⊎◌, inl, inr, ℕ, zero, suc, ◌+◌, ◌<◌, ◌≤◌, List, [], ◌∷◌, length, map, take, slice_get, get_or}
use Rattle.std.proofs.Common.{refl, ap, sym, ◌∙◌, subst, arith, Option, Some, None}
use Rattle.std.specs.Prelude.{All, Any, AllPairs, Contains, IfSome, IsSome, sum_by}
use Rattle.std.specs.Str.{bytes_eq}
use Rattle.std.proofs.lemmas.Bool.{false≢true}
use Rattle.std.proofs.lemmas.List.Sums.{sum_by-cons}
use Rattle.std.proofs.lemmas.Option.{slice_get_within, get_or_from_slice_get}
use Rattle.toml.specs.Data.{Members}
use Rattle.fast_notation.specs.declared.building.BuiltSet.{BuiltSet}
use Rattle.fast_notation.specs.declared.codes.StaticCode.{StaticCode}
use Rattle.fast_notation.specs.declared.codes.StaticCode.TheVariants.{S1, S2, S3, S4, S5, D8, C1, C2, C3, C4, C5, C6, Memory}
use Rattle.fast_tree.specs.meaning.AsWritten.{DeclaredTemplate, Use, all_uses, all_references}
use Rattle.fast_notation.specs.device.Chains.{Fits, nodes_in, depth_in}
use Rattle.fast_notation.specs.meaning.Checked.{AreNarrowInside}
use Rattle.fast_tree.specs.meaning.Entries.{Entry, scope_of}
use Rattle.fast_notation.specs.meaning.Faults.{IsFaultAt}
use Rattle.fast_notation.specs.meaning.Firsts.{pass_of, ComesBefore, IsFirst, IsFirstUnwritten, IsFirstFault, AreChained, IsFirstInChains}
use Rattle.fast_notation.specs.meaning.InPlace.{InPlace}
use Rattle.fast_tree.specs.meaning.NodeData.{node_data}
use Rattle.fast_tree.specs.meaning.Nodes.{instructions_from, template_data}
use Rattle.fast_notation.specs.meaning.Notation.{WritesSet}
use Rattle.fast_tree.specs.device.Places.{place_of_name}
use Rattle.fast_notation.specs.device.ReadSets.{IsSetBuilt}
use Rattle.fast_notation.specs.meaning.Refused.{Reaches, StandsAt}
use Rattle.fast_notation.specs.device.References.{KnowsReferences}
use Rattle.fast_notation.specs.device.Segments.{IsNarrow}
use Rattle.fast_tree.specs.meaning.Sizes.{segment_limit, nesting_limit, node_limit}
use Rattle.fast_notation.specs.device.Sound.{IsSound}
use Rattle.fast_tree.specs.meaning.Tree.{Body, bits_of}
use Rattle.fast_notation.specs.meaning.Uses.{IsS2, IsS3, IsS4, IsS5}
use Rattle.fast_notation.proofs.nodes.BuiltSets.{set_nodes, built_tree}
use Rattle.fast_notation.proofs.references.ChainLaws.{in_none}
use Rattle.fast_notation.proofs.references.InPlaceSizes.{in_place-depth}
use Rattle.fast_notation.proofs.outcomes.NoTrees.{one_set, in_place_of, rounds, many_rounds, reach_round, same_bits, sum_of_front}
use Rattle.fast_notation.proofs.lists.PlaceLists.{placed}
use Rattle.fast_notation.proofs.texts.ReadingPieces.{same_text}

some_is : {A : Type 0} {a b : A} → Some a ≡ Some b → a ≡ b
some_is h = cc

-- ---- lists

-- what stands in the list stands in its front
taken_at : {A : Type 0} (k j : ℕ) (xs : List A) (x : A) → j < k → slice_get xs j ≡ Some x → slice_get (take k xs) j ≡ Some x
taken_at zero j xs x below at = absurd (omega (arith, below))
taken_at (suc k) j [] x below at = at
taken_at (suc k) zero (y ∷ xs) x below at = at
taken_at (suc k) (suc j) (y ∷ xs) x below at = taken_at k j xs x (omega (arith, below)) at

one_of : {A : Type 0} (P : A → Type 0) (xs : List A) (j : ℕ) (x : A) → All P xs → slice_get xs j ≡ Some x → P x
one_of P xs j x h at = subst P (get_or_from_slice_get xs j x x at) (h j x (slice_get_within xs j x at))

two_of : {A : Type 0} (R : A → A → Type 0) (xs : List A) (i j : ℕ) (x y : A) → AllPairs R xs → i < j → slice_get xs i ≡ Some x → slice_get xs j ≡ Some y → R x y
two_of R xs i j x y h before at_i at_j =
    subst (R x) (get_or_from_slice_get xs j y x at_j)
    (subst (λ z. R z (get_or xs j x)) (get_or_from_slice_get xs i x x at_i) (h i j x before (slice_get_within xs j y at_j)))

sum_of_fronts : {A : Type 0} (f : A → ℕ) (xs : List A) (i k : ℕ) → i ≤ k → sum_by f (take i xs) ≤ sum_by f (take k xs)
sum_of_fronts f xs zero k less = omega arith
sum_of_fronts f xs (suc i) zero less = absurd (omega (arith, less))
sum_of_fronts f [] (suc i) (suc k) less = omega arith
sum_of_fronts f (x ∷ xs) (suc i) (suc k) less =
    let a = sum_by-cons f x (take i xs) in
    let b = sum_by-cons f x (take k xs) in
    let r = sum_of_fronts f xs i k (omega (arith, less)) in
    omega (arith, a, b, r)

-- ---- where the conditions of the codes don't stand

no_name : (ts : List DeclaredTemplate) → AllPairs (λ a b. a.name ≢ b.name) ts → (j : ℕ) → StandsAt ts C1 j → ⊥
no_name ts apart j (i, t, u, before, at_i, at_j, same) = two_of (λ (a b : DeclaredTemplate). a.name ≢ b.name) ts i j t u apart before at_i at_j same

no_name_before : (ts : List DeclaredTemplate) (k : ℕ) → AllPairs (λ a b. a.name ≢ b.name) (take k ts) → (j : ℕ) → j < k → StandsAt ts C1 j → ⊥
no_name_before ts k apart j below (i, t, u, before, at_i, at_j, same) =
    no_name (take k ts) apart j (i, t, u, before, taken_at k i ts t (omega (arith, before, below)) at_i, taken_at k j ts u below at_j, same)

no_id : (ts : List DeclaredTemplate) → AllPairs (λ a b. (id : ℕ) → a.id ≡ Some id → b.id ≢ Some id) ts → (j : ℕ) → StandsAt ts C2 j → ⊥
no_id ts apart j (i, id, t, u, before, at_i, at_j, has, has_too) =
    two_of (λ (a b : DeclaredTemplate). (id : ℕ) → a.id ≡ Some id → b.id ≢ Some id) ts i j t u apart before at_i at_j id has has_too

no_id_before : (ts : List DeclaredTemplate) (k : ℕ) → AllPairs (λ a b. (id : ℕ) → a.id ≡ Some id → b.id ≢ Some id) (take k ts) → (j : ℕ)
    → j < k → StandsAt ts C2 j → ⊥
no_id_before ts k apart j below (i, id, t, u, before, at_i, at_j, has, has_too) =
    no_id (take k ts) apart j (i, id, t, u, before, taken_at k i ts t (omega (arith, before, below)) at_i, taken_at k j ts u below at_j, has, has_too)

any_unsound : (P : Use → Type 0) → ((u : Use) → IsSound u → P u → ⊥) → (us : List Use) → All IsSound us → Any P us → ⊥
any_unsound P never us all (j, u, inside, at, bad) = never u (subst IsSound at (all j u inside)) bad

no_reference : (ts : List DeclaredTemplate) (j : ℕ) → ((t : DeclaredTemplate) → slice_get ts j ≡ Some t
    → All (λ name. IsSome (place_of_name name ts)) (all_references t.fields)) → StandsAt ts D8 j → ⊥
no_reference ts j knows (t, found, (i, name, inside, at, unknown)) =
    there (place_of_name name ts) refl (subst (λ q. IsSome (place_of_name q ts)) at (knows t found i name inside))
  where
    there : (o : Option ℕ) → place_of_name name ts ≡ o → IsSome o → ⊥
    there None is some = false≢true some
    there (Some n) is some =
        let (p, u, number, at_p, passes) = placed (λ (v : DeclaredTemplate). bytes_eq name v.name) 0 n ts is in
        unknown p u (slice_get_within ts p u at_p) (ap (λ (v : DeclaredTemplate). v.name) (get_or_from_slice_get ts p u u at_p)
        ∙ sym (same_text name u.name passes))

-- no chain is longer than that in which all references are put in place
fits_short : (ts : List DeclaredTemplate) (m chain a b : ℕ) (t : DeclaredTemplate) → Reaches ts m a b → slice_get ts a ≡ Some t
    → Fits ts chain t.fields → m ≤ chain
unfolding Fits
fits_short ts zero chain a b t r at fits = omega arith
fits_short ts (suc m) zero a b t (mid, s, u, at_a, at_mid, refers, onward) at fits =
    absurd (in_none (all_references t.fields) u.name fits (subst (λ (v : DeclaredTemplate). Contains (all_references v.fields) u.name)
    (some_is (sym at_a ∙ at)) refers))
fits_short ts (suc m) (suc chain) a b t (mid, s, u, at_a, at_mid, refers, onward) at fits =
    let here = subst (λ (v : DeclaredTemplate). Contains (all_references v.fields) u.name) (some_is (sym at_a ∙ at)) refers in
    let r = fits_short ts m chain mid b u onward at_mid (fits u.name mid u here at_mid refl) in
    omega (arith, r)

too_long : (ts : List DeclaredTemplate) (k b m : ℕ) → nesting_limit < m
    → ((t : DeclaredTemplate) → slice_get ts k ≡ Some t → Fits ts nesting_limit t.fields) → Reaches ts m k b → ⊥
too_long ts k b zero long fits r = omega (arith, long)
too_long ts k b (suc m) long fits r =
    let short = fits_short ts (suc m) nesting_limit k b r.1 r r.3 (fits r.1 r.3) in
    omega (arith, short, long)

no_cycle : (ts : List DeclaredTemplate) (j : ℕ) → ((t : DeclaredTemplate) → slice_get ts j ≡ Some t → Fits ts nesting_limit t.fields) → StandsAt ts C3 j → ⊥
no_cycle ts j fits (n, r) =
    let long = many_rounds n 65 in
    too_long ts j j (rounds n 65) (omega (arith, long)) fits (reach_round ts n j 65 r)

no_depth : (ts : List DeclaredTemplate) (j : ℕ) → AllPairs (λ a b. a.name ≢ b.name) ts
    → ((t : DeclaredTemplate) → slice_get ts j ≡ Some t → Fits ts nesting_limit t.fields
    × (depth_in ts nesting_limit t.fields ≤ nesting_limit))
    → StandsAt ts C4 j → ⊥
no_depth ts j apart chained (inl (b, r)) = too_long ts j b (suc nesting_limit) (omega arith) (λ t at. (chained t at).0) r
no_depth ts j apart chained (inr (body, (es, t, n, m, found, there), deep)) =
    let d = in_place-depth ts es nesting_limit (scope_of j t) t.fields n m body apart there in
    let limit = (chained t found).1 in
    omega (arith, d, limit, deep)

no_nodes : (ts : List DeclaredTemplate) (j : ℕ) → AllPairs (λ a b. a.name ≢ b.name) ts
    → sum_by (λ t. nodes_in ts nesting_limit t.fields) (take (suc j) ts) ≤ node_limit → StandsAt ts C6 j → ⊥
no_nodes ts j apart few (es, us, n, there, many) =
    let e = set_nodes ts es 0 (take (suc j) ts) 0 n us apart there in
    omega (arith, e, few, many)

-- the body of a template is narrow, whatever entries there are
IsNarrowAt : List DeclaredTemplate → ℕ → Type 0
IsNarrowAt ts j = (t : DeclaredTemplate) → slice_get ts j ≡ Some t
    → (es : List Entry) × (b : Body) × (n m : ℕ) × InPlace ts es nesting_limit (scope_of j t) t.fields n b m
    × (suc (bits_of b) ≤ segment_limit) × AreNarrowInside b

no_width : (ts : List DeclaredTemplate) (j : ℕ) → AllPairs (λ a b. a.name ≢ b.name) ts → IsNarrowAt ts j → StandsAt ts C5 j → ⊥
unfolding IsNarrowAt
no_width ts j apart narrow (body, (es, t, n, m, found, there), wide) =
    let (fs, b, i, k, here, limit, inside) = narrow t found in
    let same = same_bits apart here there in
    let bits = same.0 in
    elim wide [ inl w ↦ omega (arith, bits, limit, w) | inr w ↦ w (same.1 inside) ]

-- ---- the passes

-- what a condition that stands shows, by the number of its pass
by_pass : (ts : List DeclaredTemplate) (Q : ℕ → ℕ → Type 0) → ((j : ℕ) → StandsAt ts C1 j → Q 1 j) → ((j : ℕ) → StandsAt ts C2 j → Q 2 j)
    → ((j : ℕ) → (((t : DeclaredTemplate) → slice_get ts j ≡ Some t → All IsSound (all_uses t.fields)) → ⊥) → Q 3 j)
    → ((j : ℕ) → StandsAt ts D8 j → Q 4 j) → ((j : ℕ) → StandsAt ts C3 j → Q 5 j) → ((j : ℕ) → StandsAt ts C4 j → Q 6 j)
    → ((j : ℕ) → StandsAt ts C6 j → Q 7 j) → ((j : ℕ) → StandsAt ts C5 j → Q 8 j)
    → (c : StaticCode) (j : ℕ) → StandsAt ts c j → Q (pass_of c) j
by_pass ts Q names ids uses refs cycles deep many wide S1 j s = absurd s
by_pass ts Q names ids uses refs cycles deep many wide C1 j s = names j s
by_pass ts Q names ids uses refs cycles deep many wide C2 j s = ids j s
by_pass ts Q names ids uses refs cycles deep many wide S2 j (t, found, bad) =
    uses j (λ sound. any_unsound IsS2 (λ u h. h.suited) (all_uses t.fields) (sound t found) bad)
by_pass ts Q names ids uses refs cycles deep many wide S3 j (t, found, bad) =
    uses j (λ sound. any_unsound IsS3 (λ u h none. none h.initial.0 h.initial.1) (all_uses t.fields) (sound t found) bad)
by_pass ts Q names ids uses refs cycles deep many wide S4 j (t, found, bad) =
    uses j (λ sound. any_unsound IsS4 (λ u h. h.constant) (all_uses t.fields) (sound t found) bad)
by_pass ts Q names ids uses refs cycles deep many wide S5 j (t, found, bad) =
    uses j (λ sound. any_unsound IsS5 (λ u h. h.default) (all_uses t.fields) (sound t found) bad)
by_pass ts Q names ids uses refs cycles deep many wide D8 j s = refs j s
by_pass ts Q names ids uses refs cycles deep many wide C3 j s = cycles j s
by_pass ts Q names ids uses refs cycles deep many wide C4 j s = deep j s
by_pass ts Q names ids uses refs cycles deep many wide C6 j s = many j s
by_pass ts Q names ids uses refs cycles deep many wide C5 j s = wide j s
by_pass ts Q names ids uses refs cycles deep many wide Memory j s = absurd s

-- a later pass doesn't come before
later : (p n j k : ℕ) → n < p → ComesBefore p j n k → ⊥
later p n j k after (inl h) = omega (arith, after, h)
later p n j k after (inr h) = let e = h.0 in omega (arith, after, e)

-- the same pass is at an earlier template
earlier : (n j k : ℕ) → ComesBefore n j n k → j < k
earlier n j k (inl h) = absurd (omega (arith, h))
earlier n j k (inr h) = h.1

pub first_name : (ts : List DeclaredTemplate) (k : ℕ) → AllPairs (λ a b. a.name ≢ b.name) (take k ts) → IsFirst ts C1 k
first_name ts k apart c j told s =
    by_pass ts (λ p i. ComesBefore p i 1 k → ⊥) (λ i at here. no_name_before ts k apart i (earlier 1 i k here) at)
    (λ i at. later 2 1 i k (omega arith)) (λ i bad. later 3 1 i k (omega arith))
    (λ i at. later 4 1 i k (omega arith)) (λ i at. later 5 1 i k (omega arith)) (λ i at. later 6 1 i k (omega arith))
    (λ i at. later 7 1 i k (omega arith)) (λ i at. later 8 1 i k (omega arith)) c j s told

pub first_id : (ts : List DeclaredTemplate) (k : ℕ) → AllPairs (λ a b. a.name ≢ b.name) ts
    → AllPairs (λ a b. (id : ℕ) → a.id ≡ Some id → b.id ≢ Some id) (take k ts) → IsFirst ts C2 k
first_id ts k names apart c j told s =
    by_pass ts (λ p i. ComesBefore p i 2 k → ⊥) (λ i at here. no_name ts names i at)
    (λ i at here. no_id_before ts k apart i (earlier 2 i k here) at) (λ i bad. later 3 2 i k (omega arith))
    (λ i at. later 4 2 i k (omega arith)) (λ i at. later 5 2 i k (omega arith)) (λ i at. later 6 2 i k (omega arith))
    (λ i at. later 7 2 i k (omega arith)) (λ i at. later 8 2 i k (omega arith)) c j s told

-- the uses of a template before one are sound
sound_before : (ts : List DeclaredTemplate) (k j : ℕ) → All (λ t. All IsSound (all_uses t.fields)) (take k ts) → j < k
    → (t : DeclaredTemplate) → slice_get ts j ≡ Some t → All IsSound (all_uses t.fields)
sound_before ts k j sound below t at = one_of (λ (u : DeclaredTemplate). All IsSound (all_uses u.fields)) (take k ts) j t sound (taken_at k j ts t below at)

use_first : (ts : List DeclaredTemplate) (k : ℕ) → AllPairs (λ a b. a.name ≢ b.name) ts
    → AllPairs (λ a b. (id : ℕ) → a.id ≡ Some id → b.id ≢ Some id) ts → All (λ t. All IsSound (all_uses t.fields)) (take k ts)
    → (c : StaticCode) (j : ℕ) → ComesBefore (pass_of c) j 3 k → StandsAt ts c j → ⊥
use_first ts k names ids sound c j told s =
    by_pass ts (λ p i. ComesBefore p i 3 k → ⊥) (λ i at here. no_name ts names i at) (λ i at here. no_id ts ids i at)
    (λ i bad here. bad (sound_before ts k i sound (earlier 3 i k here)))
    (λ i at. later 4 3 i k (omega arith)) (λ i at. later 5 3 i k (omega arith)) (λ i at. later 6 3 i k (omega arith))
    (λ i at. later 7 3 i k (omega arith)) (λ i at. later 8 3 i k (omega arith)) c j s told

pub first_use : (ts : List DeclaredTemplate) (k : ℕ) (code : StaticCode) → pass_of code ≡ 3 → AllPairs (λ a b. a.name ≢ b.name) ts
    → AllPairs (λ a b. (id : ℕ) → a.id ≡ Some id → b.id ≢ Some id) ts
    → All (λ t. All IsSound (all_uses t.fields)) (take k ts) → IsFirst ts code k
first_use ts k S2 is names ids sound = use_first ts k names ids sound
first_use ts k S3 is names ids sound = use_first ts k names ids sound
first_use ts k S4 is names ids sound = use_first ts k names ids sound
first_use ts k S5 is names ids sound = use_first ts k names ids sound
first_use ts k S1 is names ids sound = absurd (omega (arith, is))
first_use ts k C1 is names ids sound = absurd (omega (arith, is))
first_use ts k C2 is names ids sound = absurd (omega (arith, is))
first_use ts k D8 is names ids sound = absurd (omega (arith, is))
first_use ts k C3 is names ids sound = absurd (omega (arith, is))
first_use ts k C4 is names ids sound = absurd (omega (arith, is))
first_use ts k C5 is names ids sound = absurd (omega (arith, is))
first_use ts k C6 is names ids sound = absurd (omega (arith, is))
first_use ts k Memory is names ids sound = absurd (omega (arith, is))

-- what the first four passes show where they find no fault
pub record AreNamed (ts : List DeclaredTemplate) : Type 0 where
  pub names : AllPairs (λ a b. a.name ≢ b.name) ts
  pub ids : AllPairs (λ a b. (id : ℕ) → a.id ≡ Some id → b.id ≢ Some id) ts
  pub sound : All (λ t. All IsSound (all_uses t.fields)) ts

all_sound : (ts : List DeclaredTemplate) (j : ℕ) → AreNamed ts → (t : DeclaredTemplate) → slice_get ts j ≡ Some t → All IsSound (all_uses t.fields)
all_sound ts j w t at = one_of (λ (u : DeclaredTemplate). All IsSound (all_uses u.fields)) ts j t w.sound at

pub first_reference : (ts : List DeclaredTemplate) (k : ℕ) → AreNamed ts
    → All (λ t. All (λ name. IsSome (place_of_name name ts)) (all_references t.fields)) (take k ts) → IsFirst ts D8 k
first_reference ts k w known c j told s =
    by_pass ts (λ p i. ComesBefore p i 4 k → ⊥) (λ i at here. no_name ts w.names i at) (λ i at here. no_id ts w.ids i at) (λ i bad here. bad (all_sound ts i w))
    (λ i at here. no_reference ts i (λ t found.
    one_of (λ (u : DeclaredTemplate). All (λ name. IsSome (place_of_name name ts)) (all_references u.fields)) (take k ts) i t known
    (taken_at k i ts t (earlier 4 i k here) found)) at)
    (λ i at. later 5 4 i k (omega arith)) (λ i at. later 6 4 i k (omega arith)) (λ i at. later 7 4 i k (omega arith))
    (λ i at. later 8 4 i k (omega arith)) c j s told

-- the references of a template are known
known_at : (ts : List DeclaredTemplate) (j : ℕ) → KnowsReferences ts → (t : DeclaredTemplate) → slice_get ts j ≡ Some t
    → All (λ name. IsSome (place_of_name name ts)) (all_references t.fields)
known_at ts j known t at = one_of (λ (u : DeclaredTemplate). All (λ name. IsSome (place_of_name name ts)) (all_references u.fields)) ts j t known at

pub first_cycle : (ts : List DeclaredTemplate) (k : ℕ) → AreNamed ts → KnowsReferences ts → ((j : ℕ) → j < k → ¬ (StandsAt ts C3 j)) → IsFirst ts C3 k
first_cycle ts k w known first c j told s =
    by_pass ts (λ p i. ComesBefore p i 5 k → ⊥) (λ i at here. no_name ts w.names i at) (λ i at here. no_id ts w.ids i at) (λ i bad here. bad (all_sound ts i w))
    (λ i at here. no_reference ts i (known_at ts i known) at) (λ i at here. first i (earlier 5 i k here) at)
    (λ i at. later 6 5 i k (omega arith)) (λ i at. later 7 5 i k (omega arith)) (λ i at. later 8 5 i k (omega arith)) c j s told

-- a template before one fits, and is not too deep
chained_at : (all ts : List DeclaredTemplate) (j : ℕ) → AreChained all ts → (t : DeclaredTemplate) → slice_get ts j ≡ Some t
    → Fits all nesting_limit t.fields × (depth_in all nesting_limit t.fields ≤ nesting_limit)
chained_at all ts j h t at = one_of (λ (u : DeclaredTemplate). Fits all nesting_limit u.fields
    × (depth_in all nesting_limit u.fields ≤ nesting_limit)) ts j t h at

pub first_depth : (ts : List DeclaredTemplate) (k : ℕ) → AreNamed ts → KnowsReferences ts → AreChained ts (take k ts) → IsFirst ts C4 k
first_depth ts k w known chained c j told s =
    by_pass ts (λ p i. (p < 5) ⊎ (p ≤ 6) × (i < k) → ⊥) (λ i at here. no_name ts w.names i at) (λ i at here. no_id ts w.ids i at)
    (λ i bad here. bad (all_sound ts i w))
    (λ i at here. no_reference ts i (known_at ts i known) at) (λ i at here. no_cycle ts i (λ t found. (before i (low 5 i (omega arith) here) t found).0) at)
    (λ i at here. no_depth ts i w.names (before i (low 6 i (omega arith) here)) at) (λ i at. high 7 i (omega arith)) (λ i at. high 8 i (omega arith)) c j s told
  where
    low : (p i : ℕ) → 5 ≤ p → (p < 5) ⊎ (p ≤ 6) × (i < k) → i < k
    low p i least (inl h) = absurd (omega (arith, least, h))
    low p i least (inr h) = h.1

    high : (p i : ℕ) → 6 < p → (p < 5) ⊎ (p ≤ 6) × (i < k) → ⊥
    high p i above (inl h) = omega (arith, above, h)
    high p i above (inr h) = let m = h.0 in omega (arith, above, m)

    before : (i : ℕ) → i < k → (t : DeclaredTemplate) → slice_get ts i ≡ Some t
        → Fits ts nesting_limit t.fields × (depth_in ts nesting_limit t.fields ≤ nesting_limit)
    before i below t found = chained_at ts (take k ts) i chained t (taken_at k i ts t below found)

pub first_many : (ts : List DeclaredTemplate) (k : ℕ) → AreNamed ts → KnowsReferences ts → AreChained ts ts
    → sum_by (λ t. nodes_in ts nesting_limit t.fields) (take k ts) ≤ node_limit → IsFirst ts C6 k
first_many ts k w known chained few c j told s =
    by_pass ts (λ p i. ComesBefore p i 7 k → ⊥) (λ i at here. no_name ts w.names i at) (λ i at here. no_id ts w.ids i at) (λ i bad here. bad (all_sound ts i w))
    (λ i at here. no_reference ts i (known_at ts i known) at)
    (λ i at here. no_cycle ts i (λ t found. (chained_at ts ts i chained t found).0) at)
    (λ i at here. no_depth ts i w.names (chained_at ts ts i chained) at)
    (λ i at here. no_nodes ts i w.names (few_before i (earlier 7 i k here)) at) (λ i at. later 8 7 i k (omega arith)) c j s told
  where
    few_before : (i : ℕ) → i < k → sum_by (λ t. nodes_in ts nesting_limit t.fields) (take (suc i) ts) ≤ node_limit
    few_before i below =
        let r = sum_of_fronts (λ (t : DeclaredTemplate). nodes_in ts nesting_limit t.fields) ts (suc i) k (omega (arith, below)) in
        omega (arith, r, few)

pub first_width : (ts : List DeclaredTemplate) (built : BuiltSet) (k : ℕ) → AreNamed ts → KnowsReferences ts → AreChained ts ts
    → sum_by (λ t. nodes_in ts nesting_limit t.fields) ts ≤ node_limit → IsSetBuilt ts built
    → All IsNarrow (take k (map (template_data (instructions_from 0 built.nodes.items)) built.templates.items)) → IsFirst ts C5 k
unfolding IsNarrowAt
first_width ts built k w known chained few b narrow c j told s =
    by_pass ts (λ p i. ComesBefore p i 8 k → ⊥) (λ i at here. no_name ts w.names i at) (λ i at here. no_id ts w.ids i at) (λ i bad here. bad (all_sound ts i w))
    (λ i at here. no_reference ts i (known_at ts i known) at)
    (λ i at here. no_cycle ts i (λ t found. (chained_at ts ts i chained t found).0) at)
    (λ i at here. no_depth ts i w.names (chained_at ts ts i chained) at)
    (λ i at here. no_nodes ts i w.names (few_all i) at) (λ i at here. no_width ts i w.names (narrow_before i (earlier 8 i k here)) at) c j s told
  where
    few_all : (i : ℕ) → sum_by (λ t. nodes_in ts nesting_limit t.fields) (take (suc i) ts) ≤ node_limit
    few_all i =
        let r = sum_of_front (λ (t : DeclaredTemplate). nodes_in ts nesting_limit t.fields) ts (suc i) in
        omega (arith, r, few)

    narrow_before : (i : ℕ) → i < k → IsNarrowAt ts i
    narrow_before i below t found =
        let a = b.are_built in
        let p = in_place_of ts b.entries 0 ts 0 (length (map node_data built.nodes.items)) a.templates i t a.in_place found in
        let trees = subst (λ us. All IsNarrow (take k us)) (built_tree built.nodes.items built.templates.items a) narrow in
        let here = one_of IsNarrow (take k a.templates) i p.0 trees (taken_at k i a.templates p.0 below p.3) in (
          b.entries,
          p.0.body,
          p.1,
          p.2,
          subst (λ n. InPlace ts b.entries nesting_limit (scope_of n t) t.fields p.1 p.0.body p.2) (let e : 0 + i ≡ i = omega arith in e) p.4,
          (let limit = here.0 in omega (arith, limit)),
          here.1,
        )

-- ---- what is told of a text

pub names_first : (ts : List DeclaredTemplate) (code : StaticCode) (template : Option ℕ)
    → IfSome template (λ k. (code ≡ C1) × AllPairs (λ a b. a.name ≢ b.name) (take k ts)) → IfSome template (IsFirst ts code)
names_first ts code None h = tt
names_first ts code (Some k) (is, apart) = subst (λ c. IsFirst ts c k) (sym is) (first_name ts k apart)

pub ids_first : (ts : List DeclaredTemplate) (code : StaticCode) (template : Option ℕ) → AllPairs (λ a b. a.name ≢ b.name) ts
    → IfSome template (λ k. (code ≡ C2) × AllPairs (λ a b. (id : ℕ) → a.id ≡ Some id → b.id ≢ Some id) (take k ts)) → IfSome template (IsFirst ts code)
ids_first ts code None names h = tt
ids_first ts code (Some k) names (is, apart) = subst (λ c. IsFirst ts c k) (sym is) (first_id ts k names apart)

pub uses_first : (ts : List DeclaredTemplate) (code : StaticCode) (template : Option ℕ) → AllPairs (λ a b. a.name ≢ b.name) ts
    → AllPairs (λ a b. (id : ℕ) → a.id ≡ Some id → b.id ≢ Some id) ts
    → IfSome template (λ k. (pass_of code ≡ 3) × All (λ t. All IsSound (all_uses t.fields)) (take k ts)) → IfSome template (IsFirst ts code)
uses_first ts code None names ids h = tt
uses_first ts code (Some k) names ids (is, sound) = first_use ts k code is names ids sound

pub references_first : (ts : List DeclaredTemplate) (code : StaticCode) (template : Option ℕ) → AreNamed ts
    → IfSome template (λ k. (code ≡ D8) × All (λ t. All (λ name. IsSome (place_of_name name ts)) (all_references t.fields)) (take k ts))
    → IfSome template (IsFirst ts code)
references_first ts code None w h = tt
references_first ts code (Some k) w (is, known) = subst (λ c. IsFirst ts c k) (sym is) (first_reference ts k w known)

pub chains_first : (ts : List DeclaredTemplate) (code : StaticCode) (template : Option ℕ) → AreNamed ts → KnowsReferences ts
    → IfSome template (IsFirstInChains ts code) → IfSome template (IsFirst ts code)
chains_first ts code None w known h = tt
chains_first ts C3 (Some k) w known h = first_cycle ts k w known h
chains_first ts C4 (Some k) w known h = first_depth ts k w known h
chains_first ts C6 (Some k) w known h = first_many ts k w known h.0 h.1
chains_first ts S1 (Some k) w known h = absurd h
chains_first ts S2 (Some k) w known h = absurd h
chains_first ts S3 (Some k) w known h = absurd h
chains_first ts S4 (Some k) w known h = absurd h
chains_first ts S5 (Some k) w known h = absurd h
chains_first ts D8 (Some k) w known h = absurd h
chains_first ts C1 (Some k) w known h = absurd h
chains_first ts C2 (Some k) w known h = absurd h
chains_first ts C5 (Some k) w known h = absurd h
chains_first ts Memory (Some k) w known h = absurd h

-- the first fault of a set that a document writes
pub written_first : (read : Option Members) (document : Members) (ts : List DeclaredTemplate) (code : StaticCode) (template : Option ℕ)
    → read ≡ Some document → WritesSet document ts → IsFaultAt ts code template
    → IfSome template (IsFirst ts code) → IsFirstFault read code template
written_first read document ts code template is shape fault first = (
  λ other us is_too w.
      let same : other ≡ document = some_is (sym is_too ∙ is) in
      subst (λ vs. IfSome template (IsFirst vs code)) (one_set document ts us shape (subst (λ d. WritesSet d us) same w)) first,
  λ unread. absurd (no_table template (subst (λ c. IsFaultAt ts c template) unread fault)),
)
  where
    no_table : (o : Option ℕ) → IsFaultAt ts S1 o → ⊥
    no_table None h = h
    no_table (Some k) h = h

-- that of a text that writes none
pub unwritten_first : (read : Option Members) (code : StaticCode) (template : Option ℕ)
    → IfSome template (λ k. (code ≡ S1) × IsFirstUnwritten read k) → IsFirstFault read code template
unwritten_first read code None h = ((λ document ts is w. tt), λ unread. tt)
unwritten_first read code (Some k) (is, first) = ((λ document ts is_too w. subst (λ c. IsFirst ts c k) (sym is) (first_of_all ts)), λ unread. first)
  where
    first_of_all : (ts : List DeclaredTemplate) → IsFirst ts S1 k
    first_of_all ts c j told s =
        by_pass ts (λ p i. ComesBefore p i 0 k → ⊥) (λ i at. later 1 0 i k (omega arith)) (λ i at. later 2 0 i k (omega arith))
        (λ i bad. later 3 0 i k (omega arith))
        (λ i at. later 4 0 i k (omega arith)) (λ i at. later 5 0 i k (omega arith)) (λ i at. later 6 0 i k (omega arith))
        (λ i at. later 7 0 i k (omega arith)) (λ i at. later 8 0 i k (omega arith)) c j s told
