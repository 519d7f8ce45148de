-- What the extents of templates show of a set, and what is wrong with one.
use Rattle.std.proofs.Common.{◌≡◌, ◌≢◌, ℕ, zero, suc, ◌+◌, ◌<◌, ◌≤◌, List, [], ◌∷◌, refl, ap, sym, ◌∙◌, arith, slice_get, get_or, length}
use Rattle.std.proofs.Common.{take, Option, Some, None, inl, inr}
use Rattle.std.specs.Prelude.{All, AllPairs, IfSome, sum_by}
use Rattle.std.proofs.lemmas.List.{length-take}
use Rattle.std.proofs.lemmas.List.Sums.{sum_by-cons}
use Rattle.std.proofs.lemmas.Option.{slice_get_within, slice_get-get_or}
use Rattle.fast_notation.specs.declared.extents.Extent.{Extent}
use Rattle.fast_notation.specs.declared.codes.StaticCode.{StaticCode}
use Rattle.fast_notation.specs.declared.codes.StaticCode.TheVariants.{C3, C4, C6}
use Rattle.fast_notation.specs.declared.codes.StaticFault.{StaticFault}
use Rattle.fast_tree.specs.meaning.AsWritten.{DeclaredTemplate, all_uses}
use Rattle.fast_tree.specs.meaning.Entries.{Entry, scope_of}
use Rattle.fast_tree.specs.meaning.Tree.{TemplateData}
use Rattle.fast_tree.specs.meaning.Sizes.{nesting_limit, node_limit}
use Rattle.fast_notation.specs.device.Sound.{IsSound}
use Rattle.fast_notation.specs.device.References.{KnowsReferences}
use Rattle.fast_notation.specs.meaning.Faults.{IsFaultAt}
use Rattle.fast_notation.specs.meaning.Firsts.{AreChained, IsFirstInChains}
use Rattle.fast_notation.specs.meaning.InPlace.{AreInPlace}
use Rattle.fast_notation.specs.meaning.Refused.{StandsAt}
use Rattle.fast_notation.specs.device.Chains.{Fits, nodes_in, depth_in}
use Rattle.fast_notation.specs.device.Extents.{capped, known_nodes, IsExtent, LeadsOn, AreExtents, IsShallow, IsDeepAt}
use Rattle.fast_notation.proofs.lists.PlaceLists.{take_get}
use Rattle.fast_notation.proofs.references.InPlaceSizes.{in_place-nodes, in_place-depth}
use Rattle.fast_notation.proofs.references.InPlaceBodies.{all_entries, AllHaveFields, put_in_place, sound_fields}

-- the parts of an extent
pub extent_fits : (ts : List DeclaredTemplate) (n : ℕ) (t : DeclaredTemplate) (e : Extent) → IsExtent ts (suc n) t.fields e
    → Fits ts n t.fields × (e.nodes ≡ capped (nodes_in ts n t.fields)) × (e.depth ≡ capped (depth_in ts n t.fields))
unfolding IsExtent
extent_fits ts n t e h = h

-- the extent of each template
known_at : (es : List (Option Extent)) (k : ℕ) → k < length es → All IsShallow es → (e : Extent) × (slice_get es k ≡ Some (Some e)) × (e.depth ≤ nesting_limit)
known_at es k inside shallow = of_item (get_or es k None) (slice_get-get_or es k None inside) (shallow k None inside)
  where
    of_item : (o : Option Extent) → slice_get es k ≡ Some o → IsShallow o → (e : Extent) × (slice_get es k ≡ Some (Some e)) × (e.depth ≤ nesting_limit)
    of_item None at h = absurd h
    of_item (Some e) at h = (e, at, h)

-- all fit, and none is too deep
pub each_fits : (ts : List DeclaredTemplate) (es : List (Option Extent)) → AreExtents ts (suc nesting_limit) es → All IsShallow es
    → (k : ℕ) (t : DeclaredTemplate) → slice_get ts k ≡ Some t
    → Fits ts nesting_limit t.fields × (depth_in ts nesting_limit t.fields ≤ nesting_limit)
each_fits ts es h shallow k t at =
    let inside = slice_get_within ts k t at in
    let long = h.long in
    let (e, at_e, low) = known_at es k (omega (arith, inside, long)) shallow in
    let f = extent_fits ts nesting_limit t e (h.known k t e at at_e) in
    let depth : e.depth ≡ capped (depth_in ts nesting_limit t.fields) = f.2 in
    (f.0, omega (arith, depth, low))

pub all_fit : (ts : List DeclaredTemplate) (es : List (Option Extent)) → AreExtents ts (suc nesting_limit) es → All IsShallow es
    → All (λ t. Fits ts nesting_limit t.fields) ts
all_fit ts es h shallow k d inside = (each_fits ts es h shallow k (get_or ts k d) (slice_get-get_or ts k d inside)).0

pub all_shallow : (ts : List DeclaredTemplate) (es : List (Option Extent)) → AreExtents ts (suc nesting_limit) es → All IsShallow es
    → All (λ t. depth_in ts nesting_limit t.fields ≤ nesting_limit) ts
all_shallow ts es h shallow k d inside = (each_fits ts es h shallow k (get_or ts k d) (slice_get-get_or ts k d inside)).1

-- ---- sums of nodes

-- the extents of some of the templates
CountsOf : List DeclaredTemplate → List DeclaredTemplate → List (Option Extent) → Type 0
CountsOf all [] [] = Unit {0}
CountsOf all [] (e ∷ es) = ⊥
CountsOf all (t ∷ ts) [] = ⊥
CountsOf all (t ∷ ts) (e ∷ es) = (known_nodes e ≡ capped (nodes_in all nesting_limit t.fields)) × CountsOf all ts es

counts_of : (all ts : List DeclaredTemplate) (es : List (Option Extent)) → length es ≡ length ts
    → ((k : ℕ) (t : DeclaredTemplate) (o : Option Extent) → slice_get ts k ≡ Some t → slice_get es k ≡ Some o
    → known_nodes o ≡ capped (nodes_in all nesting_limit t.fields)) → CountsOf all ts es
unfolding CountsOf
counts_of all [] [] long h = tt
counts_of all [] (e ∷ es) long h = absurd (omega (arith, long))
counts_of all (t ∷ ts) [] long h = absurd (omega (arith, long))
counts_of all (t ∷ ts) (e ∷ es) long h = (h 0 t e refl refl, counts_of all ts es (omega (arith, long)) (λ k u o at_u at_o. h (suc k) u o at_u at_o))

-- each template has its count
right_counts : (ts : List DeclaredTemplate) (es : List (Option Extent)) → AreExtents ts (suc nesting_limit) es → All IsShallow es → CountsOf ts ts es
right_counts ts es h shallow = counts_of ts ts es h.long (λ k t o at at_o.
    let (e, at_e, low) = known_at es k (slice_get_within es k o at_o) shallow in
    let f = extent_fits ts nesting_limit t e (h.known k t e at at_e) in
    ap known_nodes (some_is (sym at_o ∙ at_e)) ∙ f.1)
  where
    some_is : {A : Type 0} {a b : A} → Some a ≡ Some b → a ≡ b
    some_is h = cc

few_counts : (all ts : List DeclaredTemplate) (es : List (Option Extent)) → CountsOf all ts es → sum_by known_nodes es ≤ node_limit
    → sum_by (λ t. nodes_in all nesting_limit t.fields) ts ≤ sum_by known_nodes es
unfolding CountsOf
few_counts all [] [] h few = omega arith
few_counts all [] (e ∷ es) h few = absurd h
few_counts all (t ∷ ts) [] h few = absurd h
few_counts all (t ∷ ts) (e ∷ es) (here, rest) few =
    let c = sum_by-cons known_nodes e es in
    let d = sum_by-cons (λ (u : DeclaredTemplate). nodes_in all nesting_limit u.fields) t ts in
    let r = few_counts all ts es rest (omega (arith, c, few)) in
    omega (arith, c, d, r, here, few)

many_counts : (all ts : List DeclaredTemplate) (es : List (Option Extent)) (k : ℕ) → CountsOf all ts es
    → sum_by known_nodes (take k es) ≤ sum_by (λ t. nodes_in all nesting_limit t.fields) (take k ts)
unfolding CountsOf
many_counts all ts es zero h = omega arith
many_counts all [] [] (suc k) h = omega arith
many_counts all [] (e ∷ es) (suc k) h = absurd h
many_counts all (t ∷ ts) [] (suc k) h = absurd h
many_counts all (t ∷ ts) (e ∷ es) (suc k) (here, rest) =
    let c = sum_by-cons known_nodes e (take k es) in
    let d = sum_by-cons (λ (u : DeclaredTemplate). nodes_in all nesting_limit u.fields) t (take k ts) in
    let r = many_counts all ts es k rest in
    omega (arith, c, d, r, here)

-- The set has few nodes.
pub few_nodes : (ts : List DeclaredTemplate) (es : List (Option Extent)) → AreExtents ts (suc nesting_limit) es → All IsShallow es
    → sum_by known_nodes es ≤ node_limit
    → sum_by (λ t. nodes_in ts nesting_limit t.fields) ts ≤ node_limit
few_nodes ts es h shallow few =
    let r = few_counts ts ts es (right_counts ts es h shallow) few in
    omega (arith, r, few)

-- ---- faults

-- a template from which too long a chain leads, or that is too deep
pub deep_at : (ts : List DeclaredTemplate) (es : List (Option Extent)) (k : ℕ) → AllPairs (λ a b. a.name ≢ b.name) ts → KnowsReferences ts
    → All (λ t. All IsSound (all_uses t.fields)) ts
    → AreExtents ts (suc nesting_limit) es → IsDeepAt es k → StandsAt ts C4 k
unfolding LeadsOn
deep_at ts es k apart knows sound h (inl unknown) = inl (h.unknown k unknown)
deep_at ts es k apart knows sound h (inr (e, at_e, deep)) =
    let inside = slice_get_within es k (Some e) at_e in
    let long = h.long in
    let (t, at) = there ts k (omega (arith, inside, long)) in
    let f = extent_fits ts nesting_limit t e (h.known k t e at at_e) in
    let depth : e.depth ≡ capped (depth_in ts nesting_limit t.fields) = f.2 in
    let (body, m, placed) = put_in_place ts (all_entries ts) (sound_fields ts sound) knows nesting_limit k t at f.0 0 in
    let size = in_place-depth ts (all_entries ts) nesting_limit (scope_of k t) t.fields 0 m body apart placed in
    inr (body, (all_entries ts, t, 0, m, at, placed), omega (arith, depth, deep, size))
  where
    there : {A : Type 0} (xs : List A) (k : ℕ) → k < length xs → (x : A) × (slice_get xs k ≡ Some x)
    there [] k inside = absurd (omega (arith, inside))
    there (x ∷ xs) zero inside = (x, refl)
    there (x ∷ xs) (suc k) inside = there xs k (omega (arith, inside))

-- the templates in place, with the nodes that were counted
in_place_from : (all : List DeclaredTemplate) (entries : List Entry) → AllPairs (λ a b. a.name ≢ b.name) all → KnowsReferences all
    → AllHaveFields all entries → (j : ℕ) (ts : List DeclaredTemplate) (n : ℕ)
    → ((k : ℕ) (t : DeclaredTemplate) → slice_get ts k ≡ Some t → (slice_get all (j + k) ≡ Some t) × Fits all nesting_limit t.fields)
    → (us : List TemplateData) × (m : ℕ) × AreInPlace all entries j ts n us m × (m ≡ n + sum_by (λ t. nodes_in all nesting_limit t.fields) ts)
in_place_from all entries apart knows fields j [] n h = ([], n, refl, omega arith)
in_place_from all entries apart knows fields j (t ∷ ts) n h =
    let (at_j, fits) = h 0 t refl in
    let at : slice_get all j ≡ Some t = ap (slice_get all) (let e : j ≡ j + 0 = omega arith in e) ∙ at_j in
    let (body, mid, placed) = put_in_place all entries fields knows nesting_limit j t at fits n in
    let here = in_place-nodes all entries nesting_limit (scope_of j t) t.fields n mid body apart placed in
    let (us, m, rest, sum) = in_place_from all entries apart knows fields (suc j) ts mid (λ k u at_u.
    let (at_k, fits_k) = h (suc k) u at_u in
    (ap (slice_get all) (let e : suc j + k ≡ j + suc k = omega arith in e) ∙ at_k, fits_k)) in
    let d = sum_by-cons (λ (u : DeclaredTemplate). nodes_in all nesting_limit u.fields) t ts in
    (record { name = t.name; id = t.id; reset = t.reset; body = body } ∷ us, m, (mid, refl, refl, refl, placed, rest), omega (arith, here, sum, d))

-- the template with which there are too many nodes
pub many_at : (ts : List DeclaredTemplate) (es : List (Option Extent)) (k : ℕ) → AllPairs (λ a b. a.name ≢ b.name) ts → KnowsReferences ts
    → All (λ t. All IsSound (all_uses t.fields)) ts
    → AreExtents ts (suc nesting_limit) es → All IsShallow es → node_limit < sum_by known_nodes (take (suc k) es) → StandsAt ts C6 k
many_at ts es k apart knows sound h shallow many =
    let (us, m, placed, sum) = in_place_from ts (all_entries ts) apart knows (sound_fields ts sound) 0 (take (suc k) ts) 0 (λ j t at.
    let whole = take_get (suc k) j ts t at in
    (ap (slice_get ts) (let e : 0 + j ≡ j = omega arith in e) ∙ whole, (each_fits ts es h shallow j t whole).0)) in
    let counted = many_counts ts ts es (suc k) (right_counts ts es h shallow) in
    (all_entries ts, us, m, placed, omega (arith, sum, counted, many))

-- the same of a fault as it is told
pub deep_fault : (ts : List DeclaredTemplate) (es : List (Option Extent)) → AllPairs (λ a b. a.name ≢ b.name) ts → KnowsReferences ts
    → All (λ t. All IsSound (all_uses t.fields)) ts → AreExtents ts (suc nesting_limit) es
    → (fault : StaticFault) → (k : ℕ) × (fault.code ≡ C4) × (fault.template ≡ Some k) × IsDeepAt es k → IsFaultAt ts fault.code fault.template
deep_fault ts es apart knows sound h fault (k, code, template, deep) = rw (code, template) (deep_at ts es k apart knows sound h deep)

pub many_fault : (ts : List DeclaredTemplate) (es : List (Option Extent)) → AllPairs (λ a b. a.name ≢ b.name) ts → KnowsReferences ts
    → All (λ t. All IsSound (all_uses t.fields)) ts → AreExtents ts (suc nesting_limit) es
    → All IsShallow es → (fault : StaticFault) → (k : ℕ) × (fault.code ≡ C6) × (fault.template ≡ Some k) × (k < length es)
    × (node_limit < sum_by known_nodes (take (suc k) es))
    → IsFaultAt ts fault.code fault.template
many_fault ts es apart knows sound h shallow fault (k, code, template, inside, many) = rw (code, template) (many_at ts es k apart knows sound h shallow many)

-- ---- what was shown before a fault

-- the templates before one fit, and none is too deep
chained_before : (ts : List DeclaredTemplate) (es : List (Option Extent)) (k : ℕ) → AreExtents ts (suc nesting_limit) es
    → All IsShallow (take k es) → AreChained ts (take k ts)
chained_before ts es k h shallow j d inside =
    let t = get_or (take k ts) j d in
    let at = take_get k j ts t (slice_get-get_or (take k ts) j d inside) in
    let l = length-take k ts in
    let m = length-take k es in
    let long = h.long in
    let (e, at_e, low) = known_at (take k es) j (omega (arith, inside, l, m, long)) shallow in
    let f = extent_fits ts nesting_limit t e (h.known j t e at (take_get k j es (Some e) at_e)) in
    let depth : e.depth ≡ capped (depth_in ts nesting_limit t.fields) = f.2 in
    (f.0, omega (arith, depth, low))

few_counts_before : (all ts : List DeclaredTemplate) (es : List (Option Extent)) (k : ℕ) → CountsOf all ts es → sum_by known_nodes (take k es) ≤ node_limit
    → sum_by (λ t. nodes_in all nesting_limit t.fields) (take k ts) ≤ sum_by known_nodes (take k es)
unfolding CountsOf
few_counts_before all ts es zero h few = omega arith
few_counts_before all [] [] (suc k) h few = omega arith
few_counts_before all [] (e ∷ es) (suc k) h few = absurd h
few_counts_before all (t ∷ ts) [] (suc k) h few = absurd h
few_counts_before all (t ∷ ts) (e ∷ es) (suc k) (here, rest) few =
    let c = sum_by-cons known_nodes e (take k es) in
    let d = sum_by-cons (λ (u : DeclaredTemplate). nodes_in all nesting_limit u.fields) t (take k ts) in
    let r = few_counts_before all ts es k rest (omega (arith, c, few)) in
    omega (arith, c, d, r, here, few)

pub cycle_first : (ts : List DeclaredTemplate) (fault : StaticFault) → IfSome fault.template (λ k. (fault.code ≡ C3) × ((j : ℕ) → j < k → ¬ (StandsAt ts C3 j)))
    → IfSome fault.template (IsFirstInChains ts fault.code)
cycle_first ts fault h = of_code fault.code fault.template h
  where
    of_code : (code : StaticCode) (o : Option ℕ) → IfSome o (λ k. (code ≡ C3) × ((j : ℕ) → j < k → ¬ (StandsAt ts C3 j))) → IfSome o (IsFirstInChains ts code)
    of_code code None h = tt
    of_code code (Some k) (is, first) = rw is first

pub deep_first : (ts : List DeclaredTemplate) (es : List (Option Extent)) → AreExtents ts (suc nesting_limit) es
    → (fault : StaticFault) → (k : ℕ) × (fault.code ≡ C4) × (fault.template ≡ Some k) × All IsShallow (take k es)
    → IfSome fault.template (IsFirstInChains ts fault.code)
deep_first ts es h fault (k, code, template, shallow) = rw (code, template) (chained_before ts es k h shallow)

pub many_first : (ts : List DeclaredTemplate) (es : List (Option Extent)) → AreExtents ts (suc nesting_limit) es → All IsShallow es
    → (fault : StaticFault) → (k : ℕ) × (fault.code ≡ C6) × (fault.template ≡ Some k) × (sum_by known_nodes (take k es) ≤ node_limit)
    → IfSome fault.template (IsFirstInChains ts fault.code)
many_first ts es h shallow fault (k, code, template, few) =
    let r = few_counts_before ts ts es k (right_counts ts es h shallow) few in
    rw (code, template) ((λ j d inside. each_fits ts es h shallow j (get_or ts j d) (slice_get-get_or ts j d inside)), omega (arith, r, few))
