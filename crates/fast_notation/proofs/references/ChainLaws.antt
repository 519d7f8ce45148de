-- Chains that fit, and the extents that are found in rounds.
use Rattle.std.proofs.Common.{◌≡◌, ◌≢◌, ℕ, zero, suc, ◌+◌, ◌<◌, ◌≤◌, List, [], ◌∷◌, refl, ap, sym, ◌∙◌, subst, arith, slice_get, length}
use Rattle.std.proofs.Common.{replicate, Option, Some, None, true, drop, map, get_or, ◌⊎◌, inl, inr}
use Rattle.std.specs.Prelude.{max, All, AllPairs, Contains, IsSome, is_some, option_map}
use Rattle.std.specs.List.{list_all}
use Rattle.std.specs.Str.{bytes_eq}
use Rattle.std.proofs.lemmas.Bool.{cases_Bool, false≢true, and_parts}
use Rattle.std.proofs.lemmas.List.{length-replicate}
use Rattle.std.proofs.lemmas.Option.{slice_get_within, slice_get-get_or, get_or_from_slice_get}
use Rattle.std.proofs.lemmas.List.Elements.{All-contains, Contains-append_left, Contains-append_right, Contains-append_cases}
use Rattle.fast_notation.specs.declared.extents.Extent.{Extent}
use Rattle.fast_notation.specs.declared.written.WrittenTemplate.{WrittenTemplate}
use Rattle.fast_notation.specs.device.WrittenSets.{written_data}
use Rattle.fast_tree.specs.meaning.AsWritten.{Declared, scalar, by_parts, group, sequence, reference, DeclaredList, no_more, more}
use Rattle.fast_tree.specs.meaning.AsWritten.{DeclaredTemplate, references, all_references}
use Rattle.fast_tree.specs.device.Places.{place_of_name}
use Rattle.fast_notation.specs.device.References.{KnowsReferences}
use Rattle.fast_notation.specs.device.Chains.{Fits, instruction_nodes, nodes_by, instruction_depth, depth_by, fields_named, nodes_in, depth_in}
use Rattle.fast_notation.specs.device.Extents.{capped, nothing, single, beside, around, if_known, extent_at, named_extent, and_then}
use Rattle.fast_notation.specs.device.Extents.{extent_in, extent_by, or_extent, next_extents, IsExtent, LeadsOn, AreExtents}
use Rattle.fast_notation.proofs.lists.PlaceLists.{placed}
use Rattle.fast_notation.proofs.texts.ReadingPieces.{same_text}
use Rattle.fast_notation.proofs.references.ChainSizes.{nodes_named, depth_named, nodes_in-by, depth_in-by, nodes_named-suc, depth_named-suc, fields_of_name}

some_is : {A : Type 0} {a b : A} → Some a ≡ Some b → a ≡ b
some_is h = cc

none_some : {A : Type 0} {a : A} → None ≡ Some a → ⊥
none_some h = cc

-- nothing is in an empty list
pub in_none : (names : List (List ℕ)) (name : List ℕ) → names ≡ [] → Contains names name → ⊥
in_none names name none (k, inside, at) =
    let e : length names ≡ 0 = ap length none in
    omega (arith, e, inside)

none_in : (names : List (List ℕ)) → ((name : List ℕ) → Contains names name → ⊥) → names ≡ []
none_in [] h = refl
none_in (n ∷ names) h = absurd (h n (0, omega arith, refl))

-- ---- the fields of a name

-- a name has the fields of a template of that name, or none
named_cases : (ts : List DeclaredTemplate) (name : List ℕ)
    → (fields_named ts name ≡ no_more) ⊎ ((k : ℕ) × (t : DeclaredTemplate) × (slice_get ts k ≡ Some t) × (t.name ≡ name) × (fields_named ts name ≡ t.fields))
unfolding fields_named
named_cases [] name = inl refl
named_cases (t ∷ ts) name = elim (cases_Bool (bytes_eq name t.name)) [
  | inl here ↦ inr (0, t, refl, sym (same_text name t.name here), rw here refl)
  | inr there ↦ elim (named_cases ts name) [
    | inl none ↦ inl (rw there none)
    | inr found ↦ inr (suc found.0, found.1, found.2, found.3, rw there found.4)
  ]
]

-- no instruction fits in any chain
fits_none : (ts : List DeclaredTemplate) (n : ℕ) → Fits ts n no_more
unfolding Fits
fits_none ts zero = refl
fits_none ts (suc n) = λ name k t here at_k same. absurd (in_none [] name refl here)

fits_named : (ts : List DeclaredTemplate) (n : ℕ) (ds : DeclaredList) (name : List ℕ) → Fits ts (suc n) ds
    → Contains (all_references ds) name → Fits ts n (fields_named ts name)
unfolding Fits
fits_named ts n ds name fits here = elim (named_cases ts name) [
  | inl none ↦ subst (Fits ts n) (sym none) (fits_none ts n)
  | inr found ↦ subst (Fits ts n) (sym found.4) (fits name found.0 found.1 here found.2 found.3)
]

-- ---- longer chains

pub fits_more : (ts : List DeclaredTemplate) (n : ℕ) (ds : DeclaredList) → Fits ts n ds → Fits ts (suc n) ds
unfolding Fits
fits_more ts zero ds fits = λ name k t here at_k same. absurd (in_none (all_references ds) name fits here)
fits_more ts (suc n) ds fits = λ name k t here at_k same. fits_more ts n t.fields (fits name k t here at_k same)

-- the same nodes for each reference are the same nodes
mutual
  same_nodes_in : (f g : List ℕ → ℕ) (d : Declared) → ((name : List ℕ) → Contains (references d) name → f name ≡ g name)
      → instruction_nodes f d ≡ instruction_nodes g d
  same_nodes_in f g (scalar name optional kind w) same = refl
  same_nodes_in f g (by_parts name optional e m) same = refl
  same_nodes_in f g (group name optional ds) same = ap suc (same_nodes f g ds same)
  same_nodes_in f g (sequence name optional own w ds) same = ap suc (same_nodes f g ds same)
  same_nodes_in f g (reference name) same = same name (0, omega arith, refl)

  same_nodes : (f g : List ℕ → ℕ) (ds : DeclaredList) → ((name : List ℕ) → Contains (all_references ds) name → f name ≡ g name) → nodes_by f ds ≡ nodes_by g ds
  same_nodes f g no_more same = refl
  same_nodes f g (more d ds) same =
      let here = same_nodes_in f g d (λ name h. same name (Contains-append_left (references d) (all_references ds) name h)) in
      let rest = same_nodes f g ds (λ name h. same name (Contains-append_right (references d) (all_references ds) name h)) in
      omega (arith, here, rest)

mutual
  same_depth_in : (f g : List ℕ → ℕ) (d : Declared) → ((name : List ℕ) → Contains (references d) name → f name ≡ g name)
      → instruction_depth f d ≡ instruction_depth g d
  same_depth_in f g (scalar name optional kind w) same = refl
  same_depth_in f g (by_parts name optional e m) same = refl
  same_depth_in f g (group name optional ds) same = ap suc (same_depth f g ds same)
  same_depth_in f g (sequence name optional own w ds) same = ap suc (same_depth f g ds same)
  same_depth_in f g (reference name) same = same name (0, omega arith, refl)

  same_depth : (f g : List ℕ → ℕ) (ds : DeclaredList) → ((name : List ℕ) → Contains (all_references ds) name → f name ≡ g name) → depth_by f ds ≡ depth_by g ds
  same_depth f g no_more same = refl
  same_depth f g (more d ds) same =
      let here = same_depth_in f g d (λ name h. same name (Contains-append_left (references d) (all_references ds) name h)) in
      let rest = same_depth f g ds (λ name h. same name (Contains-append_right (references d) (all_references ds) name h)) in
      rw (here, rest) refl

-- What fits has no more nodes and no more depth in a longer chain.
pub nodes_more : (ts : List DeclaredTemplate) (n : ℕ) (ds : DeclaredList) → Fits ts n ds → nodes_in ts (suc n) ds ≡ nodes_in ts n ds
unfolding Fits
nodes_more ts zero ds fits =
    nodes_in-by ts 1 ds ∙ same_nodes (nodes_named ts 1) (nodes_named ts 0) ds
    (λ name here. absurd (in_none (all_references ds) name fits here)) ∙ sym (nodes_in-by ts 0 ds)
nodes_more ts (suc n) ds fits =
    nodes_in-by ts (suc (suc n)) ds
    ∙ same_nodes (nodes_named ts (suc (suc n))) (nodes_named ts (suc n)) ds
    (λ name here. nodes_named-suc ts (suc n) name ∙ nodes_more ts n (fields_named ts name) (fits_named ts n ds name fits here)
    ∙ sym (nodes_named-suc ts n name))
    ∙ sym (nodes_in-by ts (suc n) ds)

pub depth_more : (ts : List DeclaredTemplate) (n : ℕ) (ds : DeclaredList) → Fits ts n ds → depth_in ts (suc n) ds ≡ depth_in ts n ds
unfolding Fits
depth_more ts zero ds fits =
    depth_in-by ts 1 ds ∙ same_depth (depth_named ts 1) (depth_named ts 0) ds
    (λ name here. absurd (in_none (all_references ds) name fits here)) ∙ sym (depth_in-by ts 0 ds)
depth_more ts (suc n) ds fits =
    depth_in-by ts (suc (suc n)) ds
    ∙ same_depth (depth_named ts (suc (suc n))) (depth_named ts (suc n)) ds
    (λ name here. depth_named-suc ts (suc n) name ∙ depth_more ts n (fields_named ts name) (fits_named ts n ds name fits here)
    ∙ sym (depth_named-suc ts n name))
    ∙ sym (depth_in-by ts (suc n) ds)

-- An extent stays what it is.
pub extent_stays : (ts : List DeclaredTemplate) (n : ℕ) (ds : DeclaredList) (e : Extent) → IsExtent ts n ds e → IsExtent ts (suc n) ds e
unfolding IsExtent
extent_stays ts zero ds e h = absurd h
extent_stays ts (suc n) ds e (fits, nodes, depth) =
    (fits_more ts n ds fits, nodes ∙ ap capped (sym (nodes_more ts n ds fits)), depth ∙ ap capped (sym (depth_more ts n ds fits)))

-- ---- extents by those of references

-- what is known of names is their nodes and depth
abbrev IsRight : (List ℕ → Option Extent) → (List ℕ → ℕ) → (List ℕ → ℕ) → Type 0
IsRight of f g = (name : List ℕ) (e : Extent) → of name ≡ Some e → (e.nodes ≡ capped (f name)) × (e.depth ≡ capped (g name))

-- every reference of these is known
abbrev AreAllKnown : (List ℕ → Option Extent) → List (List ℕ) → Type 0
AreAllKnown of names = (name : List ℕ) → Contains names name → (e : Extent) × (of name ≡ Some e)

-- an extent of nodes and depth, with every reference known
record Counts (of : List ℕ → Option Extent) (names : List (List ℕ)) (nodes depth : ℕ) (e : Extent) : Type 0 where
  pub nodes_are : e.nodes ≡ capped nodes
  pub depth_is : e.depth ≡ capped depth
  pub all_known : AreAllKnown of names

known_none : (of : List ℕ → Option Extent) → AreAllKnown of []
known_none of name here = absurd (in_none [] name refl here)

around_back : (o : Option Extent) (e : Extent) → option_map around o ≡ Some e → (i : Extent) × (o ≡ Some i) × (e ≡ around i)
around_back None e h = absurd (none_some h)
around_back (Some i) e h = (i, refl, sym (some_is h))

then_back : (o : Option Extent) (next : Extent → Option Extent) (e : Extent) → and_then o next ≡ Some e → (i : Extent) × (o ≡ Some i) × (next i ≡ Some e)
then_back None next e h = absurd (none_some h)
then_back (Some i) next e h = (i, refl, h)

counts_around : (of : List ℕ → Option Extent) (names : List (List ℕ)) (nodes depth : ℕ) (i e : Extent)
    → Counts of names (0 + nodes) (max 0 depth) i → e ≡ around i → Counts of names (suc nodes) (suc depth) e
counts_around of names nodes depth i e c is =
    let n : e.nodes ≡ capped (i.nodes + 1) = ap (λ (x : Extent). x.nodes) is in
    let d : e.depth ≡ capped (i.depth + 1) = ap (λ (x : Extent). x.depth) is in
    let cn = c.nodes_are in
    let cd = c.depth_is in
    record { nodes_are = omega (arith, n, cn); depth_is = omega (arith, d, cd); all_known = c.all_known }

no_around : (o : Option Extent) → option_map around o ≡ None → o ≡ None
no_around None h = refl
no_around (Some i) h = absurd (none_some (sym h))

then_none : (o : Option Extent) (next : Extent → Option Extent) → and_then o next ≡ None → (o ≡ None) ⊎ ((i : Extent) × (next i ≡ None))
then_none None next h = inl refl
then_none (Some i) next h = inr (i, h)

mutual
  counts_in : (of : List ℕ → Option Extent) (f g : List ℕ → ℕ) → IsRight of f g → (d : Declared) (e : Extent) → extent_in of d ≡ Some e
      → Counts of (references d) (instruction_nodes f d) (instruction_depth g d) e
  counts_in of f g right (scalar name optional kind w) e h =
      let is : single ≡ e = some_is h in
      record { nodes_are = ap (λ (x : Extent). x.nodes) (sym is); depth_is = ap (λ (x : Extent). x.depth) (sym is); all_known = known_none of }
  counts_in of f g right (by_parts name optional x m) e h =
      let is : single ≡ e = some_is h in
      record { nodes_are = ap (λ (x : Extent). x.nodes) (sym is); depth_is = ap (λ (x : Extent). x.depth) (sym is); all_known = known_none of }
  counts_in of f g right (group name optional ds) e h =
      let (i, known, is) = around_back (extent_by of ds nothing) e h in
      counts_around of (all_references ds) (nodes_by f ds) (depth_by g ds) i e (counts_by of f g right ds nothing i (omega arith) (omega arith) known) is
  counts_in of f g right (sequence name optional own w ds) e h =
      let (i, known, is) = around_back (extent_by of ds nothing) e h in
      counts_around of (all_references ds) (nodes_by f ds) (depth_by g ds) i e (counts_by of f g right ds nothing i (omega arith) (omega arith) known) is
  counts_in of f g right (reference name) e h =
      let r = right name e h in
      record { nodes_are = r.0; depth_is = r.1; all_known = λ other here. (e, subst (λ q. of q ≡ Some e) (the_one other here) h) }
    where
      the_one : (other : List ℕ) → Contains (name ∷ []) other → name ≡ other
      the_one other (zero, inside, at) = at
      the_one other (suc k, inside, at) = absurd (omega (arith, inside))

  counts_by : (of : List ℕ → Option Extent) (f g : List ℕ → ℕ) → IsRight of f g → (ds : DeclaredList) (total e : Extent)
      → total.nodes ≤ 4294967295 → total.depth ≤ 4294967295
      → extent_by of ds total ≡ Some e → Counts of (all_references ds) (total.nodes + nodes_by f ds) (max total.depth (depth_by g ds)) e
  counts_by of f g right no_more total e few low h =
      let is : total ≡ e = some_is h in
      let n : total.nodes ≡ e.nodes = ap (λ (x : Extent). x.nodes) is in
      let d : total.depth ≡ e.depth = ap (λ (x : Extent). x.depth) is in
      record { nodes_are = omega (arith, few, n); depth_is = omega (arith, low, d); all_known = known_none of }
  counts_by of f g right (more i ds) total e few low h =
      let (x, known, rest) = then_back (extent_in of i) (λ x. extent_by of ds (beside total x)) e h in
      let c = counts_in of f g right i x known in
      let cn = c.nodes_are in
      let cd = c.depth_is in
      let r = counts_by of f g right ds (beside total x) e (omega arith) (omega (arith, low, cd)) rest in
      let rn = r.nodes_are in
      let rd = r.depth_is in
      record {
        nodes_are = omega (arith, cn, rn);
        depth_is = omega (arith, cd, rd);
        all_known = λ name here. elim (Contains-append_cases (references i) (all_references ds) name here)
            [ inl front ↦ c.all_known name front | inr back ↦ r.all_known name back ];
      }

-- what is not known refers to a name of which nothing is known
mutual
  unknown_in : (of : List ℕ → Option Extent) (d : Declared) → extent_in of d ≡ None → (name : List ℕ) × Contains (references d) name × (of name ≡ None)
  unknown_in of (scalar name optional kind w) h = absurd (none_some (sym h))
  unknown_in of (by_parts name optional x m) h = absurd (none_some (sym h))
  unknown_in of (group name optional ds) h = unknown_by of ds nothing (no_around (extent_by of ds nothing) h)
  unknown_in of (sequence name optional own w ds) h = unknown_by of ds nothing (no_around (extent_by of ds nothing) h)
  unknown_in of (reference name) h = (name, (0, omega arith, refl), h)

  unknown_by : (of : List ℕ → Option Extent) (ds : DeclaredList) (total : Extent) → extent_by of ds total ≡ None
      → (name : List ℕ) × Contains (all_references ds) name × (of name ≡ None)
  unknown_by of no_more total h = absurd (none_some (sym h))
  unknown_by of (more d ds) total h = elim (then_none (extent_in of d) (λ x. extent_by of ds (beside total x)) h) [
    | inl here ↦ let (name, at, none) = unknown_in of d here in (name, Contains-append_left (references d) (all_references ds) name at, none)
    | inr rest ↦ let (name, at, none) = unknown_by of ds (beside total rest.0) rest.1 in
        (name, Contains-append_right (references d) (all_references ds) name at, none)
  ]

-- ---- one round

-- what is known of a name
known_named : (ts : List DeclaredTemplate) (index : List ℕ → Option ℕ) (n : ℕ) (es : List (Option Extent))
    → ((q : List ℕ) → index q ≡ place_of_name q ts) → AllPairs (λ a b. a.name ≢ b.name) ts
    → AreExtents ts n es → (name : List ℕ) (e : Extent) → named_extent index es name ≡ Some e
    → (k : ℕ) × (t : DeclaredTemplate) × (slice_get ts k ≡ Some t) × (t.name ≡ name) × IsExtent ts n t.fields e
known_named ts index n es indexed apart h name e is = of_place (index name) refl is
  where
    of_place : (o : Option ℕ) → index name ≡ o → extent_at es o ≡ Some e
        → (k : ℕ) × (t : DeclaredTemplate) × (slice_get ts k ≡ Some t) × (t.name ≡ name) × IsExtent ts n t.fields e
    of_place None found known = absurd (none_some known)
    of_place (Some k) found known =
        let p = placed (λ u. bytes_eq name u.name) 0 k ts (sym (indexed name) ∙ found) in
        let same : k ≡ p.0 = (let s = p.2 in omega (arith, s)) in
        (p.0, p.1, p.3, sym (same_text name p.1.name p.4), h.known p.0 p.1 e p.3 (ap (slice_get es) (sym same) ∙ if_known_back (slice_get es k) e known))
      where
        if_known_back : (o : Option (Option Extent)) (e : Extent) → if_known o ≡ Some e → o ≡ Some (Some e)
        if_known_back None e h = absurd (none_some h)
        if_known_back (Some o) e h = ap Some h

-- nothing is known of a name
unknown_named : (ts : List DeclaredTemplate) (index : List ℕ → Option ℕ) (n : ℕ) (es : List (Option Extent)) → ((q : List ℕ) → index q ≡ place_of_name q ts)
    → AreExtents ts n es → (name : List ℕ) → IsSome (place_of_name name ts) → named_extent index es name ≡ None
    → (k : ℕ) × (t : DeclaredTemplate) × (slice_get ts k ≡ Some t) × (t.name ≡ name) × LeadsOn ts n k
unknown_named ts index n es indexed h name there is = of_place (index name) refl is
  where
    of_place : (o : Option ℕ) → index name ≡ o → extent_at es o ≡ None
        → (k : ℕ) × (t : DeclaredTemplate) × (slice_get ts k ≡ Some t) × (t.name ≡ name) × LeadsOn ts n k
    of_place None found unknown = absurd (false≢true (ap is_some (sym found ∙ indexed name) ∙ there))
    of_place (Some k) found unknown =
        let p = placed (λ u. bytes_eq name u.name) 0 k ts (sym (indexed name) ∙ found) in
        let same : k ≡ p.0 = (let s = p.2 in omega (arith, s)) in
        let inside = slice_get_within ts p.0 p.1 p.3 in
        let long = h.long in
        let at : slice_get es p.0 ≡ Some None = at_none es p.0 (omega (arith, long, inside)) (ap (λ j. if_known (slice_get es j)) (sym same) ∙ unknown) in
        (p.0, p.1, p.3, sym (same_text name p.1.name p.4), h.unknown p.0 at)
      where
        at_none : (es : List (Option Extent)) (k : ℕ) → k < length es → if_known (slice_get es k) ≡ None → slice_get es k ≡ Some None
        at_none es k inside none = slice_get-get_or es k None inside ∙ ap Some (sym (ap if_known (slice_get-get_or es k None inside)) ∙ none)

leads_on : (ts : List DeclaredTemplate) (n k mid : ℕ) (t u : DeclaredTemplate) → slice_get ts k ≡ Some t → slice_get ts mid ≡ Some u
    → Contains (all_references t.fields) u.name → LeadsOn ts n mid → LeadsOn ts (suc n) k
unfolding LeadsOn
leads_on ts n k mid t u at_k at_mid refers (b, reaches) = (b, (mid, t, u, at_k, at_mid, refers, reaches))

-- instructions whose references are all known are known one round later
extent_found : (ts : List DeclaredTemplate) (index : List ℕ → Option ℕ) (n : ℕ) (es : List (Option Extent))
    → ((q : List ℕ) → index q ≡ place_of_name q ts) → AllPairs (λ a b. a.name ≢ b.name) ts
    → AreExtents ts n es → (ds : DeclaredList) (e : Extent) → extent_by (named_extent index es) ds nothing ≡ Some e → IsExtent ts (suc n) ds e
unfolding IsExtent Fits
extent_found ts index zero es indexed apart h ds e found =
    let none = λ (name : List ℕ) (x : Extent) (is : named_extent index es name ≡ Some x).
    (let r = known_named ts index zero es indexed apart h name x is in r.4) in
    let c = counts_by (named_extent index es) (nodes_named ts zero) (depth_named ts zero)
    (λ name x is. absurd (none name x is)) ds nothing e (omega arith) (omega arith) found in (
      none_in (all_references ds) (λ name here. let (x, is) = c.all_known name here in none name x is),
      c.nodes_are ∙ ap capped (let z : 0 + nodes_by (nodes_named ts zero) ds ≡ nodes_by (nodes_named ts zero) ds = omega arith in
          z ∙ sym (nodes_in-by ts zero ds)),
      c.depth_is ∙ ap capped (let z : max 0 (depth_by (depth_named ts zero) ds) ≡ depth_by (depth_named ts zero) ds = omega arith in
          z ∙ sym (depth_in-by ts zero ds)),
    )
extent_found ts index (suc n) es indexed apart h ds e found =
    let known = known_named ts index (suc n) es indexed apart h in
    let right = λ (name : List ℕ) (x : Extent) (is : named_extent index es name ≡ Some x).
    (let r = known name x is in
    let same : fields_named ts name ≡ r.1.fields = fields_of_name ts r.0 r.1 name apart r.2 r.3 in
    let it : (x.nodes ≡ capped (nodes_named ts (suc n) name)) × (x.depth ≡ capped (depth_named ts (suc n) name)) = (
      r.4.1 ∙ ap (λ gs. capped (nodes_in ts n gs)) (sym same) ∙ ap capped (sym (nodes_named-suc ts n name)),
      r.4.2 ∙ ap (λ gs. capped (depth_in ts n gs)) (sym same) ∙ ap capped (sym (depth_named-suc ts n name)),
    ) in
    it) in
    let c = counts_by (named_extent index es) (nodes_named ts (suc n)) (depth_named ts (suc n)) right ds nothing e (omega arith) (omega arith) found in (
      (λ name k t here at_k named.
          let (x, is) = c.all_known name here in
          let r = known name x is in
          let same : r.1.fields ≡ t.fields = sym (fields_of_name ts r.0 r.1 name apart r.2 r.3) ∙ fields_of_name ts k t name apart at_k named in
          subst (Fits ts n) same r.4.0),
      c.nodes_are ∙ ap capped (let z : 0 + nodes_by (nodes_named ts (suc n)) ds ≡ nodes_by (nodes_named ts (suc n)) ds = omega arith in
          z ∙ sym (nodes_in-by ts (suc n) ds)),
      c.depth_is ∙ ap capped (let z : max 0 (depth_by (depth_named ts (suc n)) ds) ≡ depth_by (depth_named ts (suc n)) ds = omega arith in
          z ∙ sym (depth_in-by ts (suc n) ds)),
    )

-- what stands at a place one round later
next_at : (of : List ℕ → Option Extent) (es : List (Option Extent)) (ts : List DeclaredTemplate) (k : ℕ) (o : Option Extent)
    → slice_get (next_extents of es ts) k ≡ Some o
    → (was : Option Extent) × (t : DeclaredTemplate) × (slice_get es k ≡ Some was) × (slice_get ts k ≡ Some t)
    × (or_extent was (extent_by of t.fields nothing) ≡ o)
next_at of [] ts k o at = absurd (none_some at)
next_at of (e ∷ es) [] k o at = absurd (none_some at)
next_at of (e ∷ es) (t ∷ ts) zero o at = (e, t, refl, refl, some_is at)
next_at of (e ∷ es) (t ∷ ts) (suc k) o at = next_at of es ts k o at

next_long : (of : List ℕ → Option Extent) (es : List (Option Extent)) (ts : List DeclaredTemplate) → length es ≡ length ts
    → length (next_extents of es ts) ≡ length ts
next_long of [] ts long = long
next_long of (e ∷ es) [] long = refl
next_long of (e ∷ es) (t ∷ ts) long = ap suc (next_long of es ts (omega (arith, long)))

-- One round more.
pub next_round : (ts : List DeclaredTemplate) (index : List ℕ → Option ℕ) (n : ℕ) (es : List (Option Extent))
    → ((q : List ℕ) → index q ≡ place_of_name q ts) → AllPairs (λ a b. a.name ≢ b.name) ts
    → KnowsReferences ts → AreExtents ts n es → AreExtents ts (suc n) (next_extents (named_extent index es) es ts)
next_round ts index n es indexed apart knows h = record {
  long = next_long (named_extent index es) es ts h.long;
  known = λ k t e at_k at_e.
      let (was, u, at_was, at_u, is) = next_at (named_extent index es) es ts k (Some e) at_e in
      let same : u.fields ≡ t.fields = ap (λ (x : DeclaredTemplate). x.fields) (some_is (sym at_u ∙ at_k)) in
      subst (λ ds. IsExtent ts (suc n) ds e) same (of_was k u e was at_was at_u is);
  unknown = λ k at_e.
      let (was, u, at_was, at_u, is) = next_at (named_extent index es) es ts k None at_e in
      let (name, here, none) = unknown_by (named_extent index es) u.fields nothing (never was u is) in
      let there : IsSome (place_of_name name ts) = All-contains (λ q. IsSome (place_of_name q ts)) (all_references u.fields) name (at_known k u at_u) here in
      let (mid, v, at_mid, named, leads) = unknown_named ts index n es indexed h name there none in
      leads_on ts n k mid u v at_u at_mid (subst (Contains (all_references u.fields)) (sym named) here) leads;
}
  where
    of_was : (k : ℕ) (u : DeclaredTemplate) (e : Extent) (was : Option Extent) → slice_get es k ≡ Some was → slice_get ts k ≡ Some u
        → or_extent was (extent_by (named_extent index es) u.fields nothing) ≡ Some e
        → IsExtent ts (suc n) u.fields e
    of_was k u e None at_was at_u is = extent_found ts index n es indexed apart h u.fields e is
    of_was k u e (Some x) at_was at_u is = extent_stays ts n u.fields e (h.known k u e at_u (at_was ∙ ap Some is))

    never : (was : Option Extent) (u : DeclaredTemplate) → or_extent was (extent_by (named_extent index es) u.fields nothing) ≡ None
        → extent_by (named_extent index es) u.fields nothing ≡ None
    never None u is = is
    never (Some e) u is = absurd (none_some (sym is))

    at_known : (k : ℕ) (u : DeclaredTemplate) → slice_get ts k ≡ Some u → All (λ q. IsSome (place_of_name q ts)) (all_references u.fields)
    at_known k u at_u =
        subst (λ (x : DeclaredTemplate). All (λ q. IsSome (place_of_name q ts)) (all_references x.fields))
        (get_or_from_slice_get ts k u u at_u) (knows k u (slice_get_within ts k u at_u))

-- ---- the first round, and the last

pub no_round : (ts : List DeclaredTemplate) (n : ℕ) (es : List (Option Extent)) → n ≡ length ts → es ≡ replicate n None → AreExtents ts zero es
unfolding LeadsOn
no_round ts n es long e = record {
  long = ap length e ∙ length-replicate n None ∙ long;
  known = λ k t x at_k at_x. absurd (none k n x (sym (ap (λ xs. slice_get xs k) e) ∙ at_x));
  unknown = λ k at. (k, refl);
}
  where
    none : (k n : ℕ) (x : Extent) → slice_get (replicate n None) k ≡ Some (Some x) → ⊥
    none k zero x h = none_some h
    none zero (suc n) x h = none_some (some_is h)
    none (suc k) (suc n) x h = none k n x h

-- Once all is known, it stays so.
pub rounds_stay : (ts : List DeclaredTemplate) (es : List (Option Extent)) (n m : ℕ) → list_all is_some es ≡ true → AreExtents ts n es
    → AreExtents ts (m + n) es
rounds_stay ts es n zero all h = subst (λ r. AreExtents ts r es) (let e : n ≡ 0 + n = omega arith in e) h
rounds_stay ts es n (suc m) all h =
    let before = rounds_stay ts es n m all h in
    subst (λ r. AreExtents ts r es) (let e : suc (m + n) ≡ suc m + n = omega arith in e)
    (record {
      long = h.long;
      known = λ k t e at_k at_e. extent_stays ts (m + n) t.fields e (before.known k t e at_k at_e);
      unknown = λ k at. absurd (no_none es k all at);
    })
  where
    no_none : (es : List (Option Extent)) (k : ℕ) → list_all is_some es ≡ true → slice_get es k ≡ Some None → ⊥
    no_none [] k all at = none_some at
    no_none (e ∷ es) zero all at = false≢true (sym (ap is_some (some_is at)) ∙ (and_parts (is_some e) (list_all is_some es) all).0)
    no_none (e ∷ es) (suc k) all at = no_none es k (and_parts (is_some e) (list_all is_some es) all).1 at

-- ---- one round

-- the extent of the next template, in front of those of the others
pub next_one : (of : List ℕ → Option Extent) (k : ℕ) (es : List (Option Extent)) (ts : List WrittenTemplate) (d : Option Extent)
    (t : WrittenTemplate) → k < length es → k < length ts
    → next_extents of (drop k es) (map written_data (drop k ts)) ≡ or_extent (get_or es k d)
    (extent_by of (written_data (get_or ts k t)).fields nothing) ∷ next_extents of (drop (suc k) es)
    (map written_data (drop (suc k) ts))
next_one of k [] ts d t inside there = absurd (omega arith)
next_one of k (e ∷ es) [] d t inside there = absurd (omega arith)
next_one of zero (e ∷ es) (x ∷ ts) d t inside there = refl
next_one of (suc k) (e ∷ es) (x ∷ ts) d t inside there = next_one of k es ts d t (omega (arith, inside)) (omega (arith, there))
