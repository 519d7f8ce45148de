-- What is read of a text is the tree that it stands for.
use Rattle.std.proofs.Common.{◌≡◌, ◌≢◌, ◌⊎◌, inl, inr, ℕ, ◌+◌, ◌<◌, ◌≤◌, suc, List, [], ◌∷◌, length, map, slice_get, get_or, sym, subst, arith, Option, Some}
use Rattle.std.specs.Prelude.{All, AllPairs, sum_by}
use Rattle.std.proofs.lemmas.List.{length-map}
use Rattle.std.proofs.lemmas.List.Elements.{All-nil, All-cons, All-append, All-get_or}
use Rattle.std.proofs.lemmas.Option.{slice_get_within, get_or_from_slice_get, slice_get-get_or}
use Rattle.toml.specs.Data.{Members}
use Rattle.fast_notation.specs.declared.building.BuiltSet.{BuiltSet}
use Rattle.fast_notation.specs.declared.codes.StaticCode.TheVariants.{C5}
use Rattle.fast_tree.specs.meaning.AsWritten.{DeclaredTemplate, Use, all_uses}
use Rattle.fast_notation.specs.device.Built.{IsIndexed}
use Rattle.fast_notation.specs.device.Chains.{nodes_in, depth_in}
use Rattle.fast_notation.specs.meaning.Checked.{IsTree, AreNarrowInside}
use Rattle.fast_notation.specs.meaning.Notation.{WritesSet}
use Rattle.fast_tree.specs.meaning.Entries.{Entry, Scope, Collects, scope_of, in_scope, uses_from}
use Rattle.fast_notation.specs.meaning.InPlace.{InPlace, AreInPlace}
use Rattle.fast_tree.specs.meaning.NodeData.{node_data}
use Rattle.fast_tree.specs.meaning.Nodes.{instructions_from, template_data}
use Rattle.fast_notation.specs.device.ReadSets.{IsChecked, IsSetBuilt}
use Rattle.fast_notation.specs.meaning.Refused.{StandsAt}
use Rattle.fast_notation.specs.device.Segments.{IsNarrow, IsWide}
use Rattle.fast_tree.specs.meaning.Sizes.{body_depth, segment_limit, nesting_limit, node_limit}
use Rattle.fast_notation.specs.device.Sound.{IsSound}
use Rattle.fast_tree.specs.meaning.Tree.{bits_of, TemplateData}
use Rattle.fast_notation.specs.meaning.Uses.{IsS2, IsS4, IsS5}
use Rattle.fast_notation.proofs.nodes.BuiltSets.{few_uses_from, in_place_at, built_tree, built_few_nodes}
use Rattle.fast_notation.proofs.lists.EntryLists.{collected_few}
use Rattle.fast_notation.proofs.references.InPlaceSizes.{in_place-depth}

-- a checked text with its entries
pub checked_indexed : (look : List ℕ → Option ℕ) (ts : List DeclaredTemplate) (entries : List Entry) → IsChecked look ts
    → Collects [] (uses_from 0 ts) entries → IsIndexed look ts entries
checked_indexed look ts entries h collected =
    let a = collected_few [] entries (uses_from 0 ts) collected in
    let b = few_uses_from ts 0 ts in
    let few = h.few in
    record { index = h.index; names = h.names; known = h.known; sound = h.sound; collected = collected; few = omega (arith, a, b, few) }

-- no use of an operator has a fault
suited_from : (n : ℕ) (ts : List DeclaredTemplate) → All (λ t. All IsSound (all_uses t.fields)) ts
    → All (λ u. ¬ (IsS2 u.1) × ¬ (IsS4 u.1) × ¬ (IsS5 u.1)) (uses_from n ts)
suited_from n [] h = All-nil (λ u. ¬ (IsS2 u.1) × ¬ (IsS4 u.1) × ¬ (IsS5 u.1))
suited_from n (t ∷ ts) h =
    All-append (λ u. ¬ (IsS2 u.1) × ¬ (IsS4 u.1) × ¬ (IsS5 u.1)) (in_scope (scope_of n t) (all_uses t.fields)) (uses_from (suc n) ts)
    (suited_in (scope_of n t) (all_uses t.fields) (h 0 t (omega arith)))
    (suited_from (suc n) ts (λ k d inside. h (suc k) d (omega (arith, inside))))
  where
    suited_in : (s : Scope) (us : List Use) → All IsSound us → All (λ u. ¬ (IsS2 u.1) × ¬ (IsS4 u.1) × ¬ (IsS5 u.1)) (in_scope s us)
    suited_in s [] h = All-nil (λ u. ¬ (IsS2 u.1) × ¬ (IsS4 u.1) × ¬ (IsS5 u.1))
    suited_in s (u ∷ us) h =
        let here = h 0 u (omega arith) in
        All-cons (λ u. ¬ (IsS2 u.1) × ¬ (IsS4 u.1) × ¬ (IsS5 u.1)) (s, u) (in_scope s us) (here.suited, here.constant, here.default)
        (suited_in s us (λ k d inside. h (suc k) d (omega (arith, inside))))

-- no template is too deep
shallow_trees : (ts : List DeclaredTemplate) (entries : List Entry) (m : ℕ) (us : List TemplateData) → AllPairs (λ a b. a.name ≢ b.name) ts
    → AreInPlace ts entries 0 ts 0 us m
    → All (λ t. depth_in ts nesting_limit t.fields ≤ nesting_limit) ts → All (λ u. body_depth u.body ≤ nesting_limit) us
shallow_trees ts entries m us apart h shallow k d inside =
    let u = get_or us k d in
    let p = in_place_at ts entries 0 ts 0 m us k u h (slice_get-get_or us k d inside) in
    let deep = in_place-depth ts entries nesting_limit (scope_of (0 + k) p.0) p.0.fields p.1 p.2 u.body apart p.5 in
    let limit : depth_in ts nesting_limit p.0.fields ≤ nesting_limit =
    subst (λ (t : DeclaredTemplate). depth_in ts nesting_limit t.fields ≤ nesting_limit) (get_or_from_slice_get ts k p.0 p.0 p.3)
    (All-get_or (λ t. depth_in ts nesting_limit t.fields ≤ nesting_limit) ts k p.0 (slice_get_within ts k p.0 p.3) shallow) in
    omega (arith, deep, limit)

-- the tree of what was built
pub tree_read : (document : Members) (ts : List DeclaredTemplate) (b : BuiltSet) → (w : IsSetBuilt ts b)
    → (names : AllPairs (λ a b. a.name ≢ b.name) ts) → AllPairs (λ a b. (id : ℕ) → a.id ≡ Some id → b.id ≢ Some id) ts
    → WritesSet document ts → All (λ t. All IsSound (all_uses t.fields)) ts
    → All (λ t. depth_in ts nesting_limit t.fields ≤ nesting_limit) ts → sum_by (λ t. nodes_in ts nesting_limit t.fields) ts ≤ node_limit
    → All IsNarrow (map (template_data (instructions_from 0 b.nodes.items)) b.templates.items)
    → IsTree document (record { templates = map (template_data (instructions_from 0 b.nodes.items)) b.templates.items; entries = b.entries })
tree_read document ts b w names ids shape sound shallow few narrow =
    let built = w.are_built in
    let ns = b.nodes.items in
    let m = length (map node_data ns) in
    let tree = built_tree ns b.templates.items built in
    let l = length-map ns node_data in
    let fits = built_few_nodes ns b.templates.items built names few in
    record {
      written = ts;
      entries = w.entries;
      nodes = m;
      shape = shape;
      names = names;
      ids = ids;
      suited = suited_from 0 ts sound;
      entries_of = w.collected;
      in_place = subst (λ us. AreInPlace ts w.entries 0 ts 0 us m) (sym tree) built.in_place;
      few_nodes = omega (arith, l, fits);
      shallow = subst (All (λ u. body_depth u.body ≤ nesting_limit)) (sym tree) (shallow_trees ts w.entries m built.templates names built.in_place shallow);
      narrow = narrow;
      entry_count = w.count;
    }

-- a segment that is too wide
pub wide_stands : (ts : List DeclaredTemplate) (b : BuiltSet) (k : ℕ) (u : TemplateData) → IsSetBuilt ts b
    → slice_get (map (template_data (instructions_from 0 b.nodes.items)) b.templates.items) k ≡ Some u
    → IsWide u → StandsAt ts C5 k
wide_stands ts b k u w found wide =
    let built = w.are_built in
    let m = length (map node_data b.nodes.items) in
    let tree = built_tree b.nodes.items b.templates.items built in
    let p = in_place_at ts w.entries 0 ts 0 m built.templates k u built.in_place (subst (λ us. slice_get us k ≡ Some u) tree found) in (
      u.body,
      (
        w.entries,
        p.0,
        p.1,
        p.2,
        p.3,
        subst (λ j. InPlace ts w.entries nesting_limit (scope_of j p.0) p.0.fields p.1 u.body p.2)
            (let e : 0 + k ≡ k = omega arith in e) p.5,
      ),
      too_wide wide,
    )
  where
    too_wide : IsWide u → (segment_limit < suc (bits_of u.body)) ⊎ ¬ (AreNarrowInside u.body)
    too_wide (inl h) = inl (omega (arith, h))
    too_wide (inr h) = inr h
