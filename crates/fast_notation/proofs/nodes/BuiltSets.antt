-- Sets that are built: their tree, and the numbers in it.
use Rattle.std.proofs.Common.{◌≡◌, ◌≢◌, inl, inr, ℕ, ◌+◌, ◌*◌, ◌<◌, ◌≤◌, zero, suc, List, [], ◌∷◌, ◌++◌, length, map, take, get_or}
use Rattle.std.proofs.Common.{slice_get, refl, ap, sym, ◌∙◌, subst, arith, Some, append_assoc, append-nil, length-append, flat_map}
use Rattle.std.proofs.Common.{add-zero}
use Rattle.std.specs.Prelude.{AllPairs, sum_by}
use Rattle.std.proofs.lemmas.Bool.{cases_order}
use Rattle.std.proofs.lemmas.List.{map-append, length-map}
use Rattle.std.proofs.lemmas.List.Sums.{sum_by-cons}
use Rattle.std.proofs.lemmas.Option.{slice_get_within, get_or_from_slice_get}
use Rattle.fast_tree.specs.declared.instructions.Node.{Node}
use Rattle.fast_tree.specs.declared.instructions.Shape.{Shape}
use Rattle.fast_tree.specs.declared.instructions.Shape.TheVariants.{Field, Decimal, Group, Sequence}
use Rattle.fast_tree.specs.declared.instructions.Template.{Template}
use Rattle.fast_tree.specs.meaning.AsWritten.{Declared, scalar, by_parts, group, sequence, reference, DeclaredList, no_more, more}
use Rattle.fast_tree.specs.meaning.AsWritten.{DeclaredTemplate, Use, uses, all_uses}
use Rattle.fast_notation.specs.device.Built.{top_numbers, spread_all, outline_of, IsBuilt, AreBuilt}
use Rattle.fast_notation.specs.device.Chains.{instruction_nodes, nodes_by, nodes_in}
use Rattle.fast_tree.specs.meaning.Entries.{Entry, scope_of, in_scope, uses_from}
use Rattle.fast_notation.specs.meaning.InPlace.{◌then◌, InPlace, AreInPlace}
use Rattle.fast_notation.specs.meaning.Labels.{labels, body_labels, template_labels, AreInPreorder}
use Rattle.fast_tree.specs.meaning.NodeData.{NodeData, node_data, shape_data, TemplateOutline, outline, instructions_of, template_from}
use Rattle.fast_tree.specs.meaning.Nodes.{body_of, instructions_from, template_data}
use Rattle.fast_tree.specs.device.Numbers.{HaveDistinctIds}
use Rattle.fast_tree.specs.meaning.Numbers.{numbers_of, NameNodes, NameLaterNodes}
use Rattle.fast_tree.specs.meaning.Sizes.{nesting_limit, node_limit}
use Rattle.fast_tree.specs.meaning.Tree.{Instruction, Body, end, step, TemplateData}
use Rattle.fast_notation.proofs.nodes.BuiltLists.{spread-then}
use Rattle.fast_notation.proofs.nodes.BuiltTrees.{after_all, inside, AreNumbered, numbered-then, in_place-numbered, all_inside, long_all}
use Rattle.fast_notation.proofs.nodes.BuiltTrees.{body_among, spread_body, labels_body, named_numbers, tops_between, between_all}
use Rattle.fast_notation.proofs.references.ChainSizes.{nodes_named, nodes_in-by}
use Rattle.fast_notation.proofs.references.InPlaceSizes.{in_place-nodes}
use Rattle.fast_notation.proofs.lists.Lists.{mapped_get, map_get_back}
use Rattle.fast_notation.proofs.lists.NodeLists.{same_instructions, same_templates, data_labels, same_labels}

-- ---- one template more

in_place_push : (all : List DeclaredTemplate) (entries : List Entry) (k : ℕ) (ts : List DeclaredTemplate) (n mid m : ℕ)
    (us : List TemplateData) (t : DeclaredTemplate) (b : Body)
    → AreInPlace all entries k ts n us mid → InPlace all entries nesting_limit (scope_of (k + length ts) t) t.fields mid b m
    → AreInPlace all entries k (ts ++ t ∷ []) n (us ++ record { name = t.name; id = t.id; reset = t.reset; body = b } ∷ []) m
in_place_push all entries k [] n mid m [] t b h i =
    let here = subst (λ j. InPlace all entries nesting_limit (scope_of j t) t.fields mid b m) (add-zero k) i in
    (m, refl, refl, refl, subst (λ j. InPlace all entries nesting_limit (scope_of k t) t.fields j b m) (sym h) here, refl)
in_place_push all entries k [] n mid m (u ∷ us) t b h i = absurd h
in_place_push all entries k (s ∷ ts) n mid m [] t b h i = absurd h
in_place_push all entries k (s ∷ ts) n mid m (u ∷ us) t b (next, name, id, reset, body, rest) i = (
  next,
  name,
  id,
  reset,
  body,
  in_place_push all entries (suc k) ts next mid m us t b rest
      (subst (λ j. InPlace all entries nesting_limit (scope_of j t) t.fields mid b m) (let e : k + suc (length ts) ≡ suc k + length ts = omega arith in e) i),
)

spread_push : (us : List TemplateData) (u : TemplateData)
    → flat_map (λ v. spread_all v.body) (us ++ u ∷ []) ≡ flat_map (λ v. spread_all v.body) us ++ spread_all u.body
spread_push [] u = append-nil (spread_all u.body)
spread_push (v ∷ us) u = ap (λ ns. spread_all v.body ++ ns) (spread_push us u)
    ∙ sym (append_assoc (spread_all v.body) (flat_map (λ v. spread_all v.body) us) (spread_all u.body))

pub are_built_more : (all : List DeclaredTemplate) (entries : List Entry) (ts : List DeclaredTemplate) (t : DeclaredTemplate) (k : ℕ)
    (old new : List NodeData) (os : List TemplateOutline) (body : List ℕ) → k ≡ length ts
    → AreBuilt all entries ts old os → IsBuilt all entries nesting_limit (scope_of k t) t.fields old new [] body
    → AreBuilt all entries (ts ++ t ∷ []) new (os ++ record { name = t.name; id = t.id; reset = t.reset; body = body } ∷ [])
are_built_more all entries ts t k old new os body long a b =
    let u : TemplateData = record { name = t.name; id = t.id; reset = t.reset; body = b.body } in
    record {
      templates = a.templates ++ u ∷ [];
      in_place = in_place_push all entries 0 ts 0 (length old) (length new) a.templates t b.body a.in_place
          (subst (λ j. InPlace all entries nesting_limit (scope_of j t) t.fields (length old) b.body (length new))
          (let e : k ≡ 0 + length ts = omega (arith, long) in e) b.in_place);
      spread_into = b.nodes ∙ ap (λ ns. ns ++ spread_all b.body) a.spread_into ∙ sym (spread_push a.templates u);
      named_by = ap (λ os. os ++ record { name = t.name; id = t.id; reset = t.reset; body = body } ∷ []) a.named_by
          ∙ ap (λ ns. map outline_of a.templates ++ record {
            name = t.name;
            id = t.id;
            reset = t.reset;
            body = ns;
          } ∷ []) b.numbers ∙ sym (map-append outline_of a.templates (u ∷ []));
    }

-- the nodes of templates in place
pub set_nodes : (all : List DeclaredTemplate) (entries : List Entry) (k : ℕ) (ts : List DeclaredTemplate) (n m : ℕ)
    (us : List TemplateData) → AllPairs (λ a b. a.name ≢ b.name) all
    → AreInPlace all entries k ts n us m → m ≡ n + sum_by (λ t. nodes_in all nesting_limit t.fields) ts
set_nodes all entries k [] n m [] apart h = omega (arith, h)
set_nodes all entries k [] n m (u ∷ us) apart h = absurd h
set_nodes all entries k (t ∷ ts) n m [] apart h = absurd h
set_nodes all entries k (t ∷ ts) n m (u ∷ us) apart (mid, name, id, reset, body, rest) =
    let c = sum_by-cons (λ (t : DeclaredTemplate). nodes_in all nesting_limit t.fields) t ts in
    let here = in_place-nodes all entries nesting_limit (scope_of k t) t.fields n mid u.body apart body in
    let r = set_nodes all entries (suc k) ts mid m us apart rest in
    omega (arith, c, here, r)

sum_up_to : {A : Type 0} (f : A → ℕ) (xs : List A) (k : ℕ) (x : A) → slice_get xs k ≡ Some x → sum_by f (take k xs) + f x ≤ sum_by f xs
sum_up_to f [] k x found = absurd (cc)
sum_up_to f (y ∷ xs) zero x found =
    let c = sum_by-cons f y xs in
    let is : f y ≡ f x = ap f (some_is found) in
    omega (arith, c, is)
  where
    some_is : {A : Type 0} {a b : A} → Some a ≡ Some b → a ≡ b
    some_is h = cc
sum_up_to f (y ∷ xs) (suc k) x found =
    let c = sum_by-cons f y xs in
    let d = sum_by-cons f y (take k xs) in
    let r = sum_up_to f xs k x found in
    omega (arith, c, d, r)

-- the room for the next template
pub room_for_template : (all : List DeclaredTemplate) (entries : List Entry) (k : ℕ) (t : DeclaredTemplate) (nodes : List NodeData)
    (os : List TemplateOutline) → AllPairs (λ a b. a.name ≢ b.name) all
    → slice_get all k ≡ Some t → AreBuilt all entries (take k all) nodes os
    → sum_by (λ t. nodes_in all nesting_limit t.fields) all ≤ node_limit → length nodes + nodes_in all nesting_limit t.fields ≤ node_limit
room_for_template all entries k t nodes os apart found b few =
    let so_far = set_nodes all entries 0 (take k all) 0 (length nodes) b.templates apart b.in_place in
    let more = sum_up_to (λ (t : DeclaredTemplate). nodes_in all nesting_limit t.fields) all k t found in
    omega (arith, so_far, more, few)

-- ---- the entries are few

mutual
  few_uses : (of : List ℕ → ℕ) (d : Declared) → length (uses d) ≤ 2 * instruction_nodes of d
  few_uses of (scalar name optional kind w) = omega arith
  few_uses of (by_parts name optional e m) = omega arith
  few_uses of (group name optional ds) = let r = few_all_uses of ds in omega (arith, r)
  few_uses of (sequence name optional own w ds) = let r = few_all_uses of ds in omega (arith, r)
  few_uses of (reference name) = omega arith

  few_all_uses : (of : List ℕ → ℕ) (ds : DeclaredList) → length (all_uses ds) ≤ 2 * nodes_by of ds
  few_all_uses of no_more = omega arith
  few_all_uses of (more d ds) =
      let a = few_uses of d in
      let r = few_all_uses of ds in
      let l = length-append (uses d) (all_uses ds) in
      omega (arith, a, r, l)

pub few_uses_from : (all : List DeclaredTemplate) (n : ℕ) (ts : List DeclaredTemplate)
    → length (uses_from n ts) ≤ 2 * sum_by (λ t. nodes_in all nesting_limit t.fields) ts
few_uses_from all n [] = omega arith
few_uses_from all n (t ∷ ts) =
    let c = sum_by-cons (λ (t : DeclaredTemplate). nodes_in all nesting_limit t.fields) t ts in
    let a = few_all_uses (nodes_named all nesting_limit) t.fields in
    let e = nodes_in-by all nesting_limit t.fields in
    let s = scope_long (all_uses t.fields) in
    let l = length-append (in_scope (scope_of n t) (all_uses t.fields)) (uses_from (suc n) ts) in
    let r = few_uses_from all (suc n) ts in
    omega (arith, c, a, e, s, l, r)
  where
    scope_long : (us : List Use) → length (in_scope (scope_of n t) us) ≡ length us
    scope_long [] = refl
    scope_long (u ∷ us) = ap suc (scope_long us)

-- ---- the templates as one body

abbrev whole : List TemplateData → Body
whole [] = end
whole (u ∷ us) = u.body then whole us

inside-then : (b c : Body) → all_inside (b then c) ≡ all_inside b ++ all_inside c
inside-then end c = refl
inside-then (step i is) c = ap (λ ns. (i ∷ inside i) ++ ns) (inside-then is c) ∙ sym (append_assoc (i ∷ inside i) (all_inside is) (all_inside c))

labels-then : (b c : Body) → body_labels (b then c) ≡ body_labels b ++ body_labels c
labels-then end c = refl
labels-then (step i is) c = ap (λ ns. labels i ++ ns) (labels-then is c) ∙ sym (append_assoc (labels i) (body_labels is) (body_labels c))

spread_whole : (us : List TemplateData) → spread_all (whole us) ≡ flat_map (λ u. spread_all u.body) us
spread_whole [] = refl
spread_whole (u ∷ us) = spread-then u.body (whole us) ∙ ap (λ ns. spread_all u.body ++ ns) (spread_whole us)

labels_whole : (us : List TemplateData) → body_labels (whole us) ≡ template_labels us
labels_whole [] = refl
labels_whole (u ∷ us) = labels-then u.body (whole us) ∙ ap (λ ns. body_labels u.body ++ ns) (labels_whole us)

numbered_whole : (all : List DeclaredTemplate) (entries : List Entry) (k : ℕ) (ts : List DeclaredTemplate) (n m : ℕ)
    (us : List TemplateData) → AreInPlace all entries k ts n us m → AreNumbered n (whole us) m
numbered_whole all entries k [] n m [] h = h
numbered_whole all entries k [] n m (u ∷ us) h = absurd h
numbered_whole all entries k (t ∷ ts) n m [] h = absurd h
numbered_whole all entries k (t ∷ ts) n m (u ∷ us) (mid, name, id, reset, body, rest) =
    numbered-then u.body (whole us) n mid m (in_place-numbered body) (numbered_whole all entries (suc k) ts mid m us rest)

-- the templates among all instructions
trees_among : (all : List DeclaredTemplate) (entries : List Entry) (k : ℕ) (ts : List DeclaredTemplate) (n m : ℕ) (us : List TemplateData)
    (front is : List Instruction) → AreInPlace all entries k ts n us m
    → n ≡ length front → is ≡ front ++ all_inside (whole us) → map (template_from is) (map outline_of us) ≡ us
trees_among all entries k [] n m [] front is h long e = refl
trees_among all entries k [] n m (u ∷ us) front is h long e = absurd h
trees_among all entries k (t ∷ ts) n m [] front is h long e = absurd h
trees_among all entries k (t ∷ ts) n m (u ∷ us) front is (mid, name, id, reset, body, rest) long e =
    let numbered = in_place-numbered body in
    let split : is ≡ front ++ (all_inside u.body ++ all_inside (whole us)) = e ∙ ap (λ js. front ++ js) (inside-then u.body (whole us)) in
    let found : body_of 0 is (top_numbers u.body) ≡ u.body = ap (λ js. body_of 0 js (top_numbers u.body)) split
    ∙ body_among u.body n mid 0 front (all_inside (whole us)) numbered (omega (arith, long)) in
    let again : is ≡ (front ++ all_inside u.body) ++ all_inside (whole us) = split ∙ sym (append_assoc front (all_inside u.body) (all_inside (whole us))) in
    let l = length-append front (all_inside u.body) in
    let r = long_all u.body n mid numbered in
    ap (λ b. record { name = u.name; id = u.id; reset = u.reset; body = b } ∷ map (template_from is) (map outline_of us)) found
    ∙ ap (λ vs. u ∷ vs) (trees_among all entries (suc k) ts mid m us (front ++ all_inside u.body) is rest (omega (arith, l, r, long)) again)

-- what stands behind a template of the tree
pub in_place_at : (all : List DeclaredTemplate) (entries : List Entry) (k : ℕ) (ts : List DeclaredTemplate) (n m : ℕ)
    (us : List TemplateData) (i : ℕ) (u : TemplateData) → AreInPlace all entries k ts n us m
    → slice_get us i ≡ Some u
    → (t : DeclaredTemplate) × (a b : ℕ) × (slice_get ts i ≡ Some t) × (u.id ≡ t.id)
    × InPlace all entries nesting_limit (scope_of (k + i) t) t.fields a u.body b × (b ≤ m)
in_place_at all entries k [] n m [] i u h found = absurd (cc)
in_place_at all entries k [] n m (v ∷ us) i u h found = absurd h
in_place_at all entries k (t ∷ ts) n m [] i u h found = absurd h
in_place_at all entries k (t ∷ ts) n m (v ∷ us) zero u (mid, name, id, reset, body, rest) found =
    let is : v ≡ u = some_is found in
    let last = after_whole all entries (suc k) ts mid m us rest in (
      t,
      n,
      mid,
      refl,
      sym (ap (λ (w : TemplateData). w.id) is) ∙ id,
      subst (λ j. InPlace all entries nesting_limit (scope_of j t) t.fields n u.body mid) (sym (add-zero k))
          (subst (λ (w : TemplateData). InPlace all entries nesting_limit (scope_of k t) t.fields n w.body mid) is body),
      last,
    )
  where
    some_is : {A : Type 0} {a b : A} → Some a ≡ Some b → a ≡ b
    some_is h = cc

    after_whole : (all : List DeclaredTemplate) (entries : List Entry) (k : ℕ) (ts : List DeclaredTemplate) (n m : ℕ)
        (us : List TemplateData) → AreInPlace all entries k ts n us m → n ≤ m
    after_whole all entries k ts n m us h = after_all (whole us) n m (numbered_whole all entries k ts n m us h)
in_place_at all entries k (t ∷ ts) n m (v ∷ us) (suc i) u (mid, name, id, reset, body, rest) found =
    let r = in_place_at all entries (suc k) ts mid m us i u rest found in (
      r.0,
      r.1,
      r.2,
      r.3,
      r.4,
      subst (λ j. InPlace all entries nesting_limit (scope_of j r.0) r.0.fields r.1 u.body r.2)
          (let e : suc k + i ≡ k + suc i = omega arith in e) r.5,
      r.6,
    )

module _ {all : List DeclaredTemplate} {entries : List Entry} (ns : List Node) (ts : List Template)
    (built : AreBuilt all entries all (map node_data ns) (map outline ts)) where
  instructions_are : instructions_from 0 ns ≡ all_inside (whole built.templates)
  instructions_are =
      let us = built.templates in
      let numbered = numbered_whole all entries 0 all 0 (length (map node_data ns)) us built.in_place in
      same_instructions 0 ns ∙ ap (instructions_of 0) (built.spread_into ∙ sym (spread_whole us) ∙ sym (append-nil (spread_all (whole us))))
      ∙ spread_body (whole us) 0 (length (map node_data ns)) [] numbered ∙ append-nil (all_inside (whole us))

  -- the tree of the nodes and the templates
  pub built_tree : map (template_data (instructions_from 0 ns)) ts ≡ built.templates
  built_tree =
      same_templates (instructions_from 0 ns) ts ∙ ap (map (template_from (instructions_from 0 ns))) built.named_by
      ∙ trees_among all entries 0 all 0 (length (map node_data ns)) built.templates [] (instructions_from 0 ns) built.in_place refl instructions_are

  pub built_in_preorder : AreInPreorder ns ts
  built_in_preorder =
      let us = built.templates in
      let numbered = numbered_whole all entries 0 all 0 (length (map node_data ns)) us built.in_place in
      ap template_labels built_tree ∙ sym (labels_whole us) ∙ sym (append-nil (body_labels (whole us)))
      ∙ sym (labels_body (whole us) 0 (length (map node_data ns)) [] numbered)
      ∙ ap (data_labels 0) (append-nil (spread_all (whole us)) ∙ spread_whole us ∙ sym built.spread_into) ∙ sym (same_labels 0 ns)

  -- the template of the tree behind one of the set
  template_of_tree : (i : ℕ) (t : Template) → slice_get ts i ≡ Some t → (u : TemplateData) × (slice_get built.templates i ≡ Some u) × (outline t ≡ outline_of u)
  template_of_tree i t found =
      map_get_back outline_of built.templates i (outline t)
      (ap (λ (os : List TemplateOutline). slice_get os i) (sym built.named_by) ∙ mapped_get outline ts i t found)

  pub built_names_nodes : NameNodes (length ns) ts
  built_names_nodes i t found k inside =
      let u = template_of_tree i t found in
      let p = in_place_at all entries 0 all 0 (length (map node_data ns)) built.templates i u.0 built.in_place u.1 in
      let same : t.body.items ≡ top_numbers u.0.body = ap (λ (o : TemplateOutline). o.body) u.2 in
      let l = ap length same in
      let e = ap (λ xs. get_or xs k 0) same in
      let b = tops_between u.0.body p.1 p.2 (in_place-numbered p.5) k (omega (arith, l, inside)) in
      let high = b.1 in
      let last = p.6 in
      let m = length-map ns node_data in
      omega (arith, e, high, last, m)

  pub built_names_later_nodes : NameLaterNodes ns
  built_names_later_nodes n v found k inside =
      let us = built.templates in
      let numbered = numbered_whole all entries 0 all 0 (length (map node_data ns)) us built.in_place in
      let at : slice_get (spread_all (whole us)) n ≡ Some (node_data v) =
      ap (λ (xs : List NodeData). slice_get xs n) (spread_whole us ∙ sym built.spread_into) ∙ mapped_get node_data ns n v found in
      let same = same_numbers v.shape in
      let l = ap length same in
      let e = ap (λ xs. get_or xs k 0) same in
      let b = between_all (whole us) 0 (length (map node_data ns)) numbered n (node_data v) at k (omega (arith, l, inside)) in
      let low = b.0 in
      let high = b.1 in
      let m = length-map ns node_data in
      (omega (arith, e, low), omega (arith, e, high, m))
    where
      same_numbers : (s : Shape) → numbers_of s ≡ named_numbers (shape_data s)
      same_numbers (Field f) = refl
      same_numbers (Decimal e m) = refl
      same_numbers (Group optional body) = refl
      same_numbers (Sequence length body) = refl

  pub built_distinct_ids : AllPairs (λ a b. (id : ℕ) → a.id ≡ Some id → b.id ≢ Some id) all → HaveDistinctIds ts
  built_distinct_ids apart i j id a b at_i at_j id_of_a id_of_b =
      let f = declared_of_template i a at_i in
      let g = declared_of_template j b at_j in
      let has_f = sym f.2 ∙ id_of_a in
      let has_g = sym g.2 ∙ id_of_b in
      elim (cases_order i j) [
        | inl e ↦ e
        | inr (inl h) ↦ absurd (two_apart i j f.0 g.0 h f.1 g.1 has_f has_g)
        | inr (inr h) ↦ absurd (two_apart j i g.0 f.0 h g.1 f.1 has_g has_f)
      ]
    where
      declared_of_template : (i : ℕ) (t : Template) → slice_get ts i ≡ Some t → (d : DeclaredTemplate) × (slice_get all i ≡ Some d) × (t.id ≡ d.id)
      declared_of_template i t found =
          let u = template_of_tree i t found in
          let p = in_place_at all entries 0 all 0 (length (map node_data ns)) built.templates i u.0 built.in_place u.1 in
          (p.0, p.3, ap (λ (o : TemplateOutline). o.id) u.2 ∙ p.4)

      two_apart : (i j : ℕ) (f g : DeclaredTemplate) → i < j → slice_get all i ≡ Some f → slice_get all j ≡ Some g → f.id ≡ Some id → g.id ≡ Some id → ⊥
      two_apart i j f g before at_f at_g has_f has_g =
          let e = get_or_from_slice_get all i f f at_f in
          let h = get_or_from_slice_get all j g f at_g in
          apart i j f before (slice_get_within all j g at_g) id (ap (λ (x : DeclaredTemplate). x.id) e ∙ has_f) (ap (λ (x : DeclaredTemplate). x.id) h ∙ has_g)

  pub built_few_nodes : AllPairs (λ a b. a.name ≢ b.name) all → sum_by (λ t. nodes_in all nesting_limit t.fields) all ≤ node_limit → length ns ≤ node_limit
  built_few_nodes apart few =
      let e = set_nodes all entries 0 all 0 (length (map node_data ns)) built.templates apart built.in_place in
      let m = length-map ns node_data in
      omega (arith, e, m, few)

  -- as many templates as are written
  pub built_count : length ts ≡ length all
  built_count =
      sym (length-map ts outline) ∙ ap (λ (os : List TemplateOutline). length os) built.named_by ∙ length-map built.templates outline_of
      ∙ as_many 0 all 0 (length (map node_data ns)) built.templates built.in_place
    where
      as_many : (k : ℕ) (ds : List DeclaredTemplate) (n m : ℕ) (us : List TemplateData) → AreInPlace all entries k ds n us m → length us ≡ length ds
      as_many k [] n m [] h = refl
      as_many k [] n m (u ∷ us) h = absurd h
      as_many k (d ∷ ds) n m [] h = absurd h
      as_many k (d ∷ ds) n m (u ∷ us) (mid, name, id, reset, body, rest) = ap suc (as_many (suc k) ds mid m us rest)
