-- Ways along references between templates by number.
use Rattle.std.proofs.Common.{◌≡◌, ℕ, zero, suc, ◌<◌, List, [], ◌∷◌, length, map, get_or, slice_get, refl, ap, sym, ◌∙◌, subst, arith}
use Rattle.std.proofs.Common.{Option, Some, None, Vec, Global}
use Rattle.std.specs.Prelude.{Contains}
use Rattle.std.specs.List.{filter_map}
use Rattle.std.specs.Str.{bytes_eq}
use Rattle.std.proofs.lemmas.List.{length-map}
use Rattle.std.proofs.lemmas.List.Elements.{Contains-get_or}
use Rattle.std.proofs.lemmas.Option.{slice_get_read, slice_get_within}
use Rattle.fast_tree.specs.meaning.AsWritten.{DeclaredTemplate, all_references}
use Rattle.fast_notation.specs.declared.codes.StaticCode.TheVariants.{C3}
use Rattle.fast_tree.specs.device.Places.{place_of_name}
use Rattle.fast_notation.specs.meaning.Refused.{Reaches, StandsAt}
use Rattle.fast_notation.specs.device.Cycles.{numbers, targets_of, Refers, Leads, IsReached, IsCyclic, AreWithin}
use Rattle.fast_notation.proofs.lists.Lists.{mapped_get, map_get_back}
use Rattle.fast_notation.proofs.lists.PlaceLists.{placed}
use Rattle.fast_notation.proofs.texts.ReadingPieces.{same_text}

-- one of the numbers of a template
pub refers_here : (graph : List (Vec ℕ Global)) (k : ℕ) (row : Vec ℕ Global) (targets : List ℕ) (i : ℕ) → k < length graph
    → row ≡ get_or graph k row → targets ≡ row.items → i < length targets
    → Refers graph k (get_or targets i 0)
refers_here graph k row targets i inside is same below =
    (row, slice_get_read graph (length graph) k row refl inside is, subst (λ js. Contains js (get_or targets i 0)) same (Contains-get_or targets i 0 below))

-- one reference more
one_more : (graph : List (Vec ℕ Global)) (n a b c : ℕ) → Leads graph n a b → Refers graph b c → Leads graph (suc n) a c
unfolding Leads
one_more graph zero a b c leads refers = (c, subst (λ x. Refers graph x c) (sym leads) refers, refl)
one_more graph (suc n) a b c (mid, first, rest) refers = (mid, first, one_more graph n mid b c rest refers)

pub nowhere : (graph : List (Vec ℕ Global)) (start : ℕ) → start < length graph → IsReached graph start start
unfolding Leads
nowhere graph start inside = record { inside = inside; count = 0; leads = refl }

pub reached_next : (graph : List (Vec ℕ Global)) (start k j : ℕ) → AreWithin graph → IsReached graph start k → Refers graph k j → IsReached graph start j
reached_next graph start k j within h refers = record {
  inside = within k j refers;
  count = suc h.count;
  leads = one_more graph h.count start k j h.leads refers;
}

pub cyclic_here : (graph : List (Vec ℕ Global)) (start k j : ℕ) → IsReached graph start k → Refers graph k j → j ≡ start → IsCyclic graph start
cyclic_here graph start k j h refers back = record { more = h.count; leads = one_more graph h.count start k start h.leads (subst (Refers graph k) back refers) }

-- ---- the templates behind the numbers

-- what a filter found
found_in : (index : List ℕ → Option ℕ) (names : List (List ℕ)) (j : ℕ) → Contains (filter_map index names) j
    → (name : List ℕ) × Contains names name × (index name ≡ Some j)
found_in index [] j (k, inside, at) = absurd (omega (arith, inside))
found_in index (name ∷ names) j here = of_first (index name) refl here (found_in index names j)
  where
    later : (q : List ℕ) × Contains names q × (index q ≡ Some j) → (q : List ℕ) × Contains (name ∷ names) q × (index q ≡ Some j)
    later (q, (k, inside, at), is) = (q, (suc k, omega (arith, inside), at), is)

    of_first : (o : Option ℕ) → index name ≡ o → Contains (filter_map index (name ∷ names)) j
        → (Contains (filter_map index names) j → (q : List ℕ) × Contains names q × (index q ≡ Some j))
        → (q : List ℕ) × Contains (name ∷ names) q × (index q ≡ Some j)
    of_first None is h rest = later (rest (rw is at h))
    of_first (Some m) is h rest = of_place (rw is at h)
      where
        of_place : Contains (m ∷ filter_map index names) j → (q : List ℕ) × Contains (name ∷ names) q × (index q ≡ Some j)
        of_place (zero, inside, at) = (name, (0, omega arith, refl), is ∙ ap Some at)
        of_place (suc k, inside, at) = later (rest (k, omega (arith, inside), at))

-- the templates of a reference by number
pub templates_of : (ts : List DeclaredTemplate) (index : List ℕ → Option ℕ) (graph : List (Vec ℕ Global))
    → ((q : List ℕ) → index q ≡ place_of_name q ts) → map numbers graph ≡ map (targets_of index) ts → (a b : ℕ) → Refers graph a b
    → (t u : DeclaredTemplate) × (slice_get ts a ≡ Some t) × (slice_get ts b ≡ Some u) × Contains (all_references t.fields) u.name
templates_of ts index graph indexed same a b (v, at_a, here) =
    let there : slice_get (map (targets_of index) ts) a ≡ Some v.items = ap (λ xs. slice_get xs a) (sym same) ∙ mapped_get numbers graph a v at_a in
    let (t, at_t, is) = map_get_back (targets_of index) ts a v.items there in
    let (name, refers, found) = found_in index (all_references t.fields) b (subst (λ js. Contains js b) is here) in
    let p = placed (λ u. bytes_eq name u.name) 0 b ts (sym (indexed name) ∙ found) in
    let at_b : b ≡ p.0 = (let s = p.2 in omega (arith, s)) in
    (t, p.1, at_t, ap (slice_get ts) at_b ∙ p.3, subst (Contains (all_references t.fields)) (same_text name p.1.name p.4) refers)

pub long_as : (ts : List DeclaredTemplate) (index : List ℕ → Option ℕ) (graph : List (Vec ℕ Global))
    → map numbers graph ≡ map (targets_of index) ts → length graph ≡ length ts
long_as ts index graph same = sym (length-map graph numbers) ∙ ap length same ∙ length-map ts (targets_of index)

pub all_within : (ts : List DeclaredTemplate) (index : List ℕ → Option ℕ) (graph : List (Vec ℕ Global))
    → ((q : List ℕ) → index q ≡ place_of_name q ts) → map numbers graph ≡ map (targets_of index) ts → AreWithin graph
all_within ts index graph indexed same a b refers =
    let (t, u, at_a, at_b, names) = templates_of ts index graph indexed same a b refers in
    let inside = slice_get_within ts b u at_b in
    let long = long_as ts index graph same in
    omega (arith, inside, long)

leads_back : (ts : List DeclaredTemplate) (index : List ℕ → Option ℕ) (graph : List (Vec ℕ Global))
    → ((q : List ℕ) → index q ≡ place_of_name q ts) → map numbers graph ≡ map (targets_of index) ts → (n a b : ℕ)
    → Leads graph n a b → Reaches ts n a b
unfolding Leads
leads_back ts index graph indexed same zero a b leads = leads
leads_back ts index graph indexed same (suc n) a b (mid, first, rest) =
    let (t, u, at_a, at_mid, names) = templates_of ts index graph indexed same a mid first in
    (mid, t, u, at_a, at_mid, names, leads_back ts index graph indexed same n mid b rest)

-- The template refers to itself.
pub cycle_at : (ts : List DeclaredTemplate) (index : List ℕ → Option ℕ) (graph : List (Vec ℕ Global))
    → ((q : List ℕ) → index q ≡ place_of_name q ts) → map numbers graph ≡ map (targets_of index) ts → (k : ℕ)
    → IsCyclic graph k → StandsAt ts C3 k
cycle_at ts index graph indexed same k h = (h.more, leads_back ts index graph indexed same (suc h.more) k k h.leads)
