-- Templates that do not refer to themselves, by the ranks of all.
use Rattle.std.proofs.Common.{◌≡◌, ◌≢◌, inl, inr, ℕ, ◌+◌, zero, suc, ◌<◌, ◌≤◌, true, List, [], ◌∷◌, map, slice_get, refl, ap, sym, ◌∙◌}
use Rattle.std.proofs.Common.{subst, arith, Option, Some, None, Vec, Global}
use Rattle.std.specs.Prelude.{All, AllPairs, Contains, nat_lt}
use Rattle.std.specs.List.{filter_map}
use Rattle.std.specs.Str.{bytes_eq}
use Rattle.std.proofs.lemmas.Bool.{cases_lt, false≢true}
use Rattle.std.proofs.lemmas.Bool.Decides.{nat_tests}
use Rattle.std.proofs.lemmas.Option.{slice_get_within, get_or_from_slice_get}
use Rattle.fast_tree.specs.meaning.AsWritten.{DeclaredTemplate, all_references}
use Rattle.fast_notation.specs.declared.codes.StaticCode.TheVariants.{C3}
use Rattle.fast_tree.specs.device.Places.{place_of_name}
use Rattle.fast_notation.specs.meaning.Refused.{Reaches, StandsAt}
use Rattle.fast_notation.specs.device.Cycles.{numbers, targets_of, Refers, Leads, LeadsDown, AreRanked}
use Rattle.fast_notation.proofs.lists.Lists.{mapped_get, map_get_back}
use Rattle.fast_notation.proofs.outcomes.NoTrees.{one_of_name}
use Rattle.fast_notation.proofs.lists.PlaceLists.{placed, no_place}
use Rattle.fast_notation.proofs.texts.ReadingPieces.{same_text, text_same}

some_is : {A : Type 0} {a b : A} → Some a ≡ Some b → a ≡ b
some_is h = cc

-- ---- ranks

-- one template more
pub ranked_more : (graph : List (Vec ℕ Global)) (ranks : List ℕ) (first k rank : ℕ) (row : Vec ℕ Global) → slice_get graph k ≡ Some row
    → slice_get ranks k ≡ Some rank
    → All (LeadsDown ranks (nat_lt k first) rank) row.items
    → ((a b : ℕ) → a < k → Refers graph a b → (r : ℕ) × (slice_get ranks a ≡ Some r) × LeadsDown ranks (nat_lt a first) r b)
    → (a b : ℕ) → a < k + 1 → Refers graph a b → (r : ℕ) × (slice_get ranks a ≡ Some r) × LeadsDown ranks (nat_lt a first) r b
ranked_more graph ranks first k rank row at_row at_rank here before a b below (v, at_a, (i, inside, at)) = elim (cases_lt a k) [
  | inl h ↦ before a b h (v, at_a, (i, inside, at))
  | inr h ↦
      let is : k ≡ a = omega (arith, h, below) in
      let same : v ≡ row = some_is (sym at_a ∙ ap (slice_get graph) (sym is) ∙ at_row) in
      let down = subst (LeadsDown ranks (nat_lt k first) rank) at
      (subst (λ (w : Vec ℕ Global). All (LeadsDown ranks (nat_lt k first) rank) w.items) (sym same) here i b inside) in
      subst (λ c. (r : ℕ) × (slice_get ranks c ≡ Some r) × LeadsDown ranks (nat_lt c first) r b) is (rank, at_rank, down)
]

-- no way leads up
ranked_way : (graph : List (Vec ℕ Global)) (ranks : List ℕ) (first : ℕ) → AreRanked graph ranks first → (n a b p : ℕ) → Leads graph n a b
    → slice_get ranks a ≡ Some p → (q : ℕ) × (slice_get ranks b ≡ Some q) × (q ≤ p)
unfolding Leads
ranked_way graph ranks first ranked zero a b p leads at = (p, subst (λ k. slice_get ranks k ≡ Some p) leads at, omega arith)
ranked_way graph ranks first ranked (suc n) a b p (mid, refers, rest) at =
    let (r, at_a, (next, at_mid, less, strict)) = ranked a mid refers in
    let same : r ≡ p = some_is (sym at_a ∙ at) in
    let (q, at_b, least) = ranked_way graph ranks first ranked n mid b next rest at_mid in
    (q, at_b, omega (arith, same, less, least))

not_cyclic : (graph : List (Vec ℕ Global)) (ranks : List ℕ) (first : ℕ) → AreRanked graph ranks first → (j n : ℕ) → j < first → Leads graph (suc n) j j → ⊥
unfolding Leads
not_cyclic graph ranks first ranked j n before (mid, refers, rest) =
    let (r, at_j, (next, at_mid, less, strict)) = ranked j mid refers in
    let (q, back, least) = ranked_way graph ranks first ranked n mid j next rest at_mid in
    let same : r ≡ q = some_is (sym at_j ∙ back) in
    let lower = strict (is_before j first before) in
    omega (arith, same, least, lower)
  where
    is_before : (m n : ℕ) → m < n → nat_lt m n ≡ true
    is_before m n h = grind (arith, nat_tests)

-- ---- references by number

found_there : (index : List ℕ → Option ℕ) (names : List (List ℕ)) (name : List ℕ) (j : ℕ) → Contains names name → index name ≡ Some j
    → Contains (filter_map index names) j
found_there index [] name j (k, inside, at) is = absurd (omega (arith, inside))
found_there index (q ∷ names) name j (zero, inside, at) is =
    let here : index q ≡ Some j = ap index at ∙ is in
    rw here (0, omega arith, refl)
found_there index (q ∷ names) name j (suc k, inside, at) is = of_first (index q) refl (found_there index names name j (k, omega (arith, inside), at) is)
  where
    of_first : (o : Option ℕ) → index q ≡ o → Contains (filter_map index names) j → Contains (filter_map index (q ∷ names)) j
    of_first None none rest = rw none rest
    of_first (Some m) some (i, below, at_i) = rw some (suc i, omega (arith, below), at_i)

-- the place of a template's name is its own
place_there : (ts : List DeclaredTemplate) (k : ℕ) (u : DeclaredTemplate) → AllPairs (λ a b. a.name ≢ b.name) ts → slice_get ts k ≡ Some u
    → place_of_name u.name ts ≡ Some k
place_there ts k u apart at = of_place (place_of_name u.name ts) refl
  where
    of_place : (o : Option ℕ) → place_of_name u.name ts ≡ o → place_of_name u.name ts ≡ Some k
    of_place None none =
        let here = no_place (λ (v : DeclaredTemplate). bytes_eq u.name v.name) 0 ts none k u (slice_get_within ts k u at) in
        let own = ap (λ (v : DeclaredTemplate). bytes_eq u.name v.name) (get_or_from_slice_get ts k u u at) in
        absurd (false≢true (sym here ∙ own ∙ text_same u.name))
    of_place (Some n) some =
        let (p, v, number, at_p, passes) = placed (λ (w : DeclaredTemplate). bytes_eq u.name w.name) 0 n ts some in
        let is : p ≡ k = one_of_name ts p k v u apart at_p at (sym (same_text u.name v.name passes)) in
        some ∙ ap Some (let e : n ≡ k = omega (arith, number, is) in e)

refers_forth : (ts : List DeclaredTemplate) (index : List ℕ → Option ℕ) (graph : List (Vec ℕ Global))
    → ((q : List ℕ) → index q ≡ place_of_name q ts) → map numbers graph ≡ map (targets_of index) ts
    → AllPairs (λ a b. a.name ≢ b.name) ts → (a b : ℕ) (t u : DeclaredTemplate) → slice_get ts a ≡ Some t → slice_get ts b ≡ Some u
    → Contains (all_references t.fields) u.name → Refers graph a b
refers_forth ts index graph indexed same apart a b t u at_a at_b refers =
    let there : slice_get (map numbers graph) a ≡ Some (targets_of index t) = ap (λ xs. slice_get xs a) same ∙ mapped_get (targets_of index) ts a t at_a in
    let (v, at_v, is) = map_get_back numbers graph a (targets_of index t) there in
    (v, at_v, subst (λ js. Contains js b) is (found_there index (all_references t.fields) u.name b refers (indexed u.name ∙ place_there ts b u apart at_b)))

leads_forth : (ts : List DeclaredTemplate) (index : List ℕ → Option ℕ) (graph : List (Vec ℕ Global))
    → ((q : List ℕ) → index q ≡ place_of_name q ts) → map numbers graph ≡ map (targets_of index) ts
    → AllPairs (λ a b. a.name ≢ b.name) ts → (n a b : ℕ) → Reaches ts n a b → Leads graph n a b
unfolding Leads
leads_forth ts index graph indexed same apart zero a b reaches = reaches
leads_forth ts index graph indexed same apart (suc n) a b (mid, t, u, at_a, at_mid, refers, rest) =
    (mid, refers_forth ts index graph indexed same apart a mid t u at_a at_mid refers, leads_forth ts index graph indexed same apart n mid b rest)

-- A template before the first does not refer to itself.
pub no_earlier_cycle : (ts : List DeclaredTemplate) (index : List ℕ → Option ℕ) (graph : List (Vec ℕ Global)) (ranks : List ℕ) (first : ℕ)
    → ((q : List ℕ) → index q ≡ place_of_name q ts)
    → map numbers graph ≡ map (targets_of index) ts → AllPairs (λ a b. a.name ≢ b.name) ts → AreRanked graph ranks first → (j : ℕ)
    → j < first → StandsAt ts C3 j → ⊥
no_earlier_cycle ts index graph ranks first indexed same apart ranked j before (n, r) =
    not_cyclic graph ranks first ranked j n before (leads_forth ts index graph indexed same apart (suc n) j j r)
