-- A body in place exists for instructions that fit, where references are known and uses of operators are sound.
use Rattle.std.proofs.Common.{◌≡◌, ◌≢◌, ℕ, zero, suc, ◌+◌, List, [], ◌∷◌, refl, ap, sym, ◌∙◌, subst, arith, slice_get, length, Option, Some}
use Rattle.std.proofs.Common.{None, false, inl, inr, codes}
use Rattle.std.specs.Prelude.{All, Contains, IsSome, if◌then◌else◌, unwrap_or}
use Rattle.std.specs.Str.{bytes_eq}
use Rattle.std.proofs.lemmas.Bool.{cases_Bool, false≢true}
use Rattle.std.proofs.lemmas.Option.{slice_get_within, slice_get-get_or, get_or_from_slice_get}
use Rattle.std.proofs.lemmas.List.Elements.{All-contains, Contains-append_left, Contains-append_right}
use Rattle.fast_tree.specs.meaning.AsWritten.{Declared, scalar, by_parts, group, sequence, reference, DeclaredList, no_more, more}
use Rattle.fast_tree.specs.meaning.AsWritten.{DeclaredTemplate, whole, Use, scalar_use, exponent_use, mantissa_use, length_use, uses}
use Rattle.fast_tree.specs.meaning.AsWritten.{all_uses, references, all_references}
use Rattle.fast_tree.specs.meaning.Entries.{Place, global, of_template, named, Entry, Scope, IsPlace, IsUnderKey, IsEntry, keeps_value}
use Rattle.fast_tree.specs.meaning.Entries.{scope_of, in_scope, uses_from}
use Rattle.fast_tree.specs.meaning.Tree.{FieldData, Body, end}
use Rattle.fast_notation.specs.meaning.Uses.{IsField}
use Rattle.fast_notation.specs.device.Sound.{IsSound}
use Rattle.fast_tree.specs.device.Places.{place_of_name}
use Rattle.fast_notation.specs.device.References.{KnowsReferences}
use Rattle.fast_notation.specs.meaning.InPlace.{InPlace, nothing, a_field, some_parts, a_group, a_sequence, a_reference}
use Rattle.fast_notation.specs.device.Chains.{Fits}
use Rattle.fast_notation.proofs.lists.PlaceLists.{placed}
use Rattle.fast_notation.proofs.texts.ReadingPieces.{same_text, text_same}

-- ---- an entry for each use

the_place : Scope → List ℕ → Place
the_place s name = if bytes_eq name (codes "global") then global else (if bytes_eq name (codes "template") then of_template s.template else named name)

other_text : (s t : List ℕ) → s ≢ t → bytes_eq s t ≡ false
other_text s t apart = elim (cases_Bool (bytes_eq s t)) [ inl same ↦ absurd (apart (same_text s t same)) | inr other ↦ other ]

is_the_place : (s : Scope) (name : List ℕ) → IsPlace s name (the_place s name)
unfolding the_place
is_the_place s name = record {
  is_global = λ is. ap (λ b. if b then global else (if bytes_eq name (codes "template") then of_template s.template else named name))
      (ap (bytes_eq name) (sym is) ∙ text_same name);
  is_template = λ is.
      ap (λ b. if b then global else (if bytes_eq name (codes "template") then of_template s.template else named name))
      (ap (λ n. bytes_eq n (codes "global")) is)
      ∙ ap (λ b. if b then of_template s.template else named name) (ap (bytes_eq name) (sym is) ∙ text_same name);
  is_named = λ not_global not_template.
      ap (λ b. if b then global else (if bytes_eq name (codes "template") then of_template s.template else named name))
      (other_text name (codes "global") not_global)
      ∙ ap (λ b. if b then of_template s.template else named name) (other_text name (codes "template") not_template);
}

under_key : Place → Option (List ℕ) → Use → Entry
under_key p None u = record { place = p; key = u.name; part = u.part }
under_key p (Some key) u = record { place = p; key = key; part = whole }

-- the entry of a use
pub the_entry : Scope → Use → Entry
the_entry s u = under_key (the_place s (unwrap_or u.written.dictionary s.dictionary)) u.written.key u

is_under_key : (p : Place) (key : Option (List ℕ)) (u : Use) → ((under_key p key u).place ≡ p) × IsUnderKey key u (under_key p key u)
unfolding under_key
is_under_key p None u = (refl, (refl, refl))
is_under_key p (Some key) u = (refl, (refl, refl))

is_the_entry : (s : Scope) (u : Use) → IsEntry s u (the_entry s u)
unfolding the_entry
is_the_entry s u =
    let p = the_place s (unwrap_or u.written.dictionary s.dictionary) in
    let (at, key) = is_under_key p u.written.key u in
    (subst (IsPlace s (unwrap_or u.written.dictionary s.dictionary)) (sym at) (is_the_place s (unwrap_or u.written.dictionary s.dictionary)), key)

-- the entries of uses
entries_of : List (Scope × Use) → List Entry
entries_of [] = []
entries_of (u ∷ us) = the_entry u.0 u.1 ∷ entries_of us

-- the entries of all uses, in order
pub all_entries : List DeclaredTemplate → List Entry
all_entries ts = entries_of (uses_from 0 ts)

entries_have : (us : List (Scope × Use)) (u : Scope × Use) → Contains us u → Contains (entries_of us) (the_entry u.0 u.1)
unfolding entries_of
entries_have [] u (k, inside, at) = absurd (omega (arith, inside))
entries_have (v ∷ us) u (zero, inside, at) = (0, omega arith, ap (λ (w : Scope × Use). the_entry w.0 w.1) at)
entries_have (v ∷ us) u (suc k, inside, at) =
    let (j, within, is) = entries_have us u (k, omega (arith, inside), at) in
    (suc j, omega (arith, within), is)

scope_has : (s : Scope) (us : List Use) (u : Use) → Contains us u → Contains (in_scope s us) (s, u)
scope_has s [] u (k, inside, at) = absurd (omega (arith, inside))
scope_has s (v ∷ us) u (zero, inside, at) = (0, omega arith, ap (λ (w : Use). let p : Scope × Use = (s, w) in p) at)
scope_has s (v ∷ us) u (suc k, inside, at) =
    let (j, within, is) = scope_has s us u (k, omega (arith, inside), at) in
    (suc j, omega (arith, within), is)

uses_have : (ts : List DeclaredTemplate) (n k : ℕ) (t : DeclaredTemplate) (u : Use) → slice_get ts k ≡ Some t
    → Contains (all_uses t.fields) u → Contains (uses_from n ts) (scope_of (n + k) t, u)
uses_have [] n k t u at here = absurd (cc)
uses_have (x ∷ ts) n zero t u at here =
    let is : x ≡ t = some_is at in
    let same : n ≡ n + 0 = omega arith in
    subst (λ m. Contains (uses_from n (x ∷ ts)) (scope_of m t, u)) same
    (subst (λ (y : DeclaredTemplate). Contains (uses_from n (x ∷ ts)) (scope_of n y, u)) is
    (Contains-append_left (in_scope (scope_of n x) (all_uses x.fields)) (uses_from (suc n) ts) (scope_of n x, u)
    (scope_has (scope_of n x) (all_uses x.fields) u (subst (λ (y : DeclaredTemplate). Contains (all_uses y.fields) u) (sym is) here))))
  where
    some_is : {A : Type 0} {a b : A} → Some a ≡ Some b → a ≡ b
    some_is h = cc
uses_have (x ∷ ts) n (suc k) t u at here =
    let same : suc n + k ≡ n + suc k = omega arith in
    subst (λ m. Contains (uses_from n (x ∷ ts)) (scope_of m t, u)) same
    (Contains-append_right (in_scope (scope_of n x) (all_uses x.fields)) (uses_from (suc n) ts) (scope_of (suc n + k) t, u)
    (uses_have ts (suc n) k t u at here))

pub entry_there : (ts : List DeclaredTemplate) (k : ℕ) (t : DeclaredTemplate) (u : Use) → slice_get ts k ≡ Some t
    → Contains (all_uses t.fields) u → Contains (all_entries ts) (the_entry (scope_of k t) u)
unfolding all_entries
entry_there ts k t u at here =
    let same : 0 + k ≡ k = omega arith in
    subst (λ m. Contains (entries_of (uses_from 0 ts)) (the_entry (scope_of m t) u)) same
    (entries_have (uses_from 0 ts) (scope_of (0 + k) t, u) (uses_have ts 0 k t u at here))

-- a field for each sound use
pub field_there : (entries : List Entry) (s : Scope) (u : Use) → IsSound u → Contains entries (the_entry s u) → (f : FieldData) × IsField entries s u f
field_there entries s u sound (k, inside, at) = elim (cases_Bool (keeps_value u.written.operator)) [
  | inl keeps ↦ (
    record { kind = u.kind; optional = u.optional; operator = u.written.operator; initial = sound.initial.0; entry = Some (suc k) },
    record {
      kind = refl;
      optional = refl;
      operator = refl;
      initial = sound.initial.1;
      entry = (k, the_entry s u, keeps, is_the_entry s u, slice_get-get_or entries k (the_entry s u) inside ∙ ap Some at, refl);
    },
  )
  | inr keeps ↦ (
    record { kind = u.kind; optional = u.optional; operator = u.written.operator; initial = sound.initial.0; entry = None },
    record { kind = refl; optional = refl; operator = refl; initial = sound.initial.1; entry = keeps },
  )
]

-- ---- bodies

-- some body in place
abbrev pub HasBody : List DeclaredTemplate → List Entry → ℕ → Scope → DeclaredList → ℕ → Type 0
HasBody ts entries chain s ds n = (body : Body) × (m : ℕ) × InPlace ts entries chain s ds n body m

-- a reference can be put in place, with nodes from any number on
abbrev CanRefer : List DeclaredTemplate → List Entry → ℕ → List ℕ → Type 0
CanRefer ts entries zero name = ⊥
CanRefer ts entries (suc chain) name = (number : ℕ) × (t : DeclaredTemplate) × (slice_get ts number ≡ Some t) × (t.name ≡ name)
    × ((n : ℕ) → HasBody ts entries chain (scope_of number t) t.fields n)

-- each use has a field
abbrev HaveFields : List Entry → Scope → List Use → Type 0
HaveFields entries s us = (u : Use) → Contains us u → (f : FieldData) × IsField entries s u f

first_of_two : (u : Use) (us : List Use) → Contains (u ∷ us) u
first_of_two u us = (0, omega arith, refl)

later : (u v : Use) (us : List Use) → Contains us v → Contains (u ∷ us) v
later u v us (k, inside, at) = (suc k, omega (arith, inside), at)

refer : (ts : List DeclaredTemplate) (entries : List Entry) (chain : ℕ) (s : Scope) (name : List ℕ) (ds : DeclaredList) (n : ℕ) → CanRefer ts entries chain name
    → ((k : ℕ) → HasBody ts entries chain s ds k) → HasBody ts entries chain s (more (reference name) ds) n
refer ts entries zero s name ds n can rest = absurd can
refer ts entries (suc chain) s name ds n (number, t, at, same, bodies) rest =
    let (body, k, inner) = bodies n in
    let (is, m, outer) = rest k in
    (_, m, a_reference number t at same inner outer)

mutual
  put : (ts : List DeclaredTemplate) (entries : List Entry) (chain : ℕ) (s : Scope) (ds : DeclaredList) → HaveFields entries s (all_uses ds)
      → ((name : List ℕ) → Contains (all_references ds) name → CanRefer ts entries chain name) → (n : ℕ) → HasBody ts entries chain s ds n
  put ts entries chain s no_more fields refers n = (end, n, nothing)
  put ts entries chain s (more d ds) fields refers n =
      put_one ts entries chain s d ds (λ u here. fields u (Contains-append_left (uses d) (all_uses ds) u here))
      (λ name here. refers name (Contains-append_left (references d) (all_references ds) name here))
      (put ts entries chain s ds (λ u here. fields u (Contains-append_right (uses d) (all_uses ds) u here))
      (λ name here. refers name (Contains-append_right (references d) (all_references ds) name here))) n

  put_one : (ts : List DeclaredTemplate) (entries : List Entry) (chain : ℕ) (s : Scope) (d : Declared) (ds : DeclaredList) → HaveFields entries s (uses d)
      → ((name : List ℕ) → Contains (references d) name → CanRefer ts entries chain name) → ((k : ℕ) → HasBody ts entries chain s ds k)
      → (n : ℕ) → HasBody ts entries chain s (more d ds) n
  put_one ts entries chain s (scalar name optional kind w) ds fields refers rest n =
      let (f, is_field) = fields (scalar_use name optional kind w) (first_of_two _ []) in
      let (is, m, outer) = rest (suc n) in
      (_, m, a_field is_field outer)
  put_one ts entries chain s (by_parts name optional v w) ds fields refers rest n =
      let (e, is_exponent) = fields (exponent_use name optional v) (first_of_two _ (mantissa_use name w ∷ [])) in
      let (f, is_mantissa) = fields (mantissa_use name w) (later (exponent_use name optional v) (mantissa_use name w)
      (mantissa_use name w ∷ []) (first_of_two _ [])) in
      let (is, m, outer) = rest (suc n) in
      (_, m, some_parts is_exponent is_mantissa outer)
  put_one ts entries chain s (group name optional inner) ds fields refers rest n =
      let (body, k, within) = put ts entries chain s inner fields refers (suc n) in
      let (is, m, outer) = rest k in
      (_, m, a_group within outer)
  put_one ts entries chain s (sequence name optional own w inner) ds fields refers rest n =
      let (f, is_field) = fields (length_use name optional own w) (first_of_two _ (all_uses inner)) in
      let (body, k, within) = put ts entries chain s inner (λ u here. fields u
      (later (length_use name optional own w) u (all_uses inner) here)) refers (suc n) in
      let (is, m, outer) = rest k in
      (_, m, a_sequence is_field within outer)
  put_one ts entries chain s (reference name) ds fields refers rest n = refer ts entries chain s name ds n (refers name (0, omega arith, refl)) rest

-- all templates have fields for their uses
abbrev pub AllHaveFields : List DeclaredTemplate → List Entry → Type 0
AllHaveFields ts entries = (k : ℕ) (t : DeclaredTemplate) → slice_get ts k ≡ Some t → HaveFields entries (scope_of k t) (all_uses t.fields)

-- What fits has a body.
pub put_in_place : (ts : List DeclaredTemplate) (entries : List Entry) → AllHaveFields ts entries → KnowsReferences ts
    → (chain k : ℕ) (t : DeclaredTemplate) → slice_get ts k ≡ Some t → Fits ts chain t.fields
    → (n : ℕ) → HasBody ts entries chain (scope_of k t) t.fields n
unfolding Fits
put_in_place ts entries fields knows zero k t at fits n =
    put ts entries zero (scope_of k t) t.fields (fields k t at) (λ name here. absurd (in_none (all_references t.fields) name fits here)) n
  where
    in_none : (names : List (List ℕ)) (name : List ℕ) → names ≡ [] → Contains names name → ⊥
    in_none names name none (k, inside, at) =
        let e : length names ≡ 0 = ap length none in
        omega (arith, e, inside)
put_in_place ts entries fields knows (suc chain) k t at fits n =
    put ts entries (suc chain) (scope_of k t) t.fields (fields k t at)
    (λ name here.
    let known : IsSome (place_of_name name ts) = All-contains (λ q. IsSome (place_of_name q ts)) (all_references t.fields) name at_known here in
    let (j, found) = is_some_of (place_of_name name ts) known in
    let p = placed (λ u. bytes_eq name u.name) 0 j ts found in
    let same : p.1.name ≡ name = sym (same_text name p.1.name p.4) in
    (p.0, p.1, p.3, same, put_in_place ts entries fields knows chain p.0 p.1 p.3 (fits name p.0 p.1 here p.3 same)))
    n
  where
    at_known : All (λ q. IsSome (place_of_name q ts)) (all_references t.fields)
    at_known = subst (λ (x : DeclaredTemplate). All (λ q. IsSome (place_of_name q ts)) (all_references x.fields))
        (get_or_from_slice_get ts k t t at) (knows k t (slice_get_within ts k t at))

    is_some_of : (o : Option ℕ) → IsSome o → (j : ℕ) × (o ≡ Some j)
    is_some_of None h = absurd (false≢true h)
    is_some_of (Some j) h = (j, refl)

-- Where all uses are sound, the entries of all uses serve.
pub sound_fields : (ts : List DeclaredTemplate) → All (λ t. All IsSound (all_uses t.fields)) ts → AllHaveFields ts (all_entries ts)
sound_fields ts sound k t at u here =
    let at_t : All IsSound (all_uses t.fields) = subst (λ (x : DeclaredTemplate). All IsSound (all_uses x.fields))
    (get_or_from_slice_get ts k t t at) (sound k t (slice_get_within ts k t at)) in
    field_there (all_entries ts) (scope_of k t) u (All-contains IsSound (all_uses t.fields) u at_t here) (entry_there ts k t u at here)
