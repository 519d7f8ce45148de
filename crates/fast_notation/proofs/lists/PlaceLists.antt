-- Places of one element more.
use Rattle.std.proofs.Common.{◌≡◌, ◌≢◌, ℕ, ◌+◌, List, [], ◌∷◌, ◌++◌, length, take, get_or, slice_get, refl, ap, sym, ◌∙◌, arith, suc, zero}
use Rattle.std.proofs.Common.{add-zero, Option, Some, None, Bool, true, false, inl, inr}
use Rattle.std.specs.Prelude.{if◌then◌else◌, All, AllPairs}
use Rattle.std.proofs.lemmas.Bool.{cases_Bool, false≢true}
use Rattle.std.proofs.lemmas.List.Elements.{All-nil, All-cons}
use Rattle.std.specs.Prelude.{nat_eq, is_some}
use Rattle.std.specs.Option.{option_copied}
use Rattle.std.specs.Borrow.{Bor}
use Rattle.std.specs.Str.{bytes_eq}
use Rattle.std.proofs.lemmas.Bool.Decides.{nat_tests}
use Rattle.std.proofs.lemmas.List.{length-take}
use Rattle.std.proofs.lemmas.List.Quantifiers.{all_pairs_push}
use Rattle.std.proofs.lemmas.Option.{slice_get_within}
use Rattle.fast_tree.specs.meaning.AsWritten.{DeclaredTemplate}
use Rattle.fast_notation.specs.meaning.Refused.{StandsAt}
use Rattle.fast_notation.specs.declared.codes.StaticCode.TheVariants.{C1, C2}
use Rattle.fast_tree.specs.device.Places.{place, is_id, place_of_name, place_of_id}
use Rattle.fast_notation.proofs.texts.ReadingPieces.{same_text, text_same}

-- the first value, or else the second
abbrev pub or_else : Option ℕ → Option ℕ → Option ℕ
or_else (Some n) o = Some n
or_else None o = o

-- one element more behind the others
pub place-push : {A : Type 0} (test : A → Bool) (n : ℕ) (xs : List A) (x : A)
    → place test n (xs ++ x ∷ []) ≡ or_else (place test n xs) (if test x then Some (n + length xs) else None)
place-push test n [] x = ap (λ m. if test x then Some m else None) (sym (add-zero n))
place-push test n (y ∷ xs) x = elim (cases_Bool (test y)) [
  | inl here ↦ rw here refl
  | inr there ↦ rw there (place-push test (suc n) xs x ∙ ap (λ m. or_else (place test (suc n) xs) (if test x then Some m else None))
      (let e : suc n + length xs ≡ n + suc (length xs) = omega arith in e))
]

-- what stands at a place
pub placed : {A : Type 0} (test : A → Bool) (n k : ℕ) (xs : List A) → place test n xs ≡ Some k
    → (j : ℕ) × (x : A) × (k ≡ n + j) × (slice_get xs j ≡ Some x) × (test x ≡ true)
placed test n k [] e = absurd (cc)
placed test n k (x ∷ xs) e = elim (cases_Bool (test x)) [
  | inl here ↦ (0, x, (let s : n ≡ k = some_is (rw here at e) in omega (arith, s)), refl, here)
  | inr there ↦
      let r = placed test (suc n) k xs (rw there at e) in
      (suc r.0, r.1, (let s = r.2 in omega (arith, s)), r.3, r.4)
]
  where
    some_is : {a b : ℕ} → Some a ≡ Some b → a ≡ b
    some_is h = cc

-- no element passes, where there is no place
pub no_place : {A : Type 0} (test : A → Bool) (n : ℕ) (xs : List A) → place test n xs ≡ None → All (λ x. test x ≡ false) xs
no_place test n [] e = All-nil (λ x. test x ≡ false)
no_place test n (x ∷ xs) e = elim (cases_Bool (test x)) [
  | inl here ↦ absurd (some_none (rw here at e))
  | inr there ↦ All-cons (λ x. test x ≡ false) x xs there (no_place test (suc n) xs (rw there at e))
]
  where
    some_none : {a : ℕ} → Some a ≡ None → ⊥
    some_none h = cc

-- ---- names and identifiers of templates

or_nothing : (o : Option ℕ) → or_else o None ≡ o
or_nothing None = refl
or_nothing (Some n) = refl

-- what stands in the front stands in the list
pub take_get : {A : Type 0} (k j : ℕ) (xs : List A) (x : A) → slice_get (take k xs) j ≡ Some x → slice_get xs j ≡ Some x
take_get zero j xs x e = absurd (cc)
take_get (suc k) j [] x e = e
take_get (suc k) zero (y ∷ xs) x e = e
take_get (suc k) (suc j) (y ∷ xs) x e = take_get k j xs x e

other_way : (s t : List ℕ) → bytes_eq s t ≡ false → bytes_eq t s ≡ false
other_way s t e = elim (cases_Bool (bytes_eq t s)) [
  | inl same ↦ absurd (false≢true (sym e ∙ ap (λ r. bytes_eq s r) (same_text t s same) ∙ text_same s))
  | inr other ↦ other
]

-- the index by names with one template more
pub names_more : (old new : List ℕ → Option ℕ) (us : List DeclaredTemplate) (t : DeclaredTemplate) (k : ℕ) → k ≡ length us
    → ((q : List ℕ) → old q ≡ place_of_name q us) → old t.name ≡ None
    → ((q : List ℕ) → new q ≡ (if bytes_eq t.name q then Some k else old q)) → (q : List ℕ) → new q ≡ place_of_name q (us ++ t ∷ [])
names_more old new us t k long before none updated q =
    updated q ∙ elim (cases_Bool (bytes_eq t.name q)) as (λ _. (if bytes_eq t.name q then Some k else old q) ≡ place_of_name q (us ++ t ∷ [])) [
      | inl same ↦
          let is : q ≡ t.name = sym (same_text t.name q same) in
          let here : place_of_name q us ≡ None = ap (λ s. place_of_name s us) is ∙ sym (before t.name) ∙ none in
          let passes : bytes_eq q t.name ≡ true = ap (λ s. bytes_eq s t.name) is ∙ text_same t.name in
          rw (same, place-push (λ u. bytes_eq q u.name) 0 us t, here, passes) (ap Some (let e : k ≡ 0 + length us = omega (arith, long) in e))
      | inr other ↦
          rw (other, before q, place-push (λ u. bytes_eq q u.name) 0 us t, other_way t.name q other) (sym (or_nothing (place_of_name q us)))
    ]

-- no earlier template has the name
pub names_apart : (us : List DeclaredTemplate) (t : DeclaredTemplate) → place_of_name t.name us ≡ None
    → AllPairs (λ a b. a.name ≢ b.name) us → AllPairs (λ a b. a.name ≢ b.name) (us ++ t ∷ [])
names_apart us t none apart =
    all_pairs_push (λ a b. a.name ≢ b.name) us t apart
    (λ k d inside same. false≢true (sym (no_place (λ u. bytes_eq t.name u.name) 0 us none k d inside) ∙ ap (λ s. bytes_eq t.name s) same ∙ text_same t.name))

-- an earlier template has the name
pub name_before : (ts : List DeclaredTemplate) (k j : ℕ) (t : DeclaredTemplate) → slice_get ts k ≡ Some t
    → place_of_name t.name (take k ts) ≡ Some j → StandsAt ts C1 k
name_before ts k j t found e =
    let p = placed (λ u. bytes_eq t.name u.name) 0 j (take k ts) e in
    let inside = slice_get_within (take k ts) p.0 p.1 p.3 in
    let l = length-take k ts in
    (p.0, p.1, t, omega (arith, inside, l), take_get k p.0 ts p.1 p.3, found, sym (same_text t.name p.1.name p.4))

-- the same of identifiers
nat_same : (m n : ℕ) → nat_eq m n ≡ true → m ≡ n
nat_same m n e = grind (arith, nat_tests)

same_nat : (n : ℕ) → nat_eq n n ≡ true
same_nat n = grind (arith, nat_tests)

pub id_is : (id : ℕ) (o : Option ℕ) → is_id id o ≡ true → o ≡ Some id
id_is id None e = absurd (false≢true e)
id_is id (Some n) e = ap Some (sym (nat_same id n e))

pub is_the_id : (id : ℕ) (o : Option ℕ) → o ≡ Some id → is_id id o ≡ true
is_the_id id o e = ap (is_id id) e ∙ same_nat id

pub ids_more : (old new : ℕ → Option ℕ) (us : List DeclaredTemplate) (t : DeclaredTemplate) (id k : ℕ) → t.id ≡ Some id → k ≡ length us
    → ((q : ℕ) → old q ≡ place_of_id q us) → old id ≡ None
    → ((q : ℕ) → new q ≡ (if nat_eq id q then Some k else old q)) → (q : ℕ) → new q ≡ place_of_id q (us ++ t ∷ [])
ids_more old new us t id k has long before none updated q =
    updated q ∙ elim (cases_Bool (nat_eq id q)) as (λ _. (if nat_eq id q then Some k else old q) ≡ place_of_id q (us ++ t ∷ [])) [
      | inl same ↦
          let is : id ≡ q = nat_same id q same in
          let here : place_of_id q us ≡ None = ap (λ s. place_of_id s us) (sym is) ∙ sym (before id) ∙ none in
          let passes : is_id q t.id ≡ true = is_the_id q t.id (has ∙ ap Some is) in
          rw (same, place-push (λ u. is_id q u.id) 0 us t, here, passes) (ap Some (let e : k ≡ 0 + length us = omega (arith, long) in e))
      | inr other ↦
          let fails : is_id q t.id ≡ false = ap (is_id q) has ∙ other_nat id q other in
          rw (other, before q, place-push (λ u. is_id q u.id) 0 us t, fails) (sym (or_nothing (place_of_id q us)))
    ]
  where
    other_nat : (m n : ℕ) → nat_eq m n ≡ false → nat_eq n m ≡ false
    other_nat m n e = grind (arith, nat_tests)

-- a template without identifier
pub ids_same : (old : ℕ → Option ℕ) (us : List DeclaredTemplate) (t : DeclaredTemplate) → t.id ≡ None
    → ((q : ℕ) → old q ≡ place_of_id q us) → (q : ℕ) → old q ≡ place_of_id q (us ++ t ∷ [])
ids_same old us t none before q =
    before q ∙ sym (place-push (λ u. is_id q u.id) 0 us t ∙ ap (λ b. or_else (place_of_id q us) (if b then Some (0 + length us) else None))
    (ap (is_id q) none) ∙ or_nothing (place_of_id q us))

pub ids_apart : (us : List DeclaredTemplate) (t : DeclaredTemplate) → ((id : ℕ) → t.id ≡ Some id → place_of_id id us ≡ None)
    → AllPairs (λ a b. (id : ℕ) → a.id ≡ Some id → b.id ≢ Some id) us
    → AllPairs (λ a b. (id : ℕ) → a.id ≡ Some id → b.id ≢ Some id) (us ++ t ∷ [])
ids_apart us t none apart =
    all_pairs_push (λ a b. (id : ℕ) → a.id ≡ Some id → b.id ≢ Some id) us t apart
    (λ k d inside id has has_too. false≢true (sym (no_place (λ u. is_id id u.id) 0 us (none id has_too) k d inside) ∙ is_the_id id (get_or us k d).id has))

pub id_before : (ts : List DeclaredTemplate) (k j id : ℕ) (t : DeclaredTemplate) → slice_get ts k ≡ Some t → t.id ≡ Some id
    → place_of_id id (take k ts) ≡ Some j → StandsAt ts C2 k
id_before ts k j id t found has e =
    let p = placed (λ u. is_id id u.id) 0 j (take k ts) e in
    let inside = slice_get_within (take k ts) p.0 p.1 p.3 in
    let l = length-take k ts in
    (p.0, id, p.1, t, omega (arith, inside, l), take_get k p.0 ts p.1 p.3, found, id_is id p.1.id p.4, has)

-- what a look-up found, behind its reference
pub found_value : (r : Option (Bor ℕ)) (o : Option ℕ) → option_copied r ≡ o → true ≡ is_some r → (j : ℕ) × (o ≡ Some j)
found_value None o e some = absurd (false≢true (sym some))
found_value (Some b) o e some = (b.now, sym e)

pub found_nothing : (r : Option (Bor ℕ)) (o : Option ℕ) → option_copied r ≡ o → false ≡ is_some r → o ≡ None
found_nothing None o e none = sym e
found_nothing (Some b) o e none = absurd (false≢true none)
