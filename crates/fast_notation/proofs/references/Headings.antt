-- Templates found by their names and identifiers.
use Rattle.std.proofs.Common.{◌≡◌, ◌≢◌, ℕ, ◌+◌, ◌<◌, zero, suc, Bool, false, List, [], ◌∷◌, length, map, slice_get, refl, ap, sym, ◌∙◌}
use Rattle.std.proofs.Common.{subst, arith, Option, Some, None, inl, inr, string_bytes}
use Rattle.std.specs.Prelude.{if◌then◌else◌, IfSome, IfNone}
use Rattle.std.specs.Str.{bytes_eq}
use Rattle.std.proofs.lemmas.Bool.{cases_Bool, false≢true}
use Rattle.std.proofs.lemmas.Option.{slice_get_within, get_or_from_slice_get}
use Rattle.fast_tree.specs.declared.instructions.Template.{Template}
use Rattle.fast_tree.specs.meaning.AsWritten.{DeclaredTemplate}
use Rattle.fast_notation.specs.device.Built.{outline_of, AreBuilt}
use Rattle.fast_tree.specs.meaning.Entries.{Entry}
use Rattle.fast_notation.specs.meaning.InPlace.{AreInPlace}
use Rattle.fast_tree.specs.meaning.NodeData.{NodeData, TemplateOutline, outline}
use Rattle.fast_tree.specs.device.Numbers.{number_of_name, number_of_id}
use Rattle.fast_tree.specs.device.Places.{place, is_id, place_of_name, place_of_id}
use Rattle.fast_tree.specs.meaning.Tree.{TemplateData}
use Rattle.fast_notation.proofs.lists.PlaceLists.{placed, no_place, id_is, is_the_id}
use Rattle.fast_notation.proofs.texts.ReadingPieces.{same_text, text_same}

-- a name and an identifier
abbrev pub Heading : Type 0
Heading = List ℕ × Option ℕ

abbrev pub heading : Template → Heading
heading t = (string_bytes t.name, t.id)

abbrev pub declared_heading : DeclaredTemplate → Heading
declared_heading t = (t.name, t.id)

-- ---- places

place_by : {A B : Type 0} (p : B → Bool) (f : A → B) (n : ℕ) (xs : List A) → place (λ x. p (f x)) n xs ≡ place p n (map f xs)
place_by p f n [] = refl
place_by p f n (x ∷ xs) = ap (λ o. if p (f x) then Some n else o) (place_by p f (suc n) xs)

some_is : {A : Type 0} {a b : A} → Some a ≡ Some b → a ≡ b
some_is h = cc

-- before a place no element passes
before_place : {A : Type 0} (test : A → Bool) (n k j : ℕ) (xs : List A) (x : A) → place test n xs ≡ Some k → n + j < k
    → slice_get xs j ≡ Some x → test x ≡ false
before_place test n k j [] x e before at = absurd (cc)
before_place test n k zero (y ∷ xs) x e before at = elim (cases_Bool (test y)) [
  | inl here ↦ absurd (let s : n ≡ k = some_is (rw here at e) in omega (arith, s, before))
  | inr there ↦ ap test (sym (some_is at)) ∙ there
]
before_place test n k (suc j) (y ∷ xs) x e before at = elim (cases_Bool (test y)) [
  | inl here ↦ absurd (let s : n ≡ k = some_is (rw here at e) in omega (arith, s, before))
  | inr there ↦ before_place test (suc n) k j xs x (rw there at e) (omega (arith, before)) at
]

-- where there is no place, none passes
none_placed : {A : Type 0} (test : A → Bool) (xs : List A) (j : ℕ) (x : A) → place test 0 xs ≡ None → slice_get xs j ≡ Some x → test x ≡ false
none_placed test xs j x e at = ap test (sym (get_or_from_slice_get xs j x x at)) ∙ no_place test 0 xs e j x (slice_get_within xs j x at)

-- ---- look-ups by name

text_apart : (s t : List ℕ) → bytes_eq s t ≡ false → t ≢ s
text_apart s t h e = false≢true (sym h ∙ ap (bytes_eq s) e ∙ text_same s)

pub name_found : (ts : List Template) (name : List ℕ) (r : Option ℕ) → r ≡ number_of_name name ts
    → IfSome r (λ i. (t : Template) × (slice_get ts i ≡ Some t) × (string_bytes t.name ≡ name))
name_found ts name None e = tt
name_found ts name (Some i) e =
    let p = placed (λ t. bytes_eq name (string_bytes t.name)) 0 i ts (sym e) in
    let s = p.2 in
    (p.1, subst (λ k. slice_get ts k ≡ Some p.1) (let q : p.0 ≡ i = omega (arith, s) in q) p.3, sym (same_text name (string_bytes p.1.name) p.4))

pub name_first : (ts : List Template) (name : List ℕ) (r : Option ℕ) → r ≡ number_of_name name ts
    → IfSome r (λ i. (j : ℕ) (t : Template) → j < i → slice_get ts j ≡ Some t → string_bytes t.name ≢ name)
name_first ts name None e = tt
name_first ts name (Some i) e = λ j t before at. text_apart name (string_bytes t.name)
    (before_place (λ t. bytes_eq name (string_bytes t.name)) 0 i j ts t (sym e) (omega (arith, before)) at)

pub name_none : (ts : List Template) (name : List ℕ) (r : Option ℕ) → r ≡ number_of_name name ts
    → IfNone r ((j : ℕ) (t : Template) → slice_get ts j ≡ Some t → string_bytes t.name ≢ name)
name_none ts name None e = λ j t at. text_apart name (string_bytes t.name) (none_placed (λ t. bytes_eq name (string_bytes t.name)) ts j t (sym e) at)
name_none ts name (Some i) e = tt

-- ---- look-ups by identifier

id_apart : (id : ℕ) (o : Option ℕ) → is_id id o ≡ false → o ≢ Some id
id_apart id o h e = false≢true (sym h ∙ is_the_id id o e)

pub id_found : (ts : List Template) (id : ℕ) (r : Option ℕ) → r ≡ number_of_id id ts
    → IfSome r (λ i. (t : Template) × (slice_get ts i ≡ Some t) × (t.id ≡ Some id))
id_found ts id None e = tt
id_found ts id (Some i) e =
    let p = placed (λ t. is_id id t.id) 0 i ts (sym e) in
    let s = p.2 in
    (p.1, subst (λ k. slice_get ts k ≡ Some p.1) (let q : p.0 ≡ i = omega (arith, s) in q) p.3, id_is id p.1.id p.4)

pub id_first : (ts : List Template) (id : ℕ) (r : Option ℕ) → r ≡ number_of_id id ts
    → IfSome r (λ i. (j : ℕ) (t : Template) → j < i → slice_get ts j ≡ Some t → t.id ≢ Some id)
id_first ts id None e = tt
id_first ts id (Some i) e = λ j t before at. id_apart id t.id (before_place (λ t. is_id id t.id) 0 i j ts t (sym e) (omega (arith, before)) at)

pub id_none : (ts : List Template) (id : ℕ) (r : Option ℕ) → r ≡ number_of_id id ts
    → IfNone r ((j : ℕ) (t : Template) → slice_get ts j ≡ Some t → t.id ≢ Some id)
id_none ts id None e = λ j t at. id_apart id t.id (none_placed (λ t. is_id id t.id) ts j t (sym e) at)
id_none ts id (Some i) e = tt

-- ---- the same headings are found at the same places

pub same_names : (ts : List Template) (ds : List DeclaredTemplate) (q : List ℕ) → map heading ts ≡ map declared_heading ds
    → place_of_name q ds ≡ number_of_name q ts
same_names ts ds q e =
    place_by (λ (h : Heading). bytes_eq q h.0) declared_heading 0 ds ∙ ap (place (λ (h : Heading). bytes_eq q h.0) 0) (sym e)
    ∙ sym (place_by (λ (h : Heading). bytes_eq q h.0) heading 0 ts)

pub same_ids : (ts : List Template) (ds : List DeclaredTemplate) (q : ℕ) → map heading ts ≡ map declared_heading ds → place_of_id q ds ≡ number_of_id q ts
same_ids ts ds q e =
    place_by (λ (h : Heading). is_id q h.1) declared_heading 0 ds ∙ ap (place (λ (h : Heading). is_id q h.1) 0) (sym e)
    ∙ sym (place_by (λ (h : Heading). is_id q h.1) heading 0 ts)

abbrev outline_heading : TemplateOutline → Heading
outline_heading o = (o.name, o.id)

by_outline : (ts : List Template) → map heading ts ≡ map outline_heading (map outline ts)
by_outline [] = refl
by_outline (t ∷ ts) = ap (λ hs. heading t ∷ hs) (by_outline ts)

-- the headings of templates that were built
pub built_headings : (all : List DeclaredTemplate) (entries : List Entry) (nodes : List NodeData) (ts : List Template)
    → AreBuilt all entries all nodes (map outline ts) → map heading ts ≡ map declared_heading all
built_headings all entries nodes ts b = by_outline ts ∙ ap (map outline_heading) b.named_by ∙ in_place_headings 0 all 0 (length nodes) b.templates b.in_place
  where
    in_place_headings : (k : ℕ) (ds : List DeclaredTemplate) (n m : ℕ) (us : List TemplateData) → AreInPlace all entries k ds n us m
        → map outline_heading (map outline_of us) ≡ map declared_heading ds
    in_place_headings k [] n m [] h = refl
    in_place_headings k [] n m (u ∷ us) h = absurd h
    in_place_headings k (d ∷ ds) n m [] h = absurd h
    in_place_headings k (d ∷ ds) n m (u ∷ us) (mid, name, id, reset, body, rest) =
        ap (λ s. (s, u.id) ∷ map outline_heading (map outline_of us)) name ∙ ap (λ o. (d.name, o) ∷ map outline_heading (map outline_of us)) id
        ∙ ap (λ hs. declared_heading d ∷ hs) (in_place_headings (suc k) ds mid m us rest)
