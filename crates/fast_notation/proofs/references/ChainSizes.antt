-- Nodes and depth of chains of references, by those of what each reference names.
use Rattle.std.proofs.Common.{◌≡◌, ◌≢◌, ℕ, zero, suc, List, [], ◌∷◌, refl, ap, sym, ◌∙◌, arith, slice_get, Some, true, inl, inr}
use Rattle.std.specs.Prelude.{AllPairs}
use Rattle.std.specs.Str.{bytes_eq}
use Rattle.std.proofs.lemmas.Bool.{cases_Bool}
use Rattle.std.proofs.lemmas.Option.{slice_get_within, get_or_from_slice_get}
use Rattle.fast_tree.specs.meaning.AsWritten.{DeclaredList, DeclaredTemplate}
use Rattle.fast_notation.specs.device.Chains.{nodes_by, depth_by, fields_named, nodes_in, depth_in}
use Rattle.fast_notation.proofs.texts.ReadingPieces.{same_text, text_same}

-- the nodes and the depth of what a reference names, in a chain of no more than so many
pub nodes_named : List DeclaredTemplate → ℕ → List ℕ → ℕ
nodes_named ts zero name = 0
nodes_named ts (suc n) name = nodes_in ts n (fields_named ts name)

pub depth_named : List DeclaredTemplate → ℕ → List ℕ → ℕ
depth_named ts zero name = 0
depth_named ts (suc n) name = depth_in ts n (fields_named ts name)

pub nodes_in-by : (ts : List DeclaredTemplate) (n : ℕ) (ds : DeclaredList) → nodes_in ts n ds ≡ nodes_by (nodes_named ts n) ds
unfolding nodes_in nodes_named
nodes_in-by ts zero ds = refl
nodes_in-by ts (suc n) ds = refl

pub depth_in-by : (ts : List DeclaredTemplate) (n : ℕ) (ds : DeclaredList) → depth_in ts n ds ≡ depth_by (depth_named ts n) ds
unfolding depth_in depth_named
depth_in-by ts zero ds = refl
depth_in-by ts (suc n) ds = refl

pub nodes_named-suc : (ts : List DeclaredTemplate) (n : ℕ) (name : List ℕ) → nodes_named ts (suc n) name ≡ nodes_in ts n (fields_named ts name)
unfolding nodes_named
nodes_named-suc ts n name = refl

pub depth_named-suc : (ts : List DeclaredTemplate) (n : ℕ) (name : List ℕ) → depth_named ts (suc n) name ≡ depth_in ts n (fields_named ts name)
unfolding depth_named
depth_named-suc ts n name = refl

-- Where names are apart, a name has the fields of the one template of that name.
pub fields_of_name : (ts : List DeclaredTemplate) (k : ℕ) (t : DeclaredTemplate) (name : List ℕ) → AllPairs (λ a b. a.name ≢ b.name) ts
    → slice_get ts k ≡ Some t → t.name ≡ name
    → fields_named ts name ≡ t.fields
unfolding fields_named
fields_of_name [] k t name apart at_k same = absurd (cc)
fields_of_name (u ∷ ts) zero t name apart at_k same =
    let is : u ≡ t = some_is at_k in
    let passes : bytes_eq name u.name ≡ true = ap (bytes_eq name) (ap (λ (v : DeclaredTemplate). v.name) is ∙ same) ∙ text_same name in
    rw passes (ap (λ (v : DeclaredTemplate). v.fields) is)
  where
    some_is : {A : Type 0} {a b : A} → Some a ≡ Some b → a ≡ b
    some_is h = cc
fields_of_name (u ∷ ts) (suc k) t name apart at_k same = elim (cases_Bool (bytes_eq name u.name)) [
  | inl here ↦
      let inside = slice_get_within ts k t at_k in
      absurd (apart 0 (suc k) u (omega arith) (omega (arith, inside))
      (sym (same_text name u.name here) ∙ sym same ∙ sym (ap (λ (v : DeclaredTemplate). v.name) (get_or_from_slice_get ts k t u at_k))))
  | inr there ↦ rw there (fields_of_name ts k t name (λ i j d below inside. apart (suc i) (suc j) d (omega arith) (omega arith)) at_k same)
]
