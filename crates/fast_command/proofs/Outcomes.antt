-- What an outcome that is known says.
use Rattle.std.proofs.Common.{◌≡◌, ◌⊎◌, Bool, Result, Ok, Err, inl, inr, ap, sym, ◌∙◌}
use Rattle.std.specs.Prelude.{IfOk, IfErr, OnOk}
use Rattle.fast_template.specs.declared.sets.Templates.{Templates}
use Rattle.fast_template.specs.meaning.Flat.{tree_of}
use Rattle.fast_tree.specs.meaning.Tree.{Tree}
use Rattle.fast_text.specs.declared.fronts.Fronts.{Fronts}
use Rattle.fast_text.specs.meaning.Fronts.{set_of}

-- a good outcome is no failure
pub no_err : {A E : Type 0} {x : A} {e : E} → ◌≡◌ {A = Result A E} (Ok x) (Err e) → ⊥
no_err h = cc

-- the failure of a failure
pub same_err : {A E : Type 0} {x y : E} → ◌≡◌ {A = Result A E} (Err x) (Err y) → x ≡ y
same_err h = cc

-- what is said of a good outcome, and what of a failure
pub on_ok : {A E P : Type 0} {r : Result A E} {x : A} → r ≡ Ok x → P → OnOk r P
on_ok h p = rw h p

pub if_no_err : {A E : Type 0} (P : E → Type 0) {r : Result A E} {x : A} → r ≡ Ok x → IfErr r P
if_no_err P h = rw h tt

-- What is told of the first of two steps is told of both where the second changes nothing.
pub still_told : {P : Type 0} {a b c : Bool} → P ⊎ (b ≡ a) → c ≡ b → P ⊎ (c ≡ a)
still_told h stays = elim h [
  | inl told ↦ inl told
  | inr same ↦ inr (stays ∙ same)
]

-- The fronts of a set are those of the tree that the set stands for.
pub of_tree : {E : Type 0} (r : Result Fronts E) (set : Templates) (t : Tree) → IfOk r (λ (f : Fronts). (set_of f).now ≡ set)
    → t ≡ tree_of set → IfOk r (λ (f : Fronts). tree_of (set_of f).now ≡ t)
of_tree (Ok f) set t h is = ap tree_of h ∙ sym is
of_tree (Err e) set t h is = tt
