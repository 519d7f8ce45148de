-- References expanded in place: the instructions that a template stands for.
use Rattle.std.specs.Prelude.{◌≡◌, ℕ, suc, Bool, List, [], ◌∷◌, slice_get, Option, Some}
use Rattle.fast_value.specs.declared.kinds.Kind.{Kind}
use Rattle.fast_tree.specs.meaning.Tree.{FieldData, Label, field, parts, group, sequence, Body, end, step, TemplateData}
use Rattle.fast_tree.specs.meaning.Sizes.{nesting_limit}
use Rattle.fast_tree.specs.meaning.AsWritten.{Written, scalar, by_parts, group as group_declared, sequence as sequence_declared, reference}
use Rattle.fast_tree.specs.meaning.AsWritten.{DeclaredList, no_more, more, DeclaredTemplate, scalar_use, exponent_use, mantissa_use}
use Rattle.fast_tree.specs.meaning.AsWritten.{length_use}
use Rattle.fast_tree.specs.meaning.Entries.{Entry, Scope, scope_of}
use Rattle.fast_notation.specs.meaning.Uses.{IsField}

-- a node's number and name
abbrev pub label : ℕ → List ℕ → Label
label n name = record { node = n; name = name }

-- one body after another
infixr 20 ◌then◌
abbrev pub ◌then◌ : Body → Body → Body
end then is = is
(step i is) then js = step i (is then js)

-- The instructions are written in a template. With references expanded, in a chain of at most the given length, they are the body, whose
-- nodes are numbered from the first number up to the second.
-- FAST 1.1: Template Definition, Template Reference Instruction.
pub data InPlace (ts : List DeclaredTemplate) (entries : List Entry) : ℕ → Scope → DeclaredList → ℕ → Body → ℕ → Type 0 where
  nothing : {chain : ℕ} {s : Scope} {n : ℕ} → InPlace ts entries chain s no_more n end n
  a_field : {chain : ℕ} {s : Scope} {n m : ℕ} {name : List ℕ} {optional : Bool} {kind : Kind} {w : Written} {ds : DeclaredList} {f : FieldData} {is : Body}
      → IsField entries s (scalar_use name optional kind w) f
      → InPlace ts entries chain s ds (suc n) is m
      → InPlace ts entries chain s (more (scalar name optional kind w) ds) n (step (field (label n name) f) is) m
  some_parts : {chain : ℕ} {s : Scope} {n m : ℕ} {name : List ℕ} {optional : Bool} {v w : Written} {ds : DeclaredList} {e f : FieldData} {is : Body}
      → IsField entries s (exponent_use name optional v) e
      → IsField entries s (mantissa_use name w) f
      → InPlace ts entries chain s ds (suc n) is m
      → InPlace ts entries chain s (more (by_parts name optional v w) ds) n (step (parts (label n name) e f) is) m
  a_group : {chain : ℕ} {s : Scope} {n k m : ℕ} {name : List ℕ} {optional : Bool} {inner ds : DeclaredList} {body is : Body}
      → InPlace ts entries chain s inner (suc n) body k
      → InPlace ts entries chain s ds k is m
      → InPlace ts entries chain s (more (group_declared name optional inner) ds) n (step (group (label n name) optional body) is) m
  a_sequence : {chain : ℕ} {s : Scope} {n k m : ℕ} {name : List ℕ} {optional : Bool} {own : Option (List ℕ)} {w : Written}
      {inner ds : DeclaredList} {f : FieldData} {body is : Body}
      → IsField entries s (length_use name optional own w) f
      → InPlace ts entries chain s inner (suc n) body k
      → InPlace ts entries chain s ds k is m
      → InPlace ts entries chain s (more (sequence_declared name optional own w inner) ds) n (step (sequence (label n name) f body) is) m
  a_reference : {chain : ℕ} {s : Scope} {n k m : ℕ} {name : List ℕ} {ds : DeclaredList} {body is : Body}
      → (number : ℕ) → (t : DeclaredTemplate) → slice_get ts number ≡ Some t → t.name ≡ name
      → InPlace ts entries chain (scope_of number t) t.fields n body k
      → InPlace ts entries (suc chain) s ds k is m
      → InPlace ts entries (suc chain) s (more (reference name) ds) n (body then is) m

-- The templates from a number on stand for these, with nodes from one number up to another.
abbrev pub AreInPlace : List DeclaredTemplate → List Entry → ℕ → List DeclaredTemplate → ℕ → List TemplateData → ℕ → Type 0
AreInPlace all entries k [] n [] m = n ≡ m
AreInPlace all entries k (t ∷ ts) n (u ∷ us) m = (mid : ℕ) × (u.name ≡ t.name) × (u.id ≡ t.id) × (u.reset ≡ t.reset)
    × InPlace all entries nesting_limit (scope_of k t) t.fields n u.body mid × AreInPlace all entries (suc k) ts mid us m
AreInPlace all entries k [] n (u ∷ us) m = ⊥
AreInPlace all entries k (t ∷ ts) n [] m = ⊥
