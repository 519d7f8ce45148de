-- The conditions of the codes, in a written template set that stands for no tree.
use Rattle.std.specs.Prelude.{◌≡◌, ◌≢◌, ◌⊎◌, ℕ, zero, suc, ◌<◌, List, All, Any, Contains, slice_get, take, Some}
use Rattle.fast_notation.specs.declared.codes.StaticCode.{StaticCode}
use Rattle.fast_notation.specs.declared.codes.StaticCode.TheVariants.{S1, S2, S3, S4, S5, D8, C1, C2, C3, C4, C5, C6, Memory}
use Rattle.fast_tree.specs.meaning.Tree.{Body, bits_of, TemplateData}
use Rattle.fast_tree.specs.meaning.Sizes.{body_depth, segment_limit, nesting_limit, node_limit}
use Rattle.fast_tree.specs.meaning.AsWritten.{DeclaredTemplate, all_uses, all_references}
use Rattle.fast_tree.specs.meaning.Entries.{Entry, scope_of}
use Rattle.fast_notation.specs.meaning.Uses.{IsS2, IsS3, IsS4, IsS5}
use Rattle.fast_notation.specs.meaning.InPlace.{InPlace, AreInPlace}
use Rattle.fast_notation.specs.meaning.Checked.{AreNarrowInside}

-- A number of references lead from one template to the other, each from the template before.
-- FAST 1.1: Template Definition, Template Reference Instruction.
abbrev pub Reaches : List DeclaredTemplate → ℕ → ℕ → ℕ → Type 0
Reaches ts zero a b = a ≡ b
Reaches ts (suc n) a b = (mid : ℕ) × (t u : DeclaredTemplate) × (slice_get ts a ≡ Some t) × (slice_get ts mid ≡ Some u)
    × Contains (all_references t.fields) u.name × Reaches ts n mid b

-- The template's instructions with references expanded.
-- FAST 1.1: Template Definition, Template Reference Instruction.
abbrev pub IsBodyOf : List DeclaredTemplate → ℕ → Body → Type 0
IsBodyOf ts k body = (entries : List Entry) × (t : DeclaredTemplate) × (n m : ℕ) × (slice_get ts k ≡ Some t)
    × InPlace ts entries nesting_limit (scope_of k t) t.fields n body m

-- The condition of a code holds in the written set, at the template of this number. (S1 is that no set is written.)
-- FAST 1.1: Error Codes, S1 to S5 and D8.
abbrev pub StandsAt : List DeclaredTemplate → StaticCode → ℕ → Type 0
StandsAt ts S1 k = ⊥
StandsAt ts S2 k = (t : DeclaredTemplate) × (slice_get ts k ≡ Some t) × Any IsS2 (all_uses t.fields)
StandsAt ts S3 k = (t : DeclaredTemplate) × (slice_get ts k ≡ Some t) × Any IsS3 (all_uses t.fields)
StandsAt ts S4 k = (t : DeclaredTemplate) × (slice_get ts k ≡ Some t) × Any IsS4 (all_uses t.fields)
StandsAt ts S5 k = (t : DeclaredTemplate) × (slice_get ts k ≡ Some t) × Any IsS5 (all_uses t.fields)
StandsAt ts D8 k = (t : DeclaredTemplate) × (slice_get ts k ≡ Some t) × Any (λ name. All (λ u. u.name ≢ name) ts) (all_references t.fields)
StandsAt ts C1 k = (j : ℕ) × (t u : DeclaredTemplate) × (j < k) × (slice_get ts j ≡ Some t) × (slice_get ts k ≡ Some u) × (t.name ≡ u.name)
StandsAt ts C2 k = (j id : ℕ) × (t u : DeclaredTemplate) × (j < k) × (slice_get ts j ≡ Some t) × (slice_get ts k ≡ Some u) × (t.id ≡ Some id) × (u.id ≡ Some id)
StandsAt ts C3 k = (n : ℕ) × Reaches ts (suc n) k k
StandsAt ts C4 k = ((b : ℕ) × Reaches ts (suc nesting_limit) k b) ⊎ ((body : Body) × IsBodyOf ts k body × (nesting_limit < body_depth body))
StandsAt ts C5 k = (body : Body) × IsBodyOf ts k body × ((segment_limit < suc (bits_of body)) ⊎ ¬ (AreNarrowInside body))
StandsAt ts C6 k = (entries : List Entry) × (us : List TemplateData) × (n : ℕ) × AreInPlace ts entries 0 (take (suc k) ts) 0 us n × (node_limit < n)
StandsAt ts Memory k = ⊥
