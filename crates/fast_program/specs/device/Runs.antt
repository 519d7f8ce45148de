-- Runs of ops: those of a body, followed by an End.
use Rattle.std.specs.Prelude.{◌≡◌, ℕ, Bool, true, false, if◌then◌else◌, List, [], ◌∷◌, drop, slice_get, Some}
use Rattle.fast_program.specs.declared.codes.Code.{Code}
use Rattle.fast_program.specs.declared.codes.Code.TheVariants.{End}
use Rattle.fast_program.specs.declared.ops.Op.{Op}

-- no node
abbrev pub is_end : Code → Bool
is_end End = true
is_end code = false

-- the nodes of the ops before the first End
abbrev pub run_nodes : List Op → List ℕ
run_nodes [] = []
run_nodes (op ∷ ops) = if is_end op.code then [] else op.node ∷ run_nodes ops

-- True if an End is among them.
abbrev pub has_end : List Op → Bool
has_end [] = false
has_end (op ∷ ops) = if is_end op.code then true else has_end ops

-- An End is among them.
abbrev pub HasEnd : List Op → Type 0
HasEnd ops = has_end ops ≡ true

-- Each op holds its own index.
abbrev pub AreNumbered : List Op → Type 0
AreNumbered ops = (i : ℕ) (op : Op) → slice_get ops i ≡ Some op → op.at ≡ i

-- The run of a body begins at an index.
pub record Begins (ops : List Op) (at : ℕ) (body : List ℕ) : Type 0 where
  pub nodes : run_nodes (drop at ops) ≡ body
  pub run : HasEnd (drop at ops)
