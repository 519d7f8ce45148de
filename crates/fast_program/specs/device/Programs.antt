-- Programs: the runs of all bodies of a set.
use Rattle.std.specs.Prelude.{◌≡◌, ℕ, false, List, [], ◌∷◌, slice_get, Some}
use Rattle.fast_tree.specs.declared.instructions.Node.{Node}
use Rattle.fast_tree.specs.declared.instructions.Template.{Template}
use Rattle.fast_tree.specs.meaning.Numbers.{numbers_of}
use Rattle.fast_program.specs.declared.ops.Op.{Op}
use Rattle.fast_program.specs.declared.programs.Program.{Program}
use Rattle.fast_program.specs.device.Ops.{IsOpOf}
use Rattle.fast_program.specs.device.Runs.{is_end, AreNumbered, Begins}
use Rattle.fast_program.specs.device.Starts.{IsStartOf, AreInOrder}

-- Each op but an End is of its node.
abbrev pub SuitNodes : List Op → List Node → Type 0
SuitNodes ops ns = (i : ℕ) (op : Op) → slice_get ops i ≡ Some op → is_end op.code ≡ false
    → (x : Node) × (slice_get ns op.node ≡ Some x) × IsOpOf op op.node x.shape

-- Ops to which others were appended: runs are unchanged, and ops that suit the nodes, or hold their own indexes, still do.
pub record Extends (ns : List Node) (old new : List Op) : Type 0 where
  pub kept : (at : ℕ) (body : List ℕ) → Begins old at body → Begins new at body
  pub suit : SuitNodes old ns → SuitNodes new ns
  pub numbered : AreNumbered old → AreNumbered new

-- Each start is that of its template or node.
abbrev pub AreStarts : {S X : Type 0} → (List Op → S → X → Type 0) → List Op → List S → List X → Type 0
AreStarts Is ops [] [] = Unit {0}
AreStarts Is ops [] (x ∷ xs) = ⊥
AreStarts Is ops (s ∷ starts) [] = ⊥
AreStarts Is ops (s ∷ starts) (x ∷ xs) = Is ops s x × AreStarts Is ops starts xs

-- The run of a node's body begins at an index.
abbrev pub BeginsNode : List Op → ℕ → Node → Type 0
BeginsNode ops at x = Begins ops at (numbers_of x.shape)

-- A program holds the run of each body of templates and nodes, and first an empty one.
pub record IsProgramOf (p : Program) (ts : List Template) (ns : List Node) : Type 0 where
  pub rests : Begins p.ops.items 0 []
  pub suits : SuitNodes p.ops.items ns
  pub numbered : AreNumbered p.ops.items
  pub templates : AreStarts IsStartOf p.ops.items p.template_starts.items ts
  pub order : AreInOrder p.template_starts.items
  pub bodies : AreStarts BeginsNode p.ops.items p.body_starts.items ns
