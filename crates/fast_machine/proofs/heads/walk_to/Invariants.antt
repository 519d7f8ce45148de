use Rattle.std.proofs.Common.{◌≡◌, ◌≢◌, ◌<◌, ℕ}
use Rattle.std.specs.Prelude.{slice_get, Some}
use Rattle.fast_template.specs.meaning.Flat.{templates_of}
use Rattle.fast_tree.specs.declared.instructions.Template.{Template}
use Rattle.fast_machine.proofs.heads.walk_to.Given as goal

-- No template before this one has the identifier.
abbrev pub invariant-loop-number : goal.invariant-loop-number
invariant-loop-number l = (j : ℕ) (t : Template) → j < l.number → slice_get (templates_of l.templates) j ≡ Some t → t.id ≢ Some l.id
