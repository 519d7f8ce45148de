use Rattle.std.proofs.Common.{◌≡◌, take}
use Rattle.fast_template.specs.meaning.Flat.{nodes_of}
use Rattle.fast_spelling.specs.device.Forms.{body_steps}
use Rattle.fast_spelling.proofs.forms.steps_along.Given as goal

-- the steps of the nodes so far
abbrev pub invariant-loop-i : goal.invariant-loop-i
invariant-loop-i l = l.steps.items ≡ body_steps (nodes_of l.templates) (take l.i l.body)
