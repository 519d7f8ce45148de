use Rattle.std.proofs.Common.{◌≡◌, take}
use Rattle.std.specs.Prelude.{map}
use Rattle.fast_tree.specs.meaning.Numbers.{numbers_of}
use Rattle.fast_template.specs.meaning.Flat.{nodes_of}
use Rattle.fast_spelling.specs.device.Forms.{body_steps}
use Rattle.fast_spelling.proofs.forms.bodies_of.Given as goal

-- the bodies of the nodes so far
abbrev pub invariant-loop-node : goal.invariant-loop-node
invariant-loop-node l = map (λ v. v.items) l.bodies.items ≡ map (λ x. body_steps (nodes_of l.templates) (numbers_of x.shape)) (take l.node
    (nodes_of l.templates))
