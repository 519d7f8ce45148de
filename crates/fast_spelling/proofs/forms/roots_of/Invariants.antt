use Rattle.std.proofs.Common.{◌≡◌, take}
use Rattle.std.specs.Prelude.{map}
use Rattle.fast_template.specs.meaning.Flat.{nodes_of, templates_of}
use Rattle.fast_spelling.specs.device.Forms.{body_steps}
use Rattle.fast_spelling.proofs.forms.roots_of.Given as goal

-- the bodies of the templates so far
abbrev pub invariant-loop-template : goal.invariant-loop-template
invariant-loop-template l = map (λ v. v.items) l.roots.items ≡ map (λ t. body_steps (nodes_of l.templates) t.body.items) (take l.template
    (templates_of l.templates))
