use Rattle.std.proofs.Common.{◌≡◌, ℕ, List, subst}
use Rattle.std.specs.Prelude.{IfSome, slice_get, Some, string_bytes}
use Rattle.fast_tree.specs.declared.instructions.Template.{Template}
use Rattle.fast_template.specs.meaning.Flat.{templates_of}
use Rattle.fast_messages.proofs.naming.number_of.Goals as goal

pub returns-in-Ok-clause-found : goal.returns-in-Ok-clause-found
returns-in-Ok-clause-found c = subst (λ (z : List ℕ). IfSome c.by_name.result
    (λ i. (u : Template) × (slice_get (templates_of c.args.templates.now) i ≡ Some u) × (string_bytes u.name ≡ z))) c.in-Ok.ensures.cases.0
    c.by_name.ensures.found
