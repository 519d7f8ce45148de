use Rattle.std.proofs.Common.{◌≡◌, drop}
use Rattle.fast_template.specs.meaning.Flat.{templates_of}
use Rattle.fast_c.specs.meaning.Queries.{first_that, has_node}
use Rattle.fast_c.proofs.queries.template_of.Given as goal

abbrev pub invariant-loop-template : goal.invariant-loop-template
invariant-loop-template l = first_that (has_node l.node) 0 (templates_of l.set) ≡ first_that (has_node l.node) l.template (drop l.template (templates_of l.set))
