use Rattle.std.proofs.Common.{◌≡◌, drop}
use Rattle.fast_template.specs.meaning.Flat.{nodes_of}
use Rattle.fast_c.specs.meaning.Queries.{first_that, names_node}
use Rattle.fast_c.proofs.queries.parent_of.Given as goal

abbrev pub invariant-loop-parent : goal.invariant-loop-parent
invariant-loop-parent l = first_that (names_node l.node) 0 (nodes_of l.set) ≡ first_that (names_node l.node) l.parent (drop l.parent (nodes_of l.set))
