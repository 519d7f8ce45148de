use Rattle.std.proofs.Common.{◌≡◌, drop}
use Rattle.fast_template.specs.meaning.Flat.{nodes_of}
use Rattle.fast_c.specs.meaning.Queries.{first_named}
use Rattle.fast_c.proofs.queries.first_named.Given as goal

abbrev pub invariant-loop-number : goal.invariant-loop-number
invariant-loop-number l = first_named (nodes_of l.set) l.body l.name ≡ first_named (nodes_of l.set) (drop l.number-index l.body) l.name
