use Rattle.std.proofs.Common.{arith, refl}
use Rattle.std.proofs.lemmas.Option.{slice_get_within}
use Rattle.fast_template.specs.meaning.Flat.{nodes_of}
use Rattle.fast_machine.proofs.layout.has_long_initial.Goals as goal

pub returns-then-has_long_field : goal.returns-then-has_long_field
returns-then-has_long_field c = (λ _. (c.loop-n.n, c.node.result.now, c.node.ensures.found, c.if-has_long_field.ensures.0 refl), λ _. refl)

pub returns : goal.returns
returns c = (
  λ no. absurd (cc no),
  λ some. let (k, v, found, any) = some in
      let inside = slice_get_within (nodes_of c.args.templates.now) k v found in
      absurd (c.loop-n.invariant k v (omega (arith, inside, c.loop-n-test.false, c.nodes-n-end.ensures.number)) found any),
)
