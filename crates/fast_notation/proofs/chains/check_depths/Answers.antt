use Rattle.std.proofs.Common.{None}
use Rattle.std.proofs.lemmas.List.Elements.{All-more}
use Rattle.fast_notation.specs.device.Extents.{IsShallow}
use Rattle.fast_notation.proofs.lists.Lists.{all_taken}
use Rattle.fast_notation.proofs.chains.check_depths.Goals as goal

pub loop-k-preserved : goal.loop-k-preserved
loop-k-preserved c = All-more IsShallow c.args.extents.now c.loop-k.k None c.loop-k-test.true c.loop-k.invariant
    (c.is_shallow.ensures.0 c.if-not-is_shallow.false)

pub returns-clause-shallow : goal.returns-clause-shallow
returns-clause-shallow c = all_taken IsShallow c.args.extents.now c.loop-k.k c.loop-k-test.false c.loop-k.invariant
