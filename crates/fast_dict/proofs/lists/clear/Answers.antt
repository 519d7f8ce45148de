-- One entry more is undefined.
use Rattle.std.proofs.Common.{add-one}
use Rattle.fast_dict.specs.declared.held.Held.TheVariants.{Undefined}
use Rattle.fast_dict.proofs.Clearing.{cleared_more}
use Rattle.fast_dict.proofs.lists.clear.Goals as goal

pub loop-held-preserved : goal.loop-held-preserved
loop-held-preserved c = rw (add-one, c.loop-held.invariant) (cleared_more Undefined c.args.entries.now c.loop-held.held-index c.loop-held-test.true)
