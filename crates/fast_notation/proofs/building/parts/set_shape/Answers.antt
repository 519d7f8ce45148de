use Rattle.fast_notation.proofs.nodes.BuiltLists.{with_shape-set}
use Rattle.fast_notation.proofs.building.parts.set_shape.Goals as goal

pub returns : goal.returns
returns c = with_shape-set c.args.nodes.now c.args.number c.index-nodes-number.result c.args.shape c.requires
