-- Nothing but the initial value can be written.
use Rattle.std.proofs.Common.{refl}
use Rattle.fast_value.specs.meaning.Values.{scalar_data}
use Rattle.fast_tree.specs.meaning.Nodes.{field_data}
use Rattle.fast_dict.specs.meaning.Dictionary.{previous_at}
use Rattle.fast_spelling.specs.device.Places.{field_there}
use Rattle.fast_spelling.proofs.rules.Usual.{constant_ruled}
use Rattle.fast_spelling.proofs.quick.operators.write_constant.Goals as goal

pub send-requires-clause-ruled : goal.send-requires-clause-ruled
send-requires-clause-ruled c =
    let f = field_data (field_there c.args.at.place) in
    constant_ruled f (previous_at f.entry c.args.ledger.now.now) (scalar_data c.args.value) c.requires.operator (c.if-is_initial.ensures.0 refl)
