-- Without a tail nothing can be sent.
use Rattle.std.proofs.Common.{ap}
use Rattle.std.specs.Prelude.{option_map}
use Rattle.fast_value.specs.meaning.Values.{scalar_data}
use Rattle.fast_tree.specs.meaning.Nodes.{field_data}
use Rattle.fast_dict.specs.meaning.Previous.{previous_data}
use Rattle.fast_dict.proofs.Items.{no_tail, at_none}
use Rattle.fast_dict.proofs.rule.items.item_for.Goals as goal

pub returns-in-Tail-Some-clause-none : goal.returns-in-Tail-Some-clause-none
returns-in-Tail-Some-clause-none c = at_none c.tail_for.result
    (no_tail (field_data c.args.field.now) (previous_data c.args.previous) (scalar_data c.in-Tail-Some.value)
    (option_map scalar_data c.args.value) c.in-Tail-Some.is-0 (ap (option_map scalar_data) c.in-Tail-Some.is-1)) c.tail_for.ensures.none
