-- The base has no tail to the value.
use Rattle.fast_value.specs.meaning.Kinds.{text_of}
use Rattle.fast_value.specs.meaning.Values.{scalar_data}
use Rattle.fast_tree.specs.meaning.Nodes.{field_data}
use Rattle.fast_dict.specs.meaning.Operators.{tail_base}
use Rattle.fast_dict.specs.meaning.Previous.{previous_data}
use Rattle.fast_dict.proofs.Items.{no_part}
use Rattle.fast_dict.proofs.rule.items.tail_for.Goals as goal

pub returns-in-None-clause-none : goal.returns-in-None-clause-none
returns-in-None-clause-none c base part e = no_part (tail_base (field_data c.args.field.now) (previous_data c.args.previous))
    (scalar_data c.in-Ok.base) base c.text_of.result.now (text_of (scalar_data c.args.value)) c.text_of-2.result.now c.in-Ok.ensures e
    c.text_of.ensures c.text_of-2.ensures c.in-None.ensures.none part
