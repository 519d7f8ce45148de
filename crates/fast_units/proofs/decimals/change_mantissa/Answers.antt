-- The sum is kept.
use Rattle.std.proofs.Common.{◌≡◌, rules, Ok}
use Rattle.fast_tree.specs.meaning.Nodes.{field_data}
use Rattle.fast_dict.specs.meaning.Dictionary.{previous_at}
use Rattle.fast_dict.specs.meaning.Operators.{keeps, mantissa_step}
use Rattle.fast_dict.specs.meaning.Slots.{slots_dictionary}
use Rattle.fast_units.specs.device.Deciding.{number_data}
use Rattle.fast_units.proofs.Deciding.{decided_as, keep_decided}
use Rattle.fast_units.proofs.decimals.change_mantissa.Goals as goal

pub returns-clause-decided : goal.returns-clause-decided
returns-clause-decided c =
    let f = field_data c.args.field.now in
    let old = slots_dictionary c.args.slots.now in
    let step : mantissa_step f (previous_at f.entry old) c.args.exponent c.args.delta ≡ keeps f.kind (number_data c.decimal.result) = search rules in
    decided_as f old (slots_dictionary c.keep.new.slots) (Ok c.keep.result) step
    (keep_decided f old (slots_dictionary c.keep.new.slots)
    (number_data c.decimal.result) c.keep.result c.keep.ensures.entry c.keep.ensures.value)
