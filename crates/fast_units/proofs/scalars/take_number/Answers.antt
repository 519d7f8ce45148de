use Rattle.std.proofs.Common.{rules, sym, ap, subst, ◌∙◌}
use mir.Syntax.{w32}
use mir.Val.{to_z, of_z}
use Rattle.std.proofs.lemmas.Int.{to_z-of_z}
use Rattle.fast_tree.specs.meaning.Nodes.{field_data}
use Rattle.fast_dict.specs.meaning.Slots.{slots_dictionary}
use Rattle.fast_units.specs.device.Stages.{IsFieldUnit}
use Rattle.fast_units.specs.device.TextDecisions.{reader_behind}
use Rattle.fast_units.specs.declared.stages.Stage.{Stage}
use Rattle.fast_units.specs.declared.stages.Stage.TheVariants.{Mantissa, MantissaDelta, Part}
use Rattle.fast_units.proofs.ScalarTakes.{unit_settled}
use Rattle.fast_units.proofs.scalars.take_number.Goals as goal

pub returns-in-Mantissa-clause-unit : goal.returns-in-Mantissa-clause-unit
returns-in-Mantissa-clause-unit c =
    let text = c.args.scratch.now.text in
    let l = c.args.limits in
    let f = field_data c.args.field.now in
    let old = slots_dictionary c.args.slots.now in
    let here : Stage = Mantissa (to_z w32 (of_z w32 c.in-Mantissa.exponent)) in
    subst (λ (stage : Stage). IsFieldUnit l (reader_behind l f old stage) f c.args.rest.now old (slots_dictionary c.take_mantissa.new.slots)
    text c.settled.result)
    (ap Mantissa (to_z-of_z w32 c.in-Mantissa.exponent (search rules)) ∙ sym c.in-Mantissa.is)
    (unit_settled l (reader_behind l f old here) f c.args.rest.now old (slots_dictionary c.take_mantissa.new.slots) text
    c.take_mantissa.result c.settled.result c.settled.ensures (c.take_mantissa.ensures.unit text))

pub returns-in-MantissaDelta-clause-unit : goal.returns-in-MantissaDelta-clause-unit
returns-in-MantissaDelta-clause-unit c =
    let text = c.args.scratch.now.text in
    let l = c.args.limits in
    let f = field_data c.args.field.now in
    let old = slots_dictionary c.args.slots.now in
    let here : Stage = MantissaDelta (to_z w32 (of_z w32 c.in-MantissaDelta.exponent)) in
    subst (λ (stage : Stage). IsFieldUnit l (reader_behind l f old stage) f c.args.rest.now old
    (slots_dictionary c.take_mantissa_delta.new.slots) text c.settled-in-MantissaDelta.result)
    (ap MantissaDelta (to_z-of_z w32 c.in-MantissaDelta.exponent (search rules)) ∙ sym c.in-MantissaDelta.is)
    (unit_settled l (reader_behind l f old here) f c.args.rest.now old (slots_dictionary c.take_mantissa_delta.new.slots) text
    c.take_mantissa_delta.result c.settled-in-MantissaDelta.result c.settled-in-MantissaDelta.ensures (c.take_mantissa_delta.ensures.unit text))

pub returns-in-Part-clause-unit : goal.returns-in-Part-clause-unit
returns-in-Part-clause-unit c =
    let text = c.take_part_size.new.scratch.text in
    let l = c.args.limits in
    let f = field_data c.args.field.now in
    let old = slots_dictionary c.args.slots.now in
    subst (λ (stage : Stage). IsFieldUnit l (reader_behind l f old stage) f c.args.rest.now old
    (slots_dictionary c.take_part_size.new.slots) text c.take_part_size.result)
    (ap Part (to_z-of_z w32 c.in-Part.subtraction (search rules)) ∙ sym c.in-Part.is)
    (c.take_part_size.ensures.unit text)
