-- The decimal of the exponent and the mantissa.
use Rattle.std.proofs.Common.{rules, sym, ap, ◌∙◌, to_z, of_z, FitsSigned}
use Rattle.std.specs.Int.{w32, w128}
use Rattle.std.specs.Prelude.{true, Some, Ok}
use Rattle.fast_value.specs.meaning.Kinds.{Dec}
use Rattle.fast_value.specs.meaning.Limits.{bounds}
use Rattle.fast_tree.specs.meaning.Nodes.{field_data}
use Rattle.fast_dict.specs.meaning.Dictionary.{previous_at}
use Rattle.fast_dict.specs.meaning.Operators.{decide, value, null}
use Rattle.fast_dict.specs.meaning.Slots.{slots_dictionary}
use Rattle.fast_stream.specs.meaning.Grammar.{of_result}
use Rattle.fast_units.specs.device.Deciding.{sent_number}
use Rattle.fast_units.specs.device.Words.{previous_of}
use Rattle.fast_units.proofs.LastUnits.{behind_mantissa, mantissa_field, last_unit, unit_stops, unit_stays, again}
use Rattle.fast_units.proofs.decimals.take_mantissa.Goals as goal

pub returns-in-Whole-Some-default-clause-unit : goal.returns-in-Whole-Some-default-clause-unit
returns-in-Whole-Some-default-clause-unit c scratch =
    let f = field_data c.args.field.now in
    let old = slots_dictionary c.args.slots.now in
    let p = previous_at f.entry old in
    let fits : FitsSigned w128 c.in-Whole-Some-default.mantissa = search rules in
    let exponent_fits : FitsSigned w32 c.args.exponent = search rules in
    last_unit (mantissa_field c.args.limits.strict (bounds c.args.limits) f p c.args.exponent)
    f c.args.rest.now old (slots_dictionary c.received.new.slots) scratch c.in-Whole-Some-default.field-0 c.in-Whole-Some-default.bytes
    (decide f p true (sent_number (Some c.decimal-number.result))) (Ok c.received.result)
    (ap (behind_mantissa (bounds c.args.limits) f p c.args.exponent) c.in-Whole-Some-default.field-0-is
    ∙ ap (λ x. of_result (decide f p true (value (Dec c.args.exponent x)))) (sym (again w128 c.in-Whole-Some-default.mantissa fits))
    ∙ ap (λ e. of_result (decide f p true (value (Dec e (to_z w128 (of_z w128 c.in-Whole-Some-default.mantissa))))))
    (sym (again w32 c.args.exponent exponent_fits))
    ∙ ap (λ v. of_result (decide f p true (value v))) (sym c.decimal-number.ensures))
    c.received.ensures.decided c.in-Whole-Some-default.ensures.unit

pub returns-in-Whole-None-default-clause-unit : goal.returns-in-Whole-None-default-clause-unit
returns-in-Whole-None-default-clause-unit c scratch =
    let f = field_data c.args.field.now in
    let old = slots_dictionary c.args.slots.now in
    let p = previous_at f.entry old in
    last_unit (mantissa_field c.args.limits.strict (bounds c.args.limits) f p c.args.exponent)
    f c.args.rest.now old (slots_dictionary c.received-in-Whole-None-default.new.slots) scratch
    c.in-Whole-None-default.field-0 c.in-Whole-None-default.bytes
    (decide f p true null) (Ok c.received-in-Whole-None-default.result)
    (ap (behind_mantissa (bounds c.args.limits) f p c.args.exponent) c.in-Whole-None-default.field-0-is)
    c.received-in-Whole-None-default.ensures.decided c.in-Whole-None-default.ensures.unit

pub returns-in-Wrong-clause-unit : goal.returns-in-Wrong-clause-unit
returns-in-Wrong-clause-unit c scratch =
    let f = field_data c.args.field.now in
    let p = previous_of c.args.slots.now c.args.field.now in
    unit_stops (mantissa_field c.args.limits.strict (bounds c.args.limits) f p c.args.exponent)
    c.args.rest.now c.in-Wrong.bytes c.in-Wrong.code c.in-Wrong.ensures.unit

pub returns-in-Cut-clause-unit : goal.returns-in-Cut-clause-unit
returns-in-Cut-clause-unit c scratch =
    let f = field_data c.args.field.now in
    let p = previous_of c.args.slots.now c.args.field.now in
    unit_stays (mantissa_field c.args.limits.strict (bounds c.args.limits) f p c.args.exponent)
    c.args.rest.now _ c.in-Cut.ensures.unit
