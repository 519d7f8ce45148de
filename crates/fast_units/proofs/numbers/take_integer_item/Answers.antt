-- What is decided of the integer, or of NULL, behind its unit.
use Rattle.std.proofs.Common.{None, rules, sym, ap, ◌∙◌, FitsSigned}
use Rattle.std.specs.Int.{w128}
use Rattle.std.specs.Prelude.{true, Some, Ok}
use Rattle.fast_value.specs.meaning.Kinds.{value_of_integer}
use Rattle.fast_tree.specs.meaning.Nodes.{field_data}
use Rattle.fast_dict.specs.meaning.Dictionary.{previous_at}
use Rattle.fast_dict.specs.meaning.Operators.{decide, value}
use Rattle.fast_dict.specs.meaning.Slots.{slots_dictionary}
use Rattle.fast_stream.specs.meaning.Grammar.{of_result}
use Rattle.fast_units.specs.device.NextUnits.{range_data}
use Rattle.fast_units.specs.device.Deciding.{sent_number}
use Rattle.fast_units.specs.device.Words.{previous_of}
use Rattle.fast_units.proofs.LastUnits.{behind_integer, integer_here, last_unit, unit_stops, unit_stays, again}
use Rattle.fast_units.proofs.numbers.take_integer_item.Goals as goal

pub returns-in-Whole-Some-default-clause-unit : goal.returns-in-Whole-Some-default-clause-unit
returns-in-Whole-Some-default-clause-unit c l scratch =
    let f = field_data c.args.field.now in
    let old = slots_dictionary c.args.slots.now in
    let p = previous_at f.entry old in
    let wire = range_data c.range_on_wire-range.result in
    let fits : FitsSigned w128 c.in-Whole-Some-default.integer = search rules in
    last_unit (integer_here c.args.strict l f p wire c.range_on_wire-range.ensures c.requires.integers c.requires.no_delta c.requires.no_constant)
    f c.args.rest.now old (slots_dictionary c.received.new.slots) scratch c.in-Whole-Some-default.field-0 c.in-Whole-Some-default.bytes
    (decide f p true (sent_number (Some c.of_integer-number.result))) (Ok c.received.result)
    (ap (behind_integer l f p) c.in-Whole-Some-default.field-0-is
    ∙ ap (λ x. of_result (decide f p true (value (value_of_integer f.kind x)))) (sym (again w128 c.in-Whole-Some-default.integer fits))
    ∙ ap (λ v. of_result (decide f p true (value v))) (sym c.of_integer-number.ensures))
    c.received.ensures.decided c.in-Whole-Some-default.ensures.unit

pub returns-in-Whole-None-default-clause-unit : goal.returns-in-Whole-None-default-clause-unit
returns-in-Whole-None-default-clause-unit c l scratch =
    let f = field_data c.args.field.now in
    let old = slots_dictionary c.args.slots.now in
    let p = previous_at f.entry old in
    let wire = range_data c.range_on_wire-range.result in
    last_unit (integer_here c.args.strict l f p wire c.range_on_wire-range.ensures c.requires.integers c.requires.no_delta c.requires.no_constant)
    f c.args.rest.now old (slots_dictionary c.received-in-Whole-None-default.new.slots) scratch
    c.in-Whole-None-default.field-0 c.in-Whole-None-default.bytes
    (decide f p true (sent_number None)) (Ok c.received-in-Whole-None-default.result)
    (ap (behind_integer l f p) c.in-Whole-None-default.field-0-is)
    c.received-in-Whole-None-default.ensures.decided c.in-Whole-None-default.ensures.unit

pub returns-in-Wrong-clause-unit : goal.returns-in-Wrong-clause-unit
returns-in-Wrong-clause-unit c l scratch =
    let f = field_data c.args.field.now in
    let p = previous_of c.args.slots.now c.args.field.now in
    unit_stops (integer_here c.args.strict l f p (range_data c.range_on_wire-range.result) c.range_on_wire-range.ensures c.requires.integers c.requires.no_delta
    c.requires.no_constant)
    c.args.rest.now c.in-Wrong.bytes c.in-Wrong.code c.in-Wrong.ensures.unit

pub returns-in-Cut-clause-unit : goal.returns-in-Cut-clause-unit
returns-in-Cut-clause-unit c l scratch =
    let f = field_data c.args.field.now in
    let p = previous_of c.args.slots.now c.args.field.now in
    unit_stays (integer_here c.args.strict l f p (range_data c.range_on_wire-range.result) c.range_on_wire-range.ensures c.requires.integers c.requires.no_delta
    c.requires.no_constant)
    c.args.rest.now _ c.in-Cut.ensures.unit
