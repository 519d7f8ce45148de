-- A delta, or NULL, which is absent whatever the previous value is.
use Rattle.std.proofs.Common.{rules, sym, ap, subst, FitsSigned}
use Rattle.std.specs.Int.{w128}
use Rattle.std.specs.Prelude.{true, Ok}
use Rattle.fast_tree.specs.meaning.Nodes.{field_data}
use Rattle.fast_dict.specs.meaning.Dictionary.{previous_at}
use Rattle.fast_dict.specs.meaning.Operators.{gives_none, integer_step, range_of}
use Rattle.fast_dict.specs.meaning.Slots.{slots_dictionary}
use Rattle.fast_stream.specs.device.GrammarReaders.{reader_of}
use Rattle.fast_stream.specs.meaning.Fields.{field_term, integer_change}
use Rattle.fast_units.specs.device.Settling.{IsLastUnit}
use Rattle.fast_units.specs.device.Deciding.{IsDecided}
use Rattle.fast_units.specs.declared.source.ValueSource.TheVariants as From
use Rattle.fast_units.proofs.Deciding.{none_decided}
use Rattle.fast_units.specs.device.Words.{previous_of}
use Rattle.fast_units.proofs.LastUnits.{integer_delta_field, last_unit, unit_stops, unit_stays, again}
use Rattle.fast_units.proofs.numbers.take_integer_delta.Goals as goal

pub returns-in-Whole-Some-default-clause-unit : goal.returns-in-Whole-Some-default-clause-unit
returns-in-Whole-Some-default-clause-unit c l scratch =
    let f = field_data c.args.field.now in
    let old = slots_dictionary c.args.slots.now in
    let p = previous_at f.entry old in
    let fits : FitsSigned w128 c.in-Whole-Some-default.delta = search rules in
    subst (λ q. IsLastUnit (reader_of c.args.strict (field_term l f p true)) f c.args.rest.now old
    (slots_dictionary c.change_integer.new.slots) scratch q) (sym c.answered.ensures)
    (last_unit (integer_delta_field c.args.strict l f p (range_of f.kind) c.requires.integers c.requires.delta)
    f c.args.rest.now old (slots_dictionary c.change_integer.new.slots) scratch c.in-Whole-Some-default.field-0
    c.in-Whole-Some-default.bytes
    (integer_step f p c.in-Whole-Some-default.delta) c.change_integer.result
    (ap (integer_change f p) c.in-Whole-Some-default.field-0-is)
    (subst (λ d. IsDecided (integer_step f p d) f old (slots_dictionary c.change_integer.new.slots) c.change_integer.result)
    (again w128 c.in-Whole-Some-default.delta fits) c.change_integer.ensures.decided)
    c.in-Whole-Some-default.ensures.unit)

pub returns-in-Whole-None-default-clause-unit : goal.returns-in-Whole-None-default-clause-unit
returns-in-Whole-None-default-clause-unit c l scratch =
    let f = field_data c.args.field.now in
    let old = slots_dictionary c.args.slots.now in
    let p = previous_at f.entry old in
    last_unit (integer_delta_field c.args.strict l f p (range_of f.kind) c.requires.integers c.requires.delta)
    f c.args.rest.now old old scratch c.in-Whole-None-default.field-0 c.in-Whole-None-default.bytes
    (gives_none p) (Ok From.Absent)
    (ap (integer_change f p) c.in-Whole-None-default.field-0-is)
    (none_decided f old) c.in-Whole-None-default.ensures.unit

pub returns-in-Wrong-clause-unit : goal.returns-in-Wrong-clause-unit
returns-in-Wrong-clause-unit c l scratch =
    let f = field_data c.args.field.now in
    let p = previous_of c.args.slots.now c.args.field.now in
    unit_stops (integer_delta_field c.args.strict l f p (range_of f.kind) c.requires.integers c.requires.delta)
    c.args.rest.now c.in-Wrong.bytes c.in-Wrong.code c.in-Wrong.ensures.unit

pub returns-in-Cut-clause-unit : goal.returns-in-Cut-clause-unit
returns-in-Cut-clause-unit c l scratch =
    let f = field_data c.args.field.now in
    let p = previous_of c.args.slots.now c.args.field.now in
    unit_stays (integer_delta_field c.args.strict l f p (range_of f.kind) c.requires.integers c.requires.delta)
    c.args.rest.now _ c.in-Cut.ensures.unit
