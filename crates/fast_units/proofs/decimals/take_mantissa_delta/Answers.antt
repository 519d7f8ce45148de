-- The mantissa behind its delta.
use Rattle.std.proofs.Common.{rules, sym, ap, subst, to_z, of_z, FitsSigned}
use Rattle.std.specs.Int.{w32, w128}
use Rattle.std.specs.Prelude.{Ok}
use Rattle.fast_value.specs.meaning.Limits.{bounds}
use Rattle.fast_tree.specs.meaning.Nodes.{field_data}
use Rattle.fast_dict.specs.meaning.Dictionary.{previous_at}
use Rattle.fast_dict.specs.meaning.Operators.{gives_none, mantissa_step}
use Rattle.fast_dict.specs.meaning.Slots.{slots_dictionary}
use Rattle.fast_stream.specs.device.GrammarReaders.{reader_of}
use Rattle.fast_stream.specs.meaning.Fields.{mantissa_change}
use Rattle.fast_units.specs.device.Stages.{term_behind}
use Rattle.fast_units.specs.device.Settling.{IsLastUnit}
use Rattle.fast_units.specs.device.Deciding.{IsDecided}
use Rattle.fast_units.specs.declared.source.ValueSource.TheVariants as From
use Rattle.fast_units.specs.declared.stages.Stage.TheVariants.{MantissaDelta}
use Rattle.fast_units.proofs.Deciding.{none_decided}
use Rattle.fast_units.specs.device.Words.{previous_of}
use Rattle.fast_units.proofs.LastUnits.{mantissa_delta_field, last_unit, unit_stops, unit_stays, again}
use Rattle.fast_units.proofs.decimals.take_mantissa_delta.Goals as goal

pub returns-in-Whole-Some-default-clause-unit : goal.returns-in-Whole-Some-default-clause-unit
returns-in-Whole-Some-default-clause-unit c scratch =
    let f = field_data c.args.field.now in
    let old = slots_dictionary c.args.slots.now in
    let p = previous_at f.entry old in
    let fits : FitsSigned w128 c.in-Whole-Some-default.delta = search rules in
    let exponent_fits : FitsSigned w32 c.args.exponent = search rules in
    subst (λ q. IsLastUnit (reader_of c.args.limits.strict (term_behind (bounds c.args.limits) f p (MantissaDelta c.args.exponent))) f
    c.args.rest.now old (slots_dictionary c.change_mantissa.new.slots) scratch q) (sym c.answered.ensures)
    (last_unit (mantissa_delta_field c.args.limits.strict (bounds c.args.limits) f p c.args.exponent)
    f c.args.rest.now old (slots_dictionary c.change_mantissa.new.slots) scratch c.in-Whole-Some-default.field-0
    c.in-Whole-Some-default.bytes
    (mantissa_step f p c.args.exponent c.in-Whole-Some-default.delta) c.change_mantissa.result
    (ap (mantissa_change f p c.args.exponent) c.in-Whole-Some-default.field-0-is)
    (subst (λ e. IsDecided (mantissa_step f p e c.in-Whole-Some-default.delta) f old
    (slots_dictionary c.change_mantissa.new.slots) c.change_mantissa.result) (again w32 c.args.exponent exponent_fits)
    (subst (λ d. IsDecided (mantissa_step f p (to_z w32 (of_z w32 c.args.exponent)) d) f old
    (slots_dictionary c.change_mantissa.new.slots) c.change_mantissa.result)
    (again w128 c.in-Whole-Some-default.delta fits) c.change_mantissa.ensures.decided))
    c.in-Whole-Some-default.ensures.unit)

pub returns-in-Whole-None-default-clause-unit : goal.returns-in-Whole-None-default-clause-unit
returns-in-Whole-None-default-clause-unit c scratch =
    let f = field_data c.args.field.now in
    let old = slots_dictionary c.args.slots.now in
    let p = previous_at f.entry old in
    last_unit (mantissa_delta_field c.args.limits.strict (bounds c.args.limits) f p c.args.exponent)
    f c.args.rest.now old old scratch c.in-Whole-None-default.field-0 c.in-Whole-None-default.bytes
    (gives_none p) (Ok From.Absent)
    (ap (mantissa_change f p c.args.exponent) c.in-Whole-None-default.field-0-is)
    (none_decided f old) c.in-Whole-None-default.ensures.unit

pub returns-in-Wrong-clause-unit : goal.returns-in-Wrong-clause-unit
returns-in-Wrong-clause-unit c scratch =
    let f = field_data c.args.field.now in
    let p = previous_of c.args.slots.now c.args.field.now in
    unit_stops (mantissa_delta_field c.args.limits.strict (bounds c.args.limits) f p c.args.exponent)
    c.args.rest.now c.in-Wrong.bytes c.in-Wrong.code c.in-Wrong.ensures.unit

pub returns-in-Cut-clause-unit : goal.returns-in-Cut-clause-unit
returns-in-Cut-clause-unit c scratch =
    let f = field_data c.args.field.now in
    let p = previous_of c.args.slots.now c.args.field.now in
    unit_stays (mantissa_delta_field c.args.limits.strict (bounds c.args.limits) f p c.args.exponent)
    c.args.rest.now _ c.in-Cut.ensures.unit
