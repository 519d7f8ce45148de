-- The mantissa comes next, or the decimal is absent.
use Rattle.std.proofs.Common.{refl, rules, sym, ap, ◌∙◌, FitsSigned, take}
use Rattle.std.specs.Int.{w32, w128}
use Rattle.std.specs.Prelude.{true, Some, Ok}
use Rattle.fast_value.specs.meaning.Limits.{bounds}
use Rattle.fast_tree.specs.meaning.Nodes.{field_data}
use Rattle.fast_dict.specs.meaning.Dictionary.{previous_at}
use Rattle.fast_dict.specs.meaning.Operators.{decide, null}
use Rattle.fast_dict.specs.meaning.Slots.{slots_dictionary}
use Rattle.fast_stream.specs.device.GrammarReaders.{reader_of}
use Rattle.fast_units.specs.device.NextUnits.{range_data}
use Rattle.fast_stream.specs.device.Machine.{behind_exponent, stage_term}
use Rattle.fast_units.proofs.Turning.{turns_as}
use Rattle.fast_stream.proofs.streams.Stepping.{exponent-turn}
use Rattle.fast_units.specs.device.Words.{previous_of}
use Rattle.fast_units.proofs.LastUnits.{mantissa_next, exponent_here, last_unit, unit_goes, unit_stops, unit_stays, again}
use Rattle.fast_units.proofs.decimals.take_exponent_item.Goals as goal

pub returns-in-Whole-Some-default-clause-unit : goal.returns-in-Whole-Some-default-clause-unit
returns-in-Whole-Some-default-clause-unit c scratch =
    let f = field_data c.args.field.now in
    let old = slots_dictionary c.args.slots.now in
    let p = previous_at f.entry old in
    let fits : FitsSigned w128 c.in-Whole-Some-default.integer = search rules in
    let exponent_fits : FitsSigned w32 c.exponent.result = search rules in
    let (some, within, t) = c.in-Whole-Some-default.ensures.unit in (
      some,
      within,
      refl,
      (c.requires.decimals, c.requires.no_delta, c.requires.no_constant),
      turns_as refl (sym (ap (λ x. reader_of c.args.limits.strict (mantissa_next (bounds c.args.limits) f p x)) c.in-Whole-Some-default.field-0-is
          ∙ ap (λ e. reader_of c.args.limits.strict (mantissa_next (bounds c.args.limits) f p (Some e)))
          (sym (c.exponent.ensures ∙ again w128 c.in-Whole-Some-default.integer fits))
          ∙ ap (reader_of c.args.limits.strict) (exponent-turn (bounds c.args.limits) f p c.exponent.result)
          ∙ ap (λ e. reader_of c.args.limits.strict (stage_term (bounds c.args.limits) f p (behind_exponent e)))
          (sym (again w32 c.exponent.result exponent_fits))))
          (unit_goes (exponent_here c.args.limits.strict (bounds c.args.limits) f p
          (range_data c.range_on_wire-range.result) c.range_on_wire-range.ensures c.requires.decimals c.requires.no_delta
          c.requires.no_constant) (take c.in-Whole-Some-default.bytes c.args.rest.now)
          c.in-Whole-Some-default.field-0 t),
    )

pub returns-in-Whole-None-default-clause-unit : goal.returns-in-Whole-None-default-clause-unit
returns-in-Whole-None-default-clause-unit c scratch =
    let f = field_data c.args.field.now in
    let old = slots_dictionary c.args.slots.now in
    let p = previous_at f.entry old in
    last_unit (exponent_here c.args.limits.strict (bounds c.args.limits) f p
    (range_data c.range_on_wire-range.result) c.range_on_wire-range.ensures c.requires.decimals c.requires.no_delta
    c.requires.no_constant)
    f c.args.rest.now old (slots_dictionary c.received.new.slots) scratch c.in-Whole-None-default.field-0 c.in-Whole-None-default.bytes
    (decide f p true null) (Ok c.received.result)
    (ap (mantissa_next (bounds c.args.limits) f p) c.in-Whole-None-default.field-0-is)
    c.received.ensures.decided c.in-Whole-None-default.ensures.unit

pub returns-in-Wrong-clause-unit : goal.returns-in-Wrong-clause-unit
returns-in-Wrong-clause-unit c scratch =
    let f = field_data c.args.field.now in
    let p = previous_of c.args.slots.now c.args.field.now in
    unit_stops (exponent_here c.args.limits.strict (bounds c.args.limits) f p (range_data c.range_on_wire-range.result) c.range_on_wire-range.ensures
    c.requires.decimals c.requires.no_delta c.requires.no_constant)
    c.args.rest.now c.in-Wrong.bytes c.in-Wrong.code c.in-Wrong.ensures.unit

pub returns-in-Cut-clause-unit : goal.returns-in-Cut-clause-unit
returns-in-Cut-clause-unit c scratch =
    let f = field_data c.args.field.now in
    let p = previous_of c.args.slots.now c.args.field.now in
    unit_stays (exponent_here c.args.limits.strict (bounds c.args.limits) f p (range_data c.range_on_wire-range.result) c.range_on_wire-range.ensures
    c.requires.decimals c.requires.no_delta c.requires.no_constant)
    c.args.rest.now _ c.in-Cut.ensures.unit
