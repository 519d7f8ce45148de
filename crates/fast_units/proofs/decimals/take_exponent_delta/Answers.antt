-- The mantissa's delta comes next, or a fault; or the decimal is absent, whatever the previous value is.
use Rattle.std.proofs.Common.{◌≡◌, refl, rules, sym, ap, ◌∙◌, to_z, of_z, FitsSigned, take}
use Rattle.std.specs.Int.{w32, w128}
use Rattle.std.specs.Prelude.{Ok, Err}
use Rattle.fast_value.specs.meaning.Limits.{bounds}
use Rattle.fast_tree.specs.meaning.Nodes.{field_data}
use Rattle.fast_dict.specs.meaning.Dictionary.{previous_at}
use Rattle.fast_dict.specs.meaning.Operators.{gives_none, exponent_step}
use Rattle.fast_dict.specs.meaning.Slots.{slots_dictionary}
use Rattle.fast_stream.specs.meaning.Grammar.{of_result, ◌>>=◌}
use Rattle.fast_stream.specs.device.GrammarReaders.{reader_of}
use Rattle.fast_stream.specs.meaning.Fields.{decimal_change}
use Rattle.fast_units.specs.declared.source.ValueSource.TheVariants as From
use Rattle.fast_stream.specs.device.Machine.{behind_exponent_delta, stage_term}
use Rattle.fast_units.proofs.Turning.{turns_as}
use Rattle.fast_stream.proofs.streams.Stepping.{exponent-delta-turn}
use Rattle.fast_units.proofs.Deciding.{none_decided}
use Rattle.fast_units.specs.device.Words.{previous_of}
use Rattle.fast_units.proofs.LastUnits.{exponent_delta_field, last_unit, unit_goes, unit_stops, unit_stays, again}
use Rattle.fast_units.proofs.decimals.take_exponent_delta.Goals as goal

pub returns-in-Ok-clause-unit : goal.returns-in-Ok-clause-unit
returns-in-Ok-clause-unit c scratch =
    let f = field_data c.args.field.now in
    let old = slots_dictionary c.args.slots.now in
    let p = previous_at f.entry old in
    let fits : FitsSigned w128 c.in-Whole-Some-default.delta = search rules in
    let exponent_fits : FitsSigned w32 c.in-Ok.exponent = search rules in
    let (some, within, t) = c.in-Whole-Some-default.ensures.unit in
    let step : exponent_step f p c.in-Whole-Some-default.delta ≡ Ok c.in-Ok.exponent =
    ap (exponent_step f p) (sym (again w128 c.in-Whole-Some-default.delta fits))
    ∙ ap (λ q. exponent_step f q (to_z w128 (of_z w128 c.in-Whole-Some-default.delta))) (sym c.previous.ensures)
    ∙ sym c.exponent_delta.ensures ∙ c.in-Ok.is in (
      some,
      within,
      refl,
      (c.requires.decimals, c.requires.delta),
      turns_as refl (sym (ap (λ x. reader_of c.args.limits.strict (decimal_change f p x)) c.in-Whole-Some-default.field-0-is
          ∙ ap (reader_of c.args.limits.strict) (exponent-delta-turn (bounds c.args.limits) f p c.in-Whole-Some-default.delta)
          ∙ ap (λ d. reader_of c.args.limits.strict (of_result d >>= (λ e. stage_term (bounds c.args.limits) f p (behind_exponent_delta e)))) step
          ∙ ap (λ e. reader_of c.args.limits.strict (stage_term (bounds c.args.limits) f p (behind_exponent_delta e)))
          (sym (again w32 c.in-Ok.exponent exponent_fits))))
          (unit_goes (exponent_delta_field c.args.limits.strict (bounds c.args.limits) f p c.requires.decimals c.requires.delta)
          (take c.in-Whole-Some-default.bytes c.args.rest.now) c.in-Whole-Some-default.field-0 t),
    )

pub returns-in-Err-clause-unit : goal.returns-in-Err-clause-unit
returns-in-Err-clause-unit c scratch =
    let f = field_data c.args.field.now in
    let old = slots_dictionary c.args.slots.now in
    let p = previous_at f.entry old in
    let fits : FitsSigned w128 c.in-Whole-Some-default.delta = search rules in
    let (some, within, t) = c.in-Whole-Some-default.ensures.unit in
    let step : exponent_step f p c.in-Whole-Some-default.delta ≡ Err c.in-Err.code =
    ap (exponent_step f p) (sym (again w128 c.in-Whole-Some-default.delta fits))
    ∙ ap (λ q. exponent_step f q (to_z w128 (of_z w128 c.in-Whole-Some-default.delta))) (sym c.previous.ensures)
    ∙ sym c.exponent_delta.ensures ∙ c.in-Err.is in (
      some,
      within,
      turns_as refl (sym (ap (λ x. reader_of c.args.limits.strict (decimal_change f p x)) c.in-Whole-Some-default.field-0-is
          ∙ ap (reader_of c.args.limits.strict) (exponent-delta-turn (bounds c.args.limits) f p c.in-Whole-Some-default.delta)
          ∙ ap (λ d. reader_of c.args.limits.strict (of_result d >>= (λ e. stage_term (bounds c.args.limits) f p (behind_exponent_delta e)))) step))
          (unit_goes (exponent_delta_field c.args.limits.strict (bounds c.args.limits) f p c.requires.decimals c.requires.delta)
          (take c.in-Whole-Some-default.bytes c.args.rest.now) c.in-Whole-Some-default.field-0 t),
    )

pub returns-in-Whole-None-default-clause-unit : goal.returns-in-Whole-None-default-clause-unit
returns-in-Whole-None-default-clause-unit c scratch =
    let f = field_data c.args.field.now in
    let old = slots_dictionary c.args.slots.now in
    let p = previous_at f.entry old in
    last_unit (exponent_delta_field c.args.limits.strict (bounds c.args.limits) f p c.requires.decimals c.requires.delta)
    f c.args.rest.now old old scratch c.in-Whole-None-default.field-0 c.in-Whole-None-default.bytes
    (gives_none p) (Ok From.Absent)
    (ap (decimal_change f p) c.in-Whole-None-default.field-0-is)
    (none_decided f old) c.in-Whole-None-default.ensures.unit

pub returns-in-Wrong-clause-unit : goal.returns-in-Wrong-clause-unit
returns-in-Wrong-clause-unit c scratch =
    let f = field_data c.args.field.now in
    let p = previous_of c.args.slots.now c.args.field.now in
    unit_stops (exponent_delta_field c.args.limits.strict (bounds c.args.limits) f p c.requires.decimals c.requires.delta)
    c.args.rest.now c.in-Wrong.bytes c.in-Wrong.code c.in-Wrong.ensures.unit

pub returns-in-Cut-clause-unit : goal.returns-in-Cut-clause-unit
returns-in-Cut-clause-unit c scratch =
    let f = field_data c.args.field.now in
    let p = previous_of c.args.slots.now c.args.field.now in
    unit_stays (exponent_delta_field c.args.limits.strict (bounds c.args.limits) f p c.requires.decimals c.requires.delta)
    c.args.rest.now _ c.in-Cut.ensures.unit
