-- A delta, or NULL, is the field's only unit.
use Rattle.std.proofs.Common.{refl, rules, ap, ◌∙◌, subst, FitsSigned}
use Rattle.std.specs.Int.{w64, w128}
use Rattle.std.specs.Prelude.{ℤ, Ok}
use Rattle.fast_tree.specs.meaning.Nodes.{field_data}
use Rattle.fast_dict.specs.meaning.Dictionary.{previous_at}
use Rattle.fast_dict.specs.meaning.Operators.{gives_none, integer_step}
use Rattle.fast_dict.specs.meaning.Slots.{slots_dictionary}
use Rattle.fast_stream.specs.meaning.Fields.{integer_change}
use Rattle.fast_units.specs.declared.source.ValueSource.TheVariants as From
use Rattle.fast_units.specs.device.Deciding.{IsDecided}
use Rattle.fast_units.proofs.Deciding.{none_decided}
use Rattle.fast_units.proofs.LastUnits.{again}
use Rattle.fast_units.proofs.ShortIntegers.{delta_unit}
use Rattle.fast_fields.proofs.numbers.changed_integer.Goals as goal

pub returns-in-Ok-clause-unit : goal.returns-in-Ok-clause-unit
returns-in-Ok-clause-unit c l scratch =
    let f = field_data c.args.field.now in
    let old = slots_dictionary c.args.slots.now in
    let p = previous_at f.entry old in
    let new = slots_dictionary c.change_integer.new.slots in
    let fits : FitsSigned w128 c.from.result = search rules in
    let small : FitsSigned w64 c.in-Some.delta = search rules in
    let same = again w128 c.from.result fits ∙ c.from.ensures ∙ again w64 c.in-Some.delta small in
    delta_unit c.args.field.now.optional c.args.strict l f c.args.rest.bytes.now old new scratch
    c.in_ok-change.change c.in_ok-change.bytes (integer_step f p c.in-Some.delta) c.in-Ok.source refl c.requires.integers c.requires.delta
    c.in_ok-change.ensures (ap (integer_change f p) c.in-Some.is)
    (subst (λ (d : ℤ). IsDecided (integer_step f p d) f old new (Ok c.in-Ok.source)) same c.in-Ok.ensures.decided)

pub returns-in-None-clause-unit : goal.returns-in-None-clause-unit
returns-in-None-clause-unit c l scratch =
    let f = field_data c.args.field.now in
    let old = slots_dictionary c.args.slots.now in
    let p = previous_at f.entry old in
    delta_unit c.args.field.now.optional c.args.strict l f c.args.rest.bytes.now old old scratch c.in_ok-change.change c.in_ok-change.bytes
    (gives_none p) From.Absent refl c.requires.integers c.requires.delta c.in_ok-change.ensures (ap (integer_change f p) c.in-None.is)
    (none_decided f old)
