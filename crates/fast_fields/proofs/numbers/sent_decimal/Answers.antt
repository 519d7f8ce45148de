-- A decimal that is read at once is that of each field under the operator, and so this one.
use Rattle.std.proofs.Common.{refl}
use Rattle.fast_value.specs.declared.kinds.Kind.TheVariants.{Decimal}
use Rattle.fast_tree.specs.declared.operators.Operator.TheVariants.{None, Copy, Delta}
use Rattle.fast_tree.specs.meaning.Nodes.{field_data}
use Rattle.fast_fields.proofs.Readings.{sent_as}
use Rattle.fast_fields.proofs.numbers.sent_decimal.Goals as goal

pub returns-in-None-clause-unit : goal.returns-in-None-clause-unit
returns-in-None-clause-unit c =
    let i = c.args.field.now in
    sent_as Decimal i.optional None 0 c.args.strict c.args.rest.bytes.now c.args.slots.now c.args.slots.now (field_data i)
    (record { kind = c.requires.kind; optional = refl; operator = c.in-None.is; entry = λ k. absurd (cc k) }) c.requires.serves
    c.plain_decimal.result c.plain_decimal.ensures

pub returns-in_ok-field-in-Copy-clause-unit : goal.returns-in_ok-field-in-Copy-clause-unit
returns-in_ok-field-in-Copy-clause-unit c =
    let i = c.args.field.now in
    sent_as Decimal i.optional Copy c.in_ok-field-in-Copy.field-0 c.args.strict c.args.rest.bytes.now c.args.slots.now c.copied_decimal.new.slots
    (field_data i) (record { kind = c.requires.kind; optional = refl; operator = c.in-Copy.is; entry = λ _. c.in_ok-field-in-Copy.was })
    c.requires.serves c.copied_decimal.result c.copied_decimal.ensures.unit

pub returns-in_ok-field-in-Delta-clause-unit : goal.returns-in_ok-field-in-Delta-clause-unit
returns-in_ok-field-in-Delta-clause-unit c =
    let i = c.args.field.now in
    sent_as Decimal i.optional Delta c.in_ok-field-in-Delta.field-0 c.args.strict c.args.rest.bytes.now c.args.slots.now
    c.changed_decimal.new.slots (field_data i)
    (record { kind = c.requires.kind; optional = refl; operator = c.in-Delta.is; entry = λ _. c.in_ok-field-in-Delta.was })
    c.requires.serves c.changed_decimal.result c.changed_decimal.ensures.unit
