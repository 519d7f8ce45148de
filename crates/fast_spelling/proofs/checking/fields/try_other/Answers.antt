-- A value is written as it is encoded, and suits.
use Rattle.std.proofs.Common.{◌≡◌, inl, inr, refl, sym, subst}
use Rattle.std.specs.Prelude.{Option, Some}
use mathlib.Core.List.{not-mem-nil}
use Rattle.fast_value.specs.meaning.Kinds.{ScalarData}
use Rattle.fast_value.specs.meaning.Messages.{ItemData, one}
use Rattle.fast_value.specs.meaning.Values.{value_data}
use Rattle.fast_tree.specs.declared.instructions.Shape.TheVariants.{Field, Decimal}
use Rattle.fast_tree.specs.meaning.Nodes.{label_of}
use Rattle.fast_tree.specs.meaning.Tree.{Instruction}
use Rattle.fast_template.specs.meaning.Flat.{nodes_of, tree_of, field_data}
use Rattle.fast_tree.specs.device.Bodies.{instruction_among}
use Rattle.fast_spelling.specs.device.Nodes.{instruction_in}
use Rattle.fast_spelling.specs.meaning.Encoding.{EncodesField}
use Rattle.fast_spelling.specs.device.Fields.{Wrote}
use Rattle.fast_spelling.specs.meaning.Suiting.{Suits}
use Rattle.fast_spelling.proofs.encodings.Instructions.{at_shape, usable_at, short_at, served, encodes_as, field_encodes, decimal_encodes}
use Rattle.fast_spelling.proofs.encodings.Progress.{on_handed_on}
use Rattle.fast_spelling.proofs.limits.Suited.{decimal_right}
use Rattle.fast_spelling.proofs.checking.fields.try_other.Goals as goal

pub write_field-requires-clause-served : goal.write_field-requires-clause-served
write_field-requires-clause-served c =
    served c.args.plan.now.templates.now c.args.plan.now.limits c.args.work.now.ledger (field_data c.in-Field.field) c.requires.ready
    (usable_at (tree_of c.args.plan.now.templates.now).entries c.node.result.now
    (Field c.in-Field.field) c.in-Field.is c.node.ensures.usable)
    (λ m none long. short_at (nodes_of c.args.plan.now.templates.now) c.args.here.now.node c.node.result.now
    (Field c.in-Field.field) m c.node.ensures.found c.in-Field.is none long)

pub write_decimal-requires-clause-exponent : goal.write_decimal-requires-clause-exponent
write_decimal-requires-clause-exponent c =
    served c.args.plan.now.templates.now c.args.plan.now.limits c.args.work.now.ledger (field_data c.in-Decimal.exponent) c.requires.ready
    (usable_at (tree_of c.args.plan.now.templates.now).entries c.node.result.now
    (Decimal c.in-Decimal.exponent c.in-Decimal.mantissa) c.in-Decimal.is c.node.ensures.usable).0
    (λ m none long. short_at (nodes_of c.args.plan.now.templates.now) c.args.here.now.node c.node.result.now
    (Decimal c.in-Decimal.exponent c.in-Decimal.mantissa) m c.node.ensures.found c.in-Decimal.is none (inl long))

pub write_decimal-requires-clause-mantissa : goal.write_decimal-requires-clause-mantissa
write_decimal-requires-clause-mantissa c =
    served c.args.plan.now.templates.now c.args.plan.now.limits c.args.work.now.ledger (field_data c.in-Decimal.mantissa) c.requires.ready
    (usable_at (tree_of c.args.plan.now.templates.now).entries c.node.result.now
    (Decimal c.in-Decimal.exponent c.in-Decimal.mantissa) c.in-Decimal.is c.node.ensures.usable).1
    (λ m none long. short_at (nodes_of c.args.plan.now.templates.now) c.args.here.now.node c.node.result.now
    (Decimal c.in-Decimal.exponent c.in-Decimal.mantissa) m c.node.ensures.found c.in-Decimal.is none (inr long))

pub returns-in_ok-write_field-in-Field-clause-suits : goal.returns-in_ok-write_field-in-Field-clause-suits
returns-in_ok-write_field-in-Field-clause-suits c =
    let nodes = nodes_of c.args.plan.now.templates.now in
    let v = c.node.result.now in
    let here : instruction_in nodes c.args.here.now.node ≡ instruction_among nodes (label_of c.args.here.now.node v) (Field c.in-Field.field) =
    at_shape nodes c.args.here.now.node v (Field c.in-Field.field) c.node.ensures.found c.node.ensures.body c.in-Field.is in
    subst (λ (z : Instruction). Suits z (Some (one (value_data c.args.value.now)))) (sym here) (c.if-not-may_be.ensures refl).0

pub returns-in_ok-write_field-in-Field-clause-ok : goal.returns-in_ok-write_field-in-Field-clause-ok
returns-in_ok-write_field-in-Field-clause-ok c =
    let nodes = nodes_of c.args.plan.now.templates.now in
    let v = c.node.result.now in
    let at = label_of c.args.here.now.node v in
    let i = instruction_in nodes c.args.here.now.node in
    let j = instruction_among nodes at (Field c.in-Field.field) in
    let y : Option ItemData = Some (one (value_data c.args.value.now)) in
    let here : i ≡ j = at_shape nodes c.args.here.now.node v (Field c.in-Field.field) c.node.ensures.found c.node.ensures.body c.in-Field.is in
    encodes_as c.args.plan.now.limits i j y y c.args.work.now.ledger.now c.args.work.now.draft c.write_field.new.draft c.write_field.new.ledger.now here refl
    (field_encodes c.args.plan.now.limits at (field_data c.in-Field.field)
    (value_data c.args.value.now) c.args.work.now.ledger.now c.args.work.now.draft c.write_field.new.draft c.write_field.new.ledger.now
    (subst (λ (z : ScalarData). Wrote (EncodesField c.args.plan.now.limits (field_data c.in-Field.field) c.args.work.now.ledger.now
    (Some z)) c.args.work.now.draft c.write_field.new.draft c.write_field.new.ledger.now) c.as_scalar.ensures
    (c.in_ok-write_field-in-Field.ensures.ok c.args.plan.now.limits c.requires.ready.room)))

pub returns-in_ok-write_decimal-in-Decimal-clause-suits : goal.returns-in_ok-write_decimal-in-Decimal-clause-suits
returns-in_ok-write_decimal-in-Decimal-clause-suits c =
    let nodes = nodes_of c.args.plan.now.templates.now in
    let v = c.node.result.now in
    let here : instruction_in nodes c.args.here.now.node ≡ instruction_among nodes (label_of c.args.here.now.node v)
    (Decimal c.in-Decimal.exponent c.in-Decimal.mantissa) =
    at_shape nodes c.args.here.now.node v (Decimal c.in-Decimal.exponent c.in-Decimal.mantissa) c.node.ensures.found c.node.ensures.body
    c.in-Decimal.is in
    subst (λ (z : Instruction). Suits z (Some (one (value_data c.args.value.now)))) (sym here)
    ((decimal_right (field_data c.in-Decimal.exponent) (value_data c.args.value.now)).0 (c.if-not-may_be-2.ensures refl).0)

pub returns-in_ok-write_decimal-in-Decimal-clause-ok : goal.returns-in_ok-write_decimal-in-Decimal-clause-ok
returns-in_ok-write_decimal-in-Decimal-clause-ok c =
    let nodes = nodes_of c.args.plan.now.templates.now in
    let v = c.node.result.now in
    let at = label_of c.args.here.now.node v in
    let i = instruction_in nodes c.args.here.now.node in
    let j = instruction_among nodes at (Decimal c.in-Decimal.exponent c.in-Decimal.mantissa) in
    let y : Option ItemData = Some (one (value_data c.args.value.now)) in
    let here : i ≡ j = at_shape nodes c.args.here.now.node v (Decimal c.in-Decimal.exponent c.in-Decimal.mantissa) c.node.ensures.found
    c.node.ensures.body c.in-Decimal.is in
    encodes_as c.args.plan.now.limits i j y y c.args.work.now.ledger.now c.args.work.now.draft c.write_decimal.new.draft
    c.write_decimal.new.ledger.now here refl
    (decimal_encodes c.args.plan.now.limits at (field_data c.in-Decimal.exponent) (field_data c.in-Decimal.mantissa)
    (value_data c.args.value.now) c.args.work.now.ledger.now c.args.work.now.draft c.write_decimal.new.draft
    c.write_decimal.new.ledger.now (c.in_ok-write_decimal-in-Decimal.ensures.ok c.args.plan.now.limits c.requires.ready.room))

pub branch-write_field-requires : goal.branch-write_field-requires
branch-write_field-requires c κs = (λ a m. absurd (not-mem-nil m), λ a m. absurd (not-mem-nil m))

pub from_residual-requires : goal.from_residual-requires
from_residual-requires c κs = (λ a m. absurd (not-mem-nil m), (λ a m. absurd (not-mem-nil m), λ a m. absurd (not-mem-nil m)))

pub branch-write_decimal-requires : goal.branch-write_decimal-requires
branch-write_decimal-requires c κs = (λ a m. absurd (not-mem-nil m), λ a m. absurd (not-mem-nil m))

pub from_residual-requires-in_err-write_decimal-in-Decimal : goal.from_residual-requires-in_err-write_decimal-in-Decimal
from_residual-requires-in_err-write_decimal-in-Decimal c κs = (λ a m. absurd (not-mem-nil m), (λ a m. absurd (not-mem-nil m), λ a m. absurd (not-mem-nil m)))

pub returns-in_err-write_field-in-Field-clause-suits : goal.returns-in_err-write_field-in-Field-clause-suits
returns-in_err-write_field-in-Field-clause-suits c = on_handed_on _ _ c.from_residual.result c.from_residual.ensures.1

pub returns-in_err-write_field-in-Field-clause-fits : goal.returns-in_err-write_field-in-Field-clause-fits
returns-in_err-write_field-in-Field-clause-fits c = on_handed_on _ _ c.from_residual.result c.from_residual.ensures.1

pub returns-in_err-write_field-in-Field-clause-ok : goal.returns-in_err-write_field-in-Field-clause-ok
returns-in_err-write_field-in-Field-clause-ok c = on_handed_on _ _ c.from_residual.result c.from_residual.ensures.1

pub returns-in_err-write_decimal-in-Decimal-clause-suits : goal.returns-in_err-write_decimal-in-Decimal-clause-suits
returns-in_err-write_decimal-in-Decimal-clause-suits c =
    on_handed_on _ _ c.from_residual-in_err-write_decimal-in-Decimal.result c.from_residual-in_err-write_decimal-in-Decimal.ensures.1

pub returns-in_err-write_decimal-in-Decimal-clause-fits : goal.returns-in_err-write_decimal-in-Decimal-clause-fits
returns-in_err-write_decimal-in-Decimal-clause-fits c =
    on_handed_on _ _ c.from_residual-in_err-write_decimal-in-Decimal.result c.from_residual-in_err-write_decimal-in-Decimal.ensures.1

pub returns-in_err-write_decimal-in-Decimal-clause-ok : goal.returns-in_err-write_decimal-in-Decimal-clause-ok
returns-in_err-write_decimal-in-Decimal-clause-ok c = on_handed_on _ _ c.from_residual-in_err-write_decimal-in-Decimal.result
    c.from_residual-in_err-write_decimal-in-Decimal.ensures.1
