-- A value is written as it is encoded, and suits.
use Rattle.std.proofs.Common.{◌≡◌, inl, inr, refl, ap, sym, subst, arith, length}
use Rattle.std.specs.Prelude.{Option, Some}
use Rattle.fast_value.specs.meaning.Kinds.{text_of}
use Rattle.fast_value.specs.meaning.Messages.{ItemData, one}
use Rattle.fast_value.specs.meaning.Values.{value_data}
use Rattle.fast_tree.specs.declared.instructions.Shape.TheVariants.{Decimal}
use Rattle.fast_tree.specs.meaning.Nodes.{label_of}
use Rattle.fast_tree.specs.meaning.Tree.{Instruction}
use Rattle.fast_template.specs.meaning.Flat.{nodes_of, tree_of, field_data}
use Rattle.fast_tree.specs.device.Bodies.{instruction_among}
use Rattle.fast_spelling.specs.device.Nodes.{instruction_in}
use Rattle.fast_spelling.specs.meaning.Suiting.{Suits}
use Rattle.fast_spelling.proofs.encodings.Instructions.{at_shape, usable_at, short_at, served, encodes_as, decimal_encodes}
use Rattle.fast_spelling.proofs.bytes.Spelling.{on_ok}
use Rattle.fast_spelling.proofs.limits.Checked.{on_any}
use Rattle.fast_spelling.proofs.limits.Suited.{decimal_right}
use Rattle.fast_spelling.proofs.checking.fields.try_parts.Goals as goal

pub write_decimal-requires-clause-exponent : goal.write_decimal-requires-clause-exponent
write_decimal-requires-clause-exponent c =
    served c.args.plan.now.templates.now c.args.plan.now.limits c.args.work.now.ledger (field_data c.in-Decimal.exponent) c.requires.ready
    (usable_at (tree_of c.args.plan.now.templates.now).entries c.node.result.now
    (Decimal c.in-Decimal.exponent c.in-Decimal.mantissa) c.in-Decimal.is c.node.ensures.usable).0
    (λ m none long. short_at (nodes_of c.args.plan.now.templates.now) c.args.here.now.node c.node.result.now
    (Decimal c.in-Decimal.exponent c.in-Decimal.mantissa) m c.node.ensures.found c.in-Decimal.is none (inl long))

pub write_decimal-requires-clause-mantissa : goal.write_decimal-requires-clause-mantissa
write_decimal-requires-clause-mantissa c =
    served c.args.plan.now.templates.now c.args.plan.now.limits c.args.work.now.ledger (field_data c.in-Decimal.mantissa) c.requires.ready
    (usable_at (tree_of c.args.plan.now.templates.now).entries c.node.result.now
    (Decimal c.in-Decimal.exponent c.in-Decimal.mantissa) c.in-Decimal.is c.node.ensures.usable).1
    (λ m none long. short_at (nodes_of c.args.plan.now.templates.now) c.args.here.now.node c.node.result.now
    (Decimal c.in-Decimal.exponent c.in-Decimal.mantissa) m c.node.ensures.found c.in-Decimal.is none (inr long))

pub returns-clause-suits : goal.returns-clause-suits
returns-clause-suits c =
    let nodes = nodes_of c.args.plan.now.templates.now in
    let v = c.node.result.now in
    let here : instruction_in nodes c.args.here.now.node ≡ instruction_among nodes (label_of c.args.here.now.node v)
    (Decimal c.in-Decimal.exponent c.in-Decimal.mantissa) =
    at_shape nodes c.args.here.now.node v (Decimal c.in-Decimal.exponent c.in-Decimal.mantissa) c.node.ensures.found c.node.ensures.body
    c.in-Decimal.is in
    on_any c.write_decimal.result (subst (λ (z : Instruction). Suits z (Some (one (value_data c.args.value.now)))) (sym here)
    ((decimal_right (field_data c.in-Decimal.exponent) (value_data c.args.value.now)).0 (c.in-Some.ensures.right refl)))

pub returns-clause-fits : goal.returns-clause-fits
returns-clause-fits c =
    let none : length (text_of (value_data c.args.value.now)) ≡ 0 = ap length (c.in-Some.ensures.short refl) in
    on_any c.write_decimal.result (omega (arith, none))

pub returns-clause-ok : goal.returns-clause-ok
returns-clause-ok c =
    let nodes = nodes_of c.args.plan.now.templates.now in
    let v = c.node.result.now in
    let at = label_of c.args.here.now.node v in
    let i = instruction_in nodes c.args.here.now.node in
    let j = instruction_among nodes at (Decimal c.in-Decimal.exponent c.in-Decimal.mantissa) in
    let y : Option ItemData = Some (one (value_data c.args.value.now)) in
    let here : i ≡ j = at_shape nodes c.args.here.now.node v (Decimal c.in-Decimal.exponent c.in-Decimal.mantissa) c.node.ensures.found
    c.node.ensures.body c.in-Decimal.is in
    on_ok c.write_decimal.result c.write_decimal.ensures.ok (λ wrote.
    encodes_as c.args.plan.now.limits i j y y c.args.work.now.ledger.now c.args.work.now.draft c.write_decimal.new.draft
    c.write_decimal.new.ledger.now here refl
    (decimal_encodes c.args.plan.now.limits at (field_data c.in-Decimal.exponent) (field_data c.in-Decimal.mantissa)
    (value_data c.args.value.now) c.args.work.now.ledger.now c.args.work.now.draft c.write_decimal.new.draft
    c.write_decimal.new.ledger.now (wrote c.args.plan.now.limits c.requires.ready.room)))
