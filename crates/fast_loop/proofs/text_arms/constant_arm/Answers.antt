-- The initial value.
use Rattle.std.proofs.Common.{refl, sym, ap, ◌∙◌}
use Rattle.std.specs.Prelude.{◌≡◌, true}
use Rattle.fast_tree.specs.declared.instructions.FieldInstruction.{FieldInstruction}
use Rattle.fast_tree.specs.meaning.Nodes.{field_data}
use Rattle.fast_machine.specs.device.Positions.{set_of}
use Rattle.fast_loop.proofs.arms.Fields.{op_node, same_field}
use Rattle.fast_loop.proofs.arms.Texts.{constant_bit, constant_unsent}
use Rattle.fast_loop.proofs.text_arms.constant_arm.Goals as goal

pub returns : goal.returns
returns g c =
    let t = c.args.templates.now in
    let m = c.args.machine.now in
    let p = c.args.spot.now.place in
    let i = c.in-Some.field.now in
    let (x, found) = op_node t m p c.args.op.now c.requires.op in
    let (own, shape, operator, optional) = c.requires.op.is x found in
    let same : own ≡ i = same_field own i (sym shape ∙ c.in-Some.ensures x found) in
    record {
      went = c.hand_unsent.ensures.went (set_of t) c.args.limits m m (field_data i) true
          (sym (constant_bit i (ap (λ (k : FieldInstruction). k.operator) (sym same) ∙ operator)
          (ap (λ (k : FieldInstruction). k.optional) (sym same) ∙ optional))) refl
          (constant_unsent t c.args.limits m p c.args.op.now i x _ c.requires.spot c.requires.op found (c.in-Some.ensures x found)
          (ap (λ (k : FieldInstruction). k.operator) (sym same) ∙ operator)
          (ap (λ (k : FieldInstruction). k.optional) (sym same) ∙ optional) c.initial_value-value.ensures);
    }
