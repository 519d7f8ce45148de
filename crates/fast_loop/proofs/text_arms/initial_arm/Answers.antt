-- The initial value.
use Rattle.std.proofs.Common.{refl, sym, ap, ◌∙◌}
use Rattle.std.specs.Prelude.{◌≡◌, false}
use Rattle.fast_tree.specs.declared.instructions.FieldInstruction.{FieldInstruction}
use Rattle.fast_tree.specs.declared.operators.Operator.TheVariants.{Default}
use Rattle.fast_tree.specs.meaning.Nodes.{field_data}
use Rattle.fast_machine.specs.device.Positions.{set_of}
use Rattle.fast_loop.proofs.arms.Fields.{op_node, same_field, field_of, instruction, shape_is, uses_as}
use Rattle.fast_loop.proofs.arms.Texts.{initial_unsent}
use Rattle.fast_loop.proofs.text_arms.initial_arm.Goals as goal

pub returns : goal.returns
returns g c =
    let t = c.args.templates.now in
    let l = c.args.limits in
    let m = c.args.machine.now in
    let p = c.args.spot.now.place in
    let op = c.args.op.now in
    let kind = c.args.kind in
    let optional = c.args.optional in
    let (x, found) = op_node t m p op c.requires.op in
    let own = instruction t l m p op kind Default optional c.requires.spot c.requires.op x found in
    let same : c.in-Some.field.now ≡ own =
    same_field c.in-Some.field.now own (sym (c.in-Some.ensures x found)
    ∙ shape_is t l m p op kind Default optional c.requires.spot c.requires.op x found) in
    record {
      went = c.hand_unsent.ensures.went (set_of t) l m m (field_of t l m p op kind Default optional c.requires.spot c.requires.op
          x found) false
          (sym (uses_as t l m p op kind Default optional c.requires.spot c.requires.op x found)) refl
          (initial_unsent t l m p op kind Default optional c.requires.spot c.requires.op x found _ refl c.requires.clear
          (c.initial_value-value.ensures ∙ ap (λ (i : FieldInstruction). (field_data i).initial) same));
    }
