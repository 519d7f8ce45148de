-- The number that the entry holds, or the next one, or the initial value.
use Rattle.std.proofs.Common.{refl, sym, ◌∙◌, subst}
use Rattle.std.specs.Prelude.{◌≡◌}
use Rattle.fast_tree.specs.declared.instructions.FieldInstruction.{FieldInstruction}
use Rattle.fast_tree.specs.declared.operators.Operator.{Operator}
use Rattle.fast_tree.specs.declared.operators.Operator.TheVariants.{Default}
use Rattle.fast_tree.specs.meaning.Nodes.{field_data}
use Rattle.fast_dict.specs.meaning.Slots.{slots_dictionary, slots_terms}
use Rattle.fast_items.specs.device.IntegerItems.{IsDefaultItem}
use Rattle.fast_program.specs.device.Codes.{field_of as a_field}
use Rattle.fast_loop.specs.device.Arms.{IsArmOp}
use Rattle.fast_machine.specs.device.Positions.{set_of}
use Rattle.fast_loop.proofs.arms.Fields.{op_node, entry_there, uses_as, item_unsent, decided_unsent, as_coded, served, field_of}
use Rattle.fast_loop.proofs.arms.Fields.{instruction, shape_is, same_field, unneeded}
use Rattle.fast_machine.proofs.steps.Answered.{some_as}
use Rattle.fast_loop.proofs.integer_arms.unsent_item.Goals as goal

pub unsent_integer-requires : goal.unsent_integer-requires
unsent_integer-requires c =
    let m = c.args.machine.now in
    let (x, found) = op_node c.args.templates.now m c.args.place.now c.args.op.now c.requires.op in
    record {
      within = entry_there c.args.templates.now c.args.limits m c.args.place.now c.args.op.now c.args.kind c.args.operator
          c.args.optional c.requires.spot c.requires.op x found;
    }

pub returns-in_default-clause-unsent : goal.returns-in_default-clause-unsent
returns-in_default-clause-unsent c =
    let t = c.args.templates.now in
    let l = c.args.limits in
    let m = c.args.machine.now in
    let p = c.args.place.now in
    let op = c.args.op.now in
    let (x, found) = op_node t m p op c.requires.op in
    some_as c.unsent_integer.result
    (λ item decided. (
      field_of t l m p op c.args.kind c.args.operator c.args.optional c.requires.spot c.requires.op x found,
      sym (uses_as t l m p op c.args.kind c.args.operator c.args.optional c.requires.spot c.requires.op x found ∙ c.requires.uses),
      item_unsent t l m p op c.args.kind c.args.operator c.args.optional c.requires.spot c.requires.op x found
          c.unsent_integer.new.slots item c.requires.uses
          (unneeded c.args.operator c.args.optional c.requires.no_constant c.requires.uses) c.requires.clear c.unsent_integer.ensures.terms decided,
    )) c.unsent_integer.ensures.decided

pub returns-in_ok-field-in-Default-clause-unsent : goal.returns-in_ok-field-in-Default-clause-unsent
returns-in_ok-field-in-Default-clause-unsent c =
    let t = c.args.templates.now in
    let l = c.args.limits in
    let m = c.args.machine.now in
    let p = c.args.place.now in
    let op = c.args.op.now in
    let at = subst (λ (o : Operator). IsArmOp (set_of t) p op (a_field c.args.kind o c.args.optional)) c.in-Default.is c.requires.op in
    let (x, found) = op_node t m p op c.requires.op in
    let f = field_of t l m p op c.args.kind Default c.args.optional c.requires.spot at x found in
    let same : c.in_ok-field-in-Default.field.now ≡ instruction t l m p op c.args.kind Default c.args.optional c.requires.spot at x found =
    same_field c.in_ok-field-in-Default.field.now _ (sym (c.in_ok-field-in-Default.ensures x found)
    ∙ shape_is t l m p op c.args.kind Default c.args.optional c.requires.spot at x found) in
    some_as c.defaulted_integer.result
    (λ item initial.
    let is : IsDefaultItem f item = subst (λ (i : FieldInstruction). IsDefaultItem (field_data i) item) same initial in (
      f,
      sym (uses_as t l m p op c.args.kind Default c.args.optional c.requires.spot at x found),
      decided_unsent t l m p op c.args.kind Default c.args.optional c.requires.spot at x found m.slots item refl
          refl c.requires.clear refl (is (slots_dictionary m.slots) (slots_terms m.slots)
          (as_coded t l m p op c.args.kind Default c.args.optional c.requires.spot at x found).operator
          (served t l m p op c.args.kind Default c.args.optional c.requires.spot at x found)),
    )) c.defaulted_integer.ensures
