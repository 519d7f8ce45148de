-- The number behind its delta.
use Rattle.std.proofs.Common.{refl, sym, subst, inl}
use Rattle.std.specs.Prelude.{Option}
use Rattle.fast_value.specs.meaning.Kinds.{ScalarData}
use Rattle.fast_tree.specs.declared.operators.Operator.TheVariants.{Delta}
use Rattle.fast_loop.specs.device.Arms.{IsFieldTaken}
use Rattle.fast_machine.specs.device.Positions.{set_of}
use Rattle.fast_loop.proofs.arms.Fields.{op_node, entry_there, uses_as, item_taken, field_of}
use Rattle.fast_loop.proofs.integer_arms.delta_arm.Goals as goal

pub sent_delta-requires-clause-within : goal.sent_delta-requires-clause-within
sent_delta-requires-clause-within g c =
    let m = c.args.machine.now in
    let (x, found) = op_node c.args.templates.now m c.args.spot.now.place c.args.op.now c.requires.op in
    entry_there c.args.templates.now c.args.limits m c.args.spot.now.place c.args.op.now c.args.kind Delta c.args.optional c.requires.spot
    c.requires.op x found

pub hand_taken-requires-clause-within : goal.hand_taken-requires-clause-within
hand_taken-requires-clause-within g c =
    let m = c.args.machine.now in
    let (x, found) = op_node c.args.templates.now m c.args.spot.now.place c.args.op.now c.requires.op in
    (item_taken c.args.templates.now c.args.limits m c.args.spot.now c.args.op.now c.args.kind Delta c.args.optional c.requires.spot
    c.requires.op x found c.sent_delta.new.slots c.in-Some.taken (λ e. cc e)
    (inl refl) c.in-Some.ensures.terms c.in-Some.ensures.unit).within

pub returns-in-Some : goal.returns-in-Some
returns-in-Some g c =
    let t = c.args.templates.now in
    let l = c.args.limits in
    let m = c.args.machine.now in
    let p = c.args.spot.now.place in
    let op = c.args.op.now in
    let slots = c.sent_delta.new.slots in
    let (x, found) = op_node t m p op c.requires.op in
    let f = field_of t l m p op c.args.kind Delta c.args.optional c.requires.spot c.requires.op x found in
    record {
      went = c.hand_taken.ensures.went (set_of t) l m (record m { slots = slots }) f
          (sym (uses_as t l m p op c.args.kind Delta c.args.optional c.requires.spot c.requires.op x found)) refl
          (subst (λ (v : Option ScalarData). IsFieldTaken (set_of t) l m
          (record m { slots = slots }) c.args.spot.now op.node f v c.in-Some.taken.bytes) (sym c.scalar_of-value.ensures)
          (item_taken t l m c.args.spot.now op c.args.kind Delta c.args.optional c.requires.spot c.requires.op x found
          slots c.in-Some.taken (λ e. cc e)
          (inl refl) c.in-Some.ensures.terms c.in-Some.ensures.unit));
    }
