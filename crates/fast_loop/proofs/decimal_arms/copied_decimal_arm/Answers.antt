-- The decimal that stands in the stream, or nothing is sent of it.
use Rattle.std.proofs.Common.{refl, sym, subst}
use Rattle.std.specs.Prelude.{false, Option}
use Rattle.fast_value.specs.meaning.Kinds.{ScalarData}
use Rattle.fast_value.specs.declared.kinds.Kind.TheVariants.{Decimal}
use Rattle.fast_tree.specs.declared.operators.Operator.TheVariants.{Copy}
use Rattle.fast_loop.specs.device.Arms.{IsFieldTaken, IsFieldUnsent}
use Rattle.fast_machine.specs.device.Positions.{set_of}
use Rattle.fast_loop.proofs.arms.Fields.{op_node, entry_there, uses_as, item_taken, item_unsent, field_of, unneeded}
use Rattle.fast_loop.proofs.decimal_arms.copied_decimal_arm.Goals as goal

pub copied_decimal-requires : goal.copied_decimal-requires
copied_decimal-requires g c =
    let m = c.args.machine.now in
    let (x, found) = op_node c.args.templates.now m c.args.spot.now.place c.args.op.now c.requires.op in
    record {
      within = entry_there c.args.templates.now c.args.limits m c.args.spot.now.place c.args.op.now Decimal Copy c.args.optional
          c.requires.spot c.requires.op x found refl;
    }

pub hand_taken-requires-clause-within : goal.hand_taken-requires-clause-within
hand_taken-requires-clause-within g c =
    let m = c.args.machine.now in
    let (x, found) = op_node c.args.templates.now m c.args.spot.now.place c.args.op.now c.requires.op in
    (item_taken c.args.templates.now c.args.limits m c.args.spot.now c.args.op.now Decimal Copy c.args.optional c.requires.spot
    c.requires.op x found c.copied_decimal.new.slots c.in-Some-copied_decimal.taken (λ e. cc e)
    (c.in-Sent.ensures.sent refl m.cursor c.requires.spot.place) c.in-Some-copied_decimal.ensures.terms c.in-Some-copied_decimal.ensures.unit).within

pub returns-in-Some-copied_decimal : goal.returns-in-Some-copied_decimal
returns-in-Some-copied_decimal g c =
    let t = c.args.templates.now in
    let l = c.args.limits in
    let m = c.args.machine.now in
    let p = c.args.spot.now.place in
    let op = c.args.op.now in
    let slots = c.copied_decimal.new.slots in
    let (x, found) = op_node t m p op c.requires.op in
    let f = field_of t l m p op Decimal Copy c.args.optional c.requires.spot c.requires.op x found in
    record {
      went = c.hand_taken.ensures.went (set_of t) l m (record m { slots = slots }) f
          (sym (uses_as t l m p op Decimal Copy c.args.optional c.requires.spot c.requires.op x found)) refl
          (subst (λ (v : Option ScalarData). IsFieldTaken (set_of t) l m
          (record m { slots = slots }) c.args.spot.now op.node f v c.in-Some-copied_decimal.taken.bytes) (sym c.scalar_of.ensures)
          (item_taken t l m c.args.spot.now op Decimal Copy c.args.optional c.requires.spot c.requires.op x found slots
          c.in-Some-copied_decimal.taken (λ e. cc e)
          (c.in-Sent.ensures.sent refl m.cursor c.requires.spot.place) c.in-Some-copied_decimal.ensures.terms c.in-Some-copied_decimal.ensures.unit));
    }

pub copied_at-requires : goal.copied_at-requires
copied_at-requires g c =
    let m = c.args.machine.now in
    let (x, found) = op_node c.args.templates.now m c.args.spot.now.place c.args.op.now c.requires.op in
    record {
      within = entry_there c.args.templates.now c.args.limits m c.args.spot.now.place c.args.op.now Decimal Copy c.args.optional
          c.requires.spot c.requires.op x found refl;
    }

pub returns-in-Some : goal.returns-in-Some
returns-in-Some g c =
    let t = c.args.templates.now in
    let l = c.args.limits in
    let m = c.args.machine.now in
    let p = c.args.spot.now.place in
    let op = c.args.op.now in
    let (x, found) = op_node t m p op c.requires.op in
    let f = field_of t l m p op Decimal Copy c.args.optional c.requires.spot c.requires.op x found in
    record {
      went = c.hand_unsent.ensures.went (set_of t) l m m f false
          (sym (uses_as t l m p op Decimal Copy c.args.optional c.requires.spot c.requires.op x found)) refl
          (subst (λ (v : Option ScalarData). IsFieldUnsent (set_of t) l m m p op.node f false v) (sym c.scalar_of-value.ensures)
          (item_unsent t l m p op Decimal Copy c.args.optional c.requires.spot c.requires.op x found m.slots c.in-Some.item refl
          (unneeded Copy c.args.optional (λ e. cc e) refl) ((c.in-Unsent.ensures.unsent refl).1 m.cursor c.requires.spot.place) refl c.in-Some.ensures));
    }
