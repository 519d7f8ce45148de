-- The text that the entry holds when the tail is joined to it, or nothing is sent of it.
use Rattle.std.proofs.Common.{refl, sym, ap}
use Rattle.std.specs.Prelude.{[], take, drop, option_map}
use Rattle.fast_dict.specs.declared.slots.Slots.{Slots}
use Rattle.fast_value.specs.meaning.Values.{scalar_data}
use Rattle.fast_tree.specs.declared.operators.Operator.TheVariants.{Tail}
use Rattle.fast_machine.specs.device.Positions.{set_of}
use Rattle.fast_loop.proofs.arms.Fields.{op_node, entry_there, as_coded, served, field_of, uses_as}
use Rattle.fast_loop.proofs.arms.Texts.{entry_kept, text_taken}
use Rattle.fast_loop.proofs.vector_arms.tail_arm.Goals as goal

pub sent_tail-requires-clause-there : goal.sent_tail-requires-clause-there
sent_tail-requires-clause-there g c =
    let m = c.args.machine.now in
    let p = c.args.spot.now.place in
    let (x, found) = op_node c.args.templates.now m p c.args.op.now c.requires.op in
    entry_there c.args.templates.now c.args.limits m p c.args.op.now c.args.kind Tail c.args.optional c.requires.spot c.requires.op
    x found refl

pub kept_at-value-requires-clause-there : goal.kept_at-value-requires-clause-there
kept_at-value-requires-clause-there g c =
    let m = c.args.machine.now in
    let p = c.args.spot.now.place in
    let (x, found) = op_node c.args.templates.now m p c.args.op.now c.requires.op in
    entry_kept c.args.op.now.entry m.slots c.sent_tail.new.slots c.in-Some.ensures.terms
    (entry_there c.args.templates.now c.args.limits m p c.args.op.now c.args.kind Tail c.args.optional c.requires.spot c.requires.op
    x found refl)

pub returns-in-Some : goal.returns-in-Some
returns-in-Some g c =
    let t = c.args.templates.now in
    let l = c.args.limits in
    let m = c.args.machine.now in
    let from = c.args.spot.now in
    let op = c.args.op.now in
    let kind = c.args.kind in
    let optional = c.args.optional in
    let slots = c.sent_tail.new.slots in
    let taken = c.in-Some.taken in
    let (x, found) = op_node t m from.place op c.requires.op in
    let f = field_of t l m from.place op kind Tail optional c.requires.spot c.requires.op x found in
    let same = as_coded t l m from.place op kind Tail optional c.requires.spot c.requires.op x found in
    record {
      went = c.hand_taken.ensures.went (set_of t) l m (record m { slots = slots }) f
          (sym (uses_as t l m from.place op kind Tail optional c.requires.spot c.requires.op x found)) refl
          (text_taken t l m from op kind Tail optional c.requires.spot c.requires.op x found slots m.text
          taken.source taken.from taken.bytes [] (option_map scalar_data c.kept_at-value.result) (λ e. cc e)
          (c.in-Sent.ensures.sent refl m.cursor c.requires.spot.place) c.in-Some.ensures.terms refl
          (c.in-Some.ensures.unit f [] same (served t l m from.place op kind Tail optional c.requires.spot c.requires.op x found))
          (c.kept_at-value.ensures f optional Tail [] (drop taken.from (take taken.bytes from.rest.bytes.now)) same refl));
    }

pub returns-in-None : goal.returns-in-None
returns-in-None g c =
    let m = c.args.machine.now in
    record {
      went = (ap (λ (s : Slots). record m { slots = s }) c.in-None.ensures.none, refl, refl);
    }
