-- The exponent is waited for, or what is decided for it leads on.
use Rattle.std.proofs.Common.{◌∙◌}
use Rattle.std.specs.Prelude.{[]}
use Rattle.fast_value.specs.meaning.Limits.{bounds}
use Rattle.fast_tree.specs.meaning.Nodes.{field_data}
use Rattle.fast_dict.specs.meaning.Dictionary.{previous_at}
use Rattle.fast_dict.specs.meaning.Slots.{slots_dictionary}
use Rattle.fast_stream.specs.device.Continuations.{mantissa_after_then}
use Rattle.fast_machine.specs.device.Positions.{set_of, turning}
use Rattle.fast_machine.proofs.steps.FieldTurns.{serves_here, can_turn_slots, state_of, behind, parts_next, sent_here}
use Rattle.fast_machine.proofs.steps.FieldTurns.{field_known, field_wrong, exponent_waits, turn_fault, turn_as}
use Rattle.fast_machine.proofs.machine.Machine.begin_decimal.Goals as goal

pub returns-then-needs_bytes-clause-turn : goal.returns-then-needs_bytes-clause-turn
returns-then-needs_bytes-clause-turn g c =
    let m = c.args.self.now in
    let e = field_data c.args.exponent.now in
    exponent_waits g.S.Sink.takes g.S.Sink.stops (set_of c.args.templates.now) c.args.limits c.args.sink.now m c.wait_first.new.self c.args.node e
    (field_data c.args.mantissa.now) c.requires.turn c.requires.next
    (sent_here e c.presence-bit.result (state_of m) (c.presence-bit.ensures (slots_dictionary m.slots) m.counted)
    (c.needs_bytes.ensures.operator c.if-needs_bytes.true) (c.needs_bytes.ensures.sent c.if-needs_bytes.true))
    c.wait_first.ensures.same c.wait_first.ensures.capacity c.wait_first.ensures.none
    (c.wait_first.ensures.carried c.args.limits (previous_at e.entry (slots_dictionary m.slots)))

pub unsent-requires : goal.unsent-requires
unsent-requires g c = record {
  serves = serves_here (set_of c.args.templates.now) c.args.limits c.args.self.now
      (field_data c.args.exponent.now) c.requires.turn.supplied c.requires.exponent;
}

pub returns-in-Err-clause-turn : goal.returns-in-Err-clause-turn
returns-in-Err-clause-turn g c =
    let set = set_of c.args.templates.now in
    let l = c.args.limits in
    let m = c.args.self.now in
    let e = field_data c.args.exponent.now in
    let f = field_data c.args.mantissa.now in
    turn_fault g.S.Sink.takes g.S.Sink.stops set l (turning set l m) c.args.sink.now c.in-Err.code (record m { slots = c.unsent.new.slots })
    (parts_next set l m c.args.node e f c.requires.next
    ∙ field_wrong l.strict (bounds l) e c.presence-bit.result (state_of m)
    (mantissa_after_then (bounds l) c.args.node f (behind set l m)) c.in-Err.code
    (c.presence-bit.ensures (slots_dictionary m.slots) m.counted)
    (c.needs_bytes.ensures.unsent c.if-needs_bytes.false (bounds l) (previous_at e.entry (slots_dictionary m.slots))) c.in-Err.ensures.decided)
    (can_turn_slots set l m c.unsent.new.slots c.requires.turn c.unsent.ensures.terms).supplied

pub returns-in-Ok-clause-turn : goal.returns-in-Ok-clause-turn
returns-in-Ok-clause-turn g c =
    let set = set_of c.args.templates.now in
    let l = c.args.limits in
    let m = c.args.self.now in
    let e = field_data c.args.exponent.now in
    let f = field_data c.args.mantissa.now in
    turn_as g.S.Sink.takes g.S.Sink.stops set l (turning set l m) _ c.args.sink.now c.exponent_known.result c.exponent_known.new.sink c.exponent_known.new.self
    (parts_next set l m c.args.node e f c.requires.next
    ∙ field_known l.strict (bounds l) e c.presence-bit.result (slots_dictionary m.slots)
    (slots_dictionary c.unsent.new.slots) m.counted m.cursor
    (mantissa_after_then (bounds l) c.args.node f (behind set l m)) c.in-Ok.source m.text.text []
    (c.presence-bit.ensures (slots_dictionary m.slots) m.counted)
    (c.needs_bytes.ensures.unsent c.if-needs_bytes.false (bounds l) (previous_at e.entry (slots_dictionary m.slots)))
    c.in-Ok.ensures.decided)
    c.exponent_known.ensures.turn
