-- The field waits for its first unit, or what is decided for it leads past it.
use Rattle.std.proofs.Common.{◌∙◌}
use Rattle.fast_value.specs.meaning.Limits.{bounds}
use Rattle.fast_tree.specs.meaning.Nodes.{field_data}
use Rattle.fast_dict.specs.meaning.Dictionary.{previous_at}
use Rattle.fast_dict.specs.meaning.Slots.{slots_dictionary}
use Rattle.std.specs.Prelude.{[]}
use Rattle.fast_stream.specs.device.Continuations.{handed_then}
use Rattle.fast_machine.specs.device.Positions.{set_of, turning, meaning}
use Rattle.fast_machine.proofs.steps.FieldTurns.{serves_here, entry_known, can_turn_slots, state_of, behind, field_next, sent_here}
use Rattle.fast_machine.proofs.steps.FieldTurns.{field_known, field_wrong, field_waits, turn_fault, turn_moved}
use Rattle.fast_machine.proofs.machine.Machine.begin_field.Goals as goal

pub returns-then-needs_bytes-clause-turn : goal.returns-then-needs_bytes-clause-turn
returns-then-needs_bytes-clause-turn g c =
    let set = set_of c.args.templates.now in
    let l = c.args.limits in
    let m = c.args.self.now in
    let f = field_data c.args.field.now in
    field_waits g.S.Sink.takes g.S.Sink.stops set l c.args.sink.now m c.wait_first.new.self c.args.node f c.requires.turn c.requires.next
    (sent_here f c.presence-bit.result (state_of m) (c.presence-bit.ensures (slots_dictionary m.slots) m.counted)
    (c.needs_bytes.ensures.operator c.if-needs_bytes.true) (c.needs_bytes.ensures.sent c.if-needs_bytes.true))
    c.wait_first.ensures.same c.wait_first.ensures.capacity c.wait_first.ensures.none
    (c.wait_first.ensures.carried l (previous_at f.entry (slots_dictionary m.slots)))

pub unsent-requires : goal.unsent-requires
unsent-requires g c = record {
  serves = serves_here (set_of c.args.templates.now) c.args.limits c.args.self.now
      (field_data c.args.field.now) c.requires.turn.supplied c.requires.serves;
}

pub finish-requires-clause-entry : goal.finish-requires-clause-entry
finish-requires-clause-entry g c = entry_known (set_of c.args.templates.now) c.args.limits c.args.self.now c.unsent.new.slots
    (field_data c.args.field.now) c.requires.turn c.unsent.ensures.terms c.requires.serves

pub returns-in-Err-clause-turn : goal.returns-in-Err-clause-turn
returns-in-Err-clause-turn g c =
    let set = set_of c.args.templates.now in
    let l = c.args.limits in
    let m = c.args.self.now in
    let f = field_data c.args.field.now in
    turn_fault g.S.Sink.takes g.S.Sink.stops set l (turning set l m) c.args.sink.now c.in-Err.code (record m { slots = c.unsent.new.slots })
    (field_next set l m c.args.node f c.requires.next
    ∙ field_wrong l.strict (bounds l) f c.presence-bit.result (state_of m)
    (λ r. handed_then c.args.node (behind set l m) r.0 r.1) c.in-Err.code (c.presence-bit.ensures (slots_dictionary m.slots) m.counted)
    (c.needs_bytes.ensures.unsent c.if-needs_bytes.false (bounds l) (previous_at f.entry (slots_dictionary m.slots))) c.in-Err.ensures.decided)
    (can_turn_slots set l m c.unsent.new.slots c.requires.turn c.unsent.ensures.terms).supplied

pub returns-in-Ok-clause-turn : goal.returns-in-Ok-clause-turn
returns-in-Ok-clause-turn g c =
    let set = set_of c.args.templates.now in
    let l = c.args.limits in
    let m = c.args.self.now in
    let f = field_data c.args.field.now in
    turn_moved g.S.Sink.takes g.S.Sink.stops set l (turning set l m) _ c.args.sink.now c.finish.result c.finish.new.sink
    (record m { slots = c.unsent.new.slots }) c.finish.new.self
    (field_next set l m c.args.node f c.requires.next
    ∙ field_known l.strict (bounds l) f c.presence-bit.result (slots_dictionary m.slots)
    (slots_dictionary c.unsent.new.slots) m.counted m.cursor
    (λ r. handed_then c.args.node (behind set l m) r.0 r.1) c.in-Ok.source m.text.text []
    (c.presence-bit.ensures (slots_dictionary m.slots) m.counted)
    (c.needs_bytes.ensures.unsent c.if-needs_bytes.false (bounds l) (previous_at f.entry (slots_dictionary m.slots)))
    c.in-Ok.ensures.decided)
    (c.finish.ensures.moves set (bounds l) l.strict (meaning set l c.finish.new.self))
    (can_turn_slots set l m c.unsent.new.slots c.requires.turn c.unsent.ensures.terms)
    c.finish.ensures.same c.finish.ensures.rests c.finish.ensures.past c.finish.ensures.on
