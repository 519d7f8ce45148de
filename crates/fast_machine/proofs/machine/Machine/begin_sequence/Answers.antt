use Rattle.fast_value.specs.meaning.Limits.{bounds}
use Rattle.fast_tree.specs.meaning.Nodes.{field_data}
use Rattle.fast_dict.specs.meaning.Dictionary.{previous_at}
use Rattle.fast_dict.specs.meaning.Slots.{slots_dictionary}
use Rattle.fast_machine.specs.device.Positions.{set_of, run_in, turning}
use Rattle.fast_machine.proofs.steps.FieldTurns.{state_of, sent_here, serves_here, turn_as}
use Rattle.fast_machine.proofs.steps.SegmentTurns.{length_waits, length_fault, length_unsent}
use Rattle.fast_machine.proofs.machine.Machine.begin_sequence.Goals as goal

pub returns-then-needs_bytes-clause-turn : goal.returns-then-needs_bytes-clause-turn
returns-then-needs_bytes-clause-turn g c =
    let m = c.args.self.now in
    let f = field_data c.args.length.now in
    length_waits g.S.Sink.takes g.S.Sink.stops (set_of c.args.templates.now) c.args.limits c.args.sink.now m c.wait_first.new.self c.args.node f
    (run_in (set_of c.args.templates.now) c.args.start) c.requires.turn c.requires.next
    (sent_here f c.presence-bit.result (state_of m) (c.presence-bit.ensures (slots_dictionary m.slots) m.counted)
    (c.needs_bytes.ensures.operator c.if-needs_bytes.true) (c.needs_bytes.ensures.sent c.if-needs_bytes.true))
    c.wait_first.ensures.same c.wait_first.ensures.capacity c.wait_first.ensures.none
    (c.wait_first.ensures.carried c.args.limits (previous_at f.entry (slots_dictionary m.slots)))

pub unsent-requires : goal.unsent-requires
unsent-requires g c = record {
  serves = serves_here (set_of c.args.templates.now) c.args.limits c.args.self.now
      (field_data c.args.length.now) c.requires.turn.supplied c.requires.serves;
}

pub returns-in-Err-clause-turn : goal.returns-in-Err-clause-turn
returns-in-Err-clause-turn g c =
    let m = c.args.self.now in
    let f = field_data c.args.length.now in
    length_fault g.S.Sink.takes g.S.Sink.stops (set_of c.args.templates.now) c.args.limits c.args.sink.now m c.unsent.new.slots c.args.node
    f (run_in (set_of c.args.templates.now) c.args.start) c.presence-bit.result c.in-Err.code
    c.requires.turn c.requires.next (c.presence-bit.ensures (slots_dictionary m.slots) m.counted)
    (c.needs_bytes.ensures.unsent c.if-needs_bytes.false (bounds c.args.limits) (previous_at f.entry (slots_dictionary m.slots)))
    c.in-Err.ensures.decided c.unsent.ensures.terms

pub returns-in-Ok-clause-turn : goal.returns-in-Ok-clause-turn
returns-in-Ok-clause-turn g c =
    let m = c.args.self.now in
    let f = field_data c.args.length.now in
    let set = set_of c.args.templates.now in
    let same = length_unsent set c.args.limits m c.unsent.new.slots c.args.node f
    (run_in (set_of c.args.templates.now) c.args.start) c.presence-bit.result c.in-Ok.source c.requires.next
    (c.presence-bit.ensures (slots_dictionary m.slots) m.counted)
    (c.needs_bytes.ensures.unsent c.if-needs_bytes.false (bounds c.args.limits) (previous_at f.entry (slots_dictionary m.slots))) c.in-Ok.ensures.decided in
    turn_as g.S.Sink.takes g.S.Sink.stops set c.args.limits
    (turning set c.args.limits m) _ c.args.sink.now c.length_known.result c.length_known.new.sink c.length_known.new.self same
    c.length_known.ensures.turn
