-- The machine waits for the field.
use Rattle.std.proofs.Common.{sym, subst}
use Rattle.fast_tree.specs.meaning.Nodes.{field_data}
use Rattle.fast_dict.specs.meaning.Dictionary.{previous_at}
use Rattle.fast_dict.specs.meaning.Slots.{slots_dictionary}
use Rattle.fast_machine.specs.declared.machine.Machine.{Machine}
use Rattle.fast_machine.specs.device.Positions.{set_of}
use Rattle.fast_machine.specs.device.TurnsLeft.{HasTurnsWaiting}
use Rattle.fast_machine.proofs.steps.FieldTurns.{field_waits, sent_next, state_of}
use Rattle.fast_machine.proofs.steps.TurnCounts.{one_taken}
use Rattle.fast_machine.proofs.machine.Machine.waits_at_once.Goals as goal

pub returns-clause-hands : goal.returns-clause-hands
returns-clause-hands g c e =
    let m = c.args.self.now in
    let f = field_data c.in-Some.field.now in
    let sent = sent_next f c.bit-bit.result (state_of m) c.bit-bit.ensures (c.needs_bytes.ensures.operator c.if-not-needs_bytes.false)
    (c.needs_bytes.ensures.sent c.if-not-needs_bytes.false) in
    (field_waits g.S.Sink.takes g.S.Sink.stops (set_of c.args.templates.now) c.args.limits c.args.sink.now m c.wait_first.new.self
    c.in-Some.field-0-0 f c.requires.turn c.in-Some.ensures.next sent c.wait_first.ensures.same c.wait_first.ensures.capacity
    c.wait_first.ensures.none (c.wait_first.ensures.carried c.args.limits (previous_at f.entry (slots_dictionary m.slots)))).moves

pub returns-clause-ready : goal.returns-clause-ready
returns-clause-ready g c e =
    let m = c.args.self.now in
    let f = field_data c.in-Some.field.now in
    let sent = sent_next f c.bit-bit.result (state_of m) c.bit-bit.ensures (c.needs_bytes.ensures.operator c.if-not-needs_bytes.false)
    (c.needs_bytes.ensures.sent c.if-not-needs_bytes.false) in
    (field_waits g.S.Sink.takes g.S.Sink.stops (set_of c.args.templates.now) c.args.limits c.args.sink.now m c.wait_first.new.self
    c.in-Some.field-0-0 f c.requires.turn c.in-Some.ensures.next sent c.wait_first.ensures.same c.wait_first.ensures.capacity
    c.wait_first.ensures.none (c.wait_first.ensures.carried c.args.limits (previous_at f.entry (slots_dictionary m.slots)))).goes_on

pub returns-clause-turns : goal.returns-clause-turns
returns-clause-turns g c e way k h =
    let m = c.args.self.now in
    subst (λ (x : Machine). HasTurnsWaiting way (set_of c.args.templates.now) c.args.limits k x) (sym c.wait_first.ensures.same)
    (one_taken way (set_of c.args.templates.now) c.args.limits k m.turns.count m.counted m.cursor h)
