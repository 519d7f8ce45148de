-- The mantissa is waited for, or what is decided for it leads past the decimal.
use Rattle.std.proofs.Common.{rules, sym, ap, ◌∙◌, to_z, of_z}
use Rattle.std.specs.Prelude.{[], ℤ}
use Rattle.std.specs.Int.{w32}
use Rattle.fast_value.specs.meaning.Limits.{bounds}
use Rattle.fast_tree.specs.meaning.Nodes.{field_data}
use Rattle.fast_dict.specs.meaning.Dictionary.{previous_at}
use Rattle.fast_dict.specs.meaning.Slots.{slots_dictionary}
use Rattle.fast_stream.specs.device.Continuations.{handed_then}
use Rattle.fast_stream.specs.meaning.Messages.{decimal_with}
use Rattle.fast_machine.specs.device.Positions.{set_of, meaning}
use Rattle.fast_machine.proofs.steps.FieldTurns.{serves_here, entry_known, can_turn_slots, state_of, behind, mantissa_from, mantissa_next}
use Rattle.fast_machine.proofs.steps.FieldTurns.{sent_here, field_known, field_wrong, mantissa_waits, turn_fault, turn_moved}
use Rattle.fast_units.proofs.LastUnits.{again}
use Rattle.fast_machine.proofs.machine.Machine.begin_mantissa.Goals as goal

pub returns-then-needs_bytes-clause-turn : goal.returns-then-needs_bytes-clause-turn
returns-then-needs_bytes-clause-turn g c =
    let m = c.args.self.now in
    let f = field_data c.args.mantissa.now in
    let x = c.args.exponent in
    mantissa_waits g.S.Sink.takes g.S.Sink.stops (set_of c.args.templates.now) c.args.limits c.args.sink.now m c.args.node
    c.requires.next.0 f x (to_z w32 (of_z w32 x)) c.begin.new.self (again w32 x (search rules)) c.requires.turn c.requires.next.1
    (sent_here f c.presence-bit.result (state_of m) (c.presence-bit.ensures (slots_dictionary m.slots) m.counted)
    (c.needs_bytes.ensures.operator c.if-needs_bytes.true) (c.needs_bytes.ensures.sent c.if-needs_bytes.true))
    c.begin.ensures.capacity c.begin.ensures.none (c.begin.ensures.carried c.args.limits (previous_at f.entry (slots_dictionary m.slots)))

pub unsent-requires : goal.unsent-requires
unsent-requires g c = record {
  serves = serves_here (set_of c.args.templates.now) c.args.limits c.args.self.now
      (field_data c.args.mantissa.now) c.requires.turn.supplied c.requires.mantissa;
}

pub finish_decimal-requires-clause-entry : goal.finish_decimal-requires-clause-entry
finish_decimal-requires-clause-entry g c = entry_known (set_of c.args.templates.now) c.args.limits c.args.self.now c.unsent.new.slots
    (field_data c.args.mantissa.now) c.requires.turn c.unsent.ensures.terms c.requires.mantissa

pub returns-in-Err-clause-turn : goal.returns-in-Err-clause-turn
returns-in-Err-clause-turn g c =
    let set = set_of c.args.templates.now in
    let l = c.args.limits in
    let m = c.args.self.now in
    let f = field_data c.args.mantissa.now in
    let x = c.args.exponent in
    turn_fault g.S.Sink.takes g.S.Sink.stops set l (mantissa_from set l m x) c.args.sink.now c.in-Err.code (record m { slots = c.unsent.new.slots })
    (mantissa_next set l m c.args.node c.requires.next.0 f x c.requires.next.1
    ∙ field_wrong l.strict (bounds l) f c.presence-bit.result (state_of m)
    (λ r. handed_then c.args.node (behind set l m) (decimal_with x r.0) r.1) c.in-Err.code
    (c.presence-bit.ensures (slots_dictionary m.slots) m.counted)
    (c.needs_bytes.ensures.unsent c.if-needs_bytes.false (bounds l) (previous_at f.entry (slots_dictionary m.slots))) c.in-Err.ensures.decided)
    (can_turn_slots set l m c.unsent.new.slots c.requires.turn c.unsent.ensures.terms).supplied

pub returns-in-Ok-clause-turn : goal.returns-in-Ok-clause-turn
returns-in-Ok-clause-turn g c =
    let set = set_of c.args.templates.now in
    let l = c.args.limits in
    let m = c.args.self.now in
    let f = field_data c.args.mantissa.now in
    let x = c.args.exponent in
    let y : ℤ = to_z w32 (of_z w32 x) in
    turn_moved g.S.Sink.takes g.S.Sink.stops set l (mantissa_from set l m x) _ c.args.sink.now c.finish_decimal.result
    c.finish_decimal.new.sink (record m { slots = c.unsent.new.slots }) c.finish_decimal.new.self
    (ap (mantissa_from set l m) (sym (again w32 x (search rules)))
    ∙ mantissa_next set l m c.args.node c.requires.next.0 f y c.requires.next.1
    ∙ field_known l.strict (bounds l) f c.presence-bit.result (slots_dictionary m.slots)
    (slots_dictionary c.unsent.new.slots) m.counted m.cursor
    (λ r. handed_then c.args.node (behind set l m) (decimal_with y r.0) r.1) c.in-Ok.source m.text.text []
    (c.presence-bit.ensures (slots_dictionary m.slots) m.counted)
    (c.needs_bytes.ensures.unsent c.if-needs_bytes.false (bounds l) (previous_at f.entry (slots_dictionary m.slots)))
    c.in-Ok.ensures.decided)
    (c.finish_decimal.ensures.moves set (bounds l) l.strict (meaning set l c.finish_decimal.new.self))
    (can_turn_slots set l m c.unsent.new.slots c.requires.turn c.unsent.ensures.terms)
    c.finish_decimal.ensures.same c.finish_decimal.ensures.rests c.finish_decimal.ensures.past c.finish_decimal.ensures.on
