use Rattle.std.proofs.Common.{◌≡◌, ◌∙◌, ◌+◌, ◌≤◌, ap, subst, sym, drop, rules, [], FitsSigned}
use Rattle.std.specs.Int.{w128}
use Rattle.std.specs.Prelude.{nat_abs}
use Rattle.std.proofs.lemmas.Result.{err_from_is_err_and}
use Rattle.fast_value.specs.meaning.Limits.{bounds}
use Rattle.fast_tree.specs.meaning.Nodes.{field_data}
use Rattle.fast_dict.specs.meaning.Slots.{slots_dictionary}
use Rattle.fast_machine.specs.declared.machine.Machine.{Machine}
use Rattle.fast_cursor.specs.device.Cursors.{CursorData}
use Rattle.fast_stream.specs.meaning.Events.{SequenceStart}
use Rattle.fast_stream.specs.meaning.Messages.{within_limits}
use Rattle.fast_units.specs.device.Settling.{value_at}
use Rattle.fast_machine.specs.device.Positions.{set_of, run_in}
use Rattle.fast_machine.proofs.steps.FieldTurns.{entry_here, turn_silent}
use Rattle.fast_units.proofs.LastUnits.{again}
use Rattle.fast_machine.proofs.steps.SegmentTurns.{IsBehind, behind_field, can_turn_behind, length_from, length_absent}
use Rattle.fast_machine.proofs.steps.SegmentTurns.{elements_of, length_within, turn_halt, turn_more, width_from}
use Rattle.fast_machine.proofs.steps.TurnCounts.{length_passed, claim_within}
use Rattle.fast_machine.proofs.machine.Machine.length_known.Goals as goal

pub integer_at-claimed-requires : goal.integer_at-claimed-requires
integer_at-claimed-requires g c = record {
  entry = entry_here (set_of c.args.templates.now) c.args.limits c.args.self.now
      (field_data c.args.length.now) c.requires.turn.supplied c.requires.serves;
}

pub returns-in_default-clause-turn : goal.returns-in_default-clause-turn
returns-in_default-clause-turn g c =
    let m = c.args.self.now in
    let f = field_data c.args.length.now in
    let set = set_of c.args.templates.now in
    let v = value_at c.args.source f (slots_dictionary m.slots) m.text.text [] in
    turn_silent g.S.Sink.takes g.S.Sink.stops set c.args.limits c.args.sink.now m c.use_bit_of.new.self c.advance.new.self f
    (length_from set c.args.limits m c.args.node v f (run_in (set_of c.args.templates.now) c.args.start)) c.requires.turn
    c.use_bit_of.ensures.bits c.use_bit_of.ensures.same c.advance.ensures
    (length_absent set c.args.limits m c.args.node v f (run_in (set_of c.args.templates.now) c.args.start) c.in_default.ensures)

pub returns-in_err-hand-in-Ok-clause-turn : goal.returns-in_err-hand-in-Ok-clause-turn
returns-in_err-hand-in-Ok-clause-turn g c =
    let m = c.args.self.now in
    let f = field_data c.args.length.now in
    let set = set_of c.args.templates.now in
    let mid = c.use_bit_of.new.self in
    let n = c.in-Ok.count in
    let fits : FitsSigned w128 c.in-Some.claimed = search rules in
    let m' : Machine = record mid { cursor = c.advance.new.self; counted = mid.counted + n } in
    let v = value_at c.args.source f (slots_dictionary m.slots) m.text.text [] in
    let counted : mid.counted ≡ m.counted = ap (λ (x : Machine). x.counted) c.use_bit_of.ensures.same in
    let behind : IsBehind f m m' (m.counted + n) = behind_field f m mid c.advance.new.self (mid.counted + n)
    (m.counted + n) c.use_bit_of.ensures.same c.use_bit_of.ensures.bits c.advance.ensures (ap (λ k. k + n) counted) in
    let few : m.counted + n ≤ c.args.limits.max_total = subst (λ k. k + n ≤ c.args.limits.max_total) counted c.in-Ok.ensures.total in
    let r = err_from_is_err_and c.from_residual.result c.from_residual.ensures.1 in
    rw (r.1, r.2) (turn_halt g.S.Sink.takes g.S.Sink.stops set c.args.limits
    (length_from set c.args.limits m c.args.node v f (run_in (set_of c.args.templates.now) c.args.start))
    (elements_of set c.args.limits m' n (run_in (set_of c.args.templates.now) c.args.start)) (SequenceStart c.args.node n)
    c.args.sink.now c.in_err-hand-in-Ok.field-0.0 c.hand.new.sink m'
    (length_within set c.args.limits m m' c.args.node v f (run_in (set_of c.args.templates.now) c.args.start) c.in-Some.claimed n c.in-Some.ensures
    (c.in-Ok.ensures.count ∙ ap (λ k. within_limits (bounds c.args.limits) k c.unsigned_abs.result) counted
    ∙ ap (within_limits (bounds c.args.limits) m.counted)
    (c.unsigned_abs.ensures.value ∙ ap nat_abs (again w128 c.in-Some.claimed fits))) behind)
    c.in_err-hand-in-Ok.ensures (can_turn_behind set c.args.limits f m m' (m.counted + n) c.requires.turn behind few).supplied)

pub next_element-requires-clause-turn : goal.next_element-requires-clause-turn
next_element-requires-clause-turn g c =
    let m = c.args.self.now in
    let f = field_data c.args.length.now in
    let set = set_of c.args.templates.now in
    let mid = c.use_bit_of.new.self in
    let n = c.in-Ok.count in
    let m' : Machine = record mid { cursor = c.advance.new.self; counted = mid.counted + n } in
    let counted : mid.counted ≡ m.counted = ap (λ (x : Machine). x.counted) c.use_bit_of.ensures.same in
    let behind : IsBehind f m m' (m.counted + n) = behind_field f m mid c.advance.new.self (mid.counted + n)
    (m.counted + n) c.use_bit_of.ensures.same c.use_bit_of.ensures.bits c.advance.ensures (ap (λ k. k + n) counted) in
    let few : m.counted + n ≤ c.args.limits.max_total = subst (λ k. k + n ≤ c.args.limits.max_total) counted c.in-Ok.ensures.total in
    can_turn_behind set c.args.limits f m m' (m.counted + n) c.requires.turn behind few

pub returns-in_ok-hand-in-Ok-clause-turn : goal.returns-in_ok-hand-in-Ok-clause-turn
returns-in_ok-hand-in-Ok-clause-turn g c =
    let m = c.args.self.now in
    let f = field_data c.args.length.now in
    let set = set_of c.args.templates.now in
    let mid = c.use_bit_of.new.self in
    let n = c.in-Ok.count in
    let fits : FitsSigned w128 c.in-Some.claimed = search rules in
    let m' : Machine = record mid { cursor = c.advance.new.self; counted = mid.counted + n } in
    let v = value_at c.args.source f (slots_dictionary m.slots) m.text.text [] in
    let counted : mid.counted ≡ m.counted = ap (λ (x : Machine). x.counted) c.use_bit_of.ensures.same in
    let behind : IsBehind f m m' (m.counted + n) = behind_field f m mid c.advance.new.self (mid.counted + n)
    (m.counted + n) c.use_bit_of.ensures.same c.use_bit_of.ensures.bits c.advance.ensures (ap (λ k. k + n) counted) in
    turn_more g.S.Sink.takes g.S.Sink.stops set c.args.limits
    (length_from set c.args.limits m c.args.node v f (run_in (set_of c.args.templates.now) c.args.start))
    (elements_of set c.args.limits m' n (run_in (set_of c.args.templates.now) c.args.start)) (SequenceStart c.args.node n)
    c.args.sink.now c.hand.new.sink c.next_element.result c.next_element.new.sink c.next_element.new.self
    (length_within set c.args.limits m m' c.args.node v f (run_in (set_of c.args.templates.now) c.args.start) c.in-Some.claimed n c.in-Some.ensures
    (c.in-Ok.ensures.count ∙ ap (λ k. within_limits (bounds c.args.limits) k c.unsigned_abs.result) counted
    ∙ ap (within_limits (bounds c.args.limits) m.counted)
    (c.unsigned_abs.ensures.value ∙ ap nat_abs (again w128 c.in-Some.claimed fits))) behind)
    c.in_ok-hand-in-Ok.ensures c.next_element.ensures.turn c.next_element.ensures.on

pub returns-in_ok-hand-in-Ok-clause-turns : goal.returns-in_ok-hand-in-Ok-clause-turns
returns-in_ok-hand-in-Ok-clause-turns g c way k h =
    let m = c.args.self.now in
    let set = set_of c.args.templates.now in
    let mid = c.use_bit_of.new.self in
    let n = c.in-Ok.count in
    let (at, number, some, next) = c.requires.next in
    let counted : mid.counted ≡ m.counted = ap (λ (x : Machine). x.counted) c.use_bit_of.ensures.same in
    let turns : mid.turns.count ≡ m.turns.count = ap (λ (x : Machine). x.turns.count) c.use_bit_of.ensures.same in
    let few : m.counted + n ≤ c.args.limits.max_total = subst (λ x. x + n ≤ c.args.limits.max_total) counted c.in-Ok.ensures.total in
    c.next_element.ensures.turns way k
    (length_passed way set c.args.limits k m.turns.count mid.turns.count m.counted (mid.counted + n) m.cursor c.advance.new.self at
    (field_data c.args.length.now) (run_in (set_of c.args.templates.now) c.args.start) n next turns (ap (λ x. x + n) counted) few
    (claim_within c.args.limits mid.counted c.unsigned_abs.result n (sym c.in-Ok.ensures.count))
    (ap (λ (x : CursorData). x.left) c.advance.ensures ∙ ap (λ (x : Machine). drop 1 x.cursor.left) c.use_bit_of.ensures.same)
    (ap (λ (x : CursorData). x.frames) c.advance.ensures ∙ ap (λ (x : Machine). x.cursor.frames) c.use_bit_of.ensures.same) h)

pub next_element-requires-clause-width : goal.next_element-requires-clause-width
next_element-requires-clause-width g c = width_from (set_of c.args.templates.now) c.args.node c.args.start c.segment_bits-width.result
    c.requires.node c.requires.body c.segment_bits-width.ensures
