use Rattle.std.proofs.Common.{refl, sym, subst}
use Rattle.fast_value.specs.meaning.Limits.{bounds}
use Rattle.fast_tree.specs.meaning.Nodes.{field_data}
use Rattle.fast_dict.specs.meaning.Slots.{slots_dictionary}
use Rattle.fast_stream.specs.device.Continuations.{sequence_from_then, segment_then, body_then}
use Rattle.fast_machine.specs.device.Positions.{set_of, run_in, body_in, turning, meaning}
use Rattle.fast_machine.specs.device.TurnsLeft.{HasTurnsAt}
use Rattle.fast_machine.specs.declared.machine.Waiting.{Waiting}
use Rattle.fast_stream.specs.declared.faults.FaultCode.TheVariants as Why
use Rattle.fast_machine.proofs.machines.FieldTakes.{integer_whole, field_wrong, field_cut, length_sees, length_begun, length_on}
use Rattle.fast_machine.proofs.machines.FieldTakes.{meaning_first, first_cut, first_ready, field_supplied}
use Rattle.fast_machine.proofs.machines.UnitTaken.{cut_to, wrong_to}
use Rattle.fast_machine.proofs.steps.FieldTurns.{serves_here, behind}
use Rattle.fast_machine.proofs.steps.SegmentTurns.{sequence_next}
use Rattle.fast_machine.proofs.steps.TurnCounts.{fault_turns}
use Rattle.fast_machine.proofs.machine.Machine.take_length.Goals as goal

pub read_integer-requires-clause-serves : goal.read_integer-requires-clause-serves
read_integer-requires-clause-serves g c = serves_here (set_of c.args.templates.now) c.args.limits.now c.args.self.now
    (field_data c.args.length.now) c.requires.ready.supplied c.requires.serves

pub read_integer-requires-clause-varies : goal.read_integer-requires-clause-varies
read_integer-requires-clause-varies g c =
    (length_begun (set_of c.args.templates.now) c.args.limits.now c.args.self.now c.args.node c.requires.ready (field_data c.args.length.now)
    (run_in (set_of c.args.templates.now) c.args.start) c.requires.waits c.requires.next).0.varies

pub read_integer-requires-clause-carried : goal.read_integer-requires-clause-carried
read_integer-requires-clause-carried g c =
    (length_begun (set_of c.args.templates.now) c.args.limits.now c.args.self.now c.args.node c.requires.ready (field_data c.args.length.now)
    (run_in (set_of c.args.templates.now) c.args.start) c.requires.waits c.requires.next).1

pub returns-in-Cut-clause-taken : goal.returns-in-Cut-clause-taken
returns-in-Cut-clause-taken g c =
    let takes = g.S.Sink.takes in
    let stops = g.S.Sink.stops in
    let set = set_of c.args.templates.now in
    let l = c.args.limits.now in
    let m = c.args.self.now in
    let f = field_data c.args.length.now in
    let n = c.args.node in
    let k = sequence_from_then (bounds l) n (segment_then (body_in set (run_in (set_of c.args.templates.now) c.args.start))
    (body_then (bounds l) (body_in set (run_in (set_of c.args.templates.now) c.args.start)))) (behind set l m) in
    let (sent, begun) = length_begun set l m n c.requires.ready f (run_in (set_of c.args.templates.now) c.args.start) c.requires.waits c.requires.next in
    let next = sequence_next set l m n f (run_in (set_of c.args.templates.now) c.args.start) c.requires.next in
    let is = meaning_first set l m c.requires.waits in
    let a = record m { slots = c.read_integer.new.slots; carry = c.read_integer.new.self; text = c.read_integer.new.text } in
    let (stays, same) = c.in-Cut.ensures.unit in
    let (held, more) = c.in-Cut.ensures.cut refl in
    cut_to takes stops set l (meaning set l m) c.args.rest.now c.args.sink.now a c.cut.ensures.bytes c.cut.ensures.turn
    (first_ready set l m c.read_integer.new.slots c.read_integer.new.self c.read_integer.new.text c.requires.ready c.read_integer.ensures.terms
    c.read_integer.ensures.capacity.0
    c.read_integer.ensures.capacity.1
    c.requires.waits same (length_on set l m n c.requires.ready f (run_in (set_of c.args.templates.now) c.args.start) c.read_integer.new.self
    c.requires.next sent
    more))
    (field_cut takes stops set l m f k (turning set l m) (meaning set l m) m.carry.bytes.text c.args.rest.now sent next is a c.read_integer.new.self
    (first_cut set l m c.read_integer.new.slots c.read_integer.new.self c.read_integer.new.text c.requires.waits same) held c.requires.some stays
    c.args.sink.now)

pub returns-in-Wrong-clause-taken : goal.returns-in-Wrong-clause-taken
returns-in-Wrong-clause-taken g c =
    let takes = g.S.Sink.takes in
    let stops = g.S.Sink.stops in
    let set = set_of c.args.templates.now in
    let l = c.args.limits.now in
    let m = c.args.self.now in
    let f = field_data c.args.length.now in
    let n = c.args.node in
    let k = sequence_from_then (bounds l) n (segment_then (body_in set (run_in (set_of c.args.templates.now) c.args.start))
    (body_then (bounds l) (body_in set (run_in (set_of c.args.templates.now) c.args.start)))) (behind set l m) in
    let (sent, begun) = length_begun set l m n c.requires.ready f (run_in (set_of c.args.templates.now) c.args.start) c.requires.waits c.requires.next in
    let next = sequence_next set l m n f (run_in (set_of c.args.templates.now) c.args.start) c.requires.next in
    let is = meaning_first set l m c.requires.waits in
    let a = record m { slots = c.read_integer.new.slots; carry = c.read_integer.new.self; text = c.read_integer.new.text } in
    wrong_to takes stops set l (meaning set l m) c.args.rest.now c.args.sink.now a (Why.Stream c.in-Wrong.code) c.wrong.ensures.bytes c.wrong.ensures.turn
    (field_supplied set l m c.read_integer.new.slots c.read_integer.new.self c.read_integer.new.text c.requires.ready c.read_integer.ensures.terms
    c.read_integer.ensures.capacity.0
    c.read_integer.ensures.capacity.1)
    (field_wrong takes stops set l m f k (turning set l m) (meaning set l m) m.carry.bytes.text c.args.rest.now sent next is
    (slots_dictionary c.read_integer.new.slots) c.read_integer.new.text.text c.in-Wrong.code c.in-Wrong.bytes c.in-Wrong.ensures.unit c.args.sink.now)

pub returns-in-Whole-clause-taken : goal.returns-in-Whole-clause-taken
returns-in-Whole-clause-taken g c =
    let takes = g.S.Sink.takes in
    let stops = g.S.Sink.stops in
    let set = set_of c.args.templates.now in
    let l = c.args.limits.now in
    let m = c.args.self.now in
    let f = field_data c.args.length.now in
    let n = c.args.node in
    let k = sequence_from_then (bounds l) n (segment_then (body_in set (run_in (set_of c.args.templates.now) c.args.start))
    (body_then (bounds l) (body_in set (run_in (set_of c.args.templates.now) c.args.start)))) (behind set l m) in
    let (sent, begun) = length_begun set l m n c.requires.ready f (run_in (set_of c.args.templates.now) c.args.start) c.requires.waits c.requires.next in
    let next = sequence_next set l m n f (run_in (set_of c.args.templates.now) c.args.start) c.requires.next in
    let is = meaning_first set l m c.requires.waits in
    integer_whole takes stops set l m f k (turning set l m) (meaning set l m) m.carry.bytes.text c.args.rest.now sent next is
    (length_sees (bounds l) n (body_in set (run_in (set_of c.args.templates.now) c.args.start)) (behind set l m))
    c.read_integer.new.slots c.read_integer.new.text.text c.in-Whole.found c.in-Whole.bytes c.in-Whole.ensures.unit
    c.args.sink.now c.length_known-turn.result c.length_known-turn.new.sink c.length_known-turn.new.self c.length_known-turn.ensures.turn

pub returns-in-Cut-clause-turns : goal.returns-in-Cut-clause-turns
returns-in-Cut-clause-turns g c way n h =
    let m = c.args.self.now in
    let a = record m { slots = c.read_integer.new.slots; carry = c.read_integer.new.self; text = c.read_integer.new.text } in
    rw c.cut.ensures.turn (subst (λ (w : Waiting). HasTurnsAt w way (set_of c.args.templates.now) c.args.limits.now n a) (sym c.requires.waits) h)

pub returns-in-Wrong-clause-turns : goal.returns-in-Wrong-clause-turns
returns-in-Wrong-clause-turns g c way n h =
    let m = c.args.self.now in
    fault_turns way (set_of c.args.templates.now) c.args.limits.now n m (record m {
      slots = c.read_integer.new.slots;
      carry = c.read_integer.new.self;
      text = c.read_integer.new.text;
    }) c.wrong.result.turn (Why.Stream c.in-Wrong.code) c.wrong.ensures.turn refl h

pub returns-in-Whole-clause-turns : goal.returns-in-Whole-clause-turns
returns-in-Whole-clause-turns g c = c.length_known-turn.ensures.turns
