-- The first event of a message, behind its map and its identifier.
use Rattle.std.proofs.Common.{refl, ◌+◌, ap, sym, subst}
use Rattle.std.specs.Prelude.{take}
use Rattle.fast_tree.specs.meaning.Nodes.{template_data, instructions_from}
use Rattle.fast_tree.specs.meaning.Tree.{identifier}
use Rattle.fast_value.specs.meaning.Limits.{bounds}
use Rattle.fast_dict.specs.meaning.Slots.{slots_dictionary}
use Rattle.fast_stream.specs.meaning.Events.{MessageStart}
use Rattle.fast_stream.specs.device.GrammarReaders.{reader_of}
use Rattle.fast_stream.specs.declared.faults.FaultCode.TheVariants.{SinkStopped}
use Rattle.fast_machine.specs.declared.machine.Machine.{Machine}
use Rattle.fast_machine.specs.device.Positions.{placed, set_of, IsTurn}
use Rattle.fast_machine.specs.device.Passing.{state_past}
use Rattle.fast_machine.specs.device.Starts.{message_from, mapped_by}
use Rattle.fast_machine.specs.device.TurnsLeft.{HasTurnsBehind}
use Rattle.fast_loop.specs.declared.spot.Went.{Went}
use Rattle.fast_loop.specs.device.Arms.{begun_by}
use Rattle.fast_stream.proofs.streams.Frames.{begin_message}
use Rattle.fast_machine.proofs.steps.FieldTurns.{supplied_like}
use Rattle.fast_machine.proofs.steps.SegmentTurns.{turn_halt}
use Rattle.fast_loop.proofs.start_arms.message_begins.Goals as goal

pub returns-in-Err-clause-turn : goal.returns-in-Err-clause-turn
returns-in-Err-clause-turn g c t found =
    let set = set_of c.args.templates.now in
    let l = c.args.limits in
    let m = c.args.machine.now in
    let rest = c.args.spot.now.rest.bytes.now in
    let x : Machine = placed m c.args.spot.now.place in
    turn_halt g.S.Sink.takes g.S.Sink.stops set l (reader_of l.strict
    (message_from set (bounds l) c.args.start.now.number t (slots_dictionary m.slots) (take 1 rest))) _
    (MessageStart c.args.start.now.number) c.args.sink.now SinkStopped c.hand.new.sink x
    (ap (reader_of l.strict) (begin_message (bounds l) c.args.start.now.number (template_data (instructions_from 0 set.nodes) t)
    (state_past identifier (slots_dictionary m.slots) 0 (mapped_by m rest).cursor)))
    (refl, c.in-Err.ensures.1)
    (supplied_like set l (mapped_by m rest) x c.requires.behind.supplied (record {
      terms = refl;
      carry = refl;
      text = refl;
      identifier = refl;
      rests = refl;
      latest = refl;
    }) c.requires.behind.supplied.counted)

pub returns-clause-turn : goal.returns-clause-turn
returns-clause-turn g c t found =
    let set = set_of c.args.templates.now in
    let l = c.args.limits in
    let m = c.args.machine.now in
    let o = c.message_opens in
    subst (λ (w : Went). IsTurn g.S.Sink.takes g.S.Sink.stops set l
    (reader_of l.strict (message_from set (bounds l) c.args.start.now.number t (slots_dictionary m.slots)
    (take 1 c.args.spot.now.rest.bytes.now))) c.args.sink.now (begun_by w) o.new.sink (placed o.new.machine o.new.spot.place))
    (sym o.ensures.answer) (o.ensures.turn c.args.sink.now t c.in_default.ensures found)

pub returns-clause-turns : goal.returns-clause-turns
returns-clause-turns g c way n h =
    let o = c.message_opens in
    subst (λ (w : Went). HasTurnsBehind (begun_by w) way (set_of c.args.templates.now) c.args.limits (1 + n)
    (placed o.new.machine o.new.spot.place)) (sym o.ensures.answer) (o.ensures.turns way n h)
