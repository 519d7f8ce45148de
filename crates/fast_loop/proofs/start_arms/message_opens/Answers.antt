-- A message begins, after the event of its start.
use Rattle.std.proofs.Common.{◌≡◌, ◌+◌, ◌≤◌, ap, sym, ◌∙◌, subst, arith, get_or, List}
use Rattle.std.specs.Prelude.{Bool, if◌then◌else◌, Some, Ok, take}
use Rattle.fast_tree.specs.declared.instructions.Template.{Template}
use Rattle.fast_value.specs.meaning.Limits.{bounds}
use Rattle.fast_dict.specs.meaning.Dictionary.{reset}
use Rattle.fast_dict.specs.meaning.Slots.{slots_dictionary}
use Rattle.fast_program.specs.declared.ops.Op.{Op}
use Rattle.fast_cursor.specs.device.Runs.{run_at, IsRun}
use Rattle.fast_cursor.specs.device.Cursors.{CursorData}
use Rattle.fast_cursor.specs.device.Places.{at_place}
use Rattle.fast_stream.specs.meaning.Events.{MessageStart}
use Rattle.fast_stream.specs.device.GrammarReaders.{reader_of}
use Rattle.fast_machine.specs.declared.machine.Machine.{Machine}
use Rattle.fast_machine.specs.declared.machine.Turn.TheVariants.{Handed}
use Rattle.fast_machine.specs.device.Positions.{set_of, tree_in, CanTurn, IsTurn}
use Rattle.fast_machine.specs.device.Starts.{message_from, mapped_by}
use Rattle.fast_machine.specs.device.TurnsLeft.{most_by}
use Rattle.fast_machine.proofs.machines.Ahead.{first_byte}
use Rattle.fast_machine.proofs.steps.Begun.{begun, begun_turns}
use Rattle.fast_loop.proofs.steps.BegunAt.{IsBegunAt, begun_at}
use Rattle.fast_machine.proofs.steps.SegmentTurns.{turn_one}
use Rattle.fast_machine.proofs.steps.TurnCounts.{message_begun}
use Rattle.fast_loop.proofs.start_arms.message_opens.Goals as goal

pub begin_message-requires-clause-run : goal.begin_message-requires-clause-run
begin_message-requires-clause-run g c =
    subst (λ (ops : List Op). IsRun ops c.args.start.now.at) (sym c.requires.behind.supplied.program) c.requires.start.2.body.run

pub returns-clause-turn : goal.returns-clause-turn
returns-clause-turn g c s t taken found =
    let set = set_of c.args.templates.now in
    let l = c.args.limits in
    let m = c.args.machine.now in
    let rest = c.args.spot.now.rest.bytes.now in
    let d = slots_dictionary m.slots in
    let u = c.requires.start.0 in
    let both : Some u ≡ Some t = sym c.requires.start.1 ∙ found in
    let same : u ≡ t = cc both in
    let x : CursorData = at_place c.begin_message.new.self c.begin_message.new.place in
    let at : IsBegunAt m.cursor x rest u.body.items =
    begun_at m.cursor c.begin_message.new.self x rest u.body.items (get_or rest 0 0) c.args.start.now.at c.requires.outermost
    (first_byte rest c.requires.some) c.begin_message.ensures.same c.begin_message.ensures.at c.begin_message.ensures.bits
    (ap (λ (ops : List Op). run_at ops c.args.start.now.at) c.requires.behind.supplied.program ∙ c.requires.start.2.body.nodes) in
    let b : Machine = mapped_by m rest in
    let m' : Machine = record m { cursor = x; slots = c.reset_if.new.slots; counted = 0; turns = c.after-machine.result } in
    let can : CanTurn set l m' =
    begun_turns set l b c.args.start.now.number u x c.reset_if.new.slots c.after-machine.result m.latest c.requires.behind.supplied.latest
    c.requires.behind c.requires.start.1 (c.args.templates.now.templates_name_nodes c.args.start.now.number u c.requires.start.1)
    c.reset_if.ensures.terms at.frames at.left at.map at.rests in
    subst (λ (v : Template). IsTurn g.S.Sink.takes g.S.Sink.stops set l
    (reader_of l.strict (message_from set (bounds l) c.args.start.now.number v d (take 1 rest))) s (Ok Handed) c.args.sink.now m') same
    (turn_one g.S.Sink.takes g.S.Sink.stops set l (reader_of l.strict
    (message_from set (bounds l) c.args.start.now.number u d (take 1 rest))) (MessageStart c.args.start.now.number) s c.args.sink.now m'
    (begun set l.strict (bounds l) c.args.start.now.number u d (slots_dictionary c.reset_if.new.slots) b.cursor x
    (c.reset_if.ensures.entries ∙ ap (λ (r : Bool). if r then reset d else d) c.requires.start.2.reset) at.frames at.left at.bits)
    taken can)

pub returns-clause-turns : goal.returns-clause-turns
returns-clause-turns g c way n h =
    let set = set_of c.args.templates.now in
    let l = c.args.limits in
    let m = c.args.machine.now in
    let rest = c.args.spot.now.rest.bytes.now in
    let u = c.requires.start.0 in
    let x : CursorData = at_place c.begin_message.new.self c.begin_message.new.place in
    let at : IsBegunAt m.cursor x rest u.body.items =
    begun_at m.cursor c.begin_message.new.self x rest u.body.items (get_or rest 0 0) c.args.start.now.at c.requires.outermost
    (first_byte rest c.requires.some) c.begin_message.ensures.same c.begin_message.ensures.at c.begin_message.ensures.bits
    (ap (λ (ops : List Op). run_at ops c.args.start.now.at) c.requires.behind.supplied.program ∙ c.requires.start.2.body.nodes) in
    let unit = c.after-unit.ensures in
    let paid : c.after-unit.result.count + most_by way (tree_in set) l ≤ 1 + n = omega (arith, unit, h) in
    message_begun way set l (1 + n) c.after-unit.result.count c.after-machine.result.count c.args.start.now.number u x paid
    c.requires.start.1 c.after-machine.ensures at.left at.frames
