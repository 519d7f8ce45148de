-- The first event of a message.
use Rattle.std.proofs.Common.{◌≡◌, ap, sym, ◌∙◌, subst, List, []}
use Rattle.std.specs.Prelude.{Bool, if◌then◌else◌, Some, Ok}
use Rattle.std.proofs.lemmas.Result.{err_from_is_err_and}
use Rattle.fast_tree.specs.declared.instructions.Template.{Template}
use Rattle.fast_tree.specs.meaning.Nodes.{template_data, instructions_from}
use Rattle.fast_tree.specs.meaning.Tree.{identifier}
use Rattle.fast_value.specs.meaning.Limits.{bounds}
use Rattle.fast_dict.specs.meaning.Dictionary.{reset}
use Rattle.fast_dict.specs.meaning.Slots.{slots_dictionary}
use Rattle.fast_program.specs.declared.ops.Op.{Op}
use Rattle.fast_cursor.specs.device.Runs.{run_at}
use Rattle.fast_cursor.specs.device.Cursors.{CursorData, resting, bits_left}
use Rattle.fast_stream.specs.device.GrammarReaders.{reader_of}
use Rattle.fast_machine.specs.device.Passing.{state_past}
use Rattle.fast_stream.specs.device.Continuations.{message_of_then}
use Rattle.fast_machine.specs.device.Positions.{set_of, meaning, turning, IsTurn}
use Rattle.fast_machine.specs.declared.machine.Machine.{Machine}
use Rattle.fast_machine.specs.declared.machine.Turn.TheVariants.{Handed}
use Rattle.fast_stream.proofs.streams.Frames.{begin_message}
use Rattle.fast_machine.proofs.steps.Moves.{moves_halt, moves_one}
use Rattle.fast_machine.proofs.steps.Begun.{begun, begun_turns}
use Rattle.fast_machine.proofs.steps.TurnCounts.{message_begun}
use Rattle.fast_machine.proofs.machine.Machine.start_message.Given.{Over}
use Rattle.fast_machine.proofs.machine.Machine.start_message.Goals as goal

-- The cursor stands at the first node of the template, and in no segment.
left : (g : Over) (c : goal.After-self-3-1 g) → c.begin.new.self.left ≡ c.requires.start.0.body.items
left g c =
    ap (λ (x : CursorData). x.left) c.begin.ensures
    ∙ ap (λ (ops : List Op). run_at ops c.args.start.now.at) (ap (λ (x : CursorData). x.ops) c.use_bit.ensures.same ∙ c.requires.behind.supplied.program)
    ∙ c.requires.start.2.body.nodes

frames : (g : Over) (c : goal.After-self-3-1 g) → c.begin.new.self.frames ≡ []
frames g c = ap (λ (x : CursorData). x.frames) c.begin.ensures ∙ ap (λ (x : CursorData). x.frames) c.use_bit.ensures.same
    ∙ ap (λ (x : CursorData). x.frames) c.requires.behind.outermost

pub returns-clause-goes_on : goal.returns-clause-goes_on
returns-clause-goes_on g c = begun_turns (set_of c.args.templates.now) c.args.limits c.args.self.now c.args.start.now.number
    c.requires.start.0 c.begin.new.self c.reset_if.new.slots c.after-self.result
    (Some c.args.start) c.requires.start c.requires.behind c.requires.start.1
    (c.args.templates.now.templates_name_nodes c.args.start.now.number c.requires.start.0 c.requires.start.1)
    c.reset_if.ensures.terms (frames g c) (left g c)
    (ap (λ (x : CursorData). x.map) c.begin.ensures ∙ ap (λ (x : CursorData). x.map) c.use_bit.ensures.same)
    (ap resting c.begin.ensures ∙ ap resting c.use_bit.ensures.same)

pub returns-in_err-hand-clause-turn : goal.returns-in_err-hand-clause-turn
returns-in_err-hand-clause-turn g c t found =
    let set = set_of c.args.templates.now in
    let (code, is, same) = err_from_is_err_and c.from_residual.result c.from_residual.ensures.1 in
    rw (is, same) (record {
      moves = moves_halt g.S.Sink.takes g.S.Sink.stops (turning set c.args.limits c.args.self.now)
          (meaning set c.args.limits c.args.self.now) c.args.sink.now c.in_err-hand.field-0.0 c.hand.new.sink
          (ap (reader_of c.args.limits.strict) (begin_message (bounds c.args.limits) c.args.start.now.number
          (template_data (instructions_from 0 set.nodes) t) (state_past identifier
          (slots_dictionary c.args.self.now.slots) 0 c.args.self.now.cursor)))
          c.in_err-hand.ensures;
      supplied = c.requires.behind.supplied;
      goes_on = tt;
    })

pub returns-clause-turn : goal.returns-clause-turn
returns-clause-turn g c t found =
    let set = set_of c.args.templates.now in
    let d = slots_dictionary c.args.self.now.slots in
    let strict = c.args.limits.strict in
    let l = bounds c.args.limits in
    let both : Some c.requires.start.0 ≡ Some t = sym c.requires.start.1 ∙ found in
    let same : c.requires.start.0 ≡ t = cc both in
    let after : Machine = record c.args.self.now {
      cursor = c.begin.new.self;
      slots = c.reset_if.new.slots;
      counted = 0;
      turns = c.after-self.result;
      latest = Some c.args.start;
    } in
    let turns = returns-clause-goes_on g c in
    subst (λ (u : Template). IsTurn g.S.Sink.takes g.S.Sink.stops set c.args.limits
    (reader_of strict (message_of_then l c.args.start.now.number (template_data (instructions_from 0 set.nodes) u)
    (state_past identifier d 0 c.args.self.now.cursor))) c.args.sink.now (Ok Handed) c.hand.new.sink after) same
    (record {
      moves = moves_one g.S.Sink.takes g.S.Sink.stops (meaning set c.args.limits after) c.args.sink.now c.hand.new.sink
          (begun set strict l c.args.start.now.number c.requires.start.0 d
          (slots_dictionary c.reset_if.new.slots) c.args.self.now.cursor c.begin.new.self
          (c.reset_if.ensures.entries ∙ ap (λ (r : Bool). if r then reset d else d) c.requires.start.2.reset)
          (frames g c) (left g c)
          (ap (λ (x : CursorData). bits_left x) c.begin.ensures ∙ c.use_bit.ensures.bits))
          c.in_ok-hand.ensures;
      supplied = turns.supplied;
      goes_on = turns;
    })

pub returns-clause-turns : goal.returns-clause-turns
returns-clause-turns g c way n h =
    let m = c.args.self.now in
    message_begun way (set_of c.args.templates.now) c.args.limits n m.turns.count c.after-self.result.count c.args.start.now.number
    c.requires.start.0 c.begin.new.self h c.requires.start.1 c.after-self.ensures (left g c) (frames g c)
