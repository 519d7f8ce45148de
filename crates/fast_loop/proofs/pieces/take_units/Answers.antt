use Rattle.std.proofs.Common.{sym, ◌≡◌, ◌+◌, ◌∙◌}
use Rattle.std.specs.Prelude.{false, is_err}
use Rattle.fast_machine.specs.device.Positions.{set_of, tree_in, meaning}
use Rattle.fast_machine.specs.device.Handing.{waiting_at}
use Rattle.fast_machine.proofs.streams.Feeding.{fed_behind, fed_on, on_ok, within_piece}
use Rattle.fast_machine.proofs.steps.TurnCounts.{still_spent, after_some, all_paid, spent_paid}
use Rattle.fast_loop.proofs.pieces.take_units.Goals as goal

pub returns-then-is_err-clause-fed : goal.returns-then-is_err-clause-fed
returns-then-is_err-clause-fed g c =
    let set = set_of c.args.templates.now in
    let l = c.args.limits.now in
    let taken = c.take_some-taken in
    fed_behind (tree_in set) l g.S.Sink.takes g.S.Sink.stops (waiting_at (meaning set l c.args.machine.now))
    (waiting_at (meaning set l c.loop-bytes.machine)) (waiting_at (meaning set l taken.new.machine)) c.args.piece.now
    c.loop-bytes.bytes taken.result.bytes
    c.args.sink.now c.loop-bytes.sink taken.new.sink taken.result.outcome c.loop-bytes.invariant.took taken.ensures.fed

pub returns-then-is_err-clause-turns : goal.returns-then-is_err-clause-turns
returns-then-is_err-clause-turns g c way none h =
    let set = set_of c.args.templates.now in
    let l = c.args.limits.now in
    let taken = c.take_some-taken in
    all_paid way set l (c.loop-bytes.bytes + taken.result.bytes) taken.new.machine taken.result.outcome
    (after_some way set l c.loop-bytes.bytes taken.result.bytes c.loop-bytes.machine taken.new.machine taken.result.outcome
    (c.loop-bytes.invariant.turns way none h) (taken.ensures.turns way))

pub loop-bytes-preserved : goal.loop-bytes-preserved
loop-bytes-preserved g c =
    let takes = g.S.Sink.takes in
    let stops = g.S.Sink.stops in
    let set = set_of c.args.templates.now in
    let l = c.args.limits.now in
    let taken = c.take_some-taken in
    let ok : is_err taken.result.outcome ≡ false = sym c.is_err.ensures.value ∙ c.if-is_err.false in
    record {
      within = within_piece c.args.piece.now c.loop-bytes.bytes taken.result.bytes c.loop-bytes.invariant.within taken.ensures.within;
      ready = on_ok taken.result.outcome ok taken.ensures.ready;
      took = fed_on (tree_in set) l takes stops _ _ _ taken.result.outcome _ _ ok
          (fed_behind (tree_in set) l takes stops (waiting_at (meaning set l c.args.machine.now))
          (waiting_at (meaning set l c.loop-bytes.machine)) (waiting_at (meaning set l taken.new.machine)) c.args.piece.now
          c.loop-bytes.bytes taken.result.bytes
          c.args.sink.now c.loop-bytes.sink taken.new.sink taken.result.outcome c.loop-bytes.invariant.took taken.ensures.fed);
      turns = λ way none h. still_spent way set l c.loop-bytes.bytes taken.result.bytes c.loop-bytes.machine taken.new.machine
          taken.result.outcome ok taken.ensures.some (c.loop-bytes.invariant.turns way none h) (taken.ensures.turns way);
    }

pub returns-clause-turns : goal.returns-clause-turns
returns-clause-turns g c way none h = spent_paid way (set_of c.args.templates.now) c.args.limits.now c.loop-bytes.bytes c.loop-bytes.machine
    (c.loop-bytes.invariant.turns way none h)
