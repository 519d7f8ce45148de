-- The first message of a piece.
use Rattle.std.proofs.Common.{sym, ap, subst, arith, ◌∙◌}
use Rattle.std.specs.Prelude.{◌≡◌, ℕ, ◌+◌, ◌<◌, ◌≤◌, length, take, Result}
use Rattle.fast_value.specs.meaning.Limits.{bounds}
use Rattle.fast_dict.specs.meaning.Slots.{slots_dictionary}
use Rattle.fast_stream.specs.declared.faults.FaultCode.{FaultCode}
use Rattle.fast_stream.specs.device.GrammarReaders.{reader_of}
use Rattle.fast_cursor.specs.device.Cursors.{CursorData}
use Rattle.fast_machine.specs.declared.machine.Machine.{Machine}
use Rattle.fast_machine.specs.declared.machine.Turn.{Turn}
use Rattle.fast_machine.specs.device.Positions.{placed, set_of, tree_in, meaning, IsBehindMap, IsTurn}
use Rattle.fast_machine.specs.device.Starts.{message_from, mapped_by}
use Rattle.fast_machine.specs.device.TurnsLeft.{most_by, HasTurnsBehind, turns_begun_at}
use Rattle.fast_machine.specs.device.UnitTaken.{IsTakenTo}
use Rattle.fast_machine.proofs.machines.Ahead.{behind_map}
use Rattle.fast_machine.proofs.machines.UnitTaken.{begun_to}
use Rattle.fast_loop.specs.device.Arms.{begun_by}
use Rattle.fast_loop.proofs.arms.First.{idle_at, idle_reader, idle_takes, idle_turns, idle_begun}
use Rattle.fast_loop.proofs.arms.Starts.{begun_on}
use Rattle.fast_loop.proofs.start_arms.begin_first.Goals as goal

pub message_begins-went-requires : goal.message_begins-went-requires
message_begins-went-requires g c =
    let set = set_of c.args.templates.now in
    let l = c.args.limits in
    let m = c.args.machine.now in
    let b = c.first_message.new.machine in
    let rest = c.args.piece.now in
    let head = c.in_ok-bytes.ensures in
    let (waits, none) = idle_at m.waiting m.cursor.map (sym c.if-not-is_idle.ensures) in
    let (unstopped, room, place) = idle_takes set l m waits none c.requires.ready in
    let some = head.ahead.some in
    let within = head.ahead.within in
    record {
      place = c.place.ensures.place;
      outermost = ap (λ (x : Machine). x.cursor.frames) head.same ∙ ap (λ (x : CursorData). x.frames) place;
      behind = subst (λ w. IsBehindMap set l (mapped_by b w)) (sym c.new.ensures)
          (behind_map set l b rest head.supplied head.ahead.map);
      start = head.start;
      some = subst (λ w. 0 < length w) (sym c.new.ensures) (omega (arith, some, within));
      within = subst (λ w. c.in_ok-bytes.bytes ≤ length w) (sym c.new.ensures) within;
    }

pub returns : goal.returns
returns g c =
    let takes = g.S.Sink.takes in
    let stops = g.S.Sink.stops in
    let set = set_of c.args.templates.now in
    let l = c.args.limits in
    let m = c.args.machine.now in
    let b = c.first_message.new.machine in
    let rest = c.args.piece.now in
    let head = c.in_ok-bytes in
    let ahead = head.ensures.ahead in
    let (waits, none) = idle_at m.waiting m.cursor.map (sym c.if-not-is_idle.ensures) in
    let w = c.message_begins-went in
    let turn = begun_by w.result in
    let x : Machine = placed w.new.machine w.new.spot.place in
    let end : Machine = record w.new.machine { cursor = c.set_place.new.self } in
    let is : x ≡ end = ap (λ (y : CursorData). record w.new.machine { cursor = y }) (sym c.set_place.ensures) in
    let taken : IsTakenTo takes stops set l (meaning set l m) rest c.args.sink.now head.bytes turn w.new.sink x =
    begun_to takes stops set l (meaning set l m) (slots_dictionary m.slots) rest head.bytes
    (reader_of l.strict (message_from set (bounds l) head.start.now.number ahead.template (slots_dictionary b.slots) (take 1 rest)))
    c.args.sink.now turn w.new.sink x (idle_reader set l m waits none) ahead.some ahead.within ahead.turns
    (subst (λ v. IsTurn takes stops set l (reader_of l.strict (message_from set (bounds l) head.start.now.number ahead.template
    (slots_dictionary b.slots) (take 1 v))) c.args.sink.now turn w.new.sink x) c.new.ensures (w.ensures.turn ahead.template ahead.found)) in
    let counts : b.turns.count ≡ m.turns.count = ap (λ (y : Machine). y.turns.count) head.ensures.same in
    record {
      none = tt;
      taken = subst (λ (t : Result Turn FaultCode). IsTakenTo takes stops set l (meaning set l m) rest c.args.sink.now head.bytes t w.new.sink end)
          (sym c.begun_by.ensures)
          (subst (λ (y : Machine). IsTakenTo takes stops set l (meaning set l m) rest c.args.sink.now head.bytes turn w.new.sink y) is taken);
      on = λ e. begun_on w.result w.ensures.answer (sym c.begun_by.ensures ∙ e);
      turns = λ way n h.
          let most = most_by way (tree_in set) l in
          let few = idle_turns set l m waits none way n h in
          let all = idle_begun set l m waits none way in
          let sum : 1 + (n + most) ≡ 1 + n + turns_begun_at m.waiting m.cursor.map way (tree_in set) l = omega (arith, all) in
          subst (λ (t : Result Turn FaultCode). HasTurnsBehind t way set l (1 + n + turns_begun_at m.waiting m.cursor.map way (tree_in set) l) end)
          (sym c.begun_by.ensures)
          (subst (λ (y : Machine). HasTurnsBehind turn way set l (1 + n + turns_begun_at m.waiting m.cursor.map way (tree_in set) l) y) is
          (subst (λ (k : ℕ). HasTurnsBehind turn way set l k x) sum
          (w.ensures.turns way (n + most) (omega (arith, few, counts)))));
    }
