-- The next message, with its identifier, or the wait for it.
use Rattle.std.proofs.Common.{◌≡◌, ap, ◌∙◌, arith}
use Rattle.std.specs.Prelude.{[]}
use Rattle.fast_dict.specs.meaning.Slots.{slots_dictionary}
use Rattle.fast_cursor.specs.device.Places.{at_place}
use Rattle.fast_machine.specs.declared.machine.Machine.{Machine}
use Rattle.fast_machine.specs.declared.machine.Waiting.TheVariants.{Map}
use Rattle.fast_machine.specs.device.Positions.{placed, set_of}
use Rattle.fast_loop.proofs.arms.Starts.{none_went, start_went}
use Rattle.fast_loop.proofs.start_arms.other_arm.Goals as goal

pub returns-in_default : goal.returns-in_default
returns-in_default g c = record {
  went = λ m s same counts taken.
      let from = c.args.spot.now in
      let a : Machine = placed c.args.machine.now from.place in
      let none = c.no_message in
      none_went g.S.Sink.takes g.S.Sink.stops (set_of c.args.templates.now) c.args.limits m a from
      (ap (λ (y : Machine). placed y from.place) same) counts c.requires.turn c.requires.end c.requires.outermost s c.args.sink.now
      taken
      none.result none.new.machine none.new.spot none.ensures.waits none.ensures.rest none.ensures.place
      (none.ensures.at ∙ ap (λ (y : Machine). record (placed y from.place) {
        waiting = Map;
        cursor = record (at_place y.cursor from.place) { map = []; used = 0; ends = 8 };
      }) c.in_default.ensures.none);
}

pub returns : goal.returns
returns g c = record {
  went = λ m s same counts taken.
      let set = set_of c.args.templates.now in
      let l = c.args.limits in
      let from = c.args.spot.now in
      let a : Machine = placed c.args.machine.now from.place in
      let y = c.next_message.new.self in
      let kept = c.next_message.ensures.same in
      let some = c.in-Some in
      let b = c.message_begins in
      let turns : y.turns.count ≡ a.turns.count = ap (λ (z : Machine). z.turns.count) kept in
      start_went g.S.Sink.takes g.S.Sink.stops set l m a from
      (ap (λ (z : Machine). placed z from.place) same) counts c.requires.turn c.requires.end c.requires.outermost s c.args.sink.now
      taken
      some.start.now.number some.bytes (slots_dictionary y.slots) b.result b.new.sink b.new.machine b.new.spot some.ensures.ahead
      b.ensures.answer b.ensures.rest (b.ensures.waits ∙ ap (λ (z : Machine). z.waiting) kept ∙ c.requires.waits) b.ensures.place
      b.ensures.turn
      (λ way k h. b.ensures.turns way k (omega (arith, h, turns)));
}
