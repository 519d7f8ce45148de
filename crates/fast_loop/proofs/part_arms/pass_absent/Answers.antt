-- Past an absent decimal nothing is handed over.
use Rattle.std.proofs.Common.{refl, sym, ap, ◌∙◌, rules}
use Rattle.std.specs.Prelude.{◌+◌, drop, true, None}
use Rattle.fast_value.specs.meaning.Limits.{bounds}
use Rattle.fast_dict.specs.meaning.Slots.{slots_dictionary}
use Rattle.fast_stream.specs.device.GrammarReaders.{reader_of}
use Rattle.fast_cursor.specs.device.Places.{at_place}
use Rattle.fast_machine.specs.declared.machine.Turn.TheVariants.{Silent}
use Rattle.fast_loop.proofs.arms.Led.{led_went, led_took}
use Rattle.fast_loop.proofs.arms.Passed.{passed_on}
use Rattle.fast_loop.proofs.part_arms.pass_absent.Goals as goal

pub returns-then-bytes-gt0 : goal.returns-then-bytes-gt0
returns-then-bytes-gt0 g c = record {
  went = λ set l m m1 from node f uses old rest h.
      let d = slots_dictionary m1.slots in
      let p = c.args.spot.now.place in
      let at = at_place m.cursor p in
      let past = c.pass.ensures in
      let on = passed_on set (bounds l) d m.counted at (at_place m.cursor c.pass.new.self) f true (past.past m.cursor) (past.bits m.cursor h.place) uses in
      led_took g.S.Sink.takes g.S.Sink.stops set l m m1 c.after.result from p c.pass.new.self node f None c.args.bytes h
      (c.after.ensures ∙ ap (λ t. t.count + 1) old)
      (past.place m.cursor h.place)
      _ c.args.sink.now Silent c.args.sink.now (c.skip-spot.ensures ∙ ap (drop c.args.bytes) (sym rest)) refl
      (λ waits. (ap (reader_of l.strict) (sym on), refl))
      (record { same = past.past m.cursor }) (λ e. cc e) (search rules);
}

pub returns : goal.returns
returns g c = record {
  went = λ set l m m1 from node f uses old rest h.
      let d = slots_dictionary m1.slots in
      let p = c.args.spot.now.place in
      let at = at_place m.cursor p in
      let past = c.pass.ensures in
      let on = passed_on set (bounds l) d m.counted at (at_place m.cursor c.pass.new.self) f true (past.past m.cursor) (past.bits m.cursor h.place) uses in
      led_went g.S.Sink.takes g.S.Sink.stops set l m m1 c.after.result from p c.pass.new.self node f None c.args.bytes h
      (c.after.ensures ∙ ap (λ t. t.count + 1) old)
      (past.place m.cursor h.place)
      _ c.args.sink.now Silent c.args.sink.now (c.skip-spot.ensures ∙ ap (drop c.args.bytes) (sym rest)) refl
      (λ waits. (ap (reader_of l.strict) (sym on), refl))
      (record { same = past.past m.cursor }) (λ e. cc e) (search rules);
}
