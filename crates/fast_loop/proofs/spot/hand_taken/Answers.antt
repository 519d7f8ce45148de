-- The bytes of the field, and the turn behind them.
use Rattle.std.proofs.Common.{refl, sym, ap, ◌∙◌, subst}
use Rattle.std.specs.Prelude.{ℕ, ◌+◌, Err, option_map}
use Rattle.fast_value.specs.meaning.Limits.{bounds}
use Rattle.fast_value.specs.meaning.Values.{scalar_data}
use Rattle.fast_dict.specs.meaning.Slots.{slots_dictionary}
use Rattle.fast_stream.specs.meaning.Events.{FieldValue}
use Rattle.fast_stream.specs.declared.faults.FaultCode.{FaultCode}
use Rattle.fast_stream.specs.device.Readers.{Emit}
use Rattle.fast_stream.specs.device.GrammarReaders.{reader_of}
use Rattle.fast_cursor.specs.device.Places.{at_place}
use Rattle.fast_machine.specs.declared.machine.Turn.TheVariants.{Silent, Handed}
use Rattle.fast_loop.specs.device.Arms.{IsFieldTaken}
use Rattle.fast_machine.specs.device.Moving.{Moves}
use Rattle.fast_machine.specs.device.Passing.{value_then}
use Rattle.fast_machine.specs.device.Positions.{going_on}
use Rattle.fast_loop.proofs.arms.Passed.{passed_on}
use Rattle.fast_loop.proofs.arms.Taken.{taken_went, taken_stopped}
use Rattle.fast_machine.proofs.steps.Moves.{moves_one, moves_halt}
use Rattle.fast_loop.proofs.spot.hand_taken.Goals as goal

pub returns-in_default : goal.returns-in_default
returns-in_default g c = record {
  went = λ set l m m1 f bit old h.
      let d = slots_dictionary m1.slots in
      let at = at_place m.cursor c.args.spot.now.place in
      let past = c.pass.ensures in
      let on = passed_on set (bounds l) d m.counted at (at_place m.cursor c.pass.new.self) f c.args.has_bit (past.past m.cursor)
      (past.bits m.cursor h.spot.place) bit in
      taken_went g.S.Sink.takes g.S.Sink.stops set l m m1 c.after.result c.args.spot.now c.pass.new.self c.from-node.result f
      (option_map scalar_data c.args.value) c.args.bytes (subst
      (λ (k : ℕ). IsFieldTaken set l m m1 c.args.spot.now k f (option_map scalar_data c.args.value) c.args.bytes)
      (sym c.from-node.ensures) h) (c.after.ensures ∙ ap (λ t. t.count + 1) old)
      (past.place m.cursor h.spot.place)
      _ c.args.sink.now Handed c.hand.new.sink (c.skip-spot.ensures) refl
      (λ waits. moves_one g.S.Sink.takes g.S.Sink.stops waits c.args.sink.now c.hand.new.sink
      (ap (λ v. reader_of l.strict (value_then set (bounds l) c.from-node.result (option_map scalar_data v) f d m.counted at))
      c.in-Some.is ∙ ap (λ k. Emit (FieldValue c.from-node.result (scalar_data c.in-Some.value)) (reader_of l.strict k)) (sym on))
      c.in_default.ensures)
      (record { same = past.past m.cursor }) (λ e. cc e);
}

pub returns-in-None : goal.returns-in-None
returns-in-None g c = record {
  went = λ set l m m1 f bit old h.
      let d = slots_dictionary m1.slots in
      let at = at_place m.cursor c.args.spot.now.place in
      let past = c.pass-in-None.ensures in
      let on = passed_on set (bounds l) d m.counted at (at_place m.cursor c.pass-in-None.new.self) f c.args.has_bit (past.past m.cursor)
      (past.bits m.cursor h.spot.place) bit in
      taken_went g.S.Sink.takes g.S.Sink.stops set l m m1 c.after.result c.args.spot.now c.pass-in-None.new.self c.from-node.result f
      (option_map scalar_data c.args.value) c.args.bytes (subst
      (λ (k : ℕ). IsFieldTaken set l m m1 c.args.spot.now k f (option_map scalar_data c.args.value) c.args.bytes)
      (sym c.from-node.ensures) h) (c.after.ensures ∙ ap (λ t. t.count + 1) old)
      (past.place m.cursor h.spot.place)
      _ c.args.sink.now Silent c.args.sink.now (c.skip-spot.ensures) refl
      (λ waits. (
        ap (λ v. reader_of l.strict (value_then set (bounds l) c.from-node.result (option_map scalar_data v) f d m.counted at))
            c.in-None.is ∙ ap (reader_of l.strict) (sym on),
        refl,
      ))
      (record { same = past.past m.cursor }) (λ e. cc e);
}

pub returns-in-Err : goal.returns-in-Err
returns-in-Err g c = record {
  went = λ set l m m1 f bit old h.
      let d = slots_dictionary m1.slots in
      let at = at_place m.cursor c.args.spot.now.place in
      taken_stopped g.S.Sink.takes g.S.Sink.stops set l m m1 c.after.result c.args.spot.now c.args.spot.now.place c.from-node.result f
      (option_map scalar_data c.args.value) c.args.bytes (subst
      (λ (k : ℕ). IsFieldTaken set l m m1 c.args.spot.now k f (option_map scalar_data c.args.value) c.args.bytes)
      (sym c.from-node.ensures) h) (c.after.ensures ∙ ap (λ t. t.count + 1) old)
      h.spot.place
      _ c.args.sink.now c.hand.new.sink (c.skip-spot.ensures)
      (λ waits. subst (λ (code : FaultCode). Moves g.S.Sink.takes g.S.Sink.stops
      (reader_of l.strict (value_then set (bounds l) c.from-node.result (option_map scalar_data c.args.value) f d m.counted at))
      c.args.sink.now (Err code) c.hand.new.sink (reader_of l.strict (going_on set (bounds l) d m.counted at)) waits)
      c.in-Err.ensures.0 (moves_halt g.S.Sink.takes g.S.Sink.stops
      (reader_of l.strict (going_on set (bounds l) d m.counted at)) waits c.args.sink.now c.in-Err.field-0 c.hand.new.sink
      (ap (λ v. reader_of l.strict (value_then set (bounds l) c.from-node.result (option_map scalar_data v) f d m.counted at))
      c.in-Some.is) c.in-Err.ensures));
}
