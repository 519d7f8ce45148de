-- The bytes, and the turn behind them.
use Rattle.std.proofs.Common.{refl, sym, ap, ◌∙◌, subst, inl, inr, arith, rules}
use Rattle.std.specs.Prelude.{◌≡◌, ◌≢◌, ◌⊎◌, ℕ, zero, suc, ◌+◌, ◌<◌, drop, Ok, Err, option_map}
use Rattle.fast_value.specs.meaning.Limits.{bounds}
use Rattle.fast_value.specs.meaning.Values.{scalar_data}
use Rattle.fast_dict.specs.meaning.Slots.{slots_dictionary}
use Rattle.fast_stream.specs.declared.faults.FaultCode.{FaultCode}
use Rattle.fast_stream.specs.device.GrammarReaders.{reader_of}
use Rattle.fast_cursor.specs.device.Places.{at_place}
use Rattle.fast_machine.specs.declared.machine.Turn.{Turn}
use Rattle.fast_machine.specs.declared.machine.Turn.TheVariants.{Silent, Handed, Waits}
use Rattle.fast_machine.specs.device.Moving.{Moves}
use Rattle.fast_loop.specs.device.Parts.{IsLedTo}
use Rattle.fast_machine.specs.device.Passing.{value_then}
use Rattle.fast_machine.specs.device.Positions.{going_on}
use Rattle.fast_loop.proofs.arms.Led.{led_went, led_took, led_stopped}
use Rattle.fast_loop.proofs.part_arms.hand_behind.Goals as goal

-- A turn that neither hands something over nor waits is silent.
silent : (t : Turn) → t ≢ Handed → t ≢ Waits → t ≡ Silent
silent Silent h i = refl
silent Handed h i = absurd (h refl)
silent Waits h i = absurd (i refl)

some_or : (n : ℕ) → (n ≡ 0) ⊎ (0 < n)
some_or zero = inl refl
some_or (suc n) = inr (omega arith)

pub returns-then-bytes-gt0 : goal.returns-then-bytes-gt0
returns-then-bytes-gt0 g c = record {
  went = λ set l m m1 from f uses old rest h.
      let passed = c.pass_value in
      let p = c.args.spot.now.place in
      led_took g.S.Sink.takes g.S.Sink.stops set l m m1 c.after.result from p passed.new.place c.from.result f
      (option_map scalar_data c.args.value) c.args.bytes
      (subst (λ (k : ℕ). IsLedTo set l m m1 from p k f (option_map scalar_data c.args.value) c.args.bytes) (sym c.from.ensures) h)
      (c.after.ensures ∙ ap (λ t. t.count + 1) old)
      (passed.ensures.place m.cursor h.place)
      _ c.args.sink.now c.in-Ok.turn passed.new.sink (c.skip-spot.ensures ∙ ap (drop c.args.bytes) (sym rest)) refl
      (λ waits. c.in-Ok.ensures.moves set (bounds l) l.strict waits (slots_dictionary m1.slots) m.counted m.cursor f h.place uses)
      (c.in-Ok.ensures.past m.cursor) (λ e. c.in-Ok.ensures.on (ap Ok e)) (search rules);
}

pub returns-in-Handed : goal.returns-in-Handed
returns-in-Handed g c = record {
  went = λ set l m m1 from f uses old rest h.
      let passed = c.pass_value in
      let p = c.args.spot.now.place in
      let is : c.in-Ok.turn ≡ Handed = c.in-Handed.is in
      led_went g.S.Sink.takes g.S.Sink.stops set l m m1 c.after.result from p passed.new.place c.from.result f
      (option_map scalar_data c.args.value) c.args.bytes
      (subst (λ (k : ℕ). IsLedTo set l m m1 from p k f (option_map scalar_data c.args.value) c.args.bytes) (sym c.from.ensures) h)
      (c.after.ensures ∙ ap (λ t. t.count + 1) old)
      (passed.ensures.place m.cursor h.place)
      _ c.args.sink.now Handed passed.new.sink (c.skip-spot.ensures ∙ ap (drop c.args.bytes) (sym rest)) refl
      (λ waits. subst (λ (t : Turn). Moves g.S.Sink.takes g.S.Sink.stops
      (reader_of l.strict (value_then set (bounds l) c.from.result (option_map scalar_data c.args.value) f
      (slots_dictionary m1.slots) m.counted (at_place m.cursor p)))
      c.args.sink.now (Ok t) passed.new.sink (reader_of l.strict
      (going_on set (bounds l) (slots_dictionary m1.slots) m.counted (at_place m.cursor passed.new.place))) waits)
      is (c.in-Ok.ensures.moves set (bounds l) l.strict waits (slots_dictionary m1.slots) m.counted m.cursor f h.place uses))
      (c.in-Ok.ensures.past m.cursor) (λ e. cc e) (search rules);
}

pub returns-in_default : goal.returns-in_default
returns-in_default g c = record {
  went = λ set l m m1 from f uses old rest h.
      let passed = c.pass_value in
      let p = c.args.spot.now.place in
      let is : c.in-Ok.turn ≡ Silent = silent c.in-Ok.turn c.in_default.not-Handed (λ e. c.in-Ok.ensures.on (ap Ok e)) in
      led_went g.S.Sink.takes g.S.Sink.stops set l m m1 c.after.result from p passed.new.place c.from.result f
      (option_map scalar_data c.args.value) c.args.bytes
      (subst (λ (k : ℕ). IsLedTo set l m m1 from p k f (option_map scalar_data c.args.value) c.args.bytes) (sym c.from.ensures) h)
      (c.after.ensures ∙ ap (λ t. t.count + 1) old)
      (passed.ensures.place m.cursor h.place)
      _ c.args.sink.now Silent passed.new.sink (c.skip-spot.ensures ∙ ap (drop c.args.bytes) (sym rest)) refl
      (λ waits. subst (λ (t : Turn). Moves g.S.Sink.takes g.S.Sink.stops
      (reader_of l.strict (value_then set (bounds l) c.from.result (option_map scalar_data c.args.value) f
      (slots_dictionary m1.slots) m.counted (at_place m.cursor p)))
      c.args.sink.now (Ok t) passed.new.sink (reader_of l.strict
      (going_on set (bounds l) (slots_dictionary m1.slots) m.counted (at_place m.cursor passed.new.place))) waits)
      is (c.in-Ok.ensures.moves set (bounds l) l.strict waits (slots_dictionary m1.slots) m.counted m.cursor f h.place uses))
      (c.in-Ok.ensures.past m.cursor) (λ e. cc e) (search rules);
}

pub returns-in-Err : goal.returns-in-Err
returns-in-Err g c = record {
  went = λ set l m m1 from f uses old rest h.
      let passed = c.pass_value in
      let p = c.args.spot.now.place in
      led_stopped g.S.Sink.takes g.S.Sink.stops set l m m1 c.after.result from p passed.new.place c.from.result f
      (option_map scalar_data c.args.value) c.args.bytes
      (subst (λ (k : ℕ). IsLedTo set l m m1 from p k f (option_map scalar_data c.args.value) c.args.bytes) (sym c.from.ensures) h)
      (c.after.ensures ∙ ap (λ t. t.count + 1) old)
      (passed.ensures.place m.cursor h.place)
      _ c.args.sink.now passed.new.sink (c.skip-spot.ensures ∙ ap (drop c.args.bytes) (sym rest))
      (λ waits. subst (λ (code : FaultCode). Moves g.S.Sink.takes g.S.Sink.stops
      (reader_of l.strict (value_then set (bounds l) c.from.result (option_map scalar_data c.args.value) f
      (slots_dictionary m1.slots) m.counted (at_place m.cursor p)))
      c.args.sink.now (Err code) passed.new.sink (reader_of l.strict
      (going_on set (bounds l) (slots_dictionary m1.slots) m.counted (at_place m.cursor passed.new.place))) waits)
      c.in-Err.ensures.stopped (c.in-Err.ensures.moves set (bounds l) l.strict waits (slots_dictionary m1.slots) m.counted m.cursor f h.place uses))
      (some_or c.args.bytes);
}
