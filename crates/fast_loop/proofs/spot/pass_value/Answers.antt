-- The value is handed over, if there is one, and then the place is past the field.
use Rattle.std.proofs.Common.{refl, sym, ap, ◌∙◌}
use Rattle.std.specs.Prelude.{option_map}
use Rattle.fast_value.specs.meaning.Values.{scalar_data}
use Rattle.fast_stream.specs.meaning.Events.{FieldValue}
use Rattle.fast_stream.specs.device.Readers.{Emit}
use Rattle.fast_stream.specs.device.GrammarReaders.{reader_of}
use Rattle.fast_cursor.specs.device.Places.{at_place}
use Rattle.fast_machine.specs.device.Passing.{value_then}
use Rattle.fast_machine.proofs.steps.Moves.{moves_one}
use Rattle.fast_loop.proofs.arms.Passed.{passed_on}
use Rattle.fast_loop.proofs.spot.pass_value.Goals as goal

pub returns-in_ok-hand-in-Some-clause-moves : goal.returns-in_ok-hand-in-Some-clause-moves
returns-in_ok-hand-in-Some-clause-moves g c set l strict waits d counted at f h bit =
    let old = at_place at c.args.place.now in
    moves_one g.S.Sink.takes g.S.Sink.stops waits c.args.sink.now c.hand.new.sink
    (ap (λ v. reader_of strict (value_then set l c.args.node (option_map scalar_data v) f d counted old)) c.in-Some.is
    ∙ ap (λ k. Emit (FieldValue c.args.node (scalar_data c.in-Some.value)) (reader_of strict k))
    (sym (passed_on set l d counted old (at_place at c.pass.new.self) f c.args.has_bit (c.pass.ensures.past at)
    (c.pass.ensures.bits at h) bit)))
    c.in_ok-hand-in-Some.ensures

pub returns-in-None-clause-moves : goal.returns-in-None-clause-moves
returns-in-None-clause-moves g c set l strict waits d counted at f h bit =
    let old = at_place at c.args.place.now in (
      ap (λ v. reader_of strict (value_then set l c.args.node (option_map scalar_data v) f d counted old)) c.in-None.is
          ∙ ap (reader_of strict) (sym (passed_on set l d counted old (at_place at c.pass-in-None.new.self) f c.args.has_bit
          (c.pass-in-None.ensures.past at) (c.pass-in-None.ensures.bits at h) bit)),
      refl,
    )
