-- Each message comes back from where those before it have led.
use Rattle.std.proofs.Common.{◌≡◌, ℕ, List, ◌+◌, ◌++◌, map, take, drop, get_or, ap, sym, subst, ◌∙◌, arith}
use Rattle.std.specs.Prelude.{flat_map}
use Rattle.std.proofs.lemmas.List.{take_all}
use Rattle.fast_value.specs.declared.messages.Message.{Message}
use Rattle.fast_value.specs.meaning.Messages.{MessageData}
use Rattle.fast_value.specs.meaning.Views.{message_data}
use Rattle.fast_machine.specs.device.Positions.{Set, tree_in}
use Rattle.fast_stream.specs.meaning.Events.{events}
use Rattle.fast_encoder.specs.meaning.Encoders.{tree}
use Rattle.fast_encoder.specs.meaning.RoundTrips.{AreReadBack}
use Rattle.fast_encoder.proofs.RoundTrips.{one_more, front_more, around, before_it}
use Rattle.fast_encoder.proofs.round_trips.round_trip_all.Goals as goal

pub returns-in-Err-clause-back : goal.returns-in-Err-clause-back
returns-in-Err-clause-back g c w es level =
    let ms = c.args.messages.now in
    let i : ℕ = c.loop-index.index in
    let m = c.index-messages-index.result in
    let there : get_or ms i m ≡ m = sym c.index-messages-index.is in
    let so = c.loop-index.invariant.back w es level in
    record {
      earlier = map message_data (take i ms);
      refused = message_data m;
      later = map message_data (drop (i + 1) ms);
      split = around ms i m c.loop-index-test.true there;
      index_is = before_it ms i c.loop-index-test.true;
      mid_encoder = c.loop-index.encoder;
      mid_decoder = c.loop-index.decoder;
      mid_out = c.loop-index.out.items;
      mid_sink = c.loop-index.sink;
      back = so;
      last = c.in-Err.ensures.back (w ++ so.bytes) (es ++ flat_map (events (tree c.args.encoder.now)) (map message_data (take i ms))) so.level;
    }

pub loop-index-preserved : goal.loop-index-preserved
loop-index-preserved g c =
    let ms = c.args.messages.now in
    let i : ℕ = c.loop-index.index in
    let m = c.index-messages-index.result in
    let e = c.args.encoder.now in
    let there : get_or ms i m ≡ m = sym c.index-messages-index.is in
    let set : c.round_trip.new.encoder.set ≡ e.set = c.round_trip.ensures.same_encoder.0 ∙ c.loop-index.invariant.set in
    record {
      back = λ w es level.
          let so = c.loop-index.invariant.back w es level in
          let one = c.in_default.ensures.back (w ++ so.bytes) (es ++ flat_map (events (tree e)) (map message_data (take i ms))) so.level in
          subst (λ (xs : List MessageData). AreReadBack g.S.Sink.takes e xs c.args.out.now.items w es c.args.sink.now
          c.round_trip.new.encoder c.round_trip.new.decoder c.round_trip.new.out.items c.round_trip.new.sink)
          (sym (front_more ms i m c.loop-index-test.true there))
          (one_more g.S.Sink.takes g.S.Sink.stops e c.args.out.now.items w es c.args.sink.now (map message_data (take i ms))
          (message_data m) c.loop-index.encoder c.round_trip.new.encoder c.loop-index.decoder c.round_trip.new.decoder
          c.loop-index.out.items c.round_trip.new.out.items c.loop-index.sink c.round_trip.new.sink (ap (λ (s : Set). tree_in s) set) so one.0 one.1);
      set = set;
      limits = c.round_trip.ensures.same_encoder.1 ∙ c.loop-index.invariant.limits;
      tree = c.round_trip.ensures.same_decoder.0 ∙ c.loop-index.invariant.tree;
      decoder_limits = c.round_trip.ensures.same_decoder.1 ∙ c.loop-index.invariant.decoder_limits;
    }

pub returns-clause-back : goal.returns-clause-back
returns-clause-back g c w es level =
    let all = c.loop-index-test.false in
    let whole : take c.loop-index.index c.args.messages.now ≡ c.args.messages.now = take_all c.loop-index.index c.args.messages.now (omega (arith, all)) in
    subst (λ (xs : List Message). AreReadBack g.S.Sink.takes c.args.encoder.now
    (map message_data xs) c.args.out.now.items w es c.args.sink.now c.loop-index.encoder c.loop-index.decoder c.loop-index.out.items
    c.loop-index.sink)
    whole (c.loop-index.invariant.back w es level)
