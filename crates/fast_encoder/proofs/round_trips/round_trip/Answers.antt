-- What was appended is fed, and the two calls come to what they come to together.
use Rattle.std.proofs.Common.{◌≡◌, ℕ, List, length, ap, subst, ◌∙◌}
use Rattle.std.specs.Prelude.{vec_len}
use Rattle.fast_value.specs.meaning.Views.{message_data}
use Rattle.fast_machine.specs.device.Positions.{Set, tree_in}
use Rattle.fast_decoder.specs.meaning.Decoding.{Carries, CarriesAt, tree as decoded_tree}
use Rattle.fast_decoder.specs.meaning.Feeding.{FollowedAt}
use Rattle.fast_encoder.specs.meaning.Encoders.{tree}
use Rattle.fast_encoder.proofs.ReadBack.{carried_on}
use Rattle.fast_encoder.proofs.RoundTrips.{appended_bytes, are_bytes, told_fault, ended}
use Rattle.fast_encoder.proofs.round_trips.round_trip.Goals as goal

pub returns-in-Ok-clause-back : goal.returns-in-Ok-clause-back
returns-in-Ok-clause-back g c w es level =
    let written = c.in_default.ensures.ok in
    let old : vec_len c.args.out.now ≡ length c.args.out.now.items = c.args.out.now.ok.0 in
    let piece = appended_bytes c.args.out.now.items c.encode.new.out.items c.deref.result.now written.bytes c.len-before.result
    c.deref.ensures.value (c.len-before.ensures ∙ old) written.appended in
    let kept : tree c.encode.new.self ≡ tree c.args.encoder.now = ap (λ (s : Set). tree_in s) c.encode.ensures.same_set.0 in
    let carried = subst (λ (v : List ℕ). Carries g.S.Sink.takes w es v c.args.sink.now c.feed.new.self c.feed.new.sink) piece
    (c.in-Ok.ensures.carried w es level.so) in (
      written,
      (carried_on g.S.Sink.takes c.args.encoder.now c.encode.new.self c.args.decoder.now c.feed.new.self
          (message_data c.args.message.now) c.args.out.now.items c.encode.new.out.items w es c.args.sink.now c.feed.new.sink level written
          kept c.encode.ensures.same_set.1 c.feed.ensures.same_set.0 c.feed.ensures.same_set.1 carried).1,
    )

pub returns-in-Err-feed-clause-back : goal.returns-in-Err-feed-clause-back
returns-in-Err-feed-clause-back g c w es level =
    let written = c.in_default.ensures.ok in
    let x = c.in-Err-feed.fault in
    let old : vec_len c.args.out.now ≡ length c.args.out.now.items = c.args.out.now.ok.0 in
    let piece = appended_bytes c.args.out.now.items c.encode.new.out.items c.deref.result.now written.bytes c.len-before.result
    c.deref.ensures.value (c.len-before.ensures ∙ old) written.appended in
    let kept : tree c.encode.new.self ≡ tree c.args.encoder.now = ap (λ (s : Set). tree_in s) c.encode.ensures.same_set.0 in
    let carried = subst (λ (v : List ℕ). CarriesAt g.S.Sink.takes g.S.Sink.stops c.args.decoder.now w es v c.args.sink.now x.code x.place
    c.feed.new.self c.feed.new.sink) piece (c.in-Err-feed.ensures.carried w es level.so) in
    let followed = subst (λ (v : List ℕ). FollowedAt g.S.Sink.takes g.S.Sink.stops
    (decoded_tree c.args.decoder.now) c.args.decoder.now.limits w es v c.args.sink.now x.code x.place c.feed.new.self c.feed.new.sink)
    piece (c.in-Err-feed.ensures.followed w es level.so) in (
      written,
      told_fault c.feed.new.self.fault x c.in-Err-feed.ensures.answer,
      ended g.S.Sink.takes g.S.Sink.stops c.args.encoder.now c.encode.new.self c.args.decoder.now c.feed.new.self
          (message_data c.args.message.now) c.args.out.now.items c.encode.new.out.items w es c.args.sink.now c.feed.new.sink level written
          kept c.encode.ensures.same_set.1 c.feed.ensures.same_set.0 c.feed.ensures.same_set.1
          (are_bytes c.args.out.now.items c.encode.new.out.items written.bytes written.appended c.type_inv.out) x
          c.in-Err-feed.ensures.answer carried followed,
    )
