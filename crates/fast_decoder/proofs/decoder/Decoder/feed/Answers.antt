use Rattle.std.proofs.Common.{◌≡◌, ℕ, ◌+◌, ap, ◌∙◌, sym, subst, refl, arith}
use Rattle.std.specs.Prelude.{List, Ok, Err, Some, Result, IsOk, OnOk, take, length}
use Rattle.std.proofs.lemmas.List.{take_all}
use Rattle.fast_stream.specs.declared.faults.FaultCode.{FaultCode}
use Rattle.fast_stream.specs.declared.faults.FaultCode.TheVariants as Why
use Rattle.fast_machine.specs.declared.machine.Machine.{Machine}
use Rattle.fast_machine.specs.device.Handing.{TookEvents, Fed, waiting_at}
use Rattle.fast_machine.specs.device.Positions.{set_of, tree_in, meaning, IsSupplied, IsReady}
use Rattle.fast_machine.specs.device.TurnsLeft.{IsWithinMessage}
use Rattle.fast_decoder.specs.declared.decoder.Decoder.TheView.{view}
use Rattle.fast_decoder.specs.meaning.Decoding.{DecoderData, tree, HasRead, IsRefused, CarriesAt}
use Rattle.fast_decoder.proofs.streams.Carrying.{bytes_of, fed_data, carry_ok, carry_stopped, carry_failed}
use Rattle.fast_machine.proofs.steps.Recounted.{meaning-turns, supplied-turns}
use Rattle.fast_decoder.proofs.streams.Following.{carries_follow, fault_follows, failed_follows}
use Rattle.fast_decoder.proofs.streams.Paying.{ready_begun, past_count, feed_paid}
use Rattle.fast_decoder.proofs.streams.Paying.{all_within, feed_turns, sound_on}
use Rattle.fast_decoder.proofs.decoder.Decoder.feed.Goals as goal

pub returns-in-Some-clause-carried : goal.returns-in-Some-clause-carried
returns-in-Some-clause-carried g c = λ w es so.
    let inside = view c.self.inside in
    let supplied : IsSupplied inside.set inside.limits c.begin_turns.new.self =
    subst (λ (m : Machine). IsSupplied inside.set inside.limits m) (sym c.begin_turns.ensures.same)
    (supplied-turns inside.set inside.limits inside.machine c.begin_turns.new.self.turns c.self.invariant.supplied) in
    subst (λ (d : DecoderData). CarriesAt g.S.Sink.takes g.S.Sink.stops d w es c.args.piece.now c.args.sink.now c.in-Some.fault.code
    c.in-Some.fault.place (record inside { machine = c.begin_turns.new.self }) c.args.sink.now) c.self.view_is
    (carry_failed g.S.Sink.takes g.S.Sink.stops inside c.begin_turns.new.self c.in-Some.fault w es c.args.piece.now c.args.sink.now
    c.in-Some.is (bytes_of c.args.piece.now c.type_inv.piece) supplied (subst (λ (d : DecoderData). HasRead d w es) (sym c.self.view_is) so))

pub returns-in-Ok-clause-carried : goal.returns-in-Ok-clause-carried
returns-in-Ok-clause-carried g c = λ w es so.
    let inside = view c.self.inside in
    let m : Machine = c.begin_turns.new.self in
    let m' : Machine = c.take_all-taken.new.machine in
    let same : meaning inside.set inside.limits m ≡ meaning inside.set inside.limits inside.machine =
    ap (meaning inside.set inside.limits) c.begin_turns.ensures.same
    ∙ meaning-turns inside.machine.waiting inside.set inside.limits inside.machine m.turns in
    let all : c.take_all-taken.result.bytes ≡ length c.args.piece.now =
    c.take_all-taken.ensures.all (subst (λ (r : Result Unit FaultCode). IsOk r) (sym c.in-Ok.is) refl) in
    let ready : IsReady inside.set inside.limits m' = subst
    (λ (r : Result Unit FaultCode). OnOk r (IsReady inside.set inside.limits m')) c.in-Ok.is c.take_all-taken.ensures.ready in
    let fed : Fed g.S.Sink.takes g.S.Sink.stops (tree_in inside.set) inside.limits (waiting_at (meaning inside.set inside.limits m))
    (take c.take_all-taken.result.bytes c.args.piece.now) c.args.sink.now (Ok tt) c.take_all-taken.new.sink
    (waiting_at (meaning inside.set inside.limits m'))
    = subst (λ (r : Result Unit FaultCode). Fed g.S.Sink.takes g.S.Sink.stops (tree_in inside.set) inside.limits
    (waiting_at (meaning inside.set inside.limits m)) (take c.take_all-taken.result.bytes c.args.piece.now) c.args.sink.now r
    c.take_all-taken.new.sink (waiting_at (meaning inside.set inside.limits m'))) c.in-Ok.is c.take_all-taken.ensures.fed in
    let took : TookEvents g.S.Sink.takes (tree_in inside.set) inside.limits
    (waiting_at (meaning inside.set inside.limits m)) c.args.piece.now c.args.sink.now c.take_all-taken.new.sink
    (waiting_at (meaning inside.set inside.limits m'))
    = subst (λ (v : List ℕ). TookEvents g.S.Sink.takes (tree_in inside.set) inside.limits
    (waiting_at (meaning inside.set inside.limits m)) v c.args.sink.now c.take_all-taken.new.sink
    (waiting_at (meaning inside.set inside.limits m'))) (ap (λ n. take n c.args.piece.now) all
    ∙ take_all (length c.args.piece.now) c.args.piece.now (omega arith)) fed in
    carry_ok g.S.Sink.takes g.S.Sink.stops inside m m' c.take_all-taken.result.bytes c.self.inside.fault w es c.args.piece.now
    c.args.sink.now c.take_all-taken.new.sink c.in_default.is c.in_default.is all same
    (bytes_of c.args.piece.now c.type_inv.piece) ready c.take_all-taken.ensures.supplied
    (subst (λ (r : Result Unit FaultCode). OnOk r (IsWithinMessage inside.set inside.limits m')) c.in-Ok.is
    (all_within inside.set inside.limits c.take_all-taken.result.bytes m' c.take_all-taken.result.outcome
    (feed_paid inside m m' c.take_all-taken.result.bytes c.take_all-taken.result.outcome c.in_default.is c.begin_turns.ensures.same
    c.begin_turns.ensures.none c.self.invariant c.take_all-taken.ensures.turns))) took
    (subst (λ (d : DecoderData). HasRead d w es) (sym c.self.view_is) so)

pub returns-in-Err-clause-carried : goal.returns-in-Err-clause-carried
returns-in-Err-clause-carried g c = λ w es so.
    let inside = view c.self.inside in
    let m : Machine = c.begin_turns.new.self in
    let m' : Machine = c.take_all-taken.new.machine in
    let same : meaning inside.set inside.limits m ≡ meaning inside.set inside.limits inside.machine =
    ap (meaning inside.set inside.limits) c.begin_turns.ensures.same
    ∙ meaning-turns inside.machine.waiting inside.set inside.limits inside.machine m.turns in
    let k : ℕ = c.take_all-taken.result.bytes in
    let fed : Fed g.S.Sink.takes g.S.Sink.stops (tree_in inside.set) inside.limits (waiting_at (meaning inside.set inside.limits m))
    (take k c.args.piece.now) c.args.sink.now (Err c.in-Err.code) c.take_all-taken.new.sink
    (waiting_at (meaning inside.set inside.limits m'))
    = subst (λ (r : Result Unit FaultCode). Fed g.S.Sink.takes g.S.Sink.stops (tree_in inside.set) inside.limits
    (waiting_at (meaning inside.set inside.limits m)) (take k c.args.piece.now) c.args.sink.now r c.take_all-taken.new.sink
    (waiting_at (meaning inside.set inside.limits m'))) c.in-Err.is c.take_all-taken.ensures.fed in
    let new : DecoderData = fed_data inside m' k (Some (record { code = c.in-Err.code; place = c.self.inside.consumed + k })) in
    subst (λ (d : DecoderData). CarriesAt g.S.Sink.takes g.S.Sink.stops d w es c.args.piece.now c.args.sink.now c.in-Err.code
    (c.self.inside.consumed + k) new c.take_all-taken.new.sink) c.self.view_is
    (carry_stopped g.S.Sink.takes g.S.Sink.stops inside m m' k c.in-Err.code w es c.args.piece.now c.args.sink.now
    c.take_all-taken.new.sink c.in_default.is c.take_all-taken.ensures.within same
    (bytes_of c.args.piece.now c.type_inv.piece) c.take_all-taken.ensures.supplied fed
    (subst (λ (d : DecoderData). HasRead d w es) (sym c.self.view_is) so))

pub invariant_of-self-in-Ok : goal.invariant_of-self-in-Ok
invariant_of-self-in-Ok g c =
    let inside = view c.self.inside in
    let m' : Machine = c.take_all-taken.new.machine in
    let paid = feed_paid inside c.begin_turns.new.self m' c.take_all-taken.result.bytes c.take_all-taken.result.outcome c.in_default.is
    c.begin_turns.ensures.same c.begin_turns.ensures.none c.self.invariant c.take_all-taken.ensures.turns in
    sound_on inside m' c.take_all-taken.result.bytes c.in_default.is c.self.invariant.later c.take_all-taken.ensures.supplied
    (subst (λ (r : Result Unit FaultCode). OnOk r (IsReady inside.set inside.limits m')) c.in-Ok.is c.take_all-taken.ensures.ready)
    (subst (λ (r : Result Unit FaultCode). OnOk r (IsWithinMessage inside.set inside.limits m')) c.in-Ok.is
    (all_within inside.set inside.limits c.take_all-taken.result.bytes m' c.take_all-taken.result.outcome paid))

pub returns-in-Ok-clause-turns : goal.returns-in-Ok-clause-turns
returns-in-Ok-clause-turns g c =
    let inside = view c.self.inside in
    feed_turns inside c.args.self.now c.take_all-taken.result.bytes c.take_all-taken.new.machine c.take_all-taken.result.outcome c.self.view_is
    (feed_paid inside c.begin_turns.new.self c.take_all-taken.new.machine c.take_all-taken.result.bytes c.take_all-taken.result.outcome
    c.in_default.is c.begin_turns.ensures.same c.begin_turns.ensures.none c.self.invariant c.take_all-taken.ensures.turns)

pub returns-in-Err-clause-turns : goal.returns-in-Err-clause-turns
returns-in-Err-clause-turns g c =
    let inside = view c.self.inside in
    feed_turns inside c.args.self.now c.take_all-taken.result.bytes c.take_all-taken.new.machine c.take_all-taken.result.outcome c.self.view_is
    (feed_paid inside c.begin_turns.new.self c.take_all-taken.new.machine c.take_all-taken.result.bytes c.take_all-taken.result.outcome
    c.in_default.is c.begin_turns.ensures.same c.begin_turns.ensures.none c.self.invariant c.take_all-taken.ensures.turns)

pub returns-in-Some-clause-followed : goal.returns-in-Some-clause-followed
returns-in-Some-clause-followed g c = λ w es so.
    let inside = view c.self.inside in
    failed_follows g.S.Sink.takes g.S.Sink.stops c.args.self.now
    (record inside { machine = c.begin_turns.new.self }) c.in-Some.fault w es c.args.piece.now c.args.sink.now c.args.sink.now so
    (ap (λ (d : DecoderData). d.fault) (sym c.self.view_is) ∙ c.in-Some.is) (ap (λ (d : DecoderData). tree d) c.self.view_is)
    (ap (λ (d : DecoderData). d.limits) c.self.view_is)
    (returns-in-Some-clause-carried g c w es so)

pub returns-then-piece-self-clause-followed : goal.returns-then-piece-self-clause-followed
returns-then-piece-self-clause-followed g c = λ w es so.
    let inside = view c.self.inside in
    let refused : IsRefused inside c.args.piece.now c.args.sink.now c.self.inside.consumed c.args.sink.now = record {
      many = past_count c.self.inside.consumed c.self.inside.consumed (length c.args.piece.now) refl c.if-piece-self.true;
      place_is = refl;
      same = refl;
    } in
    fault_follows g.S.Sink.takes g.S.Sink.stops c.args.self.now (record inside {
      machine = c.begin_turns.new.self;
      fault = Some (record { code = Why.L4; place = c.self.inside.consumed });
    }) Why.L4 w es c.args.piece.now c.args.sink.now c.self.inside.consumed c.args.sink.now so
    (ap (λ (d : DecoderData). d.fault) (sym c.self.view_is) ∙ c.in_default.is) refl (ap (λ (d : DecoderData). tree d) c.self.view_is)
    (ap (λ (d : DecoderData). d.limits) c.self.view_is)
    (subst (λ (d : DecoderData). IsRefused d c.args.piece.now c.args.sink.now c.self.inside.consumed c.args.sink.now) c.self.view_is refused)

pub returns-in-Ok-clause-followed : goal.returns-in-Ok-clause-followed
returns-in-Ok-clause-followed g c = λ w es so.
    let inside = view c.self.inside in
    carries_follow g.S.Sink.takes g.S.Sink.stops (tree c.args.self.now) c.args.self.now.limits
    (fed_data inside c.take_all-taken.new.machine c.take_all-taken.result.bytes c.self.inside.fault) w es c.args.piece.now
    c.args.sink.now c.take_all-taken.new.sink
    (ap (λ (d : DecoderData). tree d) c.self.view_is) (ap (λ (d : DecoderData). d.limits) c.self.view_is) (returns-in-Ok-clause-carried g c w es so)

pub returns-in-Err-clause-followed : goal.returns-in-Err-clause-followed
returns-in-Err-clause-followed g c = λ w es so.
    let inside = view c.self.inside in
    let place : ℕ = c.self.inside.consumed + c.take_all-taken.result.bytes in
    fault_follows g.S.Sink.takes g.S.Sink.stops c.args.self.now (fed_data inside c.take_all-taken.new.machine c.take_all-taken.result.bytes (Some (record {
      code = c.in-Err.code;
      place = place;
    }))) c.in-Err.code w es c.args.piece.now c.args.sink.now place c.take_all-taken.new.sink so
    (ap (λ (d : DecoderData). d.fault) (sym c.self.view_is) ∙ c.in_default.is) refl (ap (λ (d : DecoderData). tree d) c.self.view_is)
    (ap (λ (d : DecoderData). d.limits) c.self.view_is)
    (returns-in-Err-clause-carried g c w es so)

pub take_all-taken-requires : goal.take_all-taken-requires
take_all-taken-requires g c = record {
  ready = ready_begun c.self.inside.fault
      (set_of c.self.inside.templates.now) c.self.inside.limits c.self.inside.machine c.begin_turns.new.self c.self.inside.consumed
      c.in_default.is c.begin_turns.ensures.same c.self.invariant.at;
}
