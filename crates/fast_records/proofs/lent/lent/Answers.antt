-- A record whose event has another record tells no event.
use Rattle.std.proofs.Common.{rules, ◌≡◌, ℕ, List, sym, ap, ◌∙◌, take, drop}
use Rattle.fast_stream.specs.meaning.Events.{EventData}
use Rattle.fast_stream.specs.meaning.Handed.{event_data}
use Rattle.fast_records.specs.meaning.Records.{record_of}
use Rattle.fast_records.specs.device.Lent.{event_back}
use Rattle.fast_records.proofs.Back.{back_is, told_of}
use Rattle.fast_records.proofs.lent.lent.Goals as goal

pub returns-else-eq-clause-none : goal.returns-else-eq-clause-none
returns-else-eq-clause-none c e told =
    let r = c.args.record in
    let texts = c.args.texts.now in
    let text = take r.length (drop r.value texts) in
    let event : event_data c.in_ok-event.event ≡ e = c.in_ok-event.ensures.some
    ∙ ap (λ (v : List ℕ). event_back r v) c.in_ok-text_in.ensures.some ∙ back_is r text e (told_of texts r e told) in
    let same : c.record_of.result ≡ c.ending_at.result = c.record_of.ensures ∙ ap (λ (d : EventData). record_of r.value d) event
    ∙ sym told.record_is ∙ sym c.ending_at.ensures in
    search (rules, same)
