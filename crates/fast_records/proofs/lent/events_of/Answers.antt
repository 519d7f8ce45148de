use Rattle.std.proofs.Common.{◌+◌, ap, map, subst, sym, ◌∙◌, ◌∷◌, [], List, take}
use Rattle.std.proofs.lemmas.List.{map-append}
use Rattle.fast_stream.specs.meaning.Events.{EventData}
use Rattle.fast_stream.specs.meaning.Handed.{event_data}
use Rattle.fast_records.specs.meaning.Lent.{AreTold}
use Rattle.fast_records.proofs.Told.{one_told, told_at}
use Rattle.fast_records.proofs.lent.events_of.Goals as goal

pub loop-i-preserved : goal.loop-i-preserved
loop-i-preserved c =
    let es = c.loop-i.events.items in
    let grown = ap (map event_data) c.in_ok-push-in-Some.ensures ∙ map-append event_data es (c.in-Some.event ∷ []) in
    subst (λ (z : List EventData). AreTold c.args.texts.now (take (c.loop-i.i + 1) c.args.records.now) z) (sym grown)
    (one_told c.args.texts.now c.args.records.now c.loop-i.i _ (map event_data es)
    (event_data c.in-Some.event) c.loop-i-test.true c.loop-i.invariant c.in-Some.ensures.some)

pub returns-in-None-clause-none : goal.returns-in-None-clause-none
returns-in-None-clause-none c = λ es told. let one = told_at c.args.texts.now c.args.records.now c.loop-i.i _ es c.loop-i-test.true told in
    c.in-None.ensures.none one.0 one.1
