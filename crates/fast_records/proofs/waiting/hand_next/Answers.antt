use Rattle.std.proofs.Common.{sym, ap, ◌∷◌, ◌∙◌, length, map, arith}
use Rattle.fast_stream.specs.meaning.Handed.{event_data}
use Rattle.fast_records.specs.meaning.Records.{unplaced}
use Rattle.fast_records.specs.meaning.Waiting.{kept_data}
use Rattle.fast_records.proofs.Back.{ending_last, unplaced_event}
use Rattle.fast_records.proofs.Moving.{front_is, full_first, moves_first}
use mathlib.Core.List.{not-mem-nil}
use Rattle.fast_records.proofs.waiting.hand_next.Goals as goal

pub returns-clause-moved : goal.returns-clause-moved
returns-clause-moved c =
    let items = front_is c.args.waiting.now.events.items c.in-Some.first c.in-Some.ensures.item in
    let unplaced_is = ap unplaced c.ending_at-next.ensures ∙ ending_last c.in-Some.first.now.value c.record_of.result 0
    ∙ ap unplaced c.record_of.ensures ∙ unplaced_event c.used.result (event_data c.lent-event.result) in
    moves_first c.args.room.now c.put.new.self c.args.waiting.now (record {
      alloc = c.args.waiting.now.alloc;
      events = c.pop_front.new.self;
    }) c.in-Some.first.now (event_data c.lent-event.result) c.used.result c.ending_at-next.result c.text_of.result.now
    (items ∙ ap (λ xs. c.in-Some.first.now ∷ xs) (sym c.pop_front.ensures.rest)) c.lent-event.ensures c.used.ensures.place unplaced_is
    c.text_of.ensures c.if-not-put.ensures.put

pub returns-clause-unclosed : goal.returns-clause-unclosed
returns-clause-unclosed c unclosed = let put = c.if-not-put.ensures.put in put.limit ∙ unclosed ∙ sym put.long

pub returns-clause-one : goal.returns-clause-one
returns-clause-one c =
    let items = front_is c.args.waiting.now.events.items c.in-Some.first c.in-Some.ensures.item in
    let all = ap (λ xs. length (map kept_data xs)) (items ∙ ap (λ xs. c.in-Some.first.now ∷ xs) (sym c.pop_front.ensures.rest)) in
    omega (arith, all)

pub returns-then-not-put-clause-none : goal.returns-then-not-put-clause-none
returns-then-not-put-clause-none c =
    full_first c.put.new.self c.args.waiting.now c.in-Some.first.now _ (event_data c.lent-event.result) c.text_of.result.now
    (front_is c.args.waiting.now.events.items c.in-Some.first c.in-Some.ensures.item) c.lent-event.ensures c.text_of.ensures
    c.if-not-put.ensures.lacks

pub front-requires : goal.front-requires
front-requires c κs = (λ a m. absurd (not-mem-nil m), λ a m. absurd (not-mem-nil m))

pub lent-event-requires : goal.lent-event-requires
lent-event-requires c = tt

pub used-requires : goal.used-requires
used-requires c = tt

pub record_of-requires : goal.record_of-requires
record_of-requires c = tt

pub text_of-requires : goal.text_of-requires
text_of-requires c = tt

pub ending_at-next-requires : goal.ending_at-next-requires
ending_at-next-requires c = tt

pub put-requires : goal.put-requires
put-requires c = tt

pub pop_front-requires : goal.pop_front-requires
pop_front-requires c κs = (λ a m. absurd (not-mem-nil m), λ a m. absurd (not-mem-nil m))

pub drop-pop_front-requires : goal.drop-pop_front-requires
drop-pop_front-requires c κs = (λ a m. absurd (not-mem-nil m), λ a m. absurd (not-mem-nil m))

pub drop-requires : goal.drop-requires
drop-requires c κs = (λ a m. absurd (not-mem-nil m), λ a m. absurd (not-mem-nil m))
