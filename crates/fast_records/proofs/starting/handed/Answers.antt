use Rattle.std.proofs.Common.{rules, ◌≡◌, ◌∙◌}
use Rattle.fast_records.proofs.Shown.{shows_new}
use Rattle.fast_records.proofs.starting.handed.Goals as goal

pub returns-clause-shows : goal.returns-clause-shows
returns-clause-shows c = λ s is.
    let records = c.hand_over.ensures.same.same_records ∙ c.new-room.ensures.over.same_records in
    let texts = c.hand_over.ensures.same.same_texts ∙ c.new-room.ensures.over.same_texts in
    let room = c.hand_over.new.room in
    let all_records : s.records.now ≡ room.records.now = is.same_records ∙ search (rules, records) in
    let all_texts : s.texts.now ≡ room.texts.now = is.same_texts ∙ search (rules, texts) in
    shows_new s c.new-room.result room c.args.waiting.now c.hand_over.new.waiting c.hand_over.ensures.moved
    c.new-room.ensures.records c.new-room.ensures.texts c.hand_over.ensures.in_order c.hand_over.ensures.unclosed
    c.hand_over.ensures.full all_records all_texts is.same_waiting (is.filled ∙ c.filled.ensures) (is.limit ∙ c.limit.ensures)
    (is.used ∙ c.used.ensures.used)

pub hand_over-requires : goal.hand_over-requires
hand_over-requires c = record { unclosed = c.new-room.ensures.over.all }
