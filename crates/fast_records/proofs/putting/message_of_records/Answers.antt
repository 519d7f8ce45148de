use Rattle.std.proofs.Common.{map}
use Rattle.fast_template.specs.meaning.Flat.{tree_of}
use Rattle.fast_stream.specs.meaning.Events.{events}
use Rattle.fast_stream.specs.meaning.Handed.{event_data}
use Rattle.fast_records.specs.meaning.Putting.{AreNoMessage, HasNoMessage}
use Rattle.fast_records.proofs.Back.{one_list}
use Rattle.fast_records.proofs.Due.{if_misplaced}
use Rattle.fast_records.proofs.Told.{if_placed}
use Rattle.fast_records.proofs.putting.message_of_records.Goals as goal

pub returns-clause-misplaced : goal.returns-clause-misplaced
returns-clause-misplaced c =
    let t = tree_of c.args.templates.now in
    let records = c.args.records.now in
    let texts = c.args.texts.now in
    let given = map event_data c.in_ok-given.given.items in
    if_misplaced (HasNoMessage t given) (AreNoMessage t records texts)
    (λ none m inside told. none m inside (one_list texts records given (events t m) c.in_ok-given.ensures.told told))
    c.message_of.result (rw c.deref.ensures.value at c.message_of.ensures.misplaced)

pub returns-clause-placed : goal.returns-clause-placed
returns-clause-placed c = if_placed c.args.texts.now c.args.records.now c.in_ok-given.given.items c.message_of.result
    c.in_ok-given.ensures.told (rw c.deref.ensures.value at c.message_of.ensures.within)
