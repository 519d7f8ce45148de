use Rattle.std.proofs.Common.{List, [], ◌∷◌, map, sym, subst, ◌∙◌}
use Rattle.std.proofs.lemmas.List.{map-append}
use Rattle.std.proofs.lemmas.Result.{err_from_is_err_and}
use Rattle.fast_value.specs.declared.messages.Message.{Message}
use Rattle.fast_value.specs.meaning.Messages.{MessageData}
use Rattle.fast_value.specs.meaning.Views.{message_data}
use Rattle.fast_template.specs.meaning.Flat.{nodes_of, tree_of}
use Rattle.fast_messages.specs.device.Progress.{AreMessagesRead}
use Rattle.fast_messages.proofs.readings.Bodies.{messages_more}
use Rattle.fast_messages.specs.device.Ahead.{HasNoLines}
use Rattle.fast_messages.specs.meaning.Reading.{closed, OnBadLine}
use Rattle.fast_messages.specs.meaning.Unsaid.{HasNoMessage, SaysNothing}
use Rattle.fast_messages.proofs.names.Preorder.{distinct_bodies}
use Rattle.fast_messages.proofs.refusals.Refused.{on_bad}
use Rattle.fast_messages.proofs.refusals.RefusedMessages.{text_refused, rest_refused}
use Rattle.fast_reading.proofs.messages.read_lines.Goals as goal

pub loop-alloc-preserved : goal.loop-alloc-preserved
loop-alloc-preserved c =
    let t = tree_of c.args.templates.now in
    let m = c.in_ok-message.message in
    let ms = c.loop-alloc.messages.items in
    subst (λ (z : List Message). AreMessagesRead t c.args.text.now (map message_data z) c.in_ok-message.next) (sym c.in_ok-push.ensures.ok)
    (subst (λ (z : List MessageData). AreMessagesRead t c.args.text.now z c.in_ok-message.next) (sym (map-append message_data ms (m ∷ [])))
    (messages_more t c.args.text.now (map message_data ms)
    (message_data m) c.loop-alloc.at c.in_ok-message.next c.loop-alloc.invariant c.in_ok-message.ensures.ok))

pub returns-in_err-at-clause-err : goal.returns-in_err-at-clause-err
returns-in_err-at-clause-err c =
    let s = c.args.templates.now in
    let set = tree_of s in
    let text = c.args.text.now in
    let p = err_from_is_err_and c.from_residual.result c.from_residual.ensures.1 in
    rw p.1 (subst (OnBadLine (SaysNothing set text)) (sym p.2) (on_bad (HasNoLines (closed text)) (SaysNothing set text)
    (λ none. text_refused set text none)
    c.in_err-at.field-0.0 (c.in_err-at.ensures.refused)))

pub returns-in_err-message-clause-err : goal.returns-in_err-message-clause-err
returns-in_err-message-clause-err c =
    let s = c.args.templates.now in
    let set = tree_of s in
    let text = c.args.text.now in
    let p = err_from_is_err_and c.from_residual-in_err-message.result c.from_residual-in_err-message.ensures.1 in
    rw p.1 (subst (OnBadLine (SaysNothing set text)) (sym p.2) (on_bad (HasNoMessage set c.loop-alloc.at) (SaysNothing set text)
    (λ none. rest_refused set text (map message_data c.loop-alloc.messages.items) c.loop-alloc.at
    (distinct_bodies set (nodes_of s) s.nodes_in_preorder) c.loop-alloc.invariant (sym c.is_some.ensures ∙ c.loop-alloc-test.true) none)
    c.in_err-message.field-0.0 (c.in_err-message.ensures.refused)))
