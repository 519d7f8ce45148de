-- A whole message, by its parts.
use Rattle.std.proofs.Common.{ℕ, List, ap, sym, subst, ◌∙◌}
use Rattle.std.specs.Prelude.{length, true, take, drop, OnOk}
use Rattle.std.proofs.lemmas.Result.{err_from_is_err_and}
use mathlib.Core.List.{not-mem-nil}
use Rattle.fast_value.specs.meaning.Messages.{Slots}
use Rattle.fast_value.specs.meaning.Views.{message_data, slots_data}
use Rattle.fast_tree.specs.meaning.Nodes.{body_among}
use Rattle.fast_template.specs.meaning.Flat.{nodes_of, tree_of}
use Rattle.fast_spelling.specs.device.Drafts.{IsTold, Closes}
use Rattle.fast_spelling.specs.meaning.Encoding.{EncodesBody}
use Rattle.fast_spelling.specs.device.Fields.{Wrote}
use Rattle.fast_spelling.specs.meaning.Refusals.{RefusesBody, RefusesMessage, HaveNoMap}
use Rattle.fast_spelling.specs.meaning.Suiting.{SuitsBody}
use Rattle.fast_spelling.proofs.encodings.Instructions.{told, told_at}
use Rattle.fast_spelling.proofs.bytes.Spelling.{on_ok}
use Rattle.fast_spelling.proofs.encodings.Whole.{slots_suit, body_refused, message_unmapped, message_written}
use Rattle.fast_spelling.proofs.encodings.Progress.{keeps_on, ready_kept}
use Rattle.fast_spelling.proofs.messages.write_message.Goals as goal

pub write_body-requires-clause-suits : goal.write_body-requires-clause-suits
write_body-requires-clause-suits c =
    subst (λ (ns : List ℕ). SuitsBody (body_among (nodes_of c.args.templates.now) ns) (slots_data c.deref-2.result.now)) (sym c.deref.ensures.value)
    (rw c.deref-2.ensures.value (slots_suit c.args.templates.now
    (message_data c.args.message.now) c.template-template.result.now c.template-template.ensures.found c.requires.suits))

pub returns-in_err-write_body-clause-err : goal.returns-in_err-write_body-clause-err
returns-in_err-write_body-clause-err c =
    let p = err_from_is_err_and c.from_residual-in_err-write_body.result c.from_residual-in_err-write_body.ensures.1 in
    let t = c.args.templates.now in
    let Q = RefusesMessage (tree_of t) c.args.limits c.args.ledger.now.now (message_data c.args.message.now) in
    let f = c.in_err-write_body.field-0.0 in
    let h = told_at (RefusesBody c.args.limits (body_among (nodes_of t) c.deref.result.now) c.reset_if.new.ledger.now
    (slots_data c.deref-2.result.now)) Q f c.in_err-write_body.ensures.err
    (λ r. body_refused t c.args.limits c.args.ledger.now.now c.write_identifier.new.ledger.now c.reset_if.new.ledger.now
    (message_data c.args.message.now) c.args.id c.template-template.result.now c.clear.new.self c.write_identifier.new.draft f
    c.template-template.ensures.found c.requires.known c.in_ok-write_identifier.ensures.ok c.reset_if.ensures.now
    (rw (sym c.deref-2.ensures.value) (rw (sym c.deref.ensures.value) r))) in
    rw p.1 (subst (IsTold Q) (sym p.2) h)

-- what the body has written, by the message's own names
body_wrote : (c : goal.After-close) → Wrote (EncodesBody c.args.limits
    (body_among (nodes_of c.args.templates.now) c.template-template.result.now.body.items) c.reset_if.new.ledger.now
    (slots_data c.args.message.now.items.items)) c.write_identifier.new.draft c.write_body.new.draft c.write_body.new.ledger.now
body_wrote c =
    subst (λ (vs : Slots). Wrote (EncodesBody c.args.limits
    (body_among (nodes_of c.args.templates.now) c.template-template.result.now.body.items) c.reset_if.new.ledger.now vs)
    c.write_identifier.new.draft c.write_body.new.draft c.write_body.new.ledger.now) (ap slots_data c.deref-2.ensures.value)
    (subst (λ (ns : List ℕ). Wrote (EncodesBody c.args.limits (body_among (nodes_of c.args.templates.now) ns) c.reset_if.new.ledger.now
    (slots_data c.deref-2.result.now)) c.write_identifier.new.draft c.write_body.new.draft c.write_body.new.ledger.now)
    c.deref.ensures.value
    c.in_ok-write_body.ensures.ok)

pub returns-clause-ok : goal.returns-clause-ok
returns-clause-ok c = on_ok c.close.result
    (subst (λ (k : ℕ). OnOk c.close.result (Closes true (take c.mark-mark.result.bytes c.write_body.new.draft.bytes.items)
    (drop c.mark-mark.result.bytes c.write_body.new.draft.bytes.items) (drop k c.write_body.new.draft.bits) c.close.new.self.bytes.items))
    (c.mark-mark.ensures.1 ∙ ap length c.clear.ensures.bits) c.close.ensures.ok)
    (message_written c.args.templates.now c.args.limits c.args.ledger.now.now c.write_identifier.new.ledger.now c.reset_if.new.ledger.now
    c.write_body.new.ledger.now (message_data c.args.message.now) c.args.id c.template-template.result.now
    c.clear.new.self c.write_identifier.new.draft c.write_body.new.draft c.mark-mark.result.bytes c.close.new.self.bytes.items
    c.template-template.ensures.found c.requires.known c.clear.ensures.bits
    c.clear.ensures.bytes
    (c.mark-mark.ensures.0 ∙ c.clear.new.self.bytes.ok.0 ∙ ap length c.clear.ensures.bytes)
    c.in_ok-write_identifier.ensures.ok c.reset_if.ensures.now (body_wrote c))

pub returns-clause-err : goal.returns-clause-err
returns-clause-err c = told c.close.result c.close.ensures.err (λ e h.
    message_unmapped c.args.templates.now c.args.limits c.args.ledger.now.now c.write_identifier.new.ledger.now c.reset_if.new.ledger.now
    c.write_body.new.ledger.now (message_data c.args.message.now) c.args.id c.template-template.result.now
    c.clear.new.self c.write_identifier.new.draft c.write_body.new.draft e
    c.template-template.ensures.found c.requires.known c.clear.ensures.bits
    c.in_ok-write_identifier.ensures.ok c.reset_if.ensures.now (body_wrote c)
    (subst (λ (k : ℕ). HaveNoMap (drop k c.write_body.new.draft.bits)) (c.mark-mark.ensures.1 ∙ ap length c.clear.ensures.bits) h.2) h.0)

pub write_identifier-requires : goal.write_identifier-requires
write_identifier-requires c = record { ready = c.requires.ready }

pub returns-in_err-write_identifier-clause-keeps : goal.returns-in_err-write_identifier-clause-keeps
returns-in_err-write_identifier-clause-keeps c = c.write_identifier.ensures.keeps

pub write_body-requires-clause-ready : goal.write_body-requires-clause-ready
write_body-requires-clause-ready c = ready_kept c.args.templates.now c.args.limits c.args.ledger.now c.reset_if.new.ledger c.requires.ready
    (keeps_on c.args.ledger.now c.write_identifier.new.ledger c.reset_if.new.ledger c.write_identifier.ensures.keeps
    c.reset_if.ensures.keeps)

pub returns-in_err-write_body-clause-keeps : goal.returns-in_err-write_body-clause-keeps
returns-in_err-write_body-clause-keeps c = keeps_on c.args.ledger.now c.reset_if.new.ledger c.write_body.new.ledger
    (keeps_on c.args.ledger.now c.write_identifier.new.ledger c.reset_if.new.ledger c.write_identifier.ensures.keeps
    c.reset_if.ensures.keeps) c.write_body.ensures.keeps

pub returns-clause-keeps : goal.returns-clause-keeps
returns-clause-keeps c = keeps_on c.args.ledger.now c.reset_if.new.ledger c.write_body.new.ledger
    (keeps_on c.args.ledger.now c.write_identifier.new.ledger c.reset_if.new.ledger c.write_identifier.ensures.keeps
    c.reset_if.ensures.keeps) c.write_body.ensures.keeps

pub branch-write_identifier-requires : goal.branch-write_identifier-requires
branch-write_identifier-requires c κs = (λ a m. absurd (not-mem-nil m), λ a m. absurd (not-mem-nil m))

pub from_residual-requires : goal.from_residual-requires
from_residual-requires c κs = (λ a m. absurd (not-mem-nil m), (λ a m. absurd (not-mem-nil m), λ a m. absurd (not-mem-nil m)))

pub deref-requires : goal.deref-requires
deref-requires c κs = (λ a m. absurd (not-mem-nil m), λ a m. absurd (not-mem-nil m))

pub deref-requires-2 : goal.deref-requires-2
deref-requires-2 c κs = (λ a m. absurd (not-mem-nil m), λ a m. absurd (not-mem-nil m))

pub branch-write_body-requires : goal.branch-write_body-requires
branch-write_body-requires c κs = (λ a m. absurd (not-mem-nil m), λ a m. absurd (not-mem-nil m))

pub from_residual-requires-in_err-write_body : goal.from_residual-requires-in_err-write_body
from_residual-requires-in_err-write_body c κs = (λ a m. absurd (not-mem-nil m), (λ a m. absurd (not-mem-nil m), λ a m. absurd (not-mem-nil m)))
