-- A whole message, by its parts: it suits and fits as they do.
use Rattle.std.proofs.Common.{ℕ, List, refl, ap, subst, ◌≤◌, arith}
use mathlib.Core.List.{not-mem-nil}
use Rattle.fast_value.specs.meaning.Messages.{Slots, total}
use Rattle.fast_value.specs.meaning.Views.{message_data, slots_data}
use Rattle.fast_tree.specs.meaning.Nodes.{body_among}
use Rattle.fast_template.specs.meaning.Flat.{nodes_of, tree_of}
use Rattle.fast_spelling.specs.meaning.Encoding.{EncodesBody}
use Rattle.fast_spelling.specs.device.Fields.{Wrote}
use Rattle.fast_spelling.specs.meaning.Suiting.{SuitsBody, SuitsTemplate, FitsLimits}
use Rattle.fast_spelling.proofs.bytes.Spelling.{on_ok}
use Rattle.fast_spelling.proofs.limits.Checked.{on_any}
use Rattle.fast_spelling.proofs.encodings.Whole.{template_suits, message_made}
use Rattle.fast_spelling.proofs.encodings.Progress.{keeps_all, keeps_on, ready_kept}
use Rattle.fast_spelling.proofs.checking.try_message.Goals as goal

suited : (c : goal.After-finish) → SuitsTemplate (tree_of c.args.plan.now.templates.now) (message_data c.args.message.now)
suited c = template_suits c.args.plan.now.templates.now (message_data c.args.message.now) c.template-template.result.now c.template-template.ensures.found
    (subst (λ (vs : Slots). SuitsBody (body_among (nodes_of c.args.plan.now.templates.now) c.template-template.result.now.body.items) vs)
    (ap slots_data c.deref-2.ensures.value)
    (subst (λ (ns : List ℕ). SuitsBody (body_among (nodes_of c.args.plan.now.templates.now) ns) (slots_data c.deref-2.result.now))
    c.deref.ensures.value (c.if-not-try_body.ensures.suits refl)))

pub returns-clause-suits : goal.returns-clause-suits
returns-clause-suits c = on_any c.finish.result (suited c)

fitted : (c : goal.After-finish) → FitsLimits c.args.plan.now.limits (slots_data c.args.message.now.items.items)
fitted c =
    let k = c.if-not-try_body.ensures.fits refl in
    let sum = k.1 in
    let few : total (slots_data c.deref-2.result.now) ≤ c.args.plan.now.limits.max_total = omega (arith, sum) in
    subst (λ (vs : Slots). FitsLimits c.args.plan.now.limits vs) (ap slots_data c.deref-2.ensures.value) (k.0, few)

pub returns-clause-fits : goal.returns-clause-fits
returns-clause-fits c = on_any c.finish.result (fitted c)

-- what the body has written, by the message's own names
body_wrote : (c : goal.After-finish) → Wrote (EncodesBody c.args.plan.now.limits
    (body_among (nodes_of c.args.plan.now.templates.now) c.template-template.result.now.body.items) c.reset_if.new.ledger.now
    (slots_data c.args.message.now.items.items)) c.write_identifier.new.draft c.try_body.new.work.draft c.try_body.new.work.ledger.now
body_wrote c =
    subst (λ (vs : Slots). Wrote (EncodesBody c.args.plan.now.limits
    (body_among (nodes_of c.args.plan.now.templates.now) c.template-template.result.now.body.items) c.reset_if.new.ledger.now vs)
    c.write_identifier.new.draft c.try_body.new.work.draft c.try_body.new.work.ledger.now) (ap slots_data c.deref-2.ensures.value)
    (subst (λ (ns : List ℕ). Wrote (EncodesBody c.args.plan.now.limits
    (body_among (nodes_of c.args.plan.now.templates.now) ns) c.reset_if.new.ledger.now (slots_data c.deref-2.result.now))
    c.write_identifier.new.draft c.try_body.new.work.draft c.try_body.new.work.ledger.now) c.deref.ensures.value
    (c.if-not-try_body.ensures.ok refl))

pub returns-clause-ok : goal.returns-clause-ok
returns-clause-ok c = on_ok c.finish.result c.finish.ensures
    (message_made c.args.plan.now.templates.now c.args.plan.now.limits c.args.work.now.ledger.now c.write_identifier.new.ledger.now
    c.reset_if.new.ledger.now c.try_body.new.work.ledger.now (message_data c.args.message.now) c.args.id c.template-template.result.now
    c.begin.new.self c.write_identifier.new.draft c.try_body.new.work.draft c.finish.new.self.bytes.items
    c.template-template.ensures.found c.requires.known c.in_ok-begin.ensures.bits c.in_ok-begin.ensures.bytes
    c.in_ok-write_identifier.ensures.ok c.reset_if.ensures.now (body_wrote c))

pub returns-in_err-begin-clause-keeps : goal.returns-in_err-begin-clause-keeps
returns-in_err-begin-clause-keeps c = keeps_all c.args.work.now.ledger

pub write_identifier-requires : goal.write_identifier-requires
write_identifier-requires c = record { ready = c.requires.ready }

pub returns-in_err-write_identifier-clause-keeps : goal.returns-in_err-write_identifier-clause-keeps
returns-in_err-write_identifier-clause-keeps c = c.write_identifier.ensures.keeps

pub try_body-requires-clause-ready : goal.try_body-requires-clause-ready
try_body-requires-clause-ready c = ready_kept c.args.plan.now.templates.now c.args.plan.now.limits c.args.work.now.ledger
    c.reset_if.new.ledger c.requires.ready (keeps_on c.args.work.now.ledger c.write_identifier.new.ledger c.reset_if.new.ledger
    c.write_identifier.ensures.keeps c.reset_if.ensures.keeps)

pub returns-then-not-try_body-clause-keeps : goal.returns-then-not-try_body-clause-keeps
returns-then-not-try_body-clause-keeps c = keeps_on c.args.work.now.ledger c.reset_if.new.ledger c.try_body.new.work.ledger
    (keeps_on c.args.work.now.ledger c.write_identifier.new.ledger c.reset_if.new.ledger c.write_identifier.ensures.keeps
    c.reset_if.ensures.keeps) c.try_body.ensures.keeps

pub returns-clause-keeps : goal.returns-clause-keeps
returns-clause-keeps c = keeps_on c.args.work.now.ledger c.reset_if.new.ledger c.try_body.new.work.ledger
    (keeps_on c.args.work.now.ledger c.write_identifier.new.ledger c.reset_if.new.ledger c.write_identifier.ensures.keeps
    c.reset_if.ensures.keeps) c.try_body.ensures.keeps

pub branch-begin-requires : goal.branch-begin-requires
branch-begin-requires c κs = (λ a m. absurd (not-mem-nil m), λ a m. absurd (not-mem-nil m))

pub from_residual-requires : goal.from_residual-requires
from_residual-requires c κs = (λ a m. absurd (not-mem-nil m), (λ a m. absurd (not-mem-nil m), λ a m. absurd (not-mem-nil m)))

pub branch-write_identifier-requires : goal.branch-write_identifier-requires
branch-write_identifier-requires c κs = (λ a m. absurd (not-mem-nil m), λ a m. absurd (not-mem-nil m))

pub from_residual-requires-in_err-write_identifier : goal.from_residual-requires-in_err-write_identifier
from_residual-requires-in_err-write_identifier c κs = (λ a m. absurd (not-mem-nil m), (λ a m. absurd (not-mem-nil m), λ a m. absurd (not-mem-nil m)))

pub deref-requires : goal.deref-requires
deref-requires c κs = (λ a m. absurd (not-mem-nil m), λ a m. absurd (not-mem-nil m))

pub deref-requires-2 : goal.deref-requires-2
deref-requires-2 c κs = (λ a m. absurd (not-mem-nil m), λ a m. absurd (not-mem-nil m))
