-- The value of the field is what stands in the slot.
use Rattle.std.proofs.Common.{refl, subst, ℕ, ◌≤◌, length}
use Rattle.std.specs.Prelude.{Option, Some}
use Rattle.fast_value.specs.meaning.Kinds.{ScalarData, text_of}
use Rattle.fast_value.specs.meaning.Messages.{ItemData, one}
use Rattle.fast_value.specs.meaning.Values.{value_data, scalar_data}
use Rattle.fast_tree.specs.meaning.Tree.{field}
use Rattle.fast_template.specs.meaning.Flat.{nodes_of, field_data}
use Rattle.fast_spelling.specs.device.Places.{field_there}
use Rattle.fast_spelling.specs.device.Nodes.{instruction_in}
use Rattle.fast_spelling.specs.device.Fields.{Wrote}
use Rattle.fast_spelling.specs.meaning.Encoding.{EncodesField}
use Rattle.fast_spelling.proofs.bytes.Spelling.{on_ok}
use Rattle.fast_spelling.proofs.encodings.Instructions.{served, encodes_as, field_encodes}
use Rattle.fast_spelling.proofs.encodings.Progress.{keeps_all}
use Rattle.fast_spelling.proofs.limits.Checked.{on_any}
use Rattle.fast_spelling.proofs.limits.Tried.{suited_as, field_suits}
use Rattle.fast_spelling.proofs.checking.fields.try_default.Goals as goal

pub write_default-requires-clause-served : goal.write_default-requires-clause-served
write_default-requires-clause-served c =
    let k = c.known_at-at.ensures in
    served c.args.plan.now.templates.now c.args.plan.now.limits c.args.work.now.ledger
    (field_data (field_there c.known_at-at.result.place)) c.requires.ready k.usable k.initial

pub returns-clause-ok : goal.returns-clause-ok
returns-clause-ok c =
    let f = field_data (field_there c.known_at-at.result.place) in
    let at = c.known_at-at.ensures.instruction.0 in
    let l = c.args.plan.now.limits in
    let d = c.args.work.now.ledger.now in
    let old = c.args.work.now.draft in
    let new = c.write_default.new.draft in
    let after = c.write_default.new.ledger.now in
    let v = value_data c.args.value.now in
    let y : Option ItemData = Some (one v) in
    on_ok c.write_default.result c.write_default.ensures.ok
    (λ k. encodes_as l (instruction_in (nodes_of c.args.plan.now.templates.now) c.args.here.now.node)
    (field at f) y y d old new after c.known_at-at.ensures.instruction.1 refl
    (field_encodes l at f v d old new after (subst (λ (z : ScalarData). Wrote (EncodesField l f d (Some z)) old new after)
    c.in-Some.ensures.0 (k l c.requires.ready.room))))

pub known_at-at-requires-clause-node : goal.known_at-at-requires-clause-node
known_at-at-requires-clause-node c = c.requires.node

pub known_at-at-requires-clause-form : goal.known_at-at-requires-clause-form
known_at-at-requires-clause-form c = c.requires.form

pub returns-in_default-clause-keeps : goal.returns-in_default-clause-keeps
returns-in_default-clause-keeps c = keeps_all c.args.work.now.ledger

pub write_default-requires-clause-operator : goal.write_default-requires-clause-operator
write_default-requires-clause-operator c = c.known_at-at.ensures.operator

pub returns-clause-keeps : goal.returns-clause-keeps
returns-clause-keeps c = c.write_default.ensures.keeps

pub write_default-requires-clause-suited : goal.write_default-requires-clause-suited
write_default-requires-clause-suited c = suited_as c.args.work.now.ledger.max_text (field_data (field_there c.known_at-at.result.place)) c.args.kind
    (scalar_data c.in-Some.scalar) (value_data c.args.value.now) c.known_at-at.ensures.kind c.in-Some.ensures.0 c.in-Some.ensures.1
    (subst (λ (m : ℕ). length (text_of (value_data c.args.value.now)) ≤ m) c.requires.ready.room c.in-Some.ensures.2)

pub returns-clause-suits : goal.returns-clause-suits
returns-clause-suits c =
    let here = c.known_at-at.ensures.instruction in
    on_any c.write_default.result (field_suits (instruction_in (nodes_of c.args.plan.now.templates.now) c.args.here.now.node) here.0
    (field_data (field_there c.known_at-at.result.place)) c.args.kind
    (value_data c.args.value.now) here.1 c.known_at-at.ensures.kind c.in-Some.ensures.1)

pub returns-clause-fits : goal.returns-clause-fits
returns-clause-fits c = on_any c.write_default.result c.in-Some.ensures.2
