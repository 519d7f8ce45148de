-- The value of the field is what stands in the slot.
use Rattle.std.proofs.Common.{refl, subst, ℕ, ◌≤◌, length}
use Rattle.std.specs.Prelude.{Option, Some}
use Rattle.fast_value.specs.meaning.Kinds.{ScalarData, text_of}
use Rattle.fast_value.specs.meaning.Messages.{ItemData, one}
use Rattle.fast_value.specs.meaning.Values.{value_data, scalar_data}
use Rattle.fast_tree.specs.meaning.Tree.{field}
use Rattle.fast_template.specs.meaning.Flat.{nodes_of, field_data}
use Rattle.fast_spelling.specs.device.Nodes.{instruction_in}
use Rattle.fast_spelling.specs.device.Fields.{Wrote}
use Rattle.fast_spelling.specs.meaning.Encoding.{EncodesField}
use Rattle.fast_spelling.proofs.bytes.Spelling.{on_ok}
use Rattle.fast_spelling.proofs.encodings.Instructions.{served, encodes_as, field_encodes}
use Rattle.fast_spelling.proofs.encodings.Progress.{keeps_all}
use Rattle.fast_spelling.proofs.limits.Checked.{on_any}
use Rattle.fast_spelling.proofs.limits.Tried.{suited_as, field_suits}
use Rattle.fast_spelling.proofs.checking.fields.try_chosen.Goals as goal

pub choose_value-requires-clause-served : goal.choose_value-requires-clause-served
choose_value-requires-clause-served c =
    let k = c.field_at-field.ensures in
    served c.args.plan.now.templates.now c.args.plan.now.limits c.args.work.now.ledger
    (field_data c.field_at-field.result.now) c.requires.ready k.usable k.initial

pub returns-clause-ok : goal.returns-clause-ok
returns-clause-ok c =
    let f = field_data c.field_at-field.result.now in
    let at = c.field_at-field.ensures.instruction.0 in
    let l = c.args.plan.now.limits in
    let d = c.args.work.now.ledger.now in
    let old = c.args.work.now.draft in
    let new = c.choose_value.new.draft in
    let after = c.choose_value.new.ledger.now in
    let v = value_data c.args.value.now in
    let y : Option ItemData = Some (one v) in
    on_ok c.choose_value.result c.choose_value.ensures.ok (λ k. encodes_as l
    (instruction_in (nodes_of c.args.plan.now.templates.now) c.args.here.now.node)
    (field at f) y y d old new after c.field_at-field.ensures.instruction.1 refl
    (field_encodes l at f v d old new after (subst (λ (z : ScalarData). Wrote (EncodesField l f d (Some z)) old new after)
    c.in-Some.ensures.0 (k l c.requires.ready.room))))

pub field_at-field-requires-clause-node : goal.field_at-field-requires-clause-node
field_at-field-requires-clause-node c = c.requires.node

pub field_at-field-requires-clause-form : goal.field_at-field-requires-clause-form
field_at-field-requires-clause-form c = c.requires.form

pub returns-in_default-clause-keeps : goal.returns-in_default-clause-keeps
returns-in_default-clause-keeps c = keeps_all c.args.work.now.ledger

pub returns-clause-keeps : goal.returns-clause-keeps
returns-clause-keeps c = c.choose_value.ensures.keeps

pub choose_value-requires-clause-suited : goal.choose_value-requires-clause-suited
choose_value-requires-clause-suited c = suited_as c.args.work.now.ledger.max_text (field_data c.field_at-field.result.now) c.args.kind
    (scalar_data c.in-Some.scalar) (value_data c.args.value.now) c.field_at-field.ensures.kind c.in-Some.ensures.0 c.in-Some.ensures.1
    (subst (λ (m : ℕ). length (text_of (value_data c.args.value.now)) ≤ m) c.requires.ready.room c.in-Some.ensures.2)

pub returns-clause-suits : goal.returns-clause-suits
returns-clause-suits c =
    let here = c.field_at-field.ensures.instruction in
    on_any c.choose_value.result (field_suits (instruction_in (nodes_of c.args.plan.now.templates.now) c.args.here.now.node) here.0
    (field_data c.field_at-field.result.now) c.args.kind
    (value_data c.args.value.now) here.1 c.field_at-field.ensures.kind c.in-Some.ensures.1)

pub returns-clause-fits : goal.returns-clause-fits
returns-clause-fits c = on_any c.choose_value.result c.in-Some.ensures.2
