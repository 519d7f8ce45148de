-- The item can be written.
use Rattle.std.proofs.Common.{sym, subst}
use Rattle.std.specs.Prelude.{option_map}
use Rattle.fast_value.specs.meaning.Values.{scalar_data}
use Rattle.fast_tree.specs.declared.instructions.FieldInstruction.{FieldInstruction}
use Rattle.fast_tree.specs.meaning.Tree.{FieldData}
use Rattle.fast_tree.specs.meaning.Nodes.{field_data}
use Rattle.fast_dict.specs.meaning.Dictionary.{PreviousData}
use Rattle.fast_dict.specs.meaning.Previous.{previous_data}
use Rattle.fast_dict.specs.meaning.Rule.{Rule}
use Rattle.fast_dict.specs.meaning.Sending.{sent_data}
use Rattle.fast_spelling.specs.device.Places.{field_there}
use Rattle.fast_spelling.specs.device.Drafts.{IsSendable}
use Rattle.fast_spelling.specs.device.Fields.{Wrote}
use Rattle.fast_spelling.specs.meaning.Encoding.{EncodesField}
use Rattle.fast_spelling.specs.meaning.Refusals.{RefusesField}
use Rattle.fast_spelling.proofs.bytes.Spelling.{on_ok}
use Rattle.fast_spelling.proofs.encodings.Instructions.{told}
use Rattle.fast_spelling.proofs.rules.FieldsWritten.{base_short}
use Rattle.fast_spelling.proofs.rules.Sendable.{rule_sendable}
use Rattle.fast_spelling.proofs.fields.write_chosen.Goals as goal

pub send-requires-clause-ruled : goal.send-requires-clause-ruled
send-requires-clause-ruled c =
    let v = option_map scalar_data c.args.value in
    let bit = c.in-Some.choice.bit in
    let x = sent_data c.in-Some.choice.item in
    let of_field = subst (λ (g : FieldInstruction). Rule (field_data g) (previous_data c.previous_of-previous.result) v bit x)
    (sym c.of-at.ensures) c.in-Some.ensures.some in
    subst (λ (p : PreviousData). Rule (field_data (field_there c.of-at.result.place)) p v bit x) c.previous_of-previous.ensures.value of_field

pub send-requires-clause-sendable : goal.send-requires-clause-sendable
send-requires-clause-sendable c =
    let f : FieldData = field_data c.args.field.now in
    let served = c.requires.served in
    subst (λ (g : FieldInstruction). IsSendable (field_data g) (sent_data c.in-Some.choice.item)) (sym c.of-at.ensures)
    (rule_sendable f (previous_data c.previous_of-previous.result) (option_map scalar_data c.args.value) c.in-Some.choice.bit
    (sent_data c.in-Some.choice.item) c.args.ledger.now.max_text served.small served.usable.tail
    (λ base e. record {
      narrow = c.note_base.ensures base e;
      short = base_short f (previous_data c.previous_of-previous.result) base c.args.ledger.now.max_text c.previous_of-previous.ensures.short served.initial e;
    })
    c.requires.suited c.in-Some.ensures.some)

pub returns-clause-ok : goal.returns-clause-ok
returns-clause-ok c = on_ok c.send.result c.send.ensures.ok (λ k l same.
    subst (λ (g : FieldInstruction). Wrote (EncodesField l (field_data g) c.args.ledger.now.now (option_map scalar_data c.args.value))
    c.args.draft.now c.send.new.draft c.send.new.ledger.now) c.of-at.ensures (k l same))

pub returns-clause-err : goal.returns-clause-err
returns-clause-err c = told c.send.result c.send.ensures.err (λ e h.
    subst (λ (g : FieldInstruction). RefusesField (field_data g) c.args.ledger.now.now (option_map scalar_data c.args.value) e) c.of-at.ensures h)
