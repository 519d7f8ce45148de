-- The field is handed on with what is known of it.
use Rattle.std.proofs.Common.{subst, sym, ap, ◌∙◌}
use Rattle.std.specs.Prelude.{Some, IfErr}
use Rattle.fast_value.specs.meaning.Kinds.{ByteVector}
use Rattle.fast_tree.specs.declared.instructions.FieldInstruction.{FieldInstruction}
use Rattle.fast_tree.specs.meaning.Nodes.{field_data}
use Rattle.fast_spelling.specs.meaning.Encoding.{EncodesField}
use Rattle.fast_spelling.specs.device.Fields.{Wrote, IsServed, IsSuited}
use Rattle.fast_spelling.proofs.bytes.Spelling.{on_ok}
use Rattle.fast_spelling.specs.device.Drafts.{IsTold}
use Rattle.fast_spelling.specs.meaning.Refusals.{RefusesField}
use Rattle.fast_spelling.proofs.quick.choices.choose_bytes.Goals as goal

pub returns-in-Tail-clause-ok : goal.returns-in-Tail-clause-ok
returns-in-Tail-clause-ok c = on_ok c.write_tail.result c.write_tail.ensures.ok (λ k l same.
    subst (λ (g : FieldInstruction). Wrote (EncodesField l (field_data g) c.args.ledger.now.now (Some (ByteVector c.args.text.now)))
    c.args.draft.now c.write_tail.new.draft c.write_tail.new.ledger.now) c.of.ensures (k l same))

pub returns-in-Delta-clause-ok : goal.returns-in-Delta-clause-ok
returns-in-Delta-clause-ok c = on_ok c.write_text_delta.result c.write_text_delta.ensures.ok (λ k l same.
    subst (λ (g : FieldInstruction). Wrote (EncodesField l (field_data g) c.args.ledger.now.now (Some (ByteVector c.args.text.now)))
    c.args.draft.now c.write_text_delta.new.draft c.write_text_delta.new.ledger.now) c.of-in-Delta.ensures (k l same))

pub write_tail-requires-clause-operator : goal.write_tail-requires-clause-operator
write_tail-requires-clause-operator c = ap (λ (g : FieldInstruction). g.operator) c.of.ensures ∙ c.in-Tail.is

pub write_tail-requires-clause-served : goal.write_tail-requires-clause-served
write_tail-requires-clause-served c = subst (λ (g : FieldInstruction). IsServed c.args.ledger.now (field_data g)) (sym c.of.ensures) c.requires.served

pub write_tail-requires-clause-suited : goal.write_tail-requires-clause-suited
write_tail-requires-clause-suited c = subst (λ (g : FieldInstruction). IsSuited c.args.ledger.now.max_text (field_data g)
    (Some (ByteVector c.args.text.now))) (sym c.of.ensures) c.requires.suited

pub returns-in-Tail-clause-err : goal.returns-in-Tail-clause-err
returns-in-Tail-clause-err c = subst (λ (g : FieldInstruction). IfErr c.write_tail.result
    (IsTold (RefusesField (field_data g) c.args.ledger.now.now (Some (ByteVector c.args.text.now))))) c.of.ensures c.write_tail.ensures.err

pub returns-in-Tail-clause-keeps : goal.returns-in-Tail-clause-keeps
returns-in-Tail-clause-keeps c = c.write_tail.ensures.keeps

pub write_text_delta-requires-clause-operator : goal.write_text_delta-requires-clause-operator
write_text_delta-requires-clause-operator c = ap (λ (g : FieldInstruction). g.operator) c.of-in-Delta.ensures ∙ c.in-Delta.is

pub write_text_delta-requires-clause-served : goal.write_text_delta-requires-clause-served
write_text_delta-requires-clause-served c = subst (λ (g : FieldInstruction). IsServed c.args.ledger.now (field_data g))
    (sym c.of-in-Delta.ensures) c.requires.served

pub write_text_delta-requires-clause-suited : goal.write_text_delta-requires-clause-suited
write_text_delta-requires-clause-suited c = subst (λ (g : FieldInstruction). IsSuited c.args.ledger.now.max_text (field_data g)
    (Some (ByteVector c.args.text.now))) (sym c.of-in-Delta.ensures) c.requires.suited

pub returns-in-Delta-clause-err : goal.returns-in-Delta-clause-err
returns-in-Delta-clause-err c = subst (λ (g : FieldInstruction). IfErr c.write_text_delta.result
    (IsTold (RefusesField (field_data g) c.args.ledger.now.now (Some (ByteVector c.args.text.now))))) c.of-in-Delta.ensures
    c.write_text_delta.ensures.err

pub returns-in-Delta-clause-keeps : goal.returns-in-Delta-clause-keeps
returns-in-Delta-clause-keeps c = c.write_text_delta.ensures.keeps

pub returns-in_default : goal.returns-in_default
returns-in_default c = record {
  ok = c.write_chosen.ensures.ok;
  err = c.write_chosen.ensures.err;
  keeps = record { before = c.write_chosen.ensures.before; room = c.write_chosen.ensures.max_text; count = c.write_chosen.ensures.length };
}
