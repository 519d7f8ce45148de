-- What the entry holds is not sent, and of another text its tail.
use Rattle.std.proofs.Common.{◌≡◌, ℕ, List, [], ◌∷◌, refl, ap, sym, subst, ◌∙◌}
use Rattle.std.specs.Prelude.{true, false, Some, OnOk, IfErr}
use Rattle.std.proofs.lemmas.List.{append-nil}
use Rattle.fast_value.specs.declared.kinds.Kind.{Kind}
use Rattle.fast_value.specs.meaning.Kinds.{ScalarData, text_of, value_of_text}
use Rattle.fast_value.specs.meaning.Values.{scalar_data}
use Rattle.fast_value.specs.declared.settings.Limits.{Limits}
use Rattle.fast_tree.specs.declared.instructions.FieldInstruction.{FieldInstruction}
use Rattle.fast_tree.specs.meaning.Nodes.{field_data}
use Rattle.fast_dict.specs.meaning.Dictionary.{assigned, previous_at}
use Rattle.fast_dict.specs.meaning.Operators.{value}
use Rattle.fast_dict.specs.meaning.Rule.{Rule, IsTail}
use Rattle.fast_spelling.specs.device.Places.{field_there}
use Rattle.fast_spelling.specs.device.Fields.{IsServed, IsSuited, Wrote}
use Rattle.fast_spelling.specs.meaning.Encoding.{EncodesField}
use Rattle.fast_spelling.specs.meaning.Refusals.{RefusesField}
use Rattle.fast_spelling.specs.device.Drafts.{IsTold}
use Rattle.fast_spelling.proofs.rules.Usual.{held_sendable, tail_other, tail_passed}
use Rattle.fast_spelling.proofs.encodings.Progress.{keeps_all}
use Rattle.fast_spelling.proofs.quick.deltas.write_tail.Goals as goal

pub send-requires-clause-ruled : goal.send-requires-clause-ruled
send-requires-clause-ruled c =
    let f = field_data (field_there c.args.at.place) in
    let v = scalar_data c.args.value in
    let u = scalar_data c.in-Some.held in
    let part = c.in-Some-tail_of.part.now in
    let bases : IsTail c.text_of.result.now c.text_of-in-Some-2.result.now part = c.in-Some-tail_of.ensures.some in
    let tail : IsTail (text_of u) (text_of v) part = subst (λ (b : List ℕ). IsTail b (text_of v) part) c.text_of.ensures
    (subst (λ (t : List ℕ). IsTail c.text_of.result.now t part) c.text_of-in-Some-2.ensures bases) in
    let sent : scalar_data c.text_value.result ≡ value_of_text f.kind part = c.text_value.ensures
    ∙ ap (λ (k : Kind). value_of_text k part) (sym c.args.at.same_kind) in
    subst (λ (x : ScalarData). Rule f (previous_at f.entry c.args.ledger.now.now) (Some v) true (value x)) (sym sent)
    (tail_other f (previous_at f.entry c.args.ledger.now.now) u v part c.requires.operator c.in-Some.ensures.value
    (λ same. let clash : false ≡ true = c.if-is_same.ensures.1 same in absurd (cc clash)) tail)

pub send-requires-clause-sendable : goal.send-requires-clause-sendable
send-requires-clause-sendable c =
    let f = field_data (field_there c.args.at.place) in
    let v = scalar_data c.args.value in
    let s = c.requires.served in
    held_sendable f (previous_at f.entry c.args.ledger.now.now) (scalar_data c.in-Some.held) v true
    (value (scalar_data c.text_value.result)) c.args.ledger.now.max_text s.small s.usable.tail c.in-Some.ensures.value
    c.note_range.ensures c.in-Some.ensures.short c.requires.suited (send-requires-clause-ruled c)

pub returns-in_ok-push_bit-in-Some-clause-ok : goal.returns-in_ok-push_bit-in-Some-clause-ok
returns-in_ok-push_bit-in-Some-clause-ok c = λ l same.
    let f = field_data (field_there c.args.at.place) in
    let v = scalar_data c.args.value in (
      false ∷ [],
      [],
      c.in_ok-push_bit-in-Some.ensures.bits,
      c.push_bit.ensures.bytes ∙ sym (append-nil c.args.draft.now.bytes.items),
      tail_passed l f c.args.ledger.now.now v c.requires.operator c.requires.served.usable.tail
          (subst (λ (m : ℕ). IsSuited m f (Some v)) (sym same) c.requires.suited)
          (c.in-Some.ensures.value ∙ ap (assigned f.kind) (c.if-is_same.ensures.0 refl)),
    )

pub held_in-requires : goal.held_in-requires
held_in-requires c = c.requires.served

pub write_chosen-requires-clause-served : goal.write_chosen-requires-clause-served
write_chosen-requires-clause-served c = subst (λ (g : FieldInstruction). IsServed c.args.ledger.now (field_data g)) (sym c.field.ensures) c.requires.served

pub write_chosen-requires-clause-suited : goal.write_chosen-requires-clause-suited
write_chosen-requires-clause-suited c = subst (λ (g : FieldInstruction). IsSuited c.args.ledger.now.max_text (field_data g) (Some (scalar_data c.args.value)))
    (sym c.field.ensures) c.requires.suited

pub write_chosen-requires-in_default-clause-served : goal.write_chosen-requires-in_default-clause-served
write_chosen-requires-in_default-clause-served c = subst (λ (g : FieldInstruction). IsServed c.args.ledger.now (field_data g))
    (sym c.field-in_default.ensures) c.requires.served

pub write_chosen-requires-in_default-clause-suited : goal.write_chosen-requires-in_default-clause-suited
write_chosen-requires-in_default-clause-suited c = subst (λ (g : FieldInstruction). IsSuited c.args.ledger.now.max_text (field_data g)
    (Some (scalar_data c.args.value))) (sym c.field-in_default.ensures) c.requires.suited

pub send-requires-clause-operator : goal.send-requires-clause-operator
send-requires-clause-operator c = c.requires.operator

pub send-requires-clause-served : goal.send-requires-clause-served
send-requires-clause-served c = c.requires.served

pub send-requires-clause-suited : goal.send-requires-clause-suited
send-requires-clause-suited c = c.requires.suited

pub returns-in_err-push_bit-in-Some-clause-keeps : goal.returns-in_err-push_bit-in-Some-clause-keeps
returns-in_err-push_bit-in-Some-clause-keeps c = keeps_all c.args.ledger.now

pub returns-in_ok-push_bit-in-Some-clause-keeps : goal.returns-in_ok-push_bit-in-Some-clause-keeps
returns-in_ok-push_bit-in-Some-clause-keeps c = keeps_all c.args.ledger.now

pub returns-in_default-clause-ok : goal.returns-in_default-clause-ok
returns-in_default-clause-ok c = subst (λ (g : FieldInstruction). OnOk c.write_chosen-in_default.result ((l : Limits) → l.max_text ≡ c.args.ledger.now.max_text
    → Wrote (EncodesField l (field_data g) c.args.ledger.now.now (Some (scalar_data c.args.value))) c.args.draft.now
    c.write_chosen-in_default.new.draft c.write_chosen-in_default.new.ledger.now)) c.field-in_default.ensures c.write_chosen-in_default.ensures.ok

pub returns-in_default-clause-err : goal.returns-in_default-clause-err
returns-in_default-clause-err c = subst (λ (g : FieldInstruction). IfErr c.write_chosen-in_default.result
    (IsTold (RefusesField (field_data g) c.args.ledger.now.now (Some (scalar_data c.args.value))))) c.field-in_default.ensures
    c.write_chosen-in_default.ensures.err

pub returns-in_default-clause-keeps : goal.returns-in_default-clause-keeps
returns-in_default-clause-keeps c = record {
  before = c.write_chosen-in_default.ensures.before;
  room = c.write_chosen-in_default.ensures.max_text;
  count = c.write_chosen-in_default.ensures.length;
}

pub returns-in-None-clause-ok : goal.returns-in-None-clause-ok
returns-in-None-clause-ok c = subst (λ (g : FieldInstruction). OnOk c.write_chosen.result ((l : Limits) → l.max_text ≡ c.args.ledger.now.max_text
    → Wrote (EncodesField l (field_data g) c.args.ledger.now.now (Some (scalar_data c.args.value))) c.args.draft.now
    c.write_chosen.new.draft c.write_chosen.new.ledger.now)) c.field.ensures c.write_chosen.ensures.ok

pub returns-in-None-clause-err : goal.returns-in-None-clause-err
returns-in-None-clause-err c = subst (λ (g : FieldInstruction). IfErr c.write_chosen.result
    (IsTold (RefusesField (field_data g) c.args.ledger.now.now (Some (scalar_data c.args.value))))) c.field.ensures c.write_chosen.ensures.err

pub returns-in-None-clause-keeps : goal.returns-in-None-clause-keeps
returns-in-None-clause-keeps c = record {
  before = c.write_chosen.ensures.before;
  room = c.write_chosen.ensures.max_text;
  count = c.write_chosen.ensures.length;
}

pub returns-in-Some-tail_of-clause-ok : goal.returns-in-Some-tail_of-clause-ok
returns-in-Some-tail_of-clause-ok c = c.send.ensures.ok

pub returns-in-Some-tail_of-clause-err : goal.returns-in-Some-tail_of-clause-err
returns-in-Some-tail_of-clause-err c = c.send.ensures.err

pub returns-in-Some-tail_of-clause-keeps : goal.returns-in-Some-tail_of-clause-keeps
returns-in-Some-tail_of-clause-keeps c = record { before = c.send.ensures.before; room = c.send.ensures.max_text; count = c.send.ensures.length }
