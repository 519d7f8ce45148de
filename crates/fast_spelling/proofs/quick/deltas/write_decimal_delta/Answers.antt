-- What the decimal is more than the entry holds is sent.
use Rattle.std.proofs.Common.{◌≡◌, [], ◌∷◌, ℕ, refl, ap, sym, subst}
use Rattle.std.specs.Prelude.{Bool, true, ◌-ℤ◌, if◌then◌else◌, Some, OnOk}
use Rattle.std.proofs.lemmas.List.{append-nil}
use Rattle.fast_value.specs.meaning.Kinds.{exponent_of, mantissa_of}
use Rattle.fast_value.specs.meaning.Values.{scalar_data}
use Rattle.fast_value.specs.declared.settings.Limits.{Limits}
use Rattle.fast_tree.specs.declared.instructions.FieldInstruction.{FieldInstruction}
use Rattle.fast_tree.specs.declared.operators.Operator.{Operator}
use Rattle.fast_tree.specs.meaning.Tree.{FieldData, operator_uses_bit}
use Rattle.fast_tree.specs.meaning.Nodes.{field_data}
use Rattle.fast_dict.specs.meaning.Dictionary.{previous_at}
use Rattle.fast_dict.specs.meaning.Operators.{decimal_delta}
use Rattle.fast_spelling.specs.device.Drafts.{SpellsPair}
use Rattle.fast_spelling.specs.device.Places.{field_there}
use Rattle.fast_spelling.specs.device.Fields.{IsSuited, Wrote}
use Rattle.fast_spelling.specs.meaning.Encoding.{EncodesField}
use Rattle.fast_spelling.proofs.rules.FieldsWritten.{field_done}
use Rattle.fast_spelling.proofs.rules.Usual.{held_sendable, decimal_delta_ruled}
use Rattle.fast_spelling.proofs.quick.deltas.write_decimal_delta.Goals as goal

pub returns-in_ok-keep-in-Some-clause-ok : goal.returns-in_ok-keep-in-Some-clause-ok
returns-in_ok-keep-in-Some-clause-ok c = λ l same.
    let f : FieldData = field_data (field_there c.args.at.place) in
    let d = c.args.ledger.now.now in
    let p = previous_at f.entry d in
    let v = scalar_data c.args.value in
    let b = scalar_data c.in-Some.held in
    let e = exponent_of v -ℤ exponent_of b in
    let m = mantissa_of v -ℤ mantissa_of b in
    let h = c.in_ok-write_decimals_apart-in-Some.ensures in
    let ruled = decimal_delta_ruled f p b v c.requires.operator c.in-Some.ensures.value c.requires.suited.0 c.requires.decimal in
    let s = c.requires.served in
    let sendable = held_sendable f p b v true (decimal_delta e m) c.args.ledger.now.max_text s.small s.usable.tail
    c.in-Some.ensures.value c.note_range.ensures c.in-Some.ensures.short c.requires.suited ruled in
    let spelled = subst (λ (n : Bool). SpellsPair n e m h.0) (sym c.args.at.same_nullable) h.2 in
    let suited = subst (λ (z : ℕ). IsSuited z f (Some v)) (sym same) c.requires.suited in
    let none = ap (λ (o : Operator). if operator_uses_bit o f.optional then true ∷ [] else []) (sym c.requires.operator) in (
      [],
      h.0,
      sym (append-nil c.args.draft.now.bits),
      h.1,
      field_done l f d p (Some v) true (decimal_delta e m) [] h.0 c.keep.new.ledger.now refl
          s.usable.tail suited ruled sendable spelled none c.in_ok-keep-in-Some.ensures.now,
    )

pub returns-in-None-clause-ok : goal.returns-in-None-clause-ok
returns-in-None-clause-ok c = subst (λ (g : FieldInstruction). OnOk c.write_chosen.result ((l : Limits) → l.max_text ≡ c.args.ledger.now.max_text
    → Wrote (EncodesField l (field_data g) c.args.ledger.now.now (Some (scalar_data c.args.value))) c.args.draft.now
    c.write_chosen.new.draft c.write_chosen.new.ledger.now)) c.field.ensures c.write_chosen.ensures.ok
