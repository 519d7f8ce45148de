-- What the value is more than the entry holds is sent.
use Rattle.std.proofs.Common.{[], ◌∷◌, refl, ap, sym, subst, ℕ}
use Rattle.std.specs.Prelude.{Bool, true, ◌-ℤ◌, if◌then◌else◌, Some}
use Rattle.std.proofs.lemmas.List.{append-nil}
use Rattle.fast_wire.specs.meaning.Shortest.{IsShortest}
use Rattle.fast_value.specs.meaning.Kinds.{integer_of}
use Rattle.fast_value.specs.meaning.Values.{scalar_data}
use Rattle.fast_tree.specs.declared.operators.Operator.{Operator}
use Rattle.fast_tree.specs.meaning.Tree.{FieldData, operator_uses_bit}
use Rattle.fast_tree.specs.meaning.Nodes.{field_data}
use Rattle.fast_dict.specs.meaning.Dictionary.{previous_at}
use Rattle.fast_dict.specs.meaning.Operators.{integer_delta}
use Rattle.fast_spelling.specs.device.Places.{field_there}
use Rattle.fast_spelling.specs.device.Fields.{IsSuited}
use Rattle.fast_spelling.proofs.rules.FieldsWritten.{field_done}
use Rattle.fast_spelling.proofs.rules.Usual.{held_sendable, delta_ruled}
use Rattle.fast_spelling.proofs.quick.operators.write_difference.Goals as goal

pub returns-in_ok-keep-in-Some-clause-ok : goal.returns-in_ok-keep-in-Some-clause-ok
returns-in_ok-keep-in-Some-clause-ok c = λ l same.
    let f : FieldData = field_data (field_there c.args.at.place) in
    let d = c.args.ledger.now.now in
    let p = previous_at f.entry d in
    let v = scalar_data c.args.value in
    let b = scalar_data c.in-Some.held in
    let h = c.in_ok-write_apart-in-Some.ensures in
    let ruled = delta_ruled f p b v c.requires.operator c.in-Some.ensures.value c.requires.suited.0 c.requires.number in
    let s = c.requires.served in
    let sendable = held_sendable f p b v true (integer_delta (integer_of v -ℤ integer_of b)) c.args.ledger.now.max_text s.small s.usable.tail
    c.in-Some.ensures.value c.note_range.ensures c.in-Some.ensures.short c.requires.suited ruled in
    let spelled = subst (λ (n : Bool). IsShortest true n (Some (integer_of v -ℤ integer_of b)) h.0) (sym c.args.at.same_nullable) h.2 in
    let suited = subst (λ (m : ℕ). IsSuited m f (Some v)) (sym same) c.requires.suited in
    let none = ap (λ (o : Operator). if operator_uses_bit o f.optional then true ∷ [] else []) (sym c.requires.operator) in (
      [],
      h.0,
      sym (append-nil c.args.draft.now.bits),
      h.1,
      field_done l f d p (Some v) true (integer_delta (integer_of v -ℤ integer_of b)) [] h.0 c.keep.new.ledger.now refl
          s.usable.tail suited ruled sendable spelled none c.in_ok-keep-in-Some.ensures.now,
    )
