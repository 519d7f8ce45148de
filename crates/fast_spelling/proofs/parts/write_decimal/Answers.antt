-- The exponent is refused, or the mantissa is, or both are written.
use Rattle.std.proofs.Common.{◌≡◌, inl, inr, ℤ, sym, subst, ◌∙◌, rules, to_z, of_z}
use Rattle.std.specs.Prelude.{Some}
use Rattle.std.specs.Int.{w32, w64}
use Rattle.std.proofs.lemmas.Int.{to_z-of_z}
use Rattle.std.proofs.lemmas.Result.{err_from_is_err_and}
use mathlib.Core.List.{not-mem-nil}
use Rattle.fast_value.specs.declared.values.Value.{Value}
use Rattle.fast_value.specs.declared.settings.Limits.{Limits}
use Rattle.fast_value.specs.meaning.Kinds.{I}
use Rattle.fast_value.specs.meaning.Values.{value_data}
use Rattle.fast_value.specs.meaning.Messages.{one}
use Rattle.fast_tree.specs.meaning.Tree.{FieldData}
use Rattle.fast_tree.specs.meaning.Nodes.{field_data}
use Rattle.fast_spelling.specs.declared.faults.EncodeFault.{EncodeFault}
use Rattle.fast_spelling.specs.device.Drafts.{IsTold}
use Rattle.fast_spelling.specs.meaning.Encoding.{EncodesField, EncodesDecimal}
use Rattle.fast_spelling.specs.device.Fields.{Wrote}
use Rattle.fast_spelling.specs.meaning.Refusals.{RefusesField, RefusesDecimal}
use Rattle.fast_spelling.proofs.bytes.Spelling.{on_ok}
use Rattle.fast_spelling.proofs.encodings.Progress.{on_handed_on}
use Rattle.fast_spelling.proofs.encodings.Instructions.{told, told_at, wrote_twice}
use Rattle.fast_spelling.proofs.parts.write_decimal.Goals as goal

pub returns-in_err-write_exponent-in-Dec-clause-err : goal.returns-in_err-write_exponent-in-Dec-clause-err
returns-in_err-write_exponent-in-Dec-clause-err c =
    let e : FieldData = field_data c.args.exponent.now in
    let m : FieldData = field_data c.args.mantissa.now in
    let d = c.args.ledger.now.now in
    let x = c.in-Dec.e in
    let ex : to_z w64 (of_z w64 c.from.result) ≡ x = to_z-of_z w64 c.from.result (search rules) ∙ c.from.ensures ∙ to_z-of_z w32 x (search rules) in
    let p = err_from_is_err_and c.from_residual.result c.from_residual.ensures.1 in
    let Q = λ (f : EncodeFault). (l : Limits) → l.max_text ≡ c.args.ledger.now.max_text → RefusesDecimal l e m d (Some (one (value_data c.args.value.now))) f in
    let h = told_at (RefusesField e d (Some (I (to_z w64 (of_z w64 c.from.result))))) Q c.in_err-write_exponent-in-Dec.field-0.0
    c.in_err-write_exponent-in-Dec.ensures.err
    (λ g l same. subst (λ (v : Value). RefusesDecimal l e m d (Some (one (value_data v))) c.in_err-write_exponent-in-Dec.field-0.0)
    (sym c.in-Dec.is) (inl (subst (λ (n : ℤ). RefusesField e d (Some (I n)) c.in_err-write_exponent-in-Dec.field-0.0) ex g))) in
    rw p.1 (subst (IsTold Q) (sym p.2) h)

pub returns-in_ok-write_exponent-in-Dec-clause-ok : goal.returns-in_ok-write_exponent-in-Dec-clause-ok
returns-in_ok-write_exponent-in-Dec-clause-ok c = on_ok c.write_mantissa.result c.write_mantissa.ensures.ok (λ k l same.
    let e : FieldData = field_data c.args.exponent.now in
    let m : FieldData = field_data c.args.mantissa.now in
    let d = c.args.ledger.now.now in
    let x = c.in-Dec.e in
    let y = c.in-Dec.m in
    let ey : to_z w64 (of_z w64 y) ≡ y = to_z-of_z w64 y (search rules) in
    let ex : to_z w64 (of_z w64 c.from.result) ≡ x = to_z-of_z w64 c.from.result (search rules) ∙ c.from.ensures ∙ to_z-of_z w32 x (search rules) in
    let first = subst (λ (n : ℤ). Wrote (EncodesField l e d (Some (I n))) c.args.draft.now c.write_exponent.new.draft
    c.write_exponent.new.ledger.now) ex (c.in_ok-write_exponent-in-Dec.ensures.ok l same) in
    let second = subst (λ (n : ℤ). Wrote (EncodesField l m c.write_exponent.new.ledger.now (Some (I n))) c.write_exponent.new.draft
    c.write_mantissa.new.draft c.write_mantissa.new.ledger.now) ey (k l (same ∙ sym c.write_exponent.ensures.keeps.room)) in
    subst (λ (v : Value). Wrote (EncodesDecimal l e m d (Some (one (value_data v)))) c.args.draft.now c.write_mantissa.new.draft
    c.write_mantissa.new.ledger.now) (sym c.in-Dec.is)
    (wrote_twice e m l x y c.args.draft.now c.write_exponent.new.draft c.write_mantissa.new.draft d c.write_exponent.new.ledger.now
    c.write_mantissa.new.ledger.now first second))

pub returns-in_ok-write_exponent-in-Dec-clause-err : goal.returns-in_ok-write_exponent-in-Dec-clause-err
returns-in_ok-write_exponent-in-Dec-clause-err c = told c.write_mantissa.result c.write_mantissa.ensures.err (λ f h l same.
    let e : FieldData = field_data c.args.exponent.now in
    let m : FieldData = field_data c.args.mantissa.now in
    let d = c.args.ledger.now.now in
    let x = c.in-Dec.e in
    let y = c.in-Dec.m in
    let ey : to_z w64 (of_z w64 y) ≡ y = to_z-of_z w64 y (search rules) in
    let ex : to_z w64 (of_z w64 c.from.result) ≡ x = to_z-of_z w64 c.from.result (search rules) ∙ c.from.ensures ∙ to_z-of_z w32 x (search rules) in
    let first = subst (λ (n : ℤ). Wrote (EncodesField l e d (Some (I n))) c.args.draft.now c.write_exponent.new.draft
    c.write_exponent.new.ledger.now) ex (c.in_ok-write_exponent-in-Dec.ensures.ok l same) in
    subst (λ (v : Value). RefusesDecimal l e m d (Some (one (value_data v))) f) (sym c.in-Dec.is)
    (inr (first.0, first.1, c.write_exponent.new.ledger.now, first.4, subst (λ (n : ℤ). RefusesField m c.write_exponent.new.ledger.now (Some (I n)) f) ey h)))

pub branch-write_exponent-requires : goal.branch-write_exponent-requires
branch-write_exponent-requires c κs = (λ a m. absurd (not-mem-nil m), λ a m. absurd (not-mem-nil m))

pub from_residual-requires : goal.from_residual-requires
from_residual-requires c κs = (λ a m. absurd (not-mem-nil m), (λ a m. absurd (not-mem-nil m), λ a m. absurd (not-mem-nil m)))

pub returns-in_err-write_exponent-in-Dec-clause-ok : goal.returns-in_err-write_exponent-in-Dec-clause-ok
returns-in_err-write_exponent-in-Dec-clause-ok c = on_handed_on _ _ c.from_residual.result c.from_residual.ensures.1

pub write_exponent-requires-clause-served : goal.write_exponent-requires-clause-served
write_exponent-requires-clause-served c = c.requires.exponent

pub returns-in_err-write_exponent-in-Dec-clause-keeps : goal.returns-in_err-write_exponent-in-Dec-clause-keeps
returns-in_err-write_exponent-in-Dec-clause-keeps c = c.write_exponent.ensures.keeps

pub returns-in_ok-write_exponent-in-Dec-clause-keeps : goal.returns-in_ok-write_exponent-in-Dec-clause-keeps
returns-in_ok-write_exponent-in-Dec-clause-keeps c =
    let first = c.write_exponent.ensures.keeps in
    let second = c.write_mantissa.ensures.keeps in
    record { before = second.before ∙ first.before; room = second.room ∙ first.room; count = second.count ∙ first.count }
