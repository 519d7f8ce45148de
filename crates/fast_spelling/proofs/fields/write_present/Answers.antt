-- A value is handed on in its parts.
use Rattle.std.proofs.Common.{◌≡◌, ℤ, ap, sym, subst, ◌∙◌, rules, to_z, of_z}
use Rattle.std.specs.Prelude.{Some, IfErr}
use Rattle.std.specs.Int.{w32, w64}
use Rattle.std.proofs.lemmas.Int.{to_z-of_z}
use Rattle.fast_value.specs.meaning.Kinds.{ScalarData, I, Dec}
use Rattle.fast_value.specs.meaning.Values.{scalar_data}
use Rattle.fast_tree.specs.meaning.Nodes.{field_data}
use Rattle.fast_spelling.specs.meaning.Encoding.{EncodesField}
use Rattle.fast_spelling.specs.device.Fields.{Wrote, IsSuited}
use Rattle.fast_spelling.specs.meaning.Refusals.{RefusesField}
use Rattle.fast_spelling.proofs.bytes.Spelling.{on_ok}
use Rattle.fast_spelling.proofs.encodings.Instructions.{told}
use Rattle.fast_value.specs.declared.values.Scalar.{Scalar}
use Rattle.fast_spelling.specs.device.Drafts.{IsTold}
use Rattle.fast_spelling.proofs.fields.write_present.Goals as goal

pub returns-in-U-clause-ok : goal.returns-in-U-clause-ok
returns-in-U-clause-ok c = on_ok c.write_unsigned.result c.write_unsigned.ensures.ok (λ k l same.
    subst (λ (v : ScalarData). Wrote (EncodesField l (field_data c.args.field.now) c.args.ledger.now.now (Some v)) c.args.draft.now
    c.write_unsigned.new.draft c.write_unsigned.new.ledger.now) (sym (ap scalar_data c.in-U.is)) (k l same))

pub returns-in-I-clause-ok : goal.returns-in-I-clause-ok
returns-in-I-clause-ok c = on_ok c.write_signed.result c.write_signed.ensures.ok (λ k l same.
    let number : to_z w64 (of_z w64 c.in-I.number) ≡ c.in-I.number = to_z-of_z w64 c.in-I.number (search rules) in
    let is : scalar_data c.args.value ≡ I (to_z w64 (of_z w64 c.in-I.number)) = ap scalar_data c.in-I.is ∙ ap I (sym number) in
    subst (λ (v : ScalarData). Wrote (EncodesField l (field_data c.args.field.now) c.args.ledger.now.now (Some v)) c.args.draft.now
    c.write_signed.new.draft c.write_signed.new.ledger.now) (sym is) (k l same))

pub returns-in-I-clause-err : goal.returns-in-I-clause-err
returns-in-I-clause-err c = told c.write_signed.result c.write_signed.ensures.err (λ f h.
    let number : to_z w64 (of_z w64 c.in-I.number) ≡ c.in-I.number = to_z-of_z w64 c.in-I.number (search rules) in
    let is : scalar_data c.args.value ≡ I (to_z w64 (of_z w64 c.in-I.number)) = ap scalar_data c.in-I.is ∙ ap I (sym number) in
    subst (λ (v : ScalarData). RefusesField (field_data c.args.field.now) c.args.ledger.now.now (Some v) f) (sym is) h)

pub returns-in-Dec-clause-ok : goal.returns-in-Dec-clause-ok
returns-in-Dec-clause-ok c = on_ok c.write_whole_decimal.result c.write_whole_decimal.ensures.ok (λ k l same.
    let e : to_z w32 (of_z w32 c.in-Dec.exponent) ≡ c.in-Dec.exponent = to_z-of_z w32 c.in-Dec.exponent (search rules) in
    let m : to_z w64 (of_z w64 c.in-Dec.mantissa) ≡ c.in-Dec.mantissa = to_z-of_z w64 c.in-Dec.mantissa (search rules) in
    let is : scalar_data c.args.value ≡ Dec (to_z w32 (of_z w32 c.in-Dec.exponent)) (to_z w64 (of_z w64 c.in-Dec.mantissa)) =
    ap scalar_data c.in-Dec.is ∙ ap (λ (z : ℤ). Dec z c.in-Dec.mantissa) (sym e)
    ∙ ap (Dec (to_z w32 (of_z w32 c.in-Dec.exponent))) (sym m) in
    subst (λ (v : ScalarData). Wrote (EncodesField l (field_data c.args.field.now) c.args.ledger.now.now (Some v)) c.args.draft.now
    c.write_whole_decimal.new.draft c.write_whole_decimal.new.ledger.now) (sym is) (k l same))

pub returns-in-Dec-clause-err : goal.returns-in-Dec-clause-err
returns-in-Dec-clause-err c = told c.write_whole_decimal.result c.write_whole_decimal.ensures.err (λ f h.
    let e : to_z w32 (of_z w32 c.in-Dec.exponent) ≡ c.in-Dec.exponent = to_z-of_z w32 c.in-Dec.exponent (search rules) in
    let m : to_z w64 (of_z w64 c.in-Dec.mantissa) ≡ c.in-Dec.mantissa = to_z-of_z w64 c.in-Dec.mantissa (search rules) in
    let is : scalar_data c.args.value ≡ Dec (to_z w32 (of_z w32 c.in-Dec.exponent)) (to_z w64 (of_z w64 c.in-Dec.mantissa)) =
    ap scalar_data c.in-Dec.is ∙ ap (λ (z : ℤ). Dec z c.in-Dec.mantissa) (sym e)
    ∙ ap (Dec (to_z w32 (of_z w32 c.in-Dec.exponent))) (sym m) in
    subst (λ (v : ScalarData). RefusesField (field_data c.args.field.now) c.args.ledger.now.now (Some v) f) (sym is) h)

pub returns-in-Ascii-clause-ok : goal.returns-in-Ascii-clause-ok
returns-in-Ascii-clause-ok c = on_ok c.write_ascii.result c.write_ascii.ensures.ok (λ k l same.
    subst (λ (v : ScalarData). Wrote (EncodesField l (field_data c.args.field.now) c.args.ledger.now.now (Some v)) c.args.draft.now
    c.write_ascii.new.draft c.write_ascii.new.ledger.now) (sym (ap scalar_data c.in-Ascii.is)) (k l same))

pub returns-in-Unicode-clause-ok : goal.returns-in-Unicode-clause-ok
returns-in-Unicode-clause-ok c = on_ok c.write_unicode.result c.write_unicode.ensures.ok (λ k l same.
    subst (λ (v : ScalarData). Wrote (EncodesField l (field_data c.args.field.now) c.args.ledger.now.now (Some v)) c.args.draft.now
    c.write_unicode.new.draft c.write_unicode.new.ledger.now) (sym (ap scalar_data c.in-Unicode.is)) (k l same))

pub returns-in-Bytes-clause-ok : goal.returns-in-Bytes-clause-ok
returns-in-Bytes-clause-ok c = on_ok c.write_bytes.result c.write_bytes.ensures.ok (λ k l same.
    subst (λ (v : ScalarData). Wrote (EncodesField l (field_data c.args.field.now) c.args.ledger.now.now (Some v)) c.args.draft.now
    c.write_bytes.new.draft c.write_bytes.new.ledger.now) (sym (ap scalar_data c.in-Bytes.is)) (k l same))

pub write_unsigned-requires-clause-served : goal.write_unsigned-requires-clause-served
write_unsigned-requires-clause-served c = c.requires.served

pub write_unsigned-requires-clause-suited : goal.write_unsigned-requires-clause-suited
write_unsigned-requires-clause-suited c = subst (λ (v : Scalar). IsSuited c.args.ledger.now.max_text (field_data c.args.field.now)
    (Some (scalar_data v))) c.in-U.is c.requires.suited

pub returns-in-U-clause-err : goal.returns-in-U-clause-err
returns-in-U-clause-err c = subst (λ (v : Scalar). IfErr c.write_unsigned.result
    (IsTold (RefusesField (field_data c.args.field.now) c.args.ledger.now.now (Some (scalar_data v)))))
    (sym c.in-U.is) c.write_unsigned.ensures.err

pub returns-in-U-clause-keeps : goal.returns-in-U-clause-keeps
returns-in-U-clause-keeps c = c.write_unsigned.ensures.keeps

pub write_signed-requires-clause-served : goal.write_signed-requires-clause-served
write_signed-requires-clause-served c = c.requires.served

pub returns-in-I-clause-keeps : goal.returns-in-I-clause-keeps
returns-in-I-clause-keeps c = c.write_signed.ensures.keeps

pub write_whole_decimal-requires-clause-served : goal.write_whole_decimal-requires-clause-served
write_whole_decimal-requires-clause-served c = c.requires.served

pub returns-in-Dec-clause-keeps : goal.returns-in-Dec-clause-keeps
returns-in-Dec-clause-keeps c = c.write_whole_decimal.ensures.keeps

pub write_ascii-requires-clause-served : goal.write_ascii-requires-clause-served
write_ascii-requires-clause-served c = c.requires.served

pub write_ascii-requires-clause-suited : goal.write_ascii-requires-clause-suited
write_ascii-requires-clause-suited c = subst (λ (v : Scalar). IsSuited c.args.ledger.now.max_text (field_data c.args.field.now)
    (Some (scalar_data v))) c.in-Ascii.is c.requires.suited

pub returns-in-Ascii-clause-err : goal.returns-in-Ascii-clause-err
returns-in-Ascii-clause-err c = subst (λ (v : Scalar). IfErr c.write_ascii.result
    (IsTold (RefusesField (field_data c.args.field.now) c.args.ledger.now.now (Some (scalar_data v)))))
    (sym c.in-Ascii.is) c.write_ascii.ensures.err

pub returns-in-Ascii-clause-keeps : goal.returns-in-Ascii-clause-keeps
returns-in-Ascii-clause-keeps c = c.write_ascii.ensures.keeps

pub write_unicode-requires-clause-served : goal.write_unicode-requires-clause-served
write_unicode-requires-clause-served c = c.requires.served

pub write_unicode-requires-clause-suited : goal.write_unicode-requires-clause-suited
write_unicode-requires-clause-suited c = subst (λ (v : Scalar). IsSuited c.args.ledger.now.max_text (field_data c.args.field.now)
    (Some (scalar_data v))) c.in-Unicode.is c.requires.suited

pub returns-in-Unicode-clause-err : goal.returns-in-Unicode-clause-err
returns-in-Unicode-clause-err c = subst (λ (v : Scalar). IfErr c.write_unicode.result
    (IsTold (RefusesField (field_data c.args.field.now) c.args.ledger.now.now (Some (scalar_data v)))))
    (sym c.in-Unicode.is) c.write_unicode.ensures.err

pub returns-in-Unicode-clause-keeps : goal.returns-in-Unicode-clause-keeps
returns-in-Unicode-clause-keeps c = c.write_unicode.ensures.keeps

pub write_bytes-requires-clause-served : goal.write_bytes-requires-clause-served
write_bytes-requires-clause-served c = c.requires.served

pub write_bytes-requires-clause-suited : goal.write_bytes-requires-clause-suited
write_bytes-requires-clause-suited c = subst (λ (v : Scalar). IsSuited c.args.ledger.now.max_text (field_data c.args.field.now)
    (Some (scalar_data v))) c.in-Bytes.is c.requires.suited

pub returns-in-Bytes-clause-err : goal.returns-in-Bytes-clause-err
returns-in-Bytes-clause-err c = subst (λ (v : Scalar). IfErr c.write_bytes.result
    (IsTold (RefusesField (field_data c.args.field.now) c.args.ledger.now.now (Some (scalar_data v)))))
    (sym c.in-Bytes.is) c.write_bytes.ensures.err

pub returns-in-Bytes-clause-keeps : goal.returns-in-Bytes-clause-keeps
returns-in-Bytes-clause-keeps c = c.write_bytes.ensures.keeps
