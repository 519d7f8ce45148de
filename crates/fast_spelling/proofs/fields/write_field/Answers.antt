-- A value is handed on.
use Rattle.std.proofs.Common.{ap, sym, subst}
use Rattle.std.specs.Prelude.{Option, option_map}
use Rattle.fast_value.specs.meaning.Kinds.{ScalarData}
use Rattle.fast_value.specs.meaning.Values.{scalar_data}
use Rattle.fast_tree.specs.meaning.Nodes.{field_data}
use Rattle.fast_spelling.specs.meaning.Encoding.{EncodesField}
use Rattle.fast_spelling.specs.device.Fields.{Wrote}
use Rattle.fast_spelling.specs.meaning.Refusals.{RefusesField}
use Rattle.fast_spelling.proofs.bytes.Spelling.{on_ok}
use Rattle.fast_spelling.proofs.encodings.Instructions.{told}
use Rattle.fast_spelling.proofs.fields.write_field.Goals as goal

pub returns-in-Some-clause-ok : goal.returns-in-Some-clause-ok
returns-in-Some-clause-ok c = on_ok c.write_present.result c.write_present.ensures.ok (λ k l same.
    subst (λ (v : Option ScalarData). Wrote (EncodesField l (field_data c.args.field.now) c.args.ledger.now.now v) c.args.draft.now
    c.write_present.new.draft c.write_present.new.ledger.now) (sym (ap (option_map scalar_data) c.in-Some.is)) (k l same))

pub returns-in-Some-clause-err : goal.returns-in-Some-clause-err
returns-in-Some-clause-err c = told c.write_present.result c.write_present.ensures.err (λ f h.
    subst (λ (v : Option ScalarData). RefusesField (field_data c.args.field.now) c.args.ledger.now.now v f) (sym (ap (option_map scalar_data) c.in-Some.is)) h)

pub returns-in-None-clause-ok : goal.returns-in-None-clause-ok
returns-in-None-clause-ok c = on_ok c.write_chosen.result c.write_chosen.ensures.ok (λ k l same.
    subst (λ (v : Option ScalarData). Wrote (EncodesField l (field_data c.args.field.now) c.args.ledger.now.now v) c.args.draft.now
    c.write_chosen.new.draft c.write_chosen.new.ledger.now) (sym (ap (option_map scalar_data) c.in-None.is)) (k l same))
