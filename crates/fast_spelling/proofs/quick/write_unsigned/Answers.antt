-- The field is handed on with what is known of it.
use Rattle.std.proofs.Common.{subst}
use Rattle.std.specs.Prelude.{Some}
use Rattle.fast_value.specs.meaning.Kinds.{U}
use Rattle.fast_tree.specs.declared.instructions.FieldInstruction.{FieldInstruction}
use Rattle.fast_tree.specs.meaning.Nodes.{field_data}
use Rattle.fast_spelling.specs.meaning.Encoding.{EncodesField}
use Rattle.fast_spelling.specs.device.Fields.{Wrote}
use Rattle.fast_spelling.proofs.bytes.Spelling.{on_ok}
use Rattle.fast_spelling.proofs.quick.write_unsigned.Goals as goal

pub returns-then-eq-clause-ok : goal.returns-then-eq-clause-ok
returns-then-eq-clause-ok c = on_ok c.write_plain.result c.write_plain.ensures.ok (λ k l same.
    subst (λ (g : FieldInstruction). Wrote (EncodesField l (field_data g) c.args.ledger.now.now (Some (U c.args.number))) c.args.draft.now
    c.write_plain.new.draft c.write_plain.new.ledger.now) c.of.ensures (k l same))
