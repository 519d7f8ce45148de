-- Absence is that of the head, or a clear bit.
use Rattle.std.proofs.Common.{[], ◌∷◌, sym, ◌∙◌}
use Rattle.std.specs.Prelude.{false}
use Rattle.std.proofs.lemmas.List.{append-nil}
use Rattle.fast_template.specs.meaning.Flat.{nodes_of, field_data}
use Rattle.fast_spelling.specs.device.Nodes.{instruction_in}
use Rattle.fast_spelling.proofs.bytes.Spelling.{on_ok}
use Rattle.fast_spelling.proofs.encodings.Instructions.{served, told, absent_optional, absent_encodes, absent_refuses, absent_group}
use Rattle.fast_spelling.proofs.parts.write_absent.Goals as goal

pub write_field-requires-clause-served : goal.write_field-requires-clause-served
write_field-requires-clause-served c = served c.args.templates.now c.args.limits c.args.ledger.now
    (field_data c.in-Some.field.now) c.requires.ready c.in-Some.ensures.usable c.in-Some.ensures.initial

pub write_field-requires-clause-suited : goal.write_field-requires-clause-suited
write_field-requires-clause-suited c = absent_optional (instruction_in (nodes_of c.args.templates.now) c.args.node)
    (field_data c.in-Some.field.now) c.in-Some.ensures.head c.requires.suits

pub returns-in-Some-clause-ok : goal.returns-in-Some-clause-ok
returns-in-Some-clause-ok c = on_ok c.write_field.result c.write_field.ensures.ok (λ k.
    let h = k c.args.limits c.requires.ready.room in (
      h.0,
      h.1,
      h.2,
      h.3,
      absent_encodes c.args.limits (instruction_in (nodes_of c.args.templates.now) c.args.node)
          (field_data c.in-Some.field.now) c.args.ledger.now.now h.0 h.1 c.write_field.new.ledger.now c.in-Some.ensures.head h.4,
    ))

pub returns-in-Some-clause-err : goal.returns-in-Some-clause-err
returns-in-Some-clause-err c = told c.write_field.result c.write_field.ensures.err
    (λ f h. absent_refuses c.args.limits (instruction_in (nodes_of c.args.templates.now) c.args.node)
    (field_data c.in-Some.field.now) c.args.ledger.now.now f c.in-Some.ensures.head h)

pub returns-in_ok-push_bit-in-None-clause-ok : goal.returns-in_ok-push_bit-in-None-clause-ok
returns-in_ok-push_bit-in-None-clause-ok c = (
  false ∷ [],
  [],
  c.in_ok-push_bit-in-None.ensures.bits,
  c.push_bit.ensures.bytes ∙ sym (append-nil c.args.draft.now.bytes.items),
  absent_group c.args.limits (instruction_in (nodes_of c.args.templates.now) c.args.node) c.args.ledger.now.now c.in-None.ensures.head c.requires.suits,
)
