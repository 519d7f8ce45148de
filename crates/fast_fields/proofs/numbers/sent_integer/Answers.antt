-- An item that is read at once is that of each field of the type under the operator, and so this one.
use Rattle.std.proofs.Common.{refl, sym, ap, ◌∙◌}
use Rattle.std.specs.Prelude.{ℕ, Some}
use Rattle.fast_tree.specs.meaning.Nodes.{field_data}
use Rattle.fast_fields.proofs.Readings.{kept_entry, sent_as}
use Rattle.fast_fields.proofs.numbers.sent_integer.Goals as goal

pub returns-in-Some-clause-unit : goal.returns-in-Some-clause-unit
returns-in-Some-clause-unit c =
    let i = c.args.field.now in
    let f = field_data i in
    sent_as i.kind i.optional i.operator c.unwrap_or-entry.result c.args.strict c.args.rest.bytes.now c.args.slots.now c.sent_unsigned.new.slots f
    (record {
      kind = refl;
      optional = refl;
      operator = refl;
      entry = λ k. kept_entry f.operator f.entry c.requires.serves.kept k ∙ ap (λ (n : ℕ). Some n) (sym c.unwrap_or-entry.ensures);
    }) c.requires.serves c.sent_unsigned.result c.sent_unsigned.ensures.unit

pub returns-clause-unit : goal.returns-clause-unit
returns-clause-unit c =
    let i = c.args.field.now in
    let f = field_data i in
    sent_as i.kind i.optional i.operator c.unwrap_or-entry.result c.args.strict c.args.rest.bytes.now c.args.slots.now c.sent_signed.new.slots f
    (record {
      kind = refl;
      optional = refl;
      operator = refl;
      entry = λ k. kept_entry f.operator f.entry c.requires.serves.kept k ∙ ap (λ (n : ℕ). Some n) (sym c.unwrap_or-entry.ensures);
    }) c.requires.serves c.sent_signed.result c.sent_signed.ensures.unit
