-- A string that is read at once is that of each field of the type under the operator, and so this one.
use Rattle.std.proofs.Common.{refl, sym, subst, ◌∙◌, ap, arith}
use Rattle.std.specs.Prelude.{ℕ, Some}
use Rattle.fast_value.specs.meaning.Limits.{bounds}
use Rattle.fast_tree.specs.meaning.Nodes.{field_data}
use Rattle.fast_dict.specs.meaning.Slots.{slots_dictionary}
use Rattle.fast_units.specs.device.TextDecisions.{first_reader}
use Rattle.fast_items.specs.declared.taken.TakenText.{TakenText}
use Rattle.fast_fields.specs.declared.reading.Reading.TheVariants.{Whole}
use Rattle.fast_fields.specs.declared.reading.WholeField.{WholeField}
use Rattle.fast_fields.specs.device.Readings.{IsFieldReading}
use Rattle.fast_fields.proofs.Readings.{kept_entry}
use Rattle.fast_fields.proofs.whole.whole_ascii.Goals as goal

-- the field that the string is
abbrev as_field : TakenText → WholeField
as_field r = record { source = r.source; from = r.from; bytes = r.bytes }

pub returns-clause-whole : goal.returns-clause-whole
returns-clause-whole c =
    let l = c.args.limits.now in
    let i = c.args.field.now in
    let f = field_data i in
    let old = c.args.slots.now in
    let new = c.sent_long.new.slots in
    let text = c.sent_long.new.scratch.text in
    subst (λ (x : WholeField). IsFieldReading (first_reader l f (slots_dictionary old)) f c.args.bytes.now (slots_dictionary old) (slots_dictionary new)
    text (Whole x)) (sym (c.whole_field.ensures ∙ ap as_field c.text_taken.ensures)) (
      omega arith,
      c.in_ok-count.ensures.unit f l.strict (bounds l) refl
          (record {
            kind = c.requires.ascii;
            optional = refl;
            operator = refl;
            entry = λ k. kept_entry f.operator f.entry c.requires.serves.kept k ∙ ap (λ (n : ℕ). Some n) (sym c.unwrap_or-entry.ensures);
          }) c.requires.serves,
    )
