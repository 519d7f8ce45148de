-- A string that is read at once is that of each field of the type under the operator, and so this one.
use Rattle.std.proofs.Common.{refl, rules, sym, subst}
use Rattle.std.specs.Prelude.{List, ℕ, unwrap_or}
use Rattle.fast_tree.specs.meaning.Nodes.{field_data}
use Rattle.fast_tree.specs.declared.operators.Operator.TheVariants.{Tail}
use Rattle.fast_dict.specs.meaning.Slots.{slots_dictionary}
use Rattle.fast_units.specs.device.TextDecisions.{first_reader}
use Rattle.fast_items.specs.device.TextsAs.{IsWholeText}
use Rattle.fast_fields.specs.declared.reading.WholeField.{WholeField}
use Rattle.fast_fields.specs.declared.reading.Reading.TheVariants.{Whole}
use Rattle.fast_fields.specs.device.Readings.{IsFieldReading}
use Rattle.fast_fields.proofs.Readings.{kept_entry}
use Rattle.fast_fields.proofs.whole.whole_vector.Goals as goal

pub returns-in_ok-taken-in-None-clause-whole : goal.returns-in_ok-taken-in-None-clause-whole
returns-in_ok-taken-in-None-clause-whole c text =
    let l = c.args.limits.now in
    let i = c.args.field.now in
    let f = field_data i in
    let slots = c.args.slots.now in
    let d = slots_dictionary slots in
    let entry = unwrap_or f.entry 0 in
    let done = c.in_ok-taken-in-None.ensures in
    let sent = subst (λ (w : List ℕ). IsWholeText i.kind i.optional i.operator entry l.strict l w slots slots c.in_ok-taken-in-None.taken)
    c.new-rest.ensures (done.unit entry slots) in
    subst (λ (x : WholeField). IsFieldReading (first_reader l f d) f c.args.bytes.now d d text (Whole x)) (sym c.whole_field.ensures) (
      done.within.0,
      sent f text (record {
        kind = refl;
        optional = refl;
        operator = refl;
        entry = kept_entry f.operator f.entry c.requires.serves.kept;
      }) c.requires.serves,
    )

pub returns-in_ok-taken-in-Tail-clause-whole : goal.returns-in_ok-taken-in-Tail-clause-whole
returns-in_ok-taken-in-Tail-clause-whole c text =
    let l = c.args.limits.now in
    let i = c.args.field.now in
    let f = field_data i in
    let old = c.args.slots.now in
    let new = c.sent_tail.new.slots in
    let done = c.in_ok-taken-in-Tail.ensures in
    let entry = c.in_ok-field-in-Tail.field-0 in
    let sent = subst (λ (w : List ℕ). IsWholeText i.kind i.optional Tail entry l.strict l w old new c.in_ok-taken-in-Tail.taken)
    c.new-rest.ensures done.unit in
    subst (λ (x : WholeField). IsFieldReading (first_reader l f (slots_dictionary old)) f c.args.bytes.now (slots_dictionary old) (slots_dictionary new)
    text (Whole x)) (sym c.whole_field-in-Tail.ensures) (
      done.within.0,
      sent f text (record { kind = refl; optional = refl; operator = search rules; entry = λ _. c.in_ok-field-in-Tail.was })
          c.requires.serves,
    )
