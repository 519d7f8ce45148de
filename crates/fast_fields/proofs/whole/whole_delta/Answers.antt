-- A delta that is read at once is that of each field of the type under the operator, and so this one.
use Rattle.std.proofs.Common.{refl, sym, subst}
use Rattle.std.specs.Prelude.{List, ℕ}
use Rattle.fast_tree.specs.meaning.Nodes.{field_data}
use Rattle.fast_tree.specs.declared.operators.Operator.TheVariants.{Delta}
use Rattle.fast_dict.specs.meaning.Slots.{slots_dictionary}
use Rattle.fast_units.specs.device.TextDecisions.{first_reader}
use Rattle.fast_items.specs.device.TextsAs.{IsWholeText}
use Rattle.fast_fields.specs.declared.reading.WholeField.{WholeField}
use Rattle.fast_fields.specs.declared.reading.Reading.TheVariants.{Whole}
use Rattle.fast_fields.specs.device.Readings.{IsFieldReading}
use Rattle.fast_fields.proofs.whole.whole_delta.Goals as goal

pub returns-clause-whole : goal.returns-clause-whole
returns-clause-whole c =
    let l = c.args.limits.now in
    let i = c.args.field.now in
    let f = field_data i in
    let old = c.args.slots.now in
    let new = c.sent_delta.new.slots in
    let text = c.sent_delta.new.joined.text in
    let done = c.in_ok-taken.ensures in
    let sent = subst (λ (w : List ℕ). IsWholeText i.kind i.optional Delta c.in_ok-entry.entry l.strict l w old new c.in_ok-taken.taken)
    c.new-rest.ensures done.unit in
    subst (λ (x : WholeField). IsFieldReading (first_reader l f (slots_dictionary old)) f c.args.bytes.now (slots_dictionary old) (slots_dictionary new)
    text (Whole x)) (sym c.whole_field.ensures)
    (done.within.0, sent f text (record { kind = refl; optional = refl; operator = c.requires.delta; entry = λ _. c.in_ok-entry.was }) c.requires.serves)
