use Rattle.std.proofs.Common.{sym, refl}
use Rattle.fast_tree.specs.meaning.Nodes.{field_data}
use Rattle.fast_dict.specs.meaning.Slots.{slots_dictionary}
use Rattle.fast_units.proofs.TextOutcomes.{absent_emptied, absent_left}
use Rattle.fast_units.proofs.text_outcomes.finish_absent.Goals as goal

pub returns-then-null_empties-clause-field : goal.returns-then-null_empties-clause-field
returns-then-null_empties-clause-field c scratch piece =
    absent_emptied (field_data c.args.field.now) (slots_dictionary c.args.slots.now)
    (slots_dictionary c.assign_empty.new.slots) scratch piece c.requires.sent
    (sym c.if-null_empties.ensures) c.assign_empty.ensures.entry

pub returns-else-null_empties-clause-field : goal.returns-else-null_empties-clause-field
returns-else-null_empties-clause-field c scratch piece =
    absent_left (field_data c.args.field.now) (slots_dictionary c.args.slots.now)
    (slots_dictionary c.args.slots.now) scratch piece c.requires.sent (sym c.if-null_empties.ensures) refl
