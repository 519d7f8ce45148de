use Rattle.std.proofs.Common.{◌∙◌, sym}
use Rattle.fast_value.specs.meaning.Values.{scalar_data}
use Rattle.fast_tree.specs.meaning.Nodes.{field_data}
use Rattle.fast_dict.specs.meaning.Slots.{slots_dictionary}
use Rattle.fast_units.proofs.TextOutcomes.{text_kept}
use Rattle.fast_units.proofs.text_outcomes.keep.Goals as goal

pub returns-clause-field : goal.returns-clause-field
returns-clause-field c scratch piece =
    text_kept (field_data c.args.field.now) (slots_dictionary c.args.slots.now) (slots_dictionary c.assign.new.slots) scratch piece
    c.args.text.now (scalar_data c.in_ok-value.value) (sym c.in_ok-value.ensures) (sym c.requires.serves.kept ∙ c.requires.keeps)
    c.requires.serves.within c.assign.ensures.entry
