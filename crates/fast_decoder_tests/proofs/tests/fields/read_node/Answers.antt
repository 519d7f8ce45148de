-- The dictionary serves the node's field.
use Rattle.std.proofs.Common.{sym, ◌∙◌, subst}
use Rattle.std.specs.Prelude.{ℕ}
use Rattle.fast_template.specs.meaning.Flat.{tree_of, field_data}
use Rattle.fast_tree.specs.declared.instructions.Shape.{Shape}
use Rattle.fast_tree.specs.meaning.NodeData.{shape_data}
use Rattle.fast_dict.specs.meaning.Slots.{slots_terms, slots_sized}
use Rattle.fast_units.specs.device.Settling.{Serves}
use Rattle.fast_machine.specs.device.Serving.{ServesShape}
use Rattle.fast_decoder_tests.proofs.tests.fields.read_node.Goals as goal

pub read_field-requires-clause-serves : goal.read_field-requires-clause-serves
read_field-requires-clause-serves c =
    let slots = c.args.values.now.slots in
    let set = c.args.set.now in
    subst (λ (n : ℕ). Serves n (slots_terms slots) (field_data c.in-Field.field)) (sym (slots_sized slots ∙ c.requires.entries))
    (subst (λ (s : Shape). ServesShape (tree_of set).entries (slots_terms slots) (shape_data s)) c.in-Field.is
    (c.requires.serves _ c.node.result.now c.node.ensures.found))
