-- A text of the field as of each that is so, or a first tail.
use Rattle.std.proofs.Common.{◌∙◌, sym, subst}
use Rattle.fast_tree.specs.declared.operators.Operator.TheVariants.{Tail}
use Rattle.fast_tree.specs.meaning.Nodes.{field_data}
use Rattle.fast_dict.specs.declared.slots.Slots.{Slots}
use Rattle.fast_dict.specs.meaning.Slots.{slots_terms}
use Rattle.fast_items.specs.device.TextItems.{text_taken}
use Rattle.fast_loop.specs.device.Arms.{IsOpText}
use Rattle.fast_machine.specs.device.Positions.{set_of}
use Rattle.fast_loop.proofs.text_arms.other_tail.Goals as goal

pub returns-in-Some-clause-unit : goal.returns-in-Some-clause-unit
returns-in-Some-clause-unit c x i strict b found shape room said serves =
    c.in-Some.ensures.unit (field_data i) strict b (room ∙ sym c.max_text-max_text.ensures) said serves

pub returns-clause-unit : goal.returns-clause-unit
returns-clause-unit c =
    subst (λ (s : Slots). IsOpText (set_of c.args.templates.now) c.args.op.now Tail c.args.optional
    (slots_terms s).max_text c.args.rest.now s c.first_tail.new.slots c.first_tail.new.scratch.text
    (text_taken Tail c.in_ok-bytes.bytes))
    c.in_default.ensures.none.0 (c.in_ok-bytes.ensures.unit c.args.optional)
