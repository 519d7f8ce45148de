use Rattle.std.proofs.Common.{◌∙◌, sym, ap, refl, ℤ}
use mir.Syntax.{w32}
use Rattle.std.proofs.lemmas.Int.{to_z-of_z}
use Rattle.fast_value.specs.meaning.Limits.{bounds}
use Rattle.fast_tree.specs.meaning.Nodes.{field_data}
use Rattle.fast_dict.specs.meaning.Dictionary.{previous_at}
use Rattle.fast_dict.specs.meaning.Slots.{slots_dictionary}
use Rattle.fast_stream.specs.device.GrammarReaders.{reader_of}
use Rattle.fast_units.specs.device.Stages.{term_behind}
use Rattle.fast_units.specs.declared.stages.Stage.TheVariants.{Part}
use Rattle.fast_units.proofs.TextUnits.{part_here}
use Rattle.fast_units.proofs.text_deltas.part_next.Goals as goal

pub returns : goal.returns
returns c limits scratch piece =
    let f = field_data c.args.field.now in
    let old = slots_dictionary c.args.slots.now in
    let p = previous_at f.entry old in
    let step = sym c.in_ok-kept.ensures in (
      refl,
      (c.requires.text, c.requires.delta, (_, step)),
      ap (reader_of limits.strict) (part_here (bounds limits) f p c.args.subtraction
          ∙ ap (λ (k : ℤ). term_behind (bounds limits) f p (Part k)) (sym (to_z-of_z w32 c.args.subtraction c.ranges.subtraction))),
    )
