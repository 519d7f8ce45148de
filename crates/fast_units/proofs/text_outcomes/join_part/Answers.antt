use Rattle.std.proofs.Common.{◌∙◌, sym, ap, arith, ℤ}
use mir.Syntax.{w32}
use Rattle.std.proofs.lemmas.Int.{to_z-of_z}
use Rattle.fast_tree.specs.meaning.Nodes.{field_data}
use Rattle.fast_dict.specs.meaning.Answers.{kept_data}
use Rattle.fast_dict.specs.meaning.Dictionary.{previous_at}
use Rattle.fast_dict.specs.meaning.Operators.{subtraction_step}
use Rattle.fast_dict.specs.meaning.Slots.{slots_dictionary}
use Rattle.fast_units.proofs.TextOutcomes.{part_together}
use Rattle.fast_units.proofs.text_outcomes.join_part.Goals as goal

pub join_kept-requires : goal.join_kept-requires
join_kept-requires c =
    let step = ap (λ (k : ℤ). subtraction_step (field_data c.args.field.now)
    (previous_at c.args.field.now.entry (slots_dictionary c.args.slots.now)) k)
    (sym (to_z-of_z w32 c.args.subtraction c.ranges.subtraction))
    ∙ sym c.in_ok-kept.ensures in
    let h = part_together c.args.slots.now (field_data c.args.field.now) c.requires.serves c.requires.text c.requires.keeps
    c.args.subtraction (kept_data c.in_ok-kept.kept) c.args.scratch.now.text step c.requires.fits in
    let r = c.requires.room in
    omega (arith, h, r)

pub returns-clause-fits : goal.returns-clause-fits
returns-clause-fits c e =
    let step = ap (λ (k : ℤ). subtraction_step (field_data c.args.field.now)
    (previous_at c.args.field.now.entry (slots_dictionary c.args.slots.now)) k)
    (sym (to_z-of_z w32 c.args.subtraction c.ranges.subtraction))
    ∙ sym c.in_ok-kept.ensures in
    let h = part_together c.args.slots.now (field_data c.args.field.now) c.requires.serves c.requires.text c.requires.keeps
    c.args.subtraction (kept_data c.in_ok-kept.kept) c.args.scratch.now.text step c.requires.fits in
    let size = c.join_kept.ensures.size in
    omega (arith, h, size)
