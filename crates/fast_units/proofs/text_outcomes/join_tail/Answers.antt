use Rattle.std.proofs.Common.{◌∙◌, sym, ap, List, ℕ, arith, length-append}
use Rattle.fast_value.specs.meaning.Values.{scalar_data}
use Rattle.fast_tree.specs.meaning.Nodes.{field_data}
use Rattle.fast_dict.specs.meaning.Operators.{tail_base, with_tail}
use Rattle.fast_units.proofs.TextOutcomes.{tail_together}
use Rattle.fast_units.proofs.text_outcomes.join_tail.Goals as goal

pub prepend-requires : goal.prepend-requires
prepend-requires c =
    let h = tail_together c.args.slots.now (field_data c.args.field.now) c.requires.serves c.requires.text c.requires.keeps
    (scalar_data c.in_ok-tail_base.field-0) c.tail_keeps-kept.result.now c.args.scratch.now.text
    (sym (c.in_ok-tail_base.ensures ∙ ap (tail_base (field_data c.args.field.now)) c.previous.ensures))
    (ap (λ (b : List ℕ). with_tail b c.args.scratch.now.text) (sym c.text_of-base.ensures)
    ∙ c.tail_keeps-kept.ensures c.args.scratch.now.text (sym c.len.ensures.len)) c.requires.fits in
    let r = c.requires.room in
    omega (arith, h, r)

pub returns-clause-fits : goal.returns-clause-fits
returns-clause-fits c e =
    rw (c.prepend.ensures.text, length-append c.tail_keeps-kept.result.now c.args.scratch.now.text)
    (tail_together c.args.slots.now (field_data c.args.field.now) c.requires.serves c.requires.text c.requires.keeps
    (scalar_data c.in_ok-tail_base.field-0) c.tail_keeps-kept.result.now c.args.scratch.now.text
    (sym (c.in_ok-tail_base.ensures ∙ ap (tail_base (field_data c.args.field.now)) c.previous.ensures))
    (ap (λ (b : List ℕ). with_tail b c.args.scratch.now.text) (sym c.text_of-base.ensures)
    ∙ c.tail_keeps-kept.ensures c.args.scratch.now.text (sym c.len.ensures.len)) c.requires.fits)
