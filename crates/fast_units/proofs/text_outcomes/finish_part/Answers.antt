use Rattle.std.proofs.Common.{◌∙◌, sym, ap, List, ℕ}
use Rattle.std.specs.Prelude.{ℤ}
use mir.Syntax.{w32}
use Rattle.std.proofs.lemmas.Int.{to_z-of_z}
use Rattle.fast_tree.specs.meaning.Nodes.{field_data}
use Rattle.fast_dict.specs.meaning.Answers.{kept_text}
use Rattle.fast_dict.specs.meaning.Dictionary.{previous_at}
use Rattle.fast_dict.specs.meaning.Operators.{Kept, subtraction_step, joined}
use Rattle.fast_dict.specs.meaning.Slots.{slots_dictionary}
use Rattle.fast_units.proofs.TextOutcomes.{decided_as}
use Rattle.fast_units.proofs.TextUnits.{one_kept}
use Rattle.fast_units.proofs.text_outcomes.finish_part.Goals as goal

pub returns-clause-field : goal.returns-clause-field
returns-clause-field c kept e scratch piece =
    let f = field_data c.args.field.now in
    let (found, step, text) = c.in_ok-join_part.ensures.joined in
    let k = one_kept found kept step (ap (λ (x : ℤ). subtraction_step f (previous_at f.entry (slots_dictionary c.args.slots.now)) x)
    (to_z-of_z w32 c.args.subtraction c.ranges.subtraction) ∙ e) in
    decided_as f (slots_dictionary c.args.slots.now) (slots_dictionary c.keep.new.slots) scratch piece c.keep.result
    (ap (λ (t : List ℕ). kept_text f.kind t) (sym (c.as_slice.ensures ∙ text ∙ ap (λ (q : Kept). joined q c.args.scratch.now.text) k)))
    (c.keep.ensures.field scratch piece)
