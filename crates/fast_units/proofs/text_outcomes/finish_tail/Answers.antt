use Rattle.std.proofs.Common.{◌∙◌, sym, ap, List, ℕ}
use Rattle.fast_tree.specs.meaning.Nodes.{field_data}
use Rattle.fast_dict.specs.meaning.Answers.{kept_text}
use Rattle.fast_dict.specs.meaning.Dictionary.{previous_at}
use Rattle.fast_dict.specs.meaning.Slots.{slots_dictionary}
use Rattle.fast_units.proofs.TextOutcomes.{decided_as, decided_tail-ok}
use Rattle.fast_units.proofs.text_outcomes.finish_tail.Goals as goal

pub returns-clause-field : goal.returns-clause-field
returns-clause-field c scratch piece =
    let f = field_data c.args.field.now in
    let old = slots_dictionary c.args.slots.now in
    let (base, found, text) = c.in_ok-join_tail.ensures.joined in
    decided_as f old (slots_dictionary c.keep.new.slots) scratch piece c.keep.result
    (decided_tail-ok f (previous_at f.entry old) c.args.scratch.now.text c.requires.text base c.requires.tail found
    ∙ ap (λ (t : List ℕ). kept_text f.kind t) (sym (c.as_slice.ensures ∙ text)))
    (c.keep.ensures.field scratch piece)
