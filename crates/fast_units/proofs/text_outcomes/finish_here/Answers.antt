use Rattle.std.proofs.Common.{sym, ap, List, ℕ, true}
use Rattle.std.specs.Prelude.{Some}
use Rattle.fast_tree.specs.meaning.Nodes.{field_data}
use Rattle.fast_dict.specs.meaning.Dictionary.{previous_at}
use Rattle.fast_dict.specs.meaning.Operators.{decide}
use Rattle.fast_dict.specs.meaning.Slots.{slots_dictionary}
use Rattle.fast_stream.specs.meaning.Fields.{sent_text}
use Rattle.fast_units.proofs.TextOutcomes.{decided_as}
use Rattle.fast_units.proofs.text_outcomes.finish_here.Goals as goal

pub returns-in-Tail-clause-field : goal.returns-in-Tail-clause-field
returns-in-Tail-clause-field c held =
    let f = field_data c.args.field.now in
    let old = slots_dictionary c.args.slots.now in
    let text = c.args.text.now in
    decided_as f old (slots_dictionary c.finish_tail.new.slots) held text c.finish_tail.result
    (ap (λ (t : List ℕ). decide f (previous_at f.entry old) true (sent_text f.kind (Some t))) (sym c.set.ensures.text))
    (c.finish_tail.ensures.field held text)
