-- What the entry holds is the value.
use Rattle.std.proofs.Common.{sym, ap, ◌∙◌}
use Rattle.fast_value.specs.meaning.Kinds.{value_of_text}
use Rattle.fast_dict.specs.meaning.Entry.{with_text}
use Rattle.fast_dict.specs.meaning.Slots.{slots_dictionary}
use Rattle.fast_items.proofs.TextItems.{unsent_held, unsent_empty}
use Rattle.fast_items.proofs.lent_texts.unsent_text.Goals as goal

pub returns-in-Some-clause-decided : goal.returns-in-Some-clause-decided
returns-in-Some-clause-decided c f operator which said =
    unsent_held f (slots_dictionary c.args.slots.now) c.args.kind c.args.optional operator c.args.entry which said
    (value_of_text c.args.kind _) c.in-Some.ensures.held

pub returns-in-Empty-clause-decided : goal.returns-in-Empty-clause-decided
returns-in-Empty-clause-decided c f operator which said =
    let (text, held) = c.held.ensures in
    unsent_empty f (slots_dictionary c.args.slots.now) c.args.kind c.args.optional operator c.args.entry which said c.if-optional.true
    (sym held ∙ ap (λ e. with_text e text) c.in-Empty.is)
