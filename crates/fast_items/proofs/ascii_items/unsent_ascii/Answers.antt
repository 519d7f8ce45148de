-- What the entry holds is the value.
use Rattle.std.proofs.Common.{sym, ap, ◌∙◌, refl}
use Rattle.fast_value.specs.declared.kinds.Kind.TheVariants.{Ascii}
use Rattle.fast_value.specs.meaning.Kinds.{AsciiText}
use Rattle.fast_dict.specs.meaning.Entry.{with_text}
use Rattle.fast_dict.specs.meaning.Slots.{slots_dictionary}
use Rattle.fast_items.proofs.TextItems.{unsent_held, unsent_empty}
use Rattle.fast_items.proofs.ascii_items.unsent_ascii.Goals as goal

pub returns-then-holds_ascii-clause-decided : goal.returns-then-holds_ascii-clause-decided
returns-then-holds_ascii-clause-decided c f operator which said =
    let (text, held) = c.if-holds_ascii.ensures.text refl in
    unsent_held f (slots_dictionary c.args.slots.now) Ascii c.args.optional operator c.args.entry which said (AsciiText text) held

pub returns-in-Empty-clause-decided : goal.returns-in-Empty-clause-decided
returns-in-Empty-clause-decided c f operator which said =
    let (text, held) = c.held.ensures in
    unsent_empty f (slots_dictionary c.args.slots.now) Ascii c.args.optional operator c.args.entry which said c.if-optional.true
    (sym held ∙ ap (λ e. with_text e text) c.in-Empty.is)
