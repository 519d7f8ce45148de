-- Whichever way has taken the text.
use Rattle.std.proofs.Common.{sym, subst}
use Rattle.fast_value.specs.declared.kinds.Kind.TheVariants.{Ascii}
use Rattle.fast_dict.specs.declared.slots.Slots.{Slots}
use Rattle.fast_items.specs.device.TextItems.{IsSentText}
use Rattle.fast_items.specs.declared.taken.TakenText.{TakenText}
use Rattle.fast_items.proofs.ascii_items.sent_at_once.Goals as goal

pub returns-in-Some-clause-unit : goal.returns-in-Some-clause-unit
returns-in-Some-clause-unit c =
    subst (λ (r : TakenText). IsSentText Ascii c.args.optional c.args.operator c.args.entry c.args.slots.now.max_text c.args.rest.now
    c.args.slots.now c.sent_short.new.slots c.sent_short.new.scratch.text r) (sym c.text_taken.ensures)
    (c.in-Some.ensures.unit c.args.optional)

pub returns-in-Some-sent_null-clause-unit : goal.returns-in-Some-sent_null-clause-unit
returns-in-Some-sent_null-clause-unit c =
    subst (λ (s : Slots). IsSentText Ascii c.args.optional c.args.operator c.args.entry c.args.slots.now.max_text c.args.rest.now s
    c.sent_null.new.slots c.sent_short.new.scratch.text c.in-Some-sent_null.taken) c.in_default.ensures.none.0
    (c.in-Some-sent_null.ensures.unit c.args.slots.now.max_text c.sent_short.new.scratch.text)
