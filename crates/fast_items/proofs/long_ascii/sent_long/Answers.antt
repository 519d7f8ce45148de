-- A bare stop bit, or characters.
use Rattle.std.proofs.Common.{refl, [], subst, true}
use Rattle.std.specs.Prelude.{Bool, not}
use Rattle.fast_units.specs.device.NextUnits.{IsNextText}
use Rattle.fast_items.specs.device.TextItems.{text_source}
use Rattle.fast_units.specs.declared.progress.Progress.TheVariants.{Whole}
use Rattle.fast_units.proofs.NextTexts.{text_bare}
use Rattle.fast_items.proofs.TextItems.{sent_whole}
use Rattle.fast_items.proofs.long_ascii.sent_long.Goals as goal

pub returns-else-not-put_text-clause-unit : goal.returns-else-not-put_text-clause-unit
returns-else-not-put_text-clause-unit c =
    let bare = text_bare c.args.optional c.args.max_text c.args.rest.now c.in-Some-eq128.field-0.now c.in-Some-eq128.ensures.value
    c.in-Some-eq128.field-0-test in
    let next = subst (λ (b : Bool). IsNextText c.args.optional c.args.max_text c.args.rest.now [] (Whole (not b) 1)) c.if-optional.false bare in
    sent_whole c.args.optional c.args.operator c.args.entry c.args.max_text c.args.rest.now c.args.slots.now c.put_text.new.slots
    c.put_text.new.scratch.text (text_source c.args.operator) [] true 1 next (c.if-not-put_text.ensures.put refl)

pub returns-in_ok-bytes-in-Some-clause-unit : goal.returns-in_ok-bytes-in-Some-clause-unit
returns-in_ok-bytes-in-Some-clause-unit c = c.in_ok-bytes-in-Some.ensures.unit c.args.optional
