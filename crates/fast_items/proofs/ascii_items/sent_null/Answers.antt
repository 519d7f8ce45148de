-- A bare stop bit is NULL where that may be.
use Rattle.std.proofs.Common.{refl, [], false, subst}
use Rattle.std.specs.Prelude.{Bool, not}
use Rattle.fast_units.specs.device.NextUnits.{IsNextText}
use Rattle.fast_units.specs.declared.progress.Progress.TheVariants.{Whole}
use Rattle.fast_units.specs.declared.source.ValueSource.TheVariants.{Absent}
use Rattle.fast_units.proofs.NextTexts.{text_bare}
use Rattle.fast_items.proofs.TextItems.{sent_whole}
use Rattle.fast_items.proofs.ascii_items.sent_null.Goals as goal

pub returns-else-not-put_null-clause-unit : goal.returns-else-not-put_null-clause-unit
returns-else-not-put_null-clause-unit c room scratch =
    let bare = text_bare c.args.optional room c.args.rest.now c.in-Some-eq128.field-0.now c.in-Some-eq128.ensures.value c.in-Some-eq128.field-0-test in
    let next = subst (λ (b : Bool). IsNextText c.args.optional room c.args.rest.now [] (Whole (not b) 1)) c.if-not-optional.false bare in
    sent_whole c.args.optional c.args.operator c.args.entry room c.args.rest.now c.args.slots.now c.put_null.new.slots scratch Absent
    [] false 1 next (c.if-not-put_null.ensures.put refl scratch)
