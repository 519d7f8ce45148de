use Rattle.std.proofs.Common.{rules, subst, FitsSigned}
use Rattle.std.specs.Int.{w64}
use Rattle.fast_fronts.specs.device.Fronts.{IsFirstInt}
use Rattle.fast_wire.specs.meaning.Integers.{delta_range}
use Rattle.fast_fronts.specs.declared.fronts.First.TheVariants.{Whole}
use Rattle.fast_items.specs.device.IntegerItems.{IsBehindDelta}
use Rattle.fast_items.proofs.IntegerItems.{sent_change, sent_null}
use Rattle.fast_units.proofs.LastUnits.{again}
use Rattle.fast_items.proofs.integer_items.sent_delta.Goals as goal

pub returns-in_ok-number-in-Some-clause-unit : goal.returns-in_ok-number-in-Some-clause-unit
returns-in_ok-number-in-Some-clause-unit c =
    let fits : FitsSigned w64 c.in-Some.delta = search rules in
    let n = c.in_ok-number-in-Some.number in
    sent_change c.args.kind c.args.optional c.args.entry c.args.strict c.args.rest.bytes.now c.args.slots.now c.change_at.new.slots
    c.in-Some.delta n c.in_ok-change.bytes
    c.requires.integers
    (subst (λ x. IsFirstInt (λ y. y) c.args.strict delta_range c.args.optional (Whole x c.in_ok-change.bytes) c.args.rest.bytes.now) c.in-Some.is
    c.in_ok-change.ensures)
    (subst (λ d. IsBehindDelta c.args.kind c.args.entry d c.args.slots.now c.change_at.new.slots n)
    (again w64 c.in-Some.delta fits) c.in_ok-number-in-Some.ensures.decided)

pub returns-in-None-clause-unit : goal.returns-in-None-clause-unit
returns-in-None-clause-unit c =
    sent_null c.args.kind c.args.optional c.args.entry c.args.strict c.args.rest.bytes.now c.args.slots.now c.in_ok-change.bytes
    c.requires.integers
    (subst (λ x. IsFirstInt (λ y. y) c.args.strict delta_range c.args.optional (Whole x c.in_ok-change.bytes) c.args.rest.bytes.now) c.in-None.is
    c.in_ok-change.ensures)
