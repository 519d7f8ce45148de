use Rattle.std.proofs.Common.{◌∙◌, ap, to_z, of_z, rules, subst, FitsSigned}
use Rattle.std.specs.Int.{w64}
use Rattle.fast_fronts.specs.device.Fronts.{IsFirstInt}
use Rattle.fast_wire.specs.meaning.Integers.{signed_between}
use Rattle.fast_fronts.specs.declared.fronts.First.TheVariants.{Whole}
use Rattle.fast_items.proofs.IntegerItems.{sent_item}
use Rattle.fast_units.proofs.LastUnits.{again}
use Rattle.fast_items.proofs.integer_items.sent_signed.Goals as goal

pub returns-clause-unit : goal.returns-clause-unit
returns-clause-unit c =
    let x = c.in_ok-number.number in
    let low : FitsSigned w64 c.args.low = search rules in
    let top : FitsSigned w64 c.args.top = search rules in
    let passed = ap (λ l. signed_between l (to_z w64 (of_z w64 c.args.top))) (again w64 c.args.low low)
    ∙ ap (signed_between c.args.low) (again w64 c.args.top top) in
    sent_item c.args.kind c.args.optional c.args.operator c.args.entry c.args.strict c.args.rest.bytes.now c.args.slots.now c.keep_item_at.new.slots x
    (record { item = c.signed_number-item.result; bytes = c.in_ok-number.bytes })
    c.requires.integers c.requires.no_delta c.requires.no_constant
    (subst (λ range. IsFirstInt (λ y. y) c.args.strict range c.args.optional (Whole x c.in_ok-number.bytes) c.args.rest.bytes.now)
    (passed ∙ c.requires.range) c.in_ok-number.ensures)
    (c.signed_number-item.ensures c.args.kind c.requires.signed)
    c.keep_item_at.ensures.entry
