-- As it stands, or behind its delta.
use Rattle.std.proofs.Common.{refl, sym, ap, ◌∙◌, subst, rules, to_z, of_z, FitsSigned, Option, ℤ}
use Rattle.std.specs.Int.{w64}
use Rattle.std.specs.Prelude.{◌≡◌, ◌+ℤ◌, false, Bool, Some}
use Rattle.fast_fronts.specs.device.Fronts.{IsFirstInt}
use Rattle.fast_wire.specs.meaning.Integers.{IsWithin, signed_range}
use Rattle.fast_fronts.specs.declared.fronts.First.TheVariants as First
use Rattle.fast_value.specs.declared.kinds.Kind.TheVariants.{Int64}
use Rattle.fast_items.specs.device.DecimalParts.{part_item}
use Rattle.fast_items.specs.device.IntegerItems.{item_held}
use Rattle.fast_items.proofs.DecimalParts.{part_whole, part_changed, delta_first, mantissa_sent}
use Rattle.fast_units.proofs.LastUnits.{again}
use Rattle.fast_items.proofs.decimal_parts.sent_mantissa.Goals as goal

pub returns-in_ok-sum-in-Some : goal.returns-in_ok-sum-in-Some
returns-in_ok-sum-in-Some c =
    let base = to_z w64 (of_z w64 c.in-Some.base) in
    let j = to_z w64 (of_z w64 c.in_ok-number.number) in
    let sum = to_z w64 (of_z w64 c.in_ok-sum-in-Some.sum) in
    let base_fits : FitsSigned w64 c.in-Some.base = search rules in
    let fits : FitsSigned w64 c.in_ok-number.number = search rules in
    let sum_fits : FitsSigned w64 c.in_ok-sum-in-Some.sum = search rules in
    let within : IsWithin (signed_range 63) sum = search rules in
    let mandatory : c.args.field.now.optional ≡ false = search rules in
    let summed : base +ℤ j ≡ sum = search rules in
    part_changed c.args.field.now c.args.strict c.args.rest.bytes.now c.args.slots.now base j sum c.in_ok-number.bytes
    c.requires.kind c.in-Delta.is mandatory
    (c.in_ok-base-in-Delta.ensures ∙ ap (λ (x : Option ℤ). item_held Int64 (part_item x)) (c.in-Some.is ∙ ap Some (sym (again w64 c.in-Some.base base_fits))))
    summed within
    (delta_first c.args.strict c.args.rest.bytes.now j c.in_ok-number.bytes
    (subst (λ (y : ℤ). IsFirstInt (λ y. Some y) c.args.strict (signed_range 63) false (First.Whole y c.in_ok-number.bytes) c.args.rest.bytes.now)
    (sym (again w64 c.in_ok-number.number fits)) c.in_ok-number.ensures))

pub returns-in_default : goal.returns-in_default
returns-in_default c =
    let fits : FitsSigned w64 c.in_ok-number.number = search rules in
    let mandatory : c.args.field.now.optional ≡ false = search rules in
    let j = to_z w64 (of_z w64 c.in_ok-number.number) in
    part_whole c.args.field.now c.args.strict c.args.rest.bytes.now c.args.slots.now Int64 (Some j) c.in_ok-number.bytes c.requires.kind refl
    (mantissa_sent (Some j)) c.in_default.not-Delta c.requires.no_constant
    (subst (λ (b : Bool). IsFirstInt (λ y. y) c.args.strict (signed_range 63) b (First.Whole (Some j) c.in_ok-number.bytes) c.args.rest.bytes.now)
    (sym mandatory)
    (subst (λ (y : ℤ). IsFirstInt (λ y. Some y) c.args.strict (signed_range 63) false (First.Whole y c.in_ok-number.bytes) c.args.rest.bytes.now)
    (sym (again w64 c.in_ok-number.number fits)) c.in_ok-number.ensures))
