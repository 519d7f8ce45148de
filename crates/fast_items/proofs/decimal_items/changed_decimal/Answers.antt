-- Both sums are kept; NULL changes nothing.
use Rattle.std.proofs.Common.{◌≡◌, refl, sym, subst, ap, ◌∙◌, rules, to_z, of_z, FitsSigned, ◌+ℤ◌}
use Rattle.std.specs.Int.{w32, w64}
use Rattle.std.specs.Prelude.{false, Some, Ok}
use Rattle.std.proofs.lemmas.List.{take_rest}
use Rattle.fast_fronts.specs.device.Fronts.{IsFirstInt}
use Rattle.fast_fronts.specs.declared.fronts.First.TheVariants.{Whole}
use Rattle.fast_wire.specs.meaning.Integers.{exponent_range, signed_range}
use Rattle.fast_value.specs.declared.codes.Code.TheVariants.{R1}
use Rattle.fast_value.specs.declared.kinds.Kind.TheVariants.{Decimal}
use Rattle.fast_value.specs.meaning.Kinds.{Dec, delta_range}
use Rattle.fast_dict.specs.meaning.Dictionary.{previous_at, assigned, write_at}
use Rattle.fast_dict.specs.meaning.Operators.{ranged}
use Rattle.fast_dict.specs.meaning.Slots.{slots_dictionary}
use Rattle.fast_units.proofs.LastUnits.{again}
use Rattle.fast_items.proofs.DecimalItems.{changed_unit, null_unit}
use Rattle.fast_items.proofs.decimal_items.changed_decimal.Goals as goal

pub returns-in_ok-mantissa-in-Some-clause-unit : goal.returns-in_ok-mantissa-in-Some-clause-unit
returns-in_ok-mantissa-in-Some-clause-unit c = λ f l scratch is serves.
    let old = slots_dictionary c.args.slots.now in
    let new = slots_dictionary c.keep_at.new.slots in
    let e = to_z w32 (of_z w32 c.in_ok-exponent-in-Some.exponent) in
    let m = to_z w64 (of_z w64 c.in_ok-exponent-in-Some.mantissa) in
    let k = to_z w64 (of_z w64 c.in-Some.delta) in
    let x = to_z w32 (of_z w32 c.in_ok-exponent-in-Some-2.exponent) in
    let y = to_z w64 (of_z w64 c.in_ok-mantissa-in-Some.mantissa) in
    let rest = c.args.rest.bytes.now in
    let (j, first, inside) = c.in_ok-mantissa-in-Some.ensures in
    let second = subst (λ w. IsFirstInt (λ z. z) c.args.strict delta_range false (Whole (Some j) c.in_ok-mantissa-in-Some.bytes) w)
    (c.skip.ensures ∙ sym (take_rest rest 1)) first in
    let k_fits : FitsSigned w64 c.in-Some.delta = search rules in
    let x_fits : FitsSigned w32 c.in_ok-exponent-in-Some-2.exponent = search rules in
    let y_fits : FitsSigned w64 c.in_ok-mantissa-in-Some.mantissa = search rules in
    let own : previous_at (Some c.args.entry) old ≡ assigned Decimal (Dec e m) = search rules in
    let held : previous_at f.entry old ≡ assigned Decimal (Dec e m) = ap (λ z. previous_at z old) (is.entry refl) ∙ own in
    let some : c.in_ok-item.item ≡ Some k = c.in-Some.is ∙ ap (λ z. Some z) (sym (again w64 c.in-Some.delta k_fits)) in
    let kept : new ≡ write_at f.entry (assigned f.kind (Dec x y)) old =
    c.keep_at.ensures.entry ∙ ap (λ z. write_at z (assigned Decimal (Dec x y)) old) (sym (is.entry refl))
    ∙ ap (λ q. write_at f.entry (assigned q (Dec x y)) old) (sym is.kind) in
    let exponent : ranged exponent_range R1 (e +ℤ k) ≡ Ok x = c.in_ok-exponent-in-Some-2.ensures
    ∙ ap (λ z. Ok z) (sym (again w32 c.in_ok-exponent-in-Some-2.exponent x_fits)) in
    let mantissa : ranged (signed_range 63) R1 (m +ℤ j) ≡ Ok y = inside ∙ ap (λ z. Ok z) (sym (again w64 c.in_ok-mantissa-in-Some.mantissa y_fits)) in
    changed_unit c.args.strict c.args.optional l f rest old new scratch e m k j x y c.in_ok-item.item 1
    c.in_ok-mantissa-in-Some.bytes is.kind is.optional is.operator held some
    (c.in_ok-item.ensures c.args.strict) exponent second mantissa kept

pub returns-in-None-clause-unit : goal.returns-in-None-clause-unit
returns-in-None-clause-unit c = λ f l scratch is serves.
    null_unit c.args.strict c.args.optional l f c.args.rest.bytes.now
    (slots_dictionary c.args.slots.now) scratch c.in_ok-item.item 1 is.kind is.optional is.operator c.in-None.is
    (c.in_ok-item.ensures c.args.strict)

pub skip-requires : goal.skip-requires
skip-requires c = (c.in_ok-item.ensures c.args.strict).0
