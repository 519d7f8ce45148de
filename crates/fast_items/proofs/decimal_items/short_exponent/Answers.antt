-- A delta that lies in the range of exponents.
use Rattle.std.proofs.Common.{◌≡◌, sym, ap, ◌∙◌, subst, rules, to_z, of_z, FitsSigned, ℤ, Option, Some, None}
use Rattle.std.specs.Int.{w32}
use Rattle.fast_fronts.specs.device.Fronts.{IsFirstInt}
use Rattle.fast_wire.specs.meaning.Integers.{IsWithin, exponent_range, delta_range}
use Rattle.fast_fronts.specs.declared.fronts.First.TheVariants.{Whole}
use Rattle.fast_units.proofs.LastUnits.{again}
use Rattle.fast_items.proofs.DecimalItems.{first_exponent}
use Rattle.fast_items.proofs.decimal_items.short_exponent.Goals as goal

pub returns-else-exponent-gt63 : goal.returns-else-exponent-gt63
returns-else-exponent-gt63 c = λ strict.
    let x = to_z w32 (of_z w32 c.exponent_in.result) in
    let fits : FitsSigned w32 c.exponent_in.result = search rules in
    let same : c.in_ok-item.item ≡ Some x = c.in-Some.is ∙ ap Some (search rules ∙ sym (again w32 c.exponent_in.result fits)) in
    let within : IsWithin exponent_range x = search rules in
    first_exponent strict c.args.optional c.args.rest.bytes.now (Some x) 1
    (subst (λ (y : Option ℤ). IsFirstInt (λ z. z) strict delta_range c.args.optional (Whole y 1) c.args.rest.bytes.now) same
    (c.in_ok-item.ensures strict)) within

pub returns-in-None : goal.returns-in-None
returns-in-None c = λ strict.
    first_exponent strict c.args.optional c.args.rest.bytes.now None 1
    (subst (λ (y : Option ℤ). IsFirstInt (λ z. z) strict delta_range c.args.optional (Whole y 1) c.args.rest.bytes.now) c.in-None.is
    (c.in_ok-item.ensures strict)) tt
