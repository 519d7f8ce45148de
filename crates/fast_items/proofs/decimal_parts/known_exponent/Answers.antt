-- The part, which lies in the range.
use Rattle.std.proofs.Common.{sym, ap, ◌∙◌, subst, rules, FitsSigned, ℤ, Option}
use Rattle.std.specs.Int.{w32}
use Rattle.std.specs.Prelude.{Some}
use Rattle.fast_items.specs.device.DecimalParts.{IsPartKnown}
use Rattle.fast_units.proofs.LastUnits.{again}
use Rattle.fast_items.proofs.decimal_parts.known_exponent.Goals as goal

pub returns-else-exponent-gt63-clause-known : goal.returns-else-exponent-gt63-clause-known
returns-else-exponent-gt63-clause-known c =
    let fits : FitsSigned w32 c.exponent_in.result = search rules in
    subst (λ (x : Option ℤ). IsPartKnown c.args.field.now c.args.bit c.args.slots.now x)
    (c.in-Some.is ∙ ap Some (search rules ∙ sym (again w32 c.exponent_in.result fits))) c.in_ok-exponent.ensures

pub returns-in-None-clause-known : goal.returns-in-None-clause-known
returns-in-None-clause-known c = subst (λ (x : Option ℤ). IsPartKnown c.args.field.now c.args.bit c.args.slots.now x) c.in-None.is c.in_ok-exponent.ensures
