-- By what is sent.
use Rattle.std.proofs.Common.{refl, sym, ap, ◌∙◌, subst, rules, to_z, of_z, FitsSigned, Option, ℤ}
use Rattle.std.specs.Int.{w64}
use Rattle.std.specs.Prelude.{Bool, Some}
use Rattle.fast_items.specs.device.DecimalParts.{IsPartBy, IsPartKnown}
use Rattle.fast_units.proofs.LastUnits.{again}
use Rattle.fast_items.proofs.decimal_parts.mantissa_part.Goals as goal

pub returns-in-Some : goal.returns-in-Some
returns-in-Some c =
    let fits : FitsSigned w64 c.in-Some.number = search rules in
    let known : IsPartKnown c.args.field.now c.args.bit c.args.slots.now (Some (to_z w64 (of_z w64 c.in-Some.number))) =
    subst (λ (x : Option ℤ). IsPartKnown c.args.field.now c.args.bit c.args.slots.now x)
    (c.in-Some.is ∙ ap Some (sym (again w64 c.in-Some.number fits))) c.in_ok-number-2.ensures in
    subst (λ (b : Bool). IsPartBy b c.args.field.now c.args.bit c.args.strict c.args.rest.bytes.now c.args.slots.now
    (Some (to_z w64 (of_z w64 c.in-Some.number))) 0)
    (sym c.if-needs_bytes.false ∙ c.needs_bytes.ensures.needed) (refl, known)
