-- The sum of what the entry holds and the delta.
use Rattle.std.proofs.Common.{sym, ap, ◌∙◌, subst, rules, to_z, of_z, FitsSigned, ℤ}
use Rattle.std.specs.Int.{w64}
use Rattle.std.specs.Prelude.{◌≡◌, ◌+ℤ◌, false, Some}
use Rattle.fast_fronts.specs.device.Fronts.{IsFirstInt}
use Rattle.fast_wire.specs.meaning.Integers.{IsWithin, signed_range}
use Rattle.fast_fronts.specs.declared.fronts.First.TheVariants as First
use Rattle.fast_value.specs.declared.kinds.Kind.TheVariants.{Int64}
use Rattle.fast_value.specs.meaning.Kinds.{I}
use Rattle.fast_dict.specs.meaning.Dictionary.{previous_at, assigned}
use Rattle.fast_dict.specs.meaning.Slots.{slots_dictionary}
use Rattle.fast_items.proofs.DecimalParts.{part_changed, delta_first}
use Rattle.fast_units.proofs.LastUnits.{again}
use Rattle.fast_items.proofs.decimal_parts.changed_part.Goals as goal

pub returns-in_ok-sum-in-Int64 : goal.returns-in_ok-sum-in-Int64
returns-in_ok-sum-in-Int64 c = λ field is.
    let base = to_z w64 (of_z w64 c.in-Int64.base) in
    let j = to_z w64 (of_z w64 c.in_ok-delta.delta) in
    let sum = to_z w64 (of_z w64 c.in_ok-sum-in-Int64.sum) in
    let fits : FitsSigned w64 c.in_ok-delta.delta = search rules in
    let within : IsWithin (signed_range 63) sum = search rules in
    let own : previous_at (Some c.args.entry) (slots_dictionary c.args.slots.now) ≡ assigned Int64 (I base) = search rules in
    let summed : base +ℤ j ≡ sum = search rules in
    part_changed field c.args.strict c.args.rest.bytes.now c.args.slots.now base j sum c.in_ok-delta.bytes
    is.kind is.delta is.mandatory (ap (λ e. previous_at e (slots_dictionary c.args.slots.now)) is.entry ∙ own) summed within
    (delta_first c.args.strict c.args.rest.bytes.now j c.in_ok-delta.bytes
    (subst (λ (y : ℤ). IsFirstInt (λ z. Some z) c.args.strict (signed_range 63) false (First.Whole y c.in_ok-delta.bytes) c.args.rest.bytes.now)
    (sym (again w64 c.in_ok-delta.delta fits)) c.in_ok-delta.ensures))
