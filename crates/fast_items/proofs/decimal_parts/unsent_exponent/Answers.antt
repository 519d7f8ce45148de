-- The initial value, or what the entry holds, which lies in the range.
use Rattle.std.proofs.Common.{◌≡◌, sym, ap, ◌∙◌, subst, rules, to_z, of_z, FitsSigned, ℤ, Option}
use Rattle.std.specs.Int.{w32}
use Rattle.std.specs.Prelude.{Some, IfSome, false}
use Rattle.fast_value.specs.declared.kinds.Kind.TheVariants.{Int32}
use Rattle.fast_items.specs.device.DecimalParts.{IsPartKnown}
use Rattle.fast_items.proofs.DecimalParts.{usual_default, usual_held}
use Rattle.fast_units.proofs.LastUnits.{again}
use Rattle.fast_items.proofs.decimal_parts.unsent_exponent.Goals.{in-Default, in_default}
use Rattle.fast_items.proofs.decimal_parts.unsent_exponent.Goals as goal

pub returns-else-exponent-gt63-clause-known : goal.returns-else-exponent-gt63-clause-known
returns-else-exponent-gt63-clause-known c =
    let field = c.args.field.now in
    let seen = c.args.slots.now in
    let fits : FitsSigned w32 c.exponent_in.result = search rules in
    let is : c.match-operator.known ≡ Some (Some (to_z w32 (of_z w32 c.exponent_in.result))) =
    c.in_ok-exponent.was ∙ ap Some (c.in-Some.is ∙ ap Some (search rules ∙ sym (again w32 c.exponent_in.result fits))) in
    subst (λ (o : Option (Option ℤ)). IfSome o (IsPartKnown field false seen)) is (elim c.match-operator.branch [
      | in-Default w ↦ usual_default field seen c.args.operator _ _ c.requires.operator w.in-Default.is w.known-is w.initial_part-known.ensures
      | in_default w ↦ usual_held field seen c.args.operator c.args.optional Int32 _ _ c.requires.usual c.requires.kind c.requires.operator
          c.requires.optional w.in_default.not-Default w.known-is
          w.held_exponent-known.ensures.held w.held_exponent-known.ensures.absent
    ])

pub returns-in-None-clause-known : goal.returns-in-None-clause-known
returns-in-None-clause-known c =
    let field = c.args.field.now in
    let seen = c.args.slots.now in
    subst (λ (o : Option (Option ℤ)). IfSome o (IsPartKnown field false seen)) (c.in_ok-exponent.was ∙ ap Some c.in-None.is) (elim c.match-operator.branch [
      | in-Default w ↦ usual_default field seen c.args.operator _ _ c.requires.operator w.in-Default.is w.known-is w.initial_part-known.ensures
      | in_default w ↦ usual_held field seen c.args.operator c.args.optional Int32 _ _ c.requires.usual c.requires.kind c.requires.operator
          c.requires.optional w.in_default.not-Default w.known-is
          w.held_exponent-known.ensures.held w.held_exponent-known.ensures.absent
    ])
