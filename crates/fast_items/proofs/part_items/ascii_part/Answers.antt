-- The part ends with the first stop bit.
use Rattle.std.proofs.Common.{◌-◌, ◌++◌, ◌∷◌, [], take, get_or, subst, List, ℕ, ℤ, FitsSigned}
use Rattle.std.specs.Int.{w64}
use Rattle.fast_value.specs.declared.kinds.Kind.TheVariants.{Ascii}
use Rattle.fast_dict.specs.meaning.Slots.{slots_dictionary}
use Rattle.fast_items.specs.device.TextsAs.{IsJoined}
use Rattle.fast_units.proofs.LastUnits.{again}
use Rattle.fast_items.proofs.JoinedTexts.{part_spelled}
use Rattle.fast_items.proofs.part_items.ascii_part.Goals as goal

pub returns-clause-part : goal.returns-clause-part
returns-clause-part c =
    let rest = c.args.rest.now in
    let last = c.in_ok-last.last in
    let part : List ℕ = take last rest ++ (get_or rest last 0 - 128) ∷ [] in
    let fits : FitsSigned w64 c.args.subtraction = c.ranges.subtraction in
    let byte = c.type_inv.rest last in (
      part,
      subst (λ (k : ℤ). IsJoined Ascii c.args.entry k part c.args.room (slots_dictionary c.args.slots.now)
          (slots_dictionary c.join_ascii.new.slots)) (again w64 c.args.subtraction fits) c.in_ok-join_ascii.ensures.joined,
      λ most fits. part_spelled rest last most c.in_ok-last.ensures.begins c.in_ok-last.ensures.within.0 c.in_ok-last.ensures.before
          c.in_ok-last.ensures.stop byte.fits fits,
    )
