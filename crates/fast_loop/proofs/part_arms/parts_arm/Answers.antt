-- The parts of the op's node.
use Rattle.std.proofs.Common.{subst}
use Rattle.std.specs.Prelude.{◌≡◌, ℕ, slice_get, Some}
use Rattle.fast_loop.proofs.arms.Parts.{at_decimal}
use Rattle.fast_loop.proofs.part_arms.parts_arm.Goals as goal

pub other_parts_arm-requires : goal.other_parts_arm-requires
other_parts_arm-requires g c =
    let found = subst (λ (k : ℕ). slice_get c.args.templates.now.nodes.items k ≡ Some c.node.result.now) c.from.ensures c.node.ensures.found in
    record {
      decimal = at_decimal c.args.templates.now c.args.limits c.args.machine.now c.args.spot.now.place c.args.op.now c.requires.spot
          c.requires.op c.node.result.now found c.in-Decimal.exponent c.in-Decimal.mantissa c.in-Decimal.is;
    }
