-- The parts of the op's node, and what its code says of them.
use Rattle.std.proofs.Common.{subst}
use Rattle.std.specs.Prelude.{◌≡◌, ℕ, slice_get, Some}
use Rattle.fast_loop.proofs.arms.Parts.{at_decimal, usual_by, told_parts}
use Rattle.fast_loop.proofs.part_arms.changed_parts_arm.Goals as goal

pub usual_parts_arm-requires : goal.usual_parts_arm-requires
usual_parts_arm-requires g c =
    let found = subst (λ (k : ℕ). slice_get c.args.templates.now.nodes.items k ≡ Some c.node.result.now) c.from.ensures c.node.ensures.found in
    let (under, may, by_delta, there, kept) = told_parts c.args.operator c.args.optional c.args.op.now.entry c.in-Decimal.exponent
    c.in-Decimal.mantissa c.node.result.now.shape c.in-Decimal.is (c.requires.op.is c.node.result.now found) in
    record {
      decimal = at_decimal c.args.templates.now c.args.limits c.args.machine.now c.args.spot.now.place c.args.op.now c.requires.spot
          c.requires.op c.node.result.now found c.in-Decimal.exponent c.in-Decimal.mantissa c.in-Decimal.is;
      usual = usual_by c.in-Decimal.exponent c.args.operator under c.requires.usual;
      operator = under;
      optional = may;
      delta = by_delta;
      mandatory = there;
      entry = kept;
    }
