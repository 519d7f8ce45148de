-- The texts are compared from the back, and the definition turns both round.
use Rattle.std.proofs.Common.{◌≡◌, ◌<◌, ◌≤◌, length, reverse, arith, add-one}
use Rattle.std.specs.Prelude.{slice_index_or}
use Rattle.std.proofs.lemmas.List.{get_or-reverse, length-reverse}
use Rattle.fast_dict.proofs.Fronts.{front_past, front_more, front_stops}
use Rattle.fast_dict.proofs.rule.common.common_back.Goals as goal

pub loop-size-preserved : goal.loop-size-preserved
loop-size-preserved c =
    let e : slice_index_or (reverse c.args.a.now) c.loop-size.size 0 ≡ slice_index_or (reverse c.args.b.now) c.loop-size.size 0 =
    rw (
      get_or-reverse c.args.a.now c.loop-size.size 0 c.loop-size-test.true,
      get_or-reverse c.args.b.now c.loop-size.size 0 c.if-size-b.true,
    ) c.if-a-size.true in
    let a : c.loop-size.size < length (reverse c.args.a.now) = rw length-reverse c.loop-size-test.true in
    let b : c.loop-size.size < length (reverse c.args.b.now) = rw length-reverse c.if-size-b.true in
    let m = front_more (reverse c.args.a.now) (reverse c.args.b.now) c.loop-size.size a b e in
    record {
      size = rw add-one (omega (arith, m, c.loop-size.invariant.size));
      in_a = omega (arith, c.loop-size-test.true);
      in_b = omega (arith, c.if-size-b.true);
    }

pub returns-else-a-size-clause-size : goal.returns-else-a-size-clause-size
returns-else-a-size-clause-size c =
    let e : slice_index_or (reverse c.args.a.now) c.loop-size.size 0 ≡ slice_index_or (reverse c.args.b.now) c.loop-size.size 0
    → ⊥ = rw (
      get_or-reverse c.args.a.now c.loop-size.size 0 c.loop-size-test.true,
      get_or-reverse c.args.b.now c.loop-size.size 0 c.if-size-b.true,
    ) c.if-a-size.false in
    let a : c.loop-size.size < length (reverse c.args.a.now) = rw length-reverse c.loop-size-test.true in
    let b : c.loop-size.size < length (reverse c.args.b.now) = rw length-reverse c.if-size-b.true in
    let m = front_stops (reverse c.args.a.now) (reverse c.args.b.now) c.loop-size.size a b e in
    omega (arith, m, c.loop-size.invariant.size)

pub returns-else-size-b-clause-size : goal.returns-else-size-b-clause-size
returns-else-size-b-clause-size c =
    let b : length (reverse c.args.b.now) ≤ c.loop-size.size = rw length-reverse c.if-size-b.false in
    let m = front_past (reverse c.args.a.now) (reverse c.args.b.now) c.loop-size.size b in
    omega (arith, m, c.loop-size.invariant.size)
