-- The characters are compared one by one, until they differ or a text ends.
use Rattle.std.proofs.Common.{◌≡◌, drop, ap, arith, add-one}
use Rattle.std.proofs.lemmas.List.{drop_all}
use Rattle.fast_dict.specs.meaning.Rule.{common_front}
use Rattle.fast_dict.proofs.Fronts.{front_past, front_more, front_stops}
use Rattle.fast_dict.proofs.rule.common.common_front.Goals as goal

pub loop-size-init : goal.loop-size-init
loop-size-init c = record {
  size = c.common_eights-size.ensures.size;
  in_a = c.common_eights-size.ensures.in_a;
  in_b = c.common_eights-size.ensures.in_b;
}

pub loop-size-smaller : goal.loop-size-smaller
loop-size-smaller c = omega (arith, c.loop-size-test.true)

pub loop-size-preserved : goal.loop-size-preserved
loop-size-preserved c =
    let m = front_more c.args.a.now c.args.b.now c.loop-size.size c.loop-size-test.true c.if-size-b.true c.if-a-size.true in
    record {
      size = rw add-one (omega (arith, m, c.loop-size.invariant.size));
      in_a = omega (arith, c.loop-size-test.true);
      in_b = omega (arith, c.if-size-b.true);
    }

pub returns-else-a-size-clause-size : goal.returns-else-a-size-clause-size
returns-else-a-size-clause-size c = let m = front_stops c.args.a.now c.args.b.now c.loop-size.size c.loop-size-test.true c.if-size-b.true
    c.if-a-size.false in omega (arith, m, c.loop-size.invariant.size)

pub returns-else-a-size-clause-in_a : goal.returns-else-a-size-clause-in_a
returns-else-a-size-clause-in_a c = c.loop-size.invariant.in_a

pub returns-else-a-size-clause-in_b : goal.returns-else-a-size-clause-in_b
returns-else-a-size-clause-in_b c = c.loop-size.invariant.in_b

pub returns-else-size-b-clause-size : goal.returns-else-size-b-clause-size
returns-else-size-b-clause-size c = let h = front_past c.args.a.now c.args.b.now c.loop-size.size c.if-size-b.false in
    omega (arith, h, c.loop-size.invariant.size)

pub returns-else-size-b-clause-in_a : goal.returns-else-size-b-clause-in_a
returns-else-size-b-clause-in_a c = c.loop-size.invariant.in_a

pub returns-else-size-b-clause-in_b : goal.returns-else-size-b-clause-in_b
returns-else-size-b-clause-in_b c = c.loop-size.invariant.in_b

pub returns-after-loop-size-clause-size : goal.returns-after-loop-size-clause-size
returns-after-loop-size-clause-size c =
    let none : common_front (drop c.loop-size.size c.args.a.now) (drop c.loop-size.size c.args.b.now) ≡ 0 =
    ap (λ xs. common_front xs (drop c.loop-size.size c.args.b.now)) (drop_all c.loop-size.size c.args.a.now c.loop-size-test.false) in
    omega (arith, none, c.loop-size.invariant.size)

pub returns-after-loop-size-clause-in_a : goal.returns-after-loop-size-clause-in_a
returns-after-loop-size-clause-in_a c = c.loop-size.invariant.in_a

pub returns-after-loop-size-clause-in_b : goal.returns-after-loop-size-clause-in_b
returns-after-loop-size-clause-in_b c = c.loop-size.invariant.in_b
