-- Eight bytes that are the same as one number are the same one by one.
use Rattle.std.proofs.Common.{rules, ◌≡◌, ◌+◌, ◌<◌, ℕ, drop, get_or, arith}
use Rattle.fast_dict.specs.meaning.Rule.{common_front}
use Rattle.fast_dict.proofs.Fronts.{eight_more}
use Rattle.fast_dict.proofs.rule.common.common_eights.Goals as goal

pub loop-size-preserved : goal.loop-size-preserved
loop-size-preserved c =
    let a = c.args.a.now in
    let b = c.args.b.now in
    let k = c.loop-size.size in
    let bytes_a : (i : ℕ) → get_or a i 0 < 256 = λ i. omega (arith, c.type_inv.a i) in
    let bytes_b : (i : ℕ) → get_or b i 0 < 256 = λ i. omega (arith, c.type_inv.b i) in
    let more : common_front (drop k a) (drop k b) ≡ 8 + common_front (drop (k + 8) a) (drop (k + 8) b) =
    eight_more a b k c.eight_at.result c.eight_at-then-size-b.result c.loop-size-test.true c.if-size-b.true bytes_a bytes_b
    c.eight_at.ensures c.eight_at-then-size-b.ensures c.if-eight_at.true in
    record {
      size = omega (arith, more, c.loop-size.invariant.size);
      in_a = c.loop-size-test.true;
      in_b = c.if-size-b.true;
    }

pub loop-size-init : goal.loop-size-init
loop-size-init c = search rules

pub overflow_add-size : goal.overflow_add-size
overflow_add-size c = search rules

pub overflow_add-size-in-loop-size : goal.overflow_add-size-in-loop-size
overflow_add-size-in-loop-size c = search rules

pub eight_at-requires : goal.eight_at-requires
eight_at-requires c = c.loop-size-test.true

pub eight_at-requires-then-size-b : goal.eight_at-requires-then-size-b
eight_at-requires-then-size-b c = c.if-size-b.true

pub overflow_add-size-in-loop-size-2 : goal.overflow_add-size-in-loop-size-2
overflow_add-size-in-loop-size-2 c = search rules

pub loop-size-smaller : goal.loop-size-smaller
loop-size-smaller c = omega (arith, c.loop-size-test.true)

pub returns-else-eight_at-clause-size : goal.returns-else-eight_at-clause-size
returns-else-eight_at-clause-size c = c.loop-size.invariant.size

pub returns-else-eight_at-clause-in_a : goal.returns-else-eight_at-clause-in_a
returns-else-eight_at-clause-in_a c = c.loop-size.invariant.in_a

pub returns-else-eight_at-clause-in_b : goal.returns-else-eight_at-clause-in_b
returns-else-eight_at-clause-in_b c = c.loop-size.invariant.in_b

pub returns-else-size-b-clause-size : goal.returns-else-size-b-clause-size
returns-else-size-b-clause-size c = c.loop-size.invariant.size

pub returns-else-size-b-clause-in_a : goal.returns-else-size-b-clause-in_a
returns-else-size-b-clause-in_a c = c.loop-size.invariant.in_a

pub returns-else-size-b-clause-in_b : goal.returns-else-size-b-clause-in_b
returns-else-size-b-clause-in_b c = c.loop-size.invariant.in_b

pub returns-after-loop-size-clause-size : goal.returns-after-loop-size-clause-size
returns-after-loop-size-clause-size c = c.loop-size.invariant.size

pub returns-after-loop-size-clause-in_a : goal.returns-after-loop-size-clause-in_a
returns-after-loop-size-clause-in_a c = c.loop-size.invariant.in_a

pub returns-after-loop-size-clause-in_b : goal.returns-after-loop-size-clause-in_b
returns-after-loop-size-clause-in_b c = c.loop-size.invariant.in_b
