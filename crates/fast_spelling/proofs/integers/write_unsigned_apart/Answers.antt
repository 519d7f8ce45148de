-- By the sign of the difference.
use Rattle.std.proofs.Common.{◌≡◌, ◌-◌, subst, arith}
use Rattle.std.specs.Prelude.{ℤ, true, pos, negsuc, ◌-ℤ◌, Some}
use Rattle.std.proofs.lemmas.Int.{ints}
use Rattle.fast_wire.specs.meaning.Shortest.{IsShortest}
use Rattle.fast_spelling.proofs.bytes.Spelling.{on_ok}
use Rattle.fast_spelling.proofs.integers.write_unsigned_apart.Goals as goal

pub returns-then-a-b : goal.returns-then-a-b
returns-then-a-b c =
    let ge = c.if-a-b.true in
    let is : pos (c.args.a - c.args.b) ≡ pos c.args.a -ℤ pos c.args.b = omega (arith, ints, ge) in
    on_ok c.write_natural.result c.write_natural.ensures (λ h. (h.0, h.1, subst (λ (x : ℤ). IsShortest true c.args.nullable (Some x) h.0) is h.2))

pub returns : goal.returns
returns c =
    let lt = c.if-a-b.false in
    let is : negsuc (c.args.b - c.args.a - 1) ≡ pos c.args.a -ℤ pos c.args.b = omega (arith, ints, lt) in
    on_ok c.write_negative.result c.write_negative.ensures (λ h. (h.0, h.1, subst (λ (x : ℤ). IsShortest true c.args.nullable (Some x) h.0) is h.2))
