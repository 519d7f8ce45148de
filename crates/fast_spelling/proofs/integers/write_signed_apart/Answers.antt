-- A negative difference is the complement of one less.
use Rattle.std.proofs.Common.{◌≡◌, ◌-◌, subst, arith}
use Rattle.std.specs.Prelude.{ℤ, true, negsuc, ◌-ℤ◌, Some}
use Rattle.std.proofs.lemmas.Int.{ints}
use Rattle.fast_wire.specs.meaning.Shortest.{IsShortest}
use Rattle.fast_spelling.proofs.bytes.Spelling.{on_ok}
use Rattle.fast_spelling.proofs.integers.write_signed_apart.Goals as goal

pub returns : goal.returns
returns c =
    let order = c.if-a-b.false in
    let apart = c.distance-2.ensures in
    let is : negsuc (c.distance-2.result - 1) ≡ c.args.a -ℤ c.args.b = omega (arith, ints, order, apart) in
    on_ok c.write_negative.result c.write_negative.ensures (λ h. (h.0, h.1, subst (λ (x : ℤ). IsShortest true c.args.nullable (Some x) h.0) is h.2))
