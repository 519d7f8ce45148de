use Rattle.std.proofs.Common.{◌≡◌, ◌-◌, ◌*◌, ◌^◌, ◌≤◌, subst, arith}
use Rattle.fast_wire.proofs.writes.groups.Goals as goal

pub returns-clause-no_more : goal.returns-clause-no_more
returns-clause-no_more c =
    let e : c.loop-len.len ≡ 10 = omega arith in
    λ _. subst (λ m. 2 ^ (7 * (m - 1)) ≤ c.args.n) e (c.loop-len.invariant (omega arith))
