use Rattle.std.proofs.Common.{◌≢◌, get_or, subst, arith}
use Rattle.std.proofs.lemmas.Bool.Decides.{nat_tests}
use Rattle.fast_wire.proofs.numbers.Overlong.{none_by_first}
use Rattle.fast_fronts.proofs.whole.goes_on.Goals as goal

pub returns-then-first-ne0 : goal.returns-then-first-ne0
returns-then-first-ne0 c = λ more.
    let some : get_or c.args.bytes.now 0 0 ≢ 0 = subst (λ n. n ≢ 0) c.first_in-first.ensures c.if-first-ne0.true in
    none_by_first c.args.bytes.now (grind (arith, nat_tests))
