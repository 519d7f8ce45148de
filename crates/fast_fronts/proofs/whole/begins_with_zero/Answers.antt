use Rattle.std.proofs.Common.{◌≢◌, get_or, subst, arith}
use Rattle.std.proofs.lemmas.Bool.Decides.{nat_tests}
use Rattle.fast_wire.proofs.numbers.Overlong.{none_by_first}
use Rattle.fast_fronts.proofs.whole.begins_with_zero.Goals as goal

pub returns : goal.returns
returns c = λ not_zero.
    let some : get_or c.args.bytes.now 0 0 ≢ 0 = subst (λ n. n ≢ 0) c.first_in.ensures (grind (arith, nat_tests)) in
    none_by_first c.args.bytes.now (grind (arith, nat_tests))
