use Rattle.std.proofs.Common.{[], arith}
use Rattle.fast_records.proofs.Back.{kind_known}
use Rattle.fast_records.proofs.lent.mark_of.Goals as goal

pub returns-in_err-number_of-in_default-clause-none : goal.returns-in_err-number_of-in_default-clause-none
returns-in_err-number_of-in_default-clause-none c = rw c.from_residual.ensures
    (λ e h. let k = kind_known c.args.record [] e h in (
      grind (arith, k, c.in_default, c.in_err-number_of-in_default.ensures.none),
      grind (arith, k, c.in_default, c.in_err-number_of-in_default.ensures.none),
    ))
