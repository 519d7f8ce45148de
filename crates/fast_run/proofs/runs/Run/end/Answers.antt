use Rattle.std.proofs.Common.{rules}
use Rattle.fast_run.proofs.Running.{bad_end_there, good_there, cut_there}
use Rattle.fast_run.proofs.runs.Run.end.Goals as goal

pub returns-in-Some : goal.returns-in-Some
returns-in-Some c t l hex text b es p = bad_end_there t l hex c.args.self.now text b es c.in-Some.place p
    (rw c.in-Some.is at (c.bad_end.ensures text b p.taken))

pub returns-then-between : goal.returns-then-between
returns-then-between c t l hex text b es p = good_there t l hex c.args.self.now text b es p
    (rw c.in_default.is at (c.bad_end.ensures text b p.taken)) (search rules)

pub returns : goal.returns
returns c t l hex text b es p = cut_there t l hex c.args.self.now text b es p (rw c.in_default.is at (c.bad_end.ensures text b p.taken))
    (search rules) c.consumed.result (search rules)
