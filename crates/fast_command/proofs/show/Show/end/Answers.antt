use Rattle.fast_command.proofs.Progressing.{bad_end_ends, good_ends, truncated_ends, truncated_fails}
use Rattle.fast_command.proofs.show.Show.end.Goals as goal

pub returns-in-Some : goal.returns-in-Some
returns-in-Some g c t l hex text b es p = bad_end_ends t l hex c.args.self.now text b es _ _ c.in-Some.place p
    (rw c.in-Some.is at (c.bad_end.ensures text b p.taken))

pub returns-in_default-cut_at : goal.returns-in_default-cut_at
returns-in_default-cut_at g c t l hex text b es p = good_ends t l hex c.args.self.now text b es _ _ p
    (rw c.in_default.is at (c.bad_end.ensures text b p.taken)) c.in_default-cut_at.ensures.whole

pub returns-in-Ok : goal.returns-in-Ok
returns-in-Ok g c t l hex text b es p = truncated_ends t l hex c.args.self.now text b es _ c.in-Some-cut_at.consumed p
    (rw c.in_default.is at (c.bad_end.ensures text b p.taken)) c.in-Some-cut_at.ensures.cut.0 c.in-Some-cut_at.ensures.cut.1
    c.in-Ok.ensures.written c.in-Ok.ensures.stays

pub returns-in-Err : goal.returns-in-Err
returns-in-Err g c t l hex text b es p = truncated_fails t l hex c.args.self.now text b es _ c.in-Some-cut_at.consumed p
    (rw c.in_default.is at (c.bad_end.ensures text b p.taken)) c.in-Some-cut_at.ensures.cut.0 c.in-Some-cut_at.ensures.cut.1
    c.in-Err.ensures.part c.in-Err.ensures.fails
