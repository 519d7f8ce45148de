use Rattle.std.proofs.Common.{refl}
use Rattle.fast_command.proofs.Outcomes.{on_ok, if_no_err}
use Rattle.fast_command.proofs.show.Show.behind.Goals as goal

pub returns-in-None-clause-unchanged : goal.returns-in-None-clause-unchanged
returns-in-None-clause-unchanged g c = on_ok c.in-Ok.is refl

pub returns-in-None-clause-read : goal.returns-in-None-clause-read
returns-in-None-clause-read g c = on_ok c.in-Ok.is tt

pub returns-in-None-clause-closed : goal.returns-in-None-clause-closed
returns-in-None-clause-closed g c = if_no_err _ c.in-Ok.is

pub returns-in-Some-clause-unchanged : goal.returns-in-Some-clause-unchanged
returns-in-Some-clause-unchanged g c = on_ok c.in-Ok.is refl

pub returns-in-Some-clause-read : goal.returns-in-Some-clause-read
returns-in-Some-clause-read g c = on_ok c.in-Ok.is (c.in-Some.place, refl, c.in-Some.ensures.found)

pub returns-in-Some-clause-closed : goal.returns-in-Some-clause-closed
returns-in-Some-clause-closed g c = if_no_err _ c.in-Ok.is
