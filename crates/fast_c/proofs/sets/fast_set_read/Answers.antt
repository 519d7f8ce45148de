use Rattle.std.proofs.Common.{refl, Ok, Err}
use Rattle.fast_c.proofs.sets.fast_set_read.Goals as goal

pub returns-in-Ok : goal.returns-in-Ok
returns-in-Ok c = record { result = Ok c.in-Ok.set.value; ok = c.in-Ok.ensures.ok; err = tt; told = refl; unchanged = tt }

pub returns-in-Err : goal.returns-in-Err
returns-in-Err c = record { result = Err c.in-Err.status; ok = tt; err = c.in-Err.ensures.err; told = c.number.ensures; unchanged = refl }
