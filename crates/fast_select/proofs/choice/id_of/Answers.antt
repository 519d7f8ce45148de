use Rattle.std.proofs.Common.{sym}
use Rattle.fast_select.proofs.choice.id_of.Goals as goal

pub returns-in-Ok-clause-some : goal.returns-in-Ok-clause-some
returns-in-Ok-clause-some c = let h = c.in-Ok.ensures.value.0 in (h.0.0, h.0.1, sym h.1)

pub returns-in-Err-clause-none : goal.returns-in-Err-clause-none
returns-in-Err-clause-none c = λ id h. c.in-Err.ensures.value.0 (h.0, h.1)
