use Rattle.std.proofs.Common.{Ok}
use Rattle.fast_dump.specs.meaning.Pages.{Keeps}
use Rattle.fast_dump.proofs.page.Page.pass.Given as goal

abbrev pub invariant-loop : goal.invariant-loop
invariant-loop g l = Keeps g.T.Target.written g.T.Target.has_failed l.fn.self l.self (Ok tt)
