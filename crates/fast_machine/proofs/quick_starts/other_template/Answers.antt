use Rattle.fast_machine.specs.device.Positions.{set_of}
use Rattle.fast_machine.proofs.machines.KnownStarts.{start_numbered}
use Rattle.fast_machine.proofs.quick_starts.other_template.Goals as goal

pub returns-clause-some : goal.returns-clause-some
returns-clause-some c =
    let (t, found, own, first) = c.in_ok-number.ensures.some in
    let (u, there, is) = c.start_of.ensures.start in
    start_numbered (set_of c.args.templates.now) c.args.id c.in_ok-number.number c.start_of.result.now t u c.start_of.ensures.number there is found own first
