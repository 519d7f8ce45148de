use Rattle.std.proofs.Common.{sym}
use Rattle.fast_machine.specs.device.Positions.{set_of}
use Rattle.fast_machine.proofs.machines.KnownStarts.{latest_in, start_with}
use Rattle.fast_machine.proofs.machine.Machine.latest_again.Goals as goal

pub returns : goal.returns
returns c =
    let start = c.in_ok-start.start in
    let known = latest_in (set_of c.args.templates.now) c.args.self.now.latest start c.in_ok-start.was c.requires.latest in
    (c.in-UInt32.held, sym c.in-UInt32.ensures.1, start_with c.args.templates.now start.now c.in-UInt32.held known c.if-start-held.false)
