use Rattle.std.proofs.Common.{◌∙◌}
use Rattle.fast_machine.specs.device.Positions.{set_of}
use Rattle.fast_machine.proofs.machines.KnownStarts.{latest_in, start_with}
use Rattle.fast_machine.proofs.quick_starts.template_with.Goals as goal

pub returns-in-Some-clause-some : goal.returns-in-Some-clause-some
returns-in-Some-clause-some c =
    let known = latest_in (set_of c.args.templates.now) c.args.latest c.in-Some.start c.in-Some.is c.requires.latest in
    start_with c.args.templates.now c.in-Some.start.now c.args.id known (c.if-start-from.true ∙ c.from.ensures)
