use Rattle.fast_machine.specs.device.Positions.{set_of}
use Rattle.fast_machine.proofs.machines.KnownStarts.{start_numbered}
use Rattle.fast_machine.proofs.heads.template_of.Goals as goal

pub returns-then-id-from-clause-some : goal.returns-then-id-from-clause-some
returns-then-id-from-clause-some c =
    let id = c.in_ok-id.id in
    let (t, found, own, first) = c.in_ok-number.ensures.some in
    let (u, there, is) = c.start_of.ensures.start in (
      id,
      c.in_ok-id.was,
      start_numbered (set_of c.args.templates.now) id c.in_ok-number.number c.start_of.result.now t u
          c.start_of.ensures.number there is found own first,
    )
