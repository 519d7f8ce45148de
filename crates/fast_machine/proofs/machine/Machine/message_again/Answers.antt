-- The template of the next message, which is the latest one's.
use Rattle.std.proofs.Common.{◌<◌, arith, rules, length}
use Rattle.fast_machine.specs.device.Positions.{set_of}
use Rattle.fast_machine.proofs.machines.Ahead.{ahead_again}
use Rattle.fast_machine.proofs.machines.KnownStarts.{start_in}
use Rattle.fast_machine.proofs.steps.Answered.{some_as}
use Rattle.fast_machine.proofs.steps.FieldTurns.{entries_here}
use Rattle.fast_machine.proofs.machine.Machine.message_again.Goals as goal

pub latest_again-requires-clause-some : goal.latest_again-requires-clause-some
latest_again-requires-clause-some c =
    let supplied = c.requires.supplied in
    let size = entries_here (set_of c.args.templates.now) c.args.limits c.args.self.now supplied in
    let some = supplied.some_entry in
    omega (arith, size, some)

pub returns-then-byte-lt192-clause-ahead : goal.returns-then-byte-lt192-clause-ahead
returns-then-byte-lt192-clause-ahead c =
    let rest = c.args.rest.now in
    let some : 0 < length rest = search (rules, c.if-is_empty.ensures, c.is_empty.ensures, c.if-is_empty.false) in
    some_as c.latest_again.result
    (λ s h.
    (let (id, held, w) = h in
    ahead_again (set_of c.args.templates.now) c.args.limits c.args.self.now rest c.requires.supplied some
    c.if-byte-ge128.true id s.now.number w.template w.found w.own w.first held c.if-byte-lt192.true))
    c.latest_again.ensures

pub returns-then-byte-lt192-clause-start : goal.returns-then-byte-lt192-clause-start
returns-then-byte-lt192-clause-start c = some_as c.latest_again.result (λ s h. start_in (set_of c.args.templates.now) h.0 s.now h.2) c.latest_again.ensures
