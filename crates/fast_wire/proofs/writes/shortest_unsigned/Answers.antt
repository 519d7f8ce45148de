use Rattle.fast_wire.proofs.numbers.Writing.{full_unsigned}
use Rattle.fast_wire.proofs.writes.shortest_unsigned.Goals as goal

pub returns-clause-shortest : goal.returns-clause-shortest
returns-clause-shortest c =
    let w = c.entity_of.ensures in
    full_unsigned c.entity_of.result (λ h. rw (w.length, w.value) (c.groups.ensures.no_more (rw w.length at h)))
