use Rattle.std.specs.Prelude.{pos}
use Rattle.fast_wire.proofs.numbers.Writing.{full_at, natural_at}
use Rattle.fast_wire.proofs.writes.shortest_natural.Goals as goal

pub returns-clause-value : goal.returns-clause-value
returns-clause-value c =
    let w = c.entity_of.ensures in
    natural_at c.entity_of.result c.groups.result c.args.sum w.length w.value c.groups.ensures.some c.groups.ensures.enough

pub returns-clause-shortest : goal.returns-clause-shortest
returns-clause-shortest c =
    let w = c.entity_of.ensures in
    full_at c.entity_of.result c.groups.result (pos c.args.sum) w.length
    (natural_at c.entity_of.result c.groups.result c.args.sum w.length w.value c.groups.ensures.some c.groups.ensures.enough)
    c.groups.ensures.no_more
