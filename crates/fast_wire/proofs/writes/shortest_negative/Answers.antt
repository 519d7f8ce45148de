use Rattle.std.specs.Prelude.{negsuc}
use Rattle.fast_wire.proofs.numbers.Writing.{full_at, negative_at}
use Rattle.fast_wire.proofs.writes.shortest_negative.Goals as goal

pub returns-clause-value : goal.returns-clause-value
returns-clause-value c =
    let w = c.entity_of.ensures in
    let g = c.groups-len.ensures in
    negative_at c.entity_of.result c.groups-len.result c.args.complement w.length w.value g.some g.few g.enough

pub returns-clause-shortest : goal.returns-clause-shortest
returns-clause-shortest c =
    let w = c.entity_of.ensures in
    let g = c.groups-len.ensures in
    full_at c.entity_of.result c.groups-len.result (negsuc c.args.complement) w.length
    (negative_at c.entity_of.result c.groups-len.result c.args.complement w.length w.value g.some g.few g.enough)
    g.no_more
