use Rattle.std.proofs.Common.{map, length, refl, sym, ◌∙◌, ap, subst, arith}
use Rattle.std.specs.HashMap.{get_by_text}
use Rattle.std.proofs.lemmas.List.{length-map}
use Rattle.fast_notation.specs.device.Cycles.{AreWithin, IsCyclic, AreRanked}
use Rattle.fast_notation.specs.device.WrittenSets.{written_data}
use Rattle.fast_notation.proofs.references.CycleLaws.{all_within, long_as, cycle_at}
use Rattle.fast_notation.proofs.references.CycleRanks.{no_earlier_cycle}
use Rattle.fast_notation.proofs.cycles.first_cyclic.Goals as goal

pub components_of-requires : goal.components_of-requires
components_of-requires c =
    let within = all_within (map written_data c.args.templates.now)
    (get_by_text c.args.names.now) c.in_ok-graph.graph.items c.requires.index c.in_ok-graph.ensures in
    subst AreWithin (sym c.deref.ensures.value) within

pub is_cyclic-requires-clause-within : goal.is_cyclic-requires-clause-within
is_cyclic-requires-clause-within c =
    let within = all_within (map written_data c.args.templates.now)
    (get_by_text c.args.names.now) c.in_ok-graph.graph.items c.requires.index c.in_ok-graph.ensures in
    subst AreWithin (sym c.deref-2.ensures.value) within

pub returns-then-branch-clause-cyclic : goal.returns-then-branch-clause-cyclic
returns-then-branch-clause-cyclic c =
    let ts = map written_data c.args.templates.now in
    let look = get_by_text c.args.names.now in
    let graph = c.in_ok-graph.graph.items in
    let first = c.in-Some.first in
    let long = long_as ts look graph c.in_ok-graph.ensures ∙ length-map c.args.templates.now written_data in
    let inside = c.if-first-len.false in
    let len = c.len.ensures in
    let same = ap length c.deref-2.ensures.value in
    let cyclic : IsCyclic graph first = subst (λ g. IsCyclic g first) c.deref-2.ensures.value (c.in_ok-is_cyclic.ensures c.if-branch.true) in
    (omega (arith, inside, len, long, same, c.deref-2.ensures.len, c.requires.few), cycle_at ts look graph c.requires.index c.in_ok-graph.ensures first cyclic)

pub returns-then-branch-clause-first : goal.returns-then-branch-clause-first
returns-then-branch-clause-first c apart j before stands =
    let ts = map written_data c.args.templates.now in
    let graph = c.in_ok-graph.graph.items in
    let ranks = c.in_ok-components.components.ranks.items in
    let first = c.in-Some.first in
    let ranked = subst (λ g. AreRanked g ranks first) c.deref-else-first-len.ensures.value
    (subst (λ rs. AreRanked c.deref-else-first-len.result.now rs first) c.deref-else-first-len-2.ensures.value (c.if-not-are_ranked.ensures refl)) in
    no_earlier_cycle ts (get_by_text c.args.names.now) graph ranks first c.requires.index c.in_ok-graph.ensures apart ranked j before stands
