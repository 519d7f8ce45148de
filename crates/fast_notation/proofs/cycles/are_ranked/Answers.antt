use Rattle.std.proofs.Common.{length, refl, subst, arith}
use Rattle.std.specs.Prelude.{All, nat_lt}
use Rattle.std.proofs.lemmas.Option.{slice_get_read, slice_get_within}
use Rattle.fast_notation.specs.device.Cycles.{LeadsDown}
use Rattle.fast_notation.proofs.references.CycleRanks.{ranked_more}
use Rattle.fast_notation.proofs.cycles.are_ranked.Goals as goal

pub loop-k-preserved : goal.loop-k-preserved
loop-k-preserved c =
    let graph = c.args.graph.now in
    let ranks = c.args.ranks.now in
    let k = c.loop-k.k in
    let row = c.index-graph-k.result in
    let rank = c.in-Some.rank.now in
    let (inside, is) = c.in-Some.ensures.lookup.3 in
    let at_row = slice_get_read graph (length graph) k row refl c.loop-k-test.true c.index-graph-k.is in
    let at_rank = slice_get_read ranks (length ranks) k rank refl inside (is rank) in
    let down = subst (All (LeadsDown ranks (nat_lt k c.args.first) rank)) c.deref.ensures.value (c.if-not-lead_down.ensures refl) in
    ranked_more graph ranks c.args.first k rank row at_row at_rank down c.loop-k.invariant

pub returns : goal.returns
returns c holds a b refers =
    let inside = slice_get_within c.args.graph.now a refers.0 refers.1 in
    let end = c.loop-k-test.false in
    c.loop-k.invariant a b (omega (arith, inside, end)) refers
