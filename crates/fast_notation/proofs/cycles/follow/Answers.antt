use Rattle.std.proofs.Common.{get_or, sym, ◌∙◌, subst, arith, true}
use Rattle.std.specs.Prelude.{All}
use Rattle.std.proofs.lemmas.List.{length-set}
use Rattle.std.proofs.lemmas.List.Elements.{All-push}
use Rattle.fast_notation.specs.device.Cycles.{IsReached}
use Rattle.fast_notation.proofs.references.CycleLaws.{refers_here, reached_next, cyclic_here}
use Rattle.fast_notation.proofs.cycles.follow.Goals as goal

pub returns-then-target-start-clause-cyclic : goal.returns-then-target-start-clause-cyclic
returns-then-target-start-clause-cyclic c =
    let graph = c.args.graph.now in
    let k = c.args.template in
    let target = get_or c.deref-target-items.result.now c.loop-target.target-index 0 in
    let here = refers_here graph k c.index-graph-template.result c.deref-target-items.result.now c.loop-target.target-index
    c.requires.here.inside c.index-graph-template.is c.deref-target-items.ensures.value
    c.loop-target-test.true in
    λ yes. cyclic_here graph c.args.start k target c.requires.here here c.if-target-start.true

pub bounds-met-target : goal.bounds-met-target
bounds-met-target c =
    let here = refers_here c.args.graph.now c.args.template c.index-graph-template.result c.deref-target-items.result.now
    c.loop-target.target-index c.requires.here.inside c.index-graph-template.is
    c.deref-target-items.ensures.value c.loop-target-test.true in
    let below = c.requires.within c.args.template (get_or c.deref-target-items.result.now c.loop-target.target-index 0) here in
    let long = c.loop-target.invariant.met in
    omega (arith, below, long)

pub bounds-met-target-in-loop-target : goal.bounds-met-target-in-loop-target
bounds-met-target-in-loop-target c =
    let here = refers_here c.args.graph.now c.args.template c.index-graph-template.result c.deref-target-items.result.now
    c.loop-target.target-index c.requires.here.inside c.index-graph-template.is
    c.deref-target-items.ensures.value c.loop-target-test.true in
    let below = c.requires.within c.args.template (get_or c.deref-target-items.result.now c.loop-target.target-index 0) here in
    let long = c.loop-target.invariant.met in
    omega (arith, below, long)

pub loop-target-preserved : goal.loop-target-preserved
loop-target-preserved c =
    let graph = c.args.graph.now in
    let k = c.args.template in
    let target = get_or c.deref-target-items.result.now c.loop-target.target-index 0 in
    let here = refers_here graph k c.index-graph-template.result c.deref-target-items.result.now c.loop-target.target-index
    c.requires.here.inside c.index-graph-template.is c.deref-target-items.ensures.value
    c.loop-target-test.true in
    let next = reached_next graph c.args.start k target c.requires.within c.requires.here here in
    record {
      met = length-set c.loop-target.met target true ∙ c.loop-target.invariant.met;
      reached = subst (All (IsReached graph c.args.start)) (sym c.in_ok-push.ensures.items)
          (All-push (IsReached graph c.args.start) c.loop-target.ahead.items target c.loop-target.invariant.reached next);
    }
