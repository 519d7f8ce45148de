use Rattle.std.proofs.Common.{◌≡◌, ◌++◌, ◌∷◌, [], ap, sym, ◌∙◌, subst, Some}
use Rattle.std.specs.Prelude.{All}
use Rattle.std.proofs.lemmas.List.Elements.{All-push, All-nil, All-pop}
use Rattle.fast_notation.specs.device.Cycles.{IsReached}
use Rattle.fast_notation.proofs.references.CycleLaws.{nowhere}
use Rattle.fast_notation.proofs.cycles.is_cyclic.Goals as goal

pub loop-turn-init : goal.loop-turn-init
loop-turn-init c =
    let graph = c.args.graph.now in
    let start = c.args.start in
    let is : c.push.new.self.items ≡ [] ++ start ∷ [] = c.in_ok-push.ensures.items ∙ ap (λ xs. xs ++ start ∷ []) c.new-ahead.ensures.items in
    record {
      met = c.in_ok-met.ensures.len;
      reached = subst (All (IsReached graph start)) (sym is)
          (All-push (IsReached graph start) [] start (All-nil (IsReached graph start)) (nowhere graph start c.requires.inside));
    }

pub follow-requires-clause-here : goal.follow-requires-clause-here
follow-requires-clause-here c =
    (All-pop (IsReached c.args.graph.now c.args.start) c.loop-turn.ahead.items c.pop.new.self.items
    (Some c.in-Some.template) c.in-Some.ensures.items c.loop-turn.invariant.reached).1
