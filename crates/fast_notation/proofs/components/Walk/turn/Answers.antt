use Rattle.std.proofs.Common.{◌<◌, length, get_or, Some, ap, sym, ◌∙◌, subst, rules}
use Rattle.std.proofs.lemmas.List.Elements.{All-pop}
use Rattle.fast_notation.specs.declared.components.Step.{Step}
use Rattle.fast_notation.specs.device.Cycles.{numbers}
use Rattle.fast_notation.proofs.references.CycleLaws.{refers_here}
use Rattle.fast_notation.proofs.components.Walk.turn.Goals as goal

pub follow-requires-clause-target : goal.follow-requires-clause-target
follow-requires-clause-target c =
    let graph = c.args.self.now.graph.now in
    let k = c.in-Some.step.template in
    let targets = c.deref.result.now in
    let i = c.in-Some.step.followed in
    let (below, is) = c.in-Some-get.ensures.lookup.3 in
    let here : k < length graph = (All-pop (λ (s : Step). s.template < length graph) c.args.self.now.path.items c.pop.new.self.items
    (Some c.in-Some.step) c.in-Some.ensures.items c.args.self.now.path_within).1 in
    let refers = refers_here graph k c.index-self-step.result targets i here c.index-self-step.is
    (c.deref.ensures.value ∙ ap numbers (sym c.index-self-step.is)) below in
    subst (λ target. target < length graph) (sym (is 0)) (c.args.self.now.graph_within k (get_or targets i 0) refers)

pub leave-requires : goal.leave-requires
leave-requires c =
    let graph = c.args.self.now.graph.now in
    (All-pop (λ (s : Step). s.template < length graph) c.args.self.now.path.items c.pop.new.self.items
    (Some c.in-Some.step) c.in-Some.ensures.items c.args.self.now.path_within).1

pub follow-requires-clause-template : goal.follow-requires-clause-template
follow-requires-clause-template c =
    let graph = c.args.self.now.graph.now in
    (All-pop (λ (s : Step). s.template < length graph) c.args.self.now.path.items c.pop.new.self.items
    (Some c.in-Some.step) c.in-Some.ensures.items c.args.self.now.path_within).1

pub invariant_of-self-in-Some-get : goal.invariant_of-self-in-Some-get
invariant_of-self-in-Some-get c = record {
  graph_within = c.args.self.now.graph_within;
  lowlinks_long = c.args.self.now.lowlinks_long;
  stack_within = c.args.self.now.stack_within;
  path_within = search rules;
}

pub returns-in_ok-follow : goal.returns-in_ok-follow
returns-in_ok-follow c = c.follow.ensures
