use Rattle.std.proofs.Common.{◌≡◌, ap, ◌∙◌, ◌∷◌, [], ◌++◌, arith}
use Rattle.std.specs.Prelude.{replicate}
use Rattle.std.proofs.lemmas.List.{replicate_more}
use Rattle.fast_dict.specs.declared.held.Held.TheVariants.{Undefined}
use Rattle.fast_dict.proofs.lists.undefined_entries.Goals as goal

pub loop-init : goal.loop-init
loop-init c = c.in_ok-entries.ensures.items

pub loop-preserved : goal.loop-preserved
loop-preserved c = c.in_ok-push.ensures.items ∙ ap (λ hs. hs ++ Undefined ∷ []) c.loop.invariant ∙ replicate_more c.loop.counter Undefined

pub returns : goal.returns
returns c =
    let above = c.loop-test.false in
    let below = c.loop.auto.counter-end in
    let all : c.loop.counter ≡ c.args.count = omega (arith, above, below) in
    c.loop.invariant ∙ ap (λ n. replicate n Undefined) all
