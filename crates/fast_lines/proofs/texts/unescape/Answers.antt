use Rattle.std.proofs.Common.{◌≡◌, [], arith}
use Rattle.std.proofs.lemmas.Grind.{common_steps}
use Rattle.fast_lines.proofs.Escapes.{no_other}
use Rattle.fast_lines.proofs.texts.unescape.Goals as goal

pub returns-in_default-clause-none : goal.returns-in_default-clause-none
returns-in_default-clause-none c v h = no_other c.args.text.now c.loop-rest.bytes.items c.loop-rest.rest.now v c.loop-rest.invariant
    (λ (e : c.loop-rest.rest.now ≡ []). grind (arith, common_steps, e)) c.in_default.ensures.none h

pub loop-rest-init : goal.loop-rest-init
loop-rest-init c = grind (arith, common_steps)

pub returns-in_default-clause-value : goal.returns-in_default-clause-value
returns-in_default-clause-value c = grind (arith, common_steps)

pub returns-in_err-push-clause-value : goal.returns-in_err-push-clause-value
returns-in_err-push-clause-value c = grind (arith, common_steps)

pub returns-in_err-push-clause-none : goal.returns-in_err-push-clause-none
returns-in_err-push-clause-none c = grind (arith, common_steps)

pub loop-rest-smaller : goal.loop-rest-smaller
loop-rest-smaller c = grind (arith, common_steps)

pub loop-rest-preserved : goal.loop-rest-preserved
loop-rest-preserved c = grind (arith, common_steps)

pub returns-clause-value : goal.returns-clause-value
returns-clause-value c = grind (arith, common_steps)

pub returns-clause-none : goal.returns-clause-none
returns-clause-none c = grind (arith, common_steps)
