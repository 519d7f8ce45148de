use Rattle.std.proofs.Common.{refl, ◌<◌, arith, length}
use Rattle.std.proofs.lemmas.Option.{slice_get_within}
use Rattle.fast_template.specs.meaning.Flat.{templates_of}
use Rattle.fast_machine.proofs.heads.walk_to.Goals as goal

pub returns-then-has_id-clause-some : goal.returns-then-has_id-clause-some
returns-then-has_id-clause-some c = (c.template.result.now, c.template.ensures.found, c.if-has_id.ensures.0 refl, c.loop-number.invariant)

pub returns-clause-none : goal.returns-clause-none
returns-clause-none c j t found own =
    let within : j < length (templates_of c.args.templates.now) = slice_get_within (templates_of c.args.templates.now) j t found in
    let count = c.count-number-end.ensures in
    let far = c.loop-number-test.false in
    c.loop-number.invariant j t (omega (arith, within, count, far)) found own
