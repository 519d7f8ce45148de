use Rattle.std.proofs.Common.{◌<◌, ◌^◌, ◌∙◌, sym, rules, arith}
use Rattle.std.proofs.lemmas.Fmt.{decimal_injective}
use Rattle.fast_lines.proofs.numbers.parse_number.Goals as goal

pub returns-in_default-clause-none : goal.returns-in_default-clause-none
returns-in_default-clause-none c n small e =
    let fits : c.in-Some.number < 2 ^ 64 = search rules in
    let same = decimal_injective c.in-Some.number n fits (omega (arith, small)) (sym c.in-Some.ensures.number ∙ e) in
    omega (arith, same, small, c.if-number.false)
