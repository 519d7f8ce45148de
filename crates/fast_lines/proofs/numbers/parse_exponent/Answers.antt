use Rattle.std.proofs.Common.{◌∙◌, sym, rules, arith, w64, FitsSigned}
use Rattle.std.proofs.lemmas.Fmt.{signed_decimal_injective}
use Rattle.std.proofs.lemmas.Int.{ints, to_z-of_z}
use Rattle.fast_lines.proofs.Numerals.{small_from_narrow}
use Rattle.fast_lines.proofs.numbers.parse_exponent.Goals as goal

pub returns-in_default-clause-none : goal.returns-in_default-clause-none
returns-in_default-clause-none c x range e =
    let fits : FitsSigned w64 c.in-Some.number = search rules in
    let same = signed_decimal_injective c.in-Some.number x fits.sfits (small_from_narrow x range) (sym c.in-Some.ensures.number ∙ e) in
    let read = to_z-of_z w64 c.in-Some.number fits ∙ same in
    let test = rw read at c.if-number-2.false in
    grind (arith, ints, test)

pub returns-in_default-2-clause-none : goal.returns-in_default-2-clause-none
returns-in_default-2-clause-none c x range e =
    let fits : FitsSigned w64 c.in-Some.number = search rules in
    let same = signed_decimal_injective c.in-Some.number x fits.sfits (small_from_narrow x range) (sym c.in-Some.ensures.number ∙ e) in
    let read = to_z-of_z w64 c.in-Some.number fits ∙ same in
    let test = rw read at c.if-number.false in
    grind (arith, ints, test)
