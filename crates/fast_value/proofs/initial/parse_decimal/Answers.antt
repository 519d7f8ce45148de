use Rattle.std.proofs.Common.{◌+◌, sym, arith, subst}
use Rattle.std.proofs.lemmas.List.{take_rest}
use Rattle.std.proofs.lemmas.Int.{ints, to_z-of_z}
use mir.Syntax.{w32, w64}
use mir.Val.{SFits}
use Rattle.fast_value.specs.meaning.Initial.{IsInteger}
use Rattle.fast_wire.specs.meaning.Integers.{exponent_range}
use Rattle.fast_value.proofs.Numerals.{decimal_without_e, decimal_parts, decimal_of_parts}
use Rattle.fast_value.proofs.initial.parse_decimal.Goals as goal

pub returns-in-None-clause-none : goal.returns-in-None-clause-none
returns-in-None-clause-none c e m h = c.in-None.ensures.none m (decimal_without_e c.args.text.now e m c.in_default.ensures.none h)

pub returns-in_default-parse_int64-clause-none : goal.returns-in_default-parse_int64-clause-none
returns-in_default-parse_int64-clause-none c e m h =
    let f = c.in-Some.ensures in
    c.in_default-parse_int64.ensures.none m (decimal_parts c.args.text.now c.in-Some.at e m f.found.0 f.found.1 f.before h).0

pub returns-in-None-parse_exponent-clause-none : goal.returns-in-None-parse_exponent-clause-none
returns-in-None-parse_exponent-clause-none c e m h =
    let f = c.in-Some.ensures in
    let r = take_rest c.args.text.now (c.in-Some.at + 1) in
    c.in-None-parse_exponent.ensures.none e (subst (λ ts. IsInteger exponent_range ts e) (sym r)
    (decimal_parts c.args.text.now c.in-Some.at e m f.found.0 f.found.1 f.before h).1)

pub returns-in-Some-parse_exponent-clause-decimal :
    goal.returns-in-Some-parse_exponent-clause-decimal
returns-in-Some-parse_exponent-clause-decimal c =
    let f = c.in-Some.ensures in
    let r = take_rest c.args.text.now (c.in-Some.at + 1) in
    let d = decimal_of_parts c.args.text.now c.in-Some.at c.in-Some-parse_exponent.exponent c.in-Some-parse_int64-2.mantissa f.found.0 f.found.1
    c.in-Some-parse_int64-2.ensures.integer (subst (λ ts. IsInteger exponent_range ts c.in-Some-parse_exponent.exponent) r
    c.in-Some-parse_exponent.ensures.integer) in
    let exponent = c.in-Some-parse_exponent.ensures.integer.2 in
    let mantissa = c.in-Some-parse_int64-2.ensures.integer.2 in
    let small : SFits w32 c.in-Some-parse_exponent.exponent = omega (arith, ints, exponent) in
    let wide : SFits w64 c.in-Some-parse_int64-2.mantissa = omega (arith, ints, mantissa) in
    rw (to_z-of_z w32 c.in-Some-parse_exponent.exponent small, to_z-of_z w64 c.in-Some-parse_int64-2.mantissa wide) d
