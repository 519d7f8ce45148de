use Rattle.std.proofs.Common.{ap, ◌∙◌, sym, rules, w64, FitsSigned}
use Rattle.std.specs.Fmt.{signed_decimal}
use Rattle.std.proofs.lemmas.Bool.Decides.{Decides-eqb}
use Rattle.std.proofs.lemmas.Slice.Eq.{slice_eq-Decides}
use Rattle.std.proofs.lemmas.Int.{to_z-of_z}
use Rattle.fast_lines.proofs.Arms.{not_both}
use Rattle.fast_lines.proofs.Numerals.{signed_is_utf8, signed_parsed_is, signed_is_parsed}
use Rattle.fast_lines.proofs.numbers.long_signed.Goals as goal

pub returns-in_default-clause-none : goal.returns-in_default-clause-none
returns-in_default-clause-none c x range e = c.in_default.ensures.cases.0 (signed_is_utf8 c.args.text.now x range e)

pub returns-in_default-parse-clause-none : goal.returns-in_default-parse-clause-none
returns-in_default-parse-clause-none c x range e =
    let same = signed_parsed_is c.in-Ok.digits.now x c.in-Ok-parse.number range (c.in-Ok.ensures.cases.0 ∙ e) c.in-Ok-parse.ensures.value.0 in
    let fits : FitsSigned w64 c.in-Ok-parse.number = search rules in
    let equal = (slice_eq-Decides Decides-eqb _ _ _ c.eq.ensures).1
    (c.as_bytes.ensures.value ∙ c.format.ensures.text ∙ ap signed_decimal (to_z-of_z w64 c.in-Ok-parse.number fits ∙ same) ∙ sym e) in
    not_both c.eq.result equal c.if-eq.false

pub returns-in_default-parse-2-clause-none : goal.returns-in_default-parse-2-clause-none
returns-in_default-parse-2-clause-none c x range e = signed_is_parsed c.in-Ok.digits.now x range
    (c.in-Ok.ensures.cases.0 ∙ e) c.in_default-parse.ensures.value.0
