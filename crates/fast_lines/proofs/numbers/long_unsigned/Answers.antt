use Rattle.std.proofs.Common.{ap, ◌∙◌, sym, decimal}
use Rattle.std.proofs.lemmas.Bool.Decides.{Decides-eqb}
use Rattle.std.proofs.lemmas.Slice.Eq.{slice_eq-Decides}
use Rattle.fast_lines.proofs.Arms.{not_both}
use Rattle.fast_lines.proofs.Numerals.{decimal_is_utf8, parsed_is, decimal_is_parsed}
use Rattle.fast_lines.proofs.numbers.long_unsigned.Goals as goal

pub returns-in_default-clause-none : goal.returns-in_default-clause-none
returns-in_default-clause-none c n small e = c.in_default.ensures.cases.0 (decimal_is_utf8 c.args.text.now n small e)

pub returns-in_default-parse-clause-none : goal.returns-in_default-parse-clause-none
returns-in_default-parse-clause-none c n small e =
    let same = parsed_is c.in-Ok.digits.now n c.in-Ok-parse.number small (c.in-Ok.ensures.cases.0 ∙ e) c.in-Ok-parse.ensures.value.0 in
    let equal = (slice_eq-Decides Decides-eqb _ _ _ c.eq.ensures).1 (c.as_bytes.ensures.value ∙ c.format.ensures.text ∙ ap decimal same ∙ sym e) in
    not_both c.eq.result equal c.if-eq.false

pub returns-in_default-parse-2-clause-none : goal.returns-in_default-parse-2-clause-none
returns-in_default-parse-2-clause-none c n small e = decimal_is_parsed c.in-Ok.digits.now n small
    (c.in-Ok.ensures.cases.0 ∙ e) c.in_default-parse.ensures.value.0
