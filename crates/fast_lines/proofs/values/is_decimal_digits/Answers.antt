use Rattle.fast_lines.proofs.Splits.{no_split}
use Rattle.fast_lines.proofs.BigNumbers.{both_true, and_true, decimal_split}
use Rattle.fast_lines.proofs.values.is_decimal_digits.Goals as goal

pub returns-in-Some : goal.returns-in-Some
returns-in-Some c =
    let front = c.in-Some.mantissa.now in
    let back = c.in-Some.exponent.now in (
      λ t. let tests = both_true c.is_signed_digits.result c.is_signed_digits-in-Some.result t in
          record {
            mantissa = front;
            exponent = back;
            is = c.in-Some.ensures.parts;
            before = c.is_signed_digits.ensures.0 tests.0;
            behind = c.is_signed_digits-in-Some.ensures.0 tests.1;
          },
      λ h. let parts = decimal_split c.args.text.now front back c.in-Some.ensures.first c.in-Some.ensures.parts h in
          and_true c.is_signed_digits.result c.is_signed_digits-in-Some.result (c.is_signed_digits.ensures.1 parts.0)
          (c.is_signed_digits-in-Some.ensures.1 parts.1),
    )

pub returns-in-None : goal.returns-in-None
returns-in-None c = ((λ t. cc t), (λ h. absurd (no_split 0x65 c.args.text.now h.mantissa h.exponent c.in-None.ensures.none h.is)))
