use Rattle.std.proofs.Common.{sym, ◌∙◌, inr, arith}
use Rattle.fast_lines.proofs.Numerals.{small_from_range}
use Rattle.fast_lines.proofs.Splits.{first_split, no_split, signed_lacks}
use Rattle.fast_lines.proofs.values.parse_decimal.Goals as goal

pub returns-in_default-clause-none : goal.returns-in_default-clause-none
returns-in_default-clause-none c e m exponent mantissa h = no_split 0x65 c.args.text.now _ _ c.in_default.ensures.none h

pub returns-in_default-2-clause-none : goal.returns-in_default-2-clause-none
returns-in_default-2-clause-none c e m exponent mantissa h =
    let lacks = signed_lacks 0x65 m (small_from_range m mantissa) (inr (omega arith)) in
    let parts = first_split 0x65 _ _ _ _ c.in-Some.ensures.first lacks (sym c.in-Some.ensures.parts ∙ h) in
    c.in_default-2.ensures'.none m mantissa parts.0

pub returns-in_default-2-2-clause-none : goal.returns-in_default-2-2-clause-none
returns-in_default-2-2-clause-none c e m exponent mantissa h =
    let lacks = signed_lacks 0x65 m (small_from_range m mantissa) (inr (omega arith)) in
    let parts = first_split 0x65 _ _ _ _ c.in-Some.ensures.first lacks (sym c.in-Some.ensures.parts ∙ h) in
    let none = rw c.in_default-2.is-0 at c.parse_exponent.ensures.none in
    none e exponent parts.1
