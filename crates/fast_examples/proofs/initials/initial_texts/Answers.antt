use Rattle.std.proofs.Common.{refl, arith, inl, inr}
use Rattle.std.specs.Prelude.{[], ◌∷◌, codes, pos, negsuc}
use Rattle.fast_value.specs.meaning.Kinds.{signed_range, exponent_range}
use Rattle.fast_examples.proofs.Computed.{at_most}
use Rattle.fast_examples.proofs.Encoded.{fits}
use Rattle.fast_examples.proofs.Numerals.{one_digit, two_digits, seven, minus_three}
use Rattle.fast_examples.proofs.initials.initial_texts.Goals as goal

pub returns : goal.returns
returns c = (
  seven,
  minus_three,
  (
    negsuc 0,
    pos 15,
    inr (
      codes "15",
      codes "-1",
      refl,
      (codes "15", two_digits 0x31 0x35 (omega arith) (omega arith) (omega arith) (omega arith), fits (signed_range 63) (pos 15) refl, inl (refl, refl)),
      (codes "1", one_digit 0x31 (omega arith) (omega arith), fits exponent_range (negsuc 0) refl, inr (refl, refl)),
    ),
    refl,
  ),
  (at_most 127 (codes "AB") refl, refl),
  (
    0x01 ∷ 0xFF ∷ [],
    (
      0,
      1,
      0xFF ∷ [],
      inl (omega arith, refl),
      inl (omega arith, refl),
      (15, 15, [], inr (inl (omega arith, omega arith, refl)), inr (inr (omega arith, omega arith, refl)), refl, refl),
      refl,
    ),
    refl,
  ),
)
