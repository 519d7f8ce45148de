use Rattle.std.proofs.Common.{◌≡◌, take}
use Rattle.std.specs.Prelude.{All}
use Rattle.std.specs.Char.{IsAsciiDigit}
use Rattle.fast_value.specs.meaning.Initial.{digits_value}
use Rattle.fast_value.proofs.initial.parse_digits.Given as goal

abbrev pub invariant-loop-digit : goal.invariant-loop-digit
invariant-loop-digit l = record {
  value : l.number ≡ digits_value (take l.digit-index l.digits);
  all_digits : All IsAsciiDigit (take l.digit-index l.digits);
}
