use Rattle.std.proofs.Common.{rules, ◌≡◌, ◌∙◌, ap, ℤ, w32, w64, to_z, of_z}
use Rattle.std.proofs.lemmas.Int.{to_z-of_z}
use mir.Val.{SFits}
use Rattle.std.specs.Fmt.{signed_decimal}
use Rattle.fast_value.specs.meaning.Kinds.{Dec}
use Rattle.fast_text.proofs.Writing.{writes_same}
use Rattle.fast_json.specs.meaning.Json.{json_value}
use Rattle.fast_json.proofs.values.put_value.Goals as goal

pub returns-in-U : goal.returns-in-U
returns-in-U g c = rw c.in-U.is c.put_unsigned.ensures

pub returns-in-I : goal.returns-in-I
returns-in-I g c =
    let fits : SFits w64 c.in-I.number = search rules in
    let number : signed_decimal (to_z w64 (of_z w64 c.in-I.number)) ≡ signed_decimal c.in-I.number = ap signed_decimal (to_z-of_z w64 c.in-I.number fits) in
    rw c.in-I.is (writes_same number c.put_signed.ensures)

pub returns-in-Dec : goal.returns-in-Dec
returns-in-Dec g c =
    let fits : SFits w64 c.in-Dec.mantissa = search rules in
    let small : SFits w32 c.in-Dec.exponent = search rules in
    let value = ap (λ (z : ℤ). json_value (Dec z (to_z w64 (of_z w64 c.in-Dec.mantissa)))) (to_z-of_z w32 c.in-Dec.exponent small)
    ∙ ap (λ (z : ℤ). json_value (Dec c.in-Dec.exponent z)) (to_z-of_z w64 c.in-Dec.mantissa fits) in
    rw c.in-Dec.is (writes_same value c.put_decimal.ensures)

pub returns-in-Ascii : goal.returns-in-Ascii
returns-in-Ascii g c = rw c.in-Ascii.is c.put_string.ensures

pub returns-in-Unicode : goal.returns-in-Unicode
returns-in-Unicode g c = rw c.in-Unicode.is c.put_string-in-Unicode.ensures

pub returns-in-Bytes : goal.returns-in-Bytes
returns-in-Bytes g c = rw c.in-Bytes.is c.put_bytes.ensures
