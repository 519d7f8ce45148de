use Rattle.std.proofs.Common.{rules, ◌≡◌, ◌∙◌, ap, w32, w64, to_z, of_z}
use Rattle.std.proofs.lemmas.Int.{to_z-of_z}
use mir.Val.{SFits}
use Rattle.std.specs.Fmt.{signed_decimal}
use Rattle.fast_text.proofs.Writing.{writes_both, writes_same}
use Rattle.fast_text.proofs.line_writer.LineWriter.put_value.Goals as goal

pub returns-in-U : goal.returns-in-U
returns-in-U g c = rw c.in-U.is (writes_both c.put.ensures c.put_unsigned.ensures)

pub returns-in-I : goal.returns-in-I
returns-in-I g c =
    let fits : SFits w64 c.in-I.number = search rules in
    let number : signed_decimal (to_z w64 (of_z w64 c.in-I.number)) ≡ signed_decimal c.in-I.number = ap signed_decimal (to_z-of_z w64 c.in-I.number fits) in
    rw c.in-I.is (writes_both c.put-in-I.ensures (writes_same number c.put_signed.ensures))

pub returns-in-Dec : goal.returns-in-Dec
returns-in-Dec g c =
    let fits : SFits w64 c.in-Dec.mantissa = search rules in
    let mantissa : signed_decimal (to_z w64 (of_z w64 c.in-Dec.mantissa)) ≡ signed_decimal c.in-Dec.mantissa =
    ap signed_decimal (to_z-of_z w64 c.in-Dec.mantissa fits) in
    let small : SFits w32 c.in-Dec.exponent = search rules in
    let wide : SFits w64 c.from.result = search rules in
    let exponent : signed_decimal (to_z w64 (of_z w64 c.from.result)) ≡ signed_decimal c.in-Dec.exponent =
    ap signed_decimal (to_z-of_z w64 c.from.result wide ∙ c.from.ensures ∙ to_z-of_z w32 c.in-Dec.exponent small) in
    rw c.in-Dec.is (writes_both (writes_both (writes_both c.put-in-Dec.ensures (writes_same mantissa c.put_signed-in-Dec.ensures))
    c.put-in-Dec-2.ensures) (writes_same exponent c.put_signed-in-Dec-2.ensures))

pub returns-in-Ascii : goal.returns-in-Ascii
returns-in-Ascii g c = rw c.in-Ascii.is c.put_text.ensures

pub returns-in-Unicode : goal.returns-in-Unicode
returns-in-Unicode g c = rw c.in-Unicode.is c.put_text-in-Unicode.ensures

pub returns-in-Bytes : goal.returns-in-Bytes
returns-in-Bytes g c = rw c.in-Bytes.is (writes_both c.put-in-Bytes.ensures c.put_hex.ensures)
