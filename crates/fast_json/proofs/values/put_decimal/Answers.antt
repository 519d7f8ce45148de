use Rattle.std.proofs.Common.{rules, ◌∙◌, ap, w32, w64}
use Rattle.std.proofs.lemmas.Int.{to_z-of_z}
use mir.Val.{SFits}
use Rattle.std.specs.Fmt.{signed_decimal}
use Rattle.fast_text.proofs.Writing.{writes_both, writes_same}
use Rattle.fast_json.proofs.values.put_decimal.Goals as goal

pub returns : goal.returns
returns g c =
    let wide : SFits w64 c.from.result = search rules in
    let small : SFits w32 c.args.exponent = search rules in
    let fits : SFits w64 c.args.mantissa = search rules in
    let mantissa = writes_same (ap signed_decimal (to_z-of_z w64 c.args.mantissa fits)) c.put_signed.ensures in
    let exponent = writes_same (ap signed_decimal (to_z-of_z w64 c.from.result wide ∙ c.from.ensures
    ∙ to_z-of_z w32 c.args.exponent small)) c.put_signed-2.ensures in
    writes_both (writes_both (writes_both (writes_both c.put.ensures mantissa) c.put-2.ensures) exponent) c.put-3.ensures
