use Rattle.std.proofs.Common.{rules, ◌≡◌, ◌∷◌, decimal}
use Rattle.std.specs.Fmt.{signed_decimal}
use Rattle.fast_text.proofs.Kept.{with_sign}
use Rattle.fast_text.proofs.Writing.{writes_both, writes_same}
use Rattle.fast_text.proofs.line_writer.LineWriter.put_signed.Goals as goal

pub returns-then-integer-lt0 : goal.returns-then-integer-lt0
returns-then-integer-lt0 g c =
    let shown : 45 ∷ decimal c.unsigned_abs.result ≡ signed_decimal c.args.integer = search (rules, with_sign) in
    writes_same shown (writes_both c.put.ensures c.put_unsigned.ensures)
