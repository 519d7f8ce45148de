use Rattle.std.proofs.Common.{arith, ◌≡◌, ◌∙◌, ◌<◌, ℕ, get_or}
use Rattle.std.proofs.lemmas.Grind.{common_steps}
use Rattle.hex.specs.Hex.{encode_lower}
use Rattle.fast_lines.proofs.HexDigits.{lower_bytes}
use Rattle.fast_text.proofs.Writing.{writes_same}
use Rattle.fast_text.proofs.line_writer.LineWriter.put_hex_chunk.Goals as goal

pub returns : goal.returns
returns g c =
    let small : (i : ℕ) → get_or c.args.bytes.now i 0 < 256 = λ i. omega (arith, c.type_inv.bytes i) in
    let digits : c.encode_to_slice.new.output ≡ encode_lower c.args.bytes.now = grind (arith, common_steps) in
    writes_same (digits ∙ lower_bytes c.args.bytes.now small) c.put.ensures
