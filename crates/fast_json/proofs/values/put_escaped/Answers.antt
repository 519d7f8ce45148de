use Rattle.std.proofs.Common.{◌≡◌, [], ◌∷◌, flat_map, arith}
use Rattle.std.proofs.lemmas.Grind.{common_steps}
use Rattle.fast_lines.specs.meaning.Lines.{hex_byte}
use Rattle.fast_json.specs.meaning.Json.{json_escaped}
use Rattle.fast_text.proofs.Writing.{writes_both, writes_same}
use Rattle.fast_json.proofs.values.put_escaped.Goals as goal

pub returns-then-byte-eq127 : goal.returns-then-byte-eq127
returns-then-byte-eq127 g c =
    let shown : 0x5C ∷ 0x75 ∷ 0x30 ∷ 0x30 ∷ flat_map hex_byte (c.args.byte ∷ []) ≡ json_escaped c.args.byte = grind (arith, common_steps) in
    writes_same shown (writes_both c.put-then-byte-eq127.ensures c.put_hex.ensures)
