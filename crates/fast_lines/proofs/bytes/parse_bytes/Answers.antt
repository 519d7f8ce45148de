use Rattle.std.proofs.Common.{inl, inr, sym, subst}
use Rattle.std.specs.Prelude.{All}
use Rattle.fast_value.proofs.HexTexts.{decoded_is_hex, hex_is_decoded}
use Rattle.fast_lines.specs.device.Bytes.{IsNotUpper}
use Rattle.fast_value.specs.meaning.Initial.{IsHex}
use Rattle.fast_lines.proofs.Arms.{not_both, not_ok}
use Rattle.fast_lines.proofs.HexDigits.{hex_is_written, written_is_hex}
use Rattle.fast_lines.proofs.bytes.parse_bytes.Goals as goal

pub returns-then-not-is_lower-clause-none : goal.returns-then-not-is_lower-clause-none
returns-then-not-is_lower-clause-none c v small h =
    let lower : All IsNotUpper c.args.text.now = subst (λ t. All IsNotUpper t) (sym h) (written_is_hex v small).1 in
    let tested = c.is_lower.ensures.1 lower in
    not_both c.is_lower.result tested c.if-not-is_lower.true

pub returns-in-Ok-clause-value : goal.returns-in-Ok-clause-value
returns-in-Ok-clause-value c = hex_is_written c.args.text.now c.in-Ok.bytes.items
    (decoded_is_hex c.args.text.now c.in-Ok.bytes.items c.in-Ok.ensures.ok) (c.is_lower.ensures.0 c.if-not-is_lower.false)

pub returns-in_default-clause-none : goal.returns-in_default-clause-none
returns-in_default-clause-none c v small h =
    elim c.in-Err.ensures.err [
      | inl memory ↦ absurd (c.in_default.not-OutOfMemory memory)
      | inr bad ↦ not_ok _ _ v bad (hex_is_decoded c.args.text.now v (subst (λ t. IsHex t v) (sym h) (written_is_hex v small).0))
    ]
