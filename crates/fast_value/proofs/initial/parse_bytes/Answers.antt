use Rattle.std.proofs.Common.{sym, ◌∙◌, inl, inr}
use Rattle.fast_value.proofs.HexTexts.{decoded_is_hex, hex_is_decoded}
use Rattle.fast_value.proofs.initial.parse_bytes.Goals as goal

pub returns-in-Ok-clause-bytes : goal.returns-in-Ok-clause-bytes
returns-in-Ok-clause-bytes c = decoded_is_hex c.args.text.now c.in-Ok.bytes.items c.in-Ok.ensures.ok

pub returns-in_default-clause-none : goal.returns-in_default-clause-none
returns-in_default-clause-none c _ w h =
    elim c.in-Err.ensures.err [ inl memory ↦ absurd (c.in_default.not-OutOfMemory memory) | inr bad ↦ cc (sym bad ∙ hex_is_decoded c.args.text.now w h) ]
