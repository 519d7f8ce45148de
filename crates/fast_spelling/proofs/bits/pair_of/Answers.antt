-- Only the first fourteen bits may be set, and one after the seventh is.
use Rattle.std.proofs.Common.{◌≢◌, ◌*◌, ◌/◌, ◌%◌, ◌^◌, ◌++◌, ℕ, List, ap, ◌∙◌, arith}
use Rattle.std.specs.Prelude.{Bool, false, slice_index_or}
use Rattle.fast_wire.specs.meaning.Maps.{seven_bits}
use Rattle.fast_spelling.proofs.bytes.OneByte.{stopped_bits, two_byte_map}
use Rattle.fast_spelling.proofs.bytes.Presence.{pair_bits}
use Rattle.fast_spelling.proofs.bits.pair_of.Goals as goal

pub returns-clause-map : goal.returns-clause-map
returns-clause-map c =
    let top = c.top_of-top.result in
    let fits = c.top_of-top.type_inv in
    let end = c.if-top-ne0.false in
    let last : ℕ = top * 128 % 2 ^ 64 / 2 ^ 57 in
    let some : last ≢ 0 = λ z. c.if-top-eq0.false (omega (arith, z, end, fits)) in
    two_byte_map (top / 2 ^ 57) last (omega (arith, fits)) (omega arith) some

pub returns-clause-bits : goal.returns-clause-bits
returns-clause-bits c =
    let top = c.top_of-top.result in
    let fits = c.top_of-top.type_inv in
    λ i. ap (λ (b : List Bool). slice_index_or (seven_bits (top / 2 ^ 57) ++ b) i false) (stopped_bits (top * 128 % 2 ^ 64 / 2 ^ 57))
    ∙ pair_bits top (omega (arith, fits)) c.if-top-ne0.false i ∙ c.top_of-top.ensures i
