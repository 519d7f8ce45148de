-- Only the first seven bits may be set.
use Rattle.std.proofs.Common.{◌^◌, ◌/◌, List, ap, ◌∙◌, arith}
use Rattle.std.specs.Prelude.{Bool, false, slice_index_or}
use Rattle.fast_spelling.proofs.bytes.OneByte.{stopped_bits, one_byte_map}
use Rattle.fast_spelling.proofs.bytes.Presence.{byte_bits}
use Rattle.fast_spelling.proofs.bits.byte_of.Goals as goal

pub returns-clause-map : goal.returns-clause-map
returns-clause-map c = let fits = c.top_of-top.type_inv in one_byte_map (c.top_of-top.result / 2 ^ 57) (omega (arith, fits))

pub returns-clause-bits : goal.returns-clause-bits
returns-clause-bits c =
    let top = c.top_of-top.result in
    let fits = c.top_of-top.type_inv in
    λ i. ap (λ (b : List Bool). slice_index_or b i false) (stopped_bits (top / 2 ^ 57))
    ∙ byte_bits top (omega (arith, fits)) c.if-top-ne0.false i ∙ c.top_of-top.ensures i
