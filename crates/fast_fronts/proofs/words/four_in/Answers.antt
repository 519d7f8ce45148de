use Rattle.std.proofs.Common.{◌∙◌, ◌++◌, ◌+◌, ◌/◌, arith}
use lib.Count.{count_trailing_zeros}
use Rattle.fast_wire.proofs.stop_bits.FirstStop.{short_stops_of}
use Rattle.fast_fronts.proofs.stop_bits.FrontWords.{four_turned}
use Rattle.fast_fronts.proofs.stop_bits.Loaded.{padded_are, unpadded}
use Rattle.fast_fronts.proofs.stop_bits.ShortEntities.{are_bytes, by_short_word}
use Rattle.fast_fronts.proofs.words.four_in.Goals as goal

pub returns-clause-entity : goal.returns-clause-entity
returns-clause-entity c =
    let bytes = c.args.bytes.now in
    let loaded = c.requires.front in
    let all = bytes ++ loaded.zeros in
    let are = padded_are bytes loaded.zeros (are_bytes bytes c.type_inv.bytes) loaded.none in
    let four = c.four_of-four in
    let enough = loaded.front.enough in
    let is = four.ensures all are loaded.front in
    let entity = by_short_word all four.result c.swap_bytes.result c.from.result are (omega (arith, enough)) is
    (c.swap_bytes.ensures ∙ four_turned four.result all are enough is) c.if-stops-eq0.false
    (λ w l are is. c.from.ensures ∙ c.packed_short.ensures w l are is) in
    (unpadded bytes loaded.zeros c.from.result ((count_trailing_zeros 32 (short_stops_of four.result) + 1) / 8) loaded.none entity).0
