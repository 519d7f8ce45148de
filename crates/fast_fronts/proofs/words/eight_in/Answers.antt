use Rattle.std.proofs.Common.{◌∙◌, ◌++◌, ◌+◌, ◌/◌}
use lib.Count.{count_trailing_zeros}
use Rattle.fast_wire.proofs.stop_bits.FirstStop.{stops_of}
use Rattle.fast_fronts.proofs.stop_bits.FrontWords.{word_turned}
use Rattle.fast_fronts.proofs.stop_bits.Loaded.{padded_are, unpadded}
use Rattle.fast_fronts.proofs.stop_bits.ShortEntities.{are_bytes, by_word}
use Rattle.fast_fronts.proofs.words.eight_in.Goals as goal

pub returns : goal.returns
returns c =
    let bytes = c.args.bytes.now in
    let loaded = c.requires.front in
    let all = bytes ++ loaded.zeros in
    let are = padded_are bytes loaded.zeros (are_bytes bytes c.type_inv.bytes) loaded.none in
    let front = loaded.front in
    let entity = by_word all c.args.word c.swap_bytes.result c.packed_whole.result are front.enough front.same
    (c.swap_bytes.ensures ∙ word_turned c.args.word all are front) c.if-stops-eq0.false
    c.packed_whole.ensures in
    (unpadded bytes loaded.zeros c.packed_whole.result ((count_trailing_zeros 64 (stops_of c.args.word) + 1) / 8) loaded.none entity).0
