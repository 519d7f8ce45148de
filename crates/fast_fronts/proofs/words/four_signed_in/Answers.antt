use Rattle.std.proofs.Common.{◌++◌, ◌+◌, ◌/◌, ◌∙◌, refl, ap, subst, take}
use Rattle.std.proofs.lemmas.Int.{to_z-of_z}
use lib.Count.{count_trailing_zeros}
use mir.Syntax.{w64}
use Rattle.fast_wire.specs.meaning.Entities.{number, signed}
use Rattle.fast_wire.specs.device.Words.{IsShortEntity}
use Rattle.fast_wire.proofs.stop_bits.FirstStop.{short_stops_of}
use Rattle.fast_fronts.proofs.stop_bits.FrontWords.{four_turned}
use Rattle.fast_fronts.proofs.stop_bits.Loaded.{padded_are, unpadded}
use Rattle.fast_fronts.proofs.stop_bits.ShortEntities.{are_bytes, by_signed_word, bits_in_four, spread_means}
use Rattle.fast_fronts.proofs.words.four_signed_in.Goals as goal

pub with_sign-low-requires-clause-some : goal.with_sign-low-requires-clause-some
with_sign-low-requires-clause-some c =
    let bytes = c.args.bytes.now in
    let loaded = c.requires.front in
    let all = bytes ++ loaded.zeros in
    let are = padded_are bytes loaded.zeros (are_bytes bytes c.type_inv.bytes) loaded.none in
    (bits_in_four all c.four_of-four.result are loaded.front.enough (c.four_of-four.ensures all are loaded.front) c.if-stops-eq0.false).0

pub returns-clause-entity : goal.returns-clause-entity
returns-clause-entity c =
    let bytes = c.args.bytes.now in
    let loaded = c.requires.front in
    let all = bytes ++ loaded.zeros in
    let are = padded_are bytes loaded.zeros (are_bytes bytes c.type_inv.bytes) loaded.none in
    let four = c.four_of-four in
    let enough = loaded.front.enough in
    let low = c.with_sign-low in
    let loads = four.ensures all are loaded.front in
    let it = by_signed_word all four.result c.swap_bytes.result c.extended.result are enough loads
    (c.swap_bytes.ensures ∙ four_turned four.result all are enough loads) c.if-stops-eq0.false
    (λ front rest bits l are is. spread_means c.extended.result low.result c.from-sum.result front (low.ensures front rest bits l are is)
    (λ w l are is. c.from-sum.ensures ∙ c.packed_short.ensures w l are is) c.extended.ensures) in
    let len = (count_trailing_zeros 32 (short_stops_of four.result) + 1) / 8 in
    let at = it len refl in
    let own = unpadded bytes loaded.zeros (number (take len all)) len loaded.none at.0 in
    let is = to_z-of_z w64 c.extended.result (record { sfits = c.extended.type_inv }) ∙ at.1 ∙ ap signed own.1 in
    (subst (λ n. IsShortEntity n len bytes) (ap number own.1) own.0, is)
