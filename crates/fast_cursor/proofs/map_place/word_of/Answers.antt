use Rattle.std.proofs.Common.{arith, refl, ap, ◌∙◌, ◌≡◌, take}
use Rattle.std.proofs.lemmas.List.{take_all}
use Rattle.fast_wire.specs.meaning.Entities.{number}
use Rattle.fast_wire.proofs.numbers.Numbers.{one_byte_more}
use Rattle.fast_cursor.proofs.MapWords.{top-word}
use Rattle.fast_cursor.proofs.map_place.word_of.Goals as goal

pub loop-byte-preserved : goal.loop-byte-preserved
loop-byte-preserved c = one_byte_more 64 8 c.loop-byte.byte-index c.loop-byte.sum c.from.result c.args.bytes.now c.loop-byte-test.true
    (omega arith) (omega arith) c.loop-byte.invariant c.from.ensures

pub returns : goal.returns
returns c rest none =
    let all : take c.loop-byte.byte-index c.args.bytes.now ≡ c.args.bytes.now = take_all c.loop-byte.byte-index c.args.bytes.now (omega arith) in
    top-word c.args.bytes.now c.loop-byte.sum _ rest c.requires (c.loop-byte.invariant.value ∙ ap number all) refl none
