use Rattle.fast_wire.proofs.numbers.Numbers.{IsNumberSoFar}
use Rattle.fast_cursor.proofs.map_place.word_of.Given as goal

abbrev pub invariant-loop-byte : goal.invariant-loop-byte
invariant-loop-byte l = IsNumberSoFar l.sum l.byte-index l.bytes
