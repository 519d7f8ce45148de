use Rattle.fast_wire.proofs.numbers.Numbers.{IsNumberSoFar}
use Rattle.fast_wire.proofs.reads.number_of.Given as goal

abbrev pub invariant-loop-byte : goal.invariant-loop-byte
invariant-loop-byte l = IsNumberSoFar l.sum l.byte-index l.w
