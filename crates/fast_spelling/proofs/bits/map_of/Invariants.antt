-- The map has the bits so far.
use Rattle.std.proofs.Common.{◌≡◌, ℕ, take, length}
use Rattle.std.specs.Prelude.{false, slice_index_or}
use Rattle.fast_spelling.proofs.bits.map_of.Given as goal

abbrev pub invariant-loop-i : goal.invariant-loop-i
invariant-loop-i l = record {
  same : (k : ℕ) → slice_index_or l.map k false ≡ slice_index_or (take l.i l.presence) k false;
  long : length l.map ≡ 1022;
}
