-- The places so far stand before those of the marks that are left, whose slots have room behind the next one.
use Rattle.std.proofs.Common.{◌≡◌, ◌+◌, ◌*◌, ◌++◌, drop, vec_len}
use Rattle.std.specs.Prelude.{count_by}
use Rattle.fast_dict.specs.device.Places.{places_from}
use Rattle.fast_dict.proofs.slots.places_of.Given as goal

abbrev pub invariant-loop-mark : goal.invariant-loop-mark
invariant-loop-mark l = record {
  placed : l.places.items ++ places_from l.size l.next (drop l.mark-index l.marks) ≡ places_from l.size 0 l.marks;
  room : l.next + count_by (λ b. b) (drop l.mark-index l.marks) * l.size ≡ count_by (λ b. b) l.marks * l.size;
  count : vec_len l.places ≡ l.mark-index;
}
