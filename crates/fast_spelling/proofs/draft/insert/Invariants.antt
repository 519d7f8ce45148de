-- The front of the piece is in its place.
use Rattle.std.proofs.Common.{◌≡◌, ◌++◌, take, drop}
use Rattle.fast_spelling.proofs.draft.insert.Given as goal

abbrev pub invariant-loop-i : goal.invariant-loop-i
invariant-loop-i l = l.bytes.items ≡ take l.place l.initial.bytes.items ++ take l.i l.piece ++ drop l.place l.initial.bytes.items
