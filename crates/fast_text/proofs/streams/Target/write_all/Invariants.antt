use Rattle.std.proofs.Common.{◌≡◌, ℕ, List, ◌++◌, length}
use Rattle.fast_text.specs.meaning.Streams.{Appends}
use Rattle.fast_text.proofs.streams.Target.write_all.Given as goal

abbrev pub invariant-loop-rest : goal.invariant-loop-rest
invariant-loop-rest g l = (front : List ℕ) × (l.piece ≡ front ++ l.rest)
    × Appends (g.Self.Target.written l.fn.self) (g.Self.Target.written l.self) front
    × (g.Self.Target.has_failed l.self ≡ g.Self.Target.has_failed l.fn.self)

abbrev pub decreases-loop-rest : goal.decreases-loop-rest
decreases-loop-rest g l = length l.rest
