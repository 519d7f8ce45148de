use Rattle.std.proofs.Common.{ℕ, ◌+◌, ◌<◌, ◌^◌, List, ◌++◌, length, take}
use Rattle.fast_value.specs.declared.settings.Limits.{Limits}
use Rattle.fast_tree.specs.meaning.Tree.{Tree}
use Rattle.fast_stream.specs.meaning.Events.{EventData}
use Rattle.fast_dump.specs.device.Progress.{Start, Progress}
use Rattle.fast_dump.proofs.dump.Dump.take.Given as goal

abbrev pub invariant-loop-k : goal.invariant-loop-k
invariant-loop-k g l =
    (first : Start) (t : Tree) (s : Limits) (b : List ℕ) (es : List EventData)
    → Progress g.T.Target.written g.T.Target.has_failed first t s l.fn.self b es → length b + length l.bytes < 2 ^ 64
    → (more : List EventData) × Progress g.T.Target.written g.T.Target.has_failed first t s l.self (b ++ take l.k l.bytes) (es ++ more)
