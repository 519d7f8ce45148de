use Rattle.std.proofs.Common.{map, take, []}
use Rattle.fast_tree.specs.meaning.Entries.{Collects, uses_from}
use Rattle.fast_notation.specs.device.EntryKeys.{entries_of}
use Rattle.fast_notation.specs.device.WrittenSets.{written_data}
use Rattle.fast_notation.proofs.entries.collect_entries.Given as goal

abbrev pub invariant-loop-k : goal.invariant-loop-k
invariant-loop-k l = Collects [] (uses_from 0 (map written_data (take l.k l.templates))) (entries_of l.entries)
