-- The entries so far are copied.
use Rattle.std.proofs.Common.{◌≡◌, map, take}
use Rattle.fast_dict.specs.meaning.Held.{held_data}
use Rattle.fast_dict.proofs.lists.copied_entries.Given as goal

abbrev pub invariant-loop-held : goal.invariant-loop-held
invariant-loop-held l = map held_data l.copies.items ≡ map held_data (take l.held-index l.entries)
