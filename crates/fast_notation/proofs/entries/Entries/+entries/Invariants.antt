use Rattle.std.proofs.Common.{take}
use Rattle.fast_tree.specs.meaning.Entries.{Collects, in_scope}
use Rattle.fast_notation.specs.device.EntryKeys.{scope_data, entries_of}
use Rattle.fast_notation.specs.device.Sound.{uses_in}
use Rattle.fast_notation.proofs.entries.Entries.+entries.Given as goal

abbrev pub invariant-add_fields-loop-field : goal.invariant-add_fields-loop-field
invariant-add_fields-loop-field l = Collects (entries_of l.initial.self)
    (in_scope (scope_data l.scope) (uses_in (take l.field-index l.fields))) (entries_of l.self)
