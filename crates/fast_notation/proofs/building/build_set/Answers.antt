use Rattle.std.proofs.Common.{map, subst, []}
use Rattle.std.specs.HashMap.{get_by_text}
use Rattle.fast_tree.specs.meaning.Entries.{Collects, uses_from}
use Rattle.fast_notation.specs.device.EntryKeys.{entries_of}
use Rattle.fast_notation.specs.device.WrittenSets.{written_data}
use Rattle.fast_notation.proofs.outcomes.ReadLaws.{checked_indexed}
use Rattle.fast_notation.proofs.building.build_set.Goals as goal

pub build-requires-clause-set : goal.build-requires-clause-set
build-requires-clause-set c =
    let es = entries_of c.in_ok-entries.entries in
    checked_indexed (get_by_text c.args.set.now.names) (map written_data c.args.set.now.templates.items) es c.requires
    (subst (λ ts. Collects [] (uses_from 0 (map written_data ts)) es) c.deref.ensures.value c.in_ok-entries.ensures)
