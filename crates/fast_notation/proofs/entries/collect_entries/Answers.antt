use Rattle.std.proofs.Common.{length, refl, []}
use Rattle.std.proofs.lemmas.Option.{slice_get_read}
use Rattle.fast_tree.specs.meaning.Entries.{scope_of, Collects, in_scope}
use Rattle.fast_notation.specs.device.EntryKeys.{entries_of}
use Rattle.fast_notation.specs.device.Sound.{uses_in}
use Rattle.fast_notation.specs.device.WrittenSets.{written_data}
use Rattle.fast_notation.proofs.lists.EntryLists.{collects_template}
use Rattle.fast_notation.proofs.entries.collect_entries.Goals as goal

pub loop-k-preserved : goal.loop-k-preserved
loop-k-preserved c =
    let ts = c.args.templates.now in
    let k = c.loop-k.k in
    let t = c.index-templates-k.result in
    let read = slice_get_read ts (length ts) k t refl c.loop-k-test.true c.index-templates-k.is in
    let here : Collects (entries_of c.loop-k.entries) (in_scope (scope_of k (written_data t)) (uses_in t.fields.items)) (entries_of c.add_fields.new.self) =
    rw (c.as_str.ensures.value, c.deref.ensures.value) at c.in_ok-add_fields.ensures in
    collects_template [] (entries_of c.loop-k.entries) (entries_of c.add_fields.new.self) ts k t read c.loop-k.invariant here
