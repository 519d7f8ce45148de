-- All entries are undefined.
use Rattle.std.proofs.lemmas.List.{length-map}
use Rattle.fast_dict.proofs.Listed.{fresh-held}
use Rattle.fast_dict.proofs.lists.ListsStore.reset_all.Goals as goal

pub returns-clause-entries : goal.returns-clause-entries
returns-clause-entries c = rw (c.clear_all.ensures.items, length-map, ← c.args.self.now.entries.ok.0) (fresh-held _)
