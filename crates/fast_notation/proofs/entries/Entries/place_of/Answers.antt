use Rattle.fast_notation.proofs.lists.EntryLists.{place_found, place_missing}
use Rattle.fast_notation.proofs.entries.Entries.place_of.Goals as goal

pub returns-clause-found : goal.returns-clause-found
returns-clause-found c = place_found c.args.key.now c.args.self.now.keys.keys c.get_index_of.result c.get_index_of.ensures.index

pub returns-clause-none : goal.returns-clause-none
returns-clause-none c = place_missing c.args.key.now c.args.self.now.keys.keys c.get_index_of.result c.get_index_of.ensures.found
