use Rattle.fast_notation.proofs.lists.EntryLists.{added}
use Rattle.fast_notation.proofs.entries.Entries.add.Goals as goal
use Rattle.fast_notation.proofs.entries.Entries.add.Goals.{in-Ok, in-Err}

pub returns : goal.returns
returns c = elim c.match-insert_full.branch [
  | in-Ok w ↦ rw w.result-is (added c.args.key c.args.self.now.keys.keys c.insert_full.new.self.keys (rw w.in-Ok.is at c.insert_full.ensures.keys))
  | in-Err w ↦ rw w.result-is tt
]
