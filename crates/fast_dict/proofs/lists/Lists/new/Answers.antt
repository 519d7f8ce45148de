-- All entries are undefined.
use Rattle.fast_dict.proofs.Listed.{fresh-held}
use Rattle.fast_dict.proofs.lists.Lists.new.Goals as goal

pub returns-clause-entries : goal.returns-clause-entries
returns-clause-entries c = rw c.in_ok-undefined_entries.ensures (fresh-held c.args.entries)
