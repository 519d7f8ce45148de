-- The entry that was read, in the words of the ghost fields.
use Rattle.std.proofs.lemmas.List.{get_or_read_under}
use Rattle.fast_dict.specs.declared.entry.Entry.TheVariants.{Undefined}
use Rattle.fast_dict.proofs.slots.Slots.entry.Goals as goal

pub returns-clause-value : goal.returns-clause-value
returns-clause-value c = get_or_read_under _ _ _ _ Undefined c.index.ensures c.requires c.args.self.now.entries.ok.0

pub returns-clause-fits : goal.returns-clause-fits
returns-clause-fits c = rw (get_or_read_under c.args.self.now.entries.items c.args.entry _ c.index.result.now Undefined c.index.ensures
    c.requires c.args.self.now.entries.ok.0) (c.args.self.now.fitting c.args.entry)
