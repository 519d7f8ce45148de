-- The entry of that number changes alone.
use Rattle.std.proofs.lemmas.List.{map-set}
use Rattle.fast_dict.specs.meaning.Held.{held_data}
use Rattle.fast_dict.specs.declared.held.Held.TheVariants.{Empty}
use Rattle.fast_dict.proofs.lists.ListsStore.set_empty.Goals as goal

pub returns-clause-entry : goal.returns-clause-entry
returns-clause-entry c = map-set held_data c.args.self.now.entries.items c.args.entry Empty
