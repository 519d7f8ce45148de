-- There are as many as the dictionary has.
use Rattle.std.proofs.Common.{◌∙◌, sym}
use Rattle.fast_dict.specs.meaning.Slots.{length-entries}
use Rattle.fast_dict.proofs.slots.SlotsStore.entries.Goals as goal

pub returns : goal.returns
returns c = c.len.ensures ∙ c.args.self.now.entries.ok.0
    ∙ sym (length-entries c.args.self.now.block.items c.args.self.now.places.items c.args.self.now.entries.items)
