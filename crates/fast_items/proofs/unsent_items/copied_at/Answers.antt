use Rattle.fast_items.proofs.IntegerItems.{copied_item}
use Rattle.fast_items.proofs.unsent_items.copied_at.Goals as goal

pub returns : goal.returns
returns c = copied_item c.args.kind c.args.optional c.args.entry c.args.slots.now c.held.result c.held_item.result c.held.ensures
    c.held_item.ensures.held c.held_item.ensures.absent
