-- The entry is as it was, or empty.
use Rattle.std.proofs.Common.{refl}
use Rattle.fast_items.proofs.TextItems.{null_left, null_emptied}
use Rattle.fast_items.proofs.ascii_items.put_null.Goals as goal

pub returns-in-None-clause-put : goal.returns-in-None-clause-put
returns-in-None-clause-put c _ scratch = null_left c.args.operator c.args.entry c.args.slots.now c.args.slots.now scratch c.in-None.is refl

pub returns-in-Copy-clause-put : goal.returns-in-Copy-clause-put
returns-in-Copy-clause-put c _ scratch = null_emptied c.args.operator c.args.entry c.args.slots.now c.set_empty.new.self scratch
    c.in-Copy.is c.set_empty.ensures.entry
