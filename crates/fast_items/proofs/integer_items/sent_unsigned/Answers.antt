use Rattle.std.proofs.Common.{subst}
use Rattle.std.specs.Prelude.{pos, option_map}
use Rattle.fast_fronts.specs.device.Fronts.{IsFirstInt}
use Rattle.fast_fronts.specs.declared.fronts.First.TheVariants.{Whole}
use Rattle.fast_items.proofs.IntegerItems.{sent_item}
use Rattle.fast_items.proofs.integer_items.sent_unsigned.Goals as goal

pub returns-clause-unit : goal.returns-clause-unit
returns-clause-unit c =
    let x = option_map pos c.in_ok-number.number in
    sent_item c.args.kind c.args.optional c.args.operator c.args.entry c.args.strict c.args.rest.bytes.now c.args.slots.now c.keep_item_at.new.slots x
    (record { item = c.unsigned_number-item.result; bytes = c.in_ok-number.bytes })
    c.requires.integers c.requires.no_delta c.requires.no_constant
    (subst (λ range. IsFirstInt (λ y. y) c.args.strict range c.args.optional (Whole x c.in_ok-number.bytes) c.args.rest.bytes.now)
    c.requires.range c.in_ok-number.ensures)
    (c.unsigned_number-item.ensures c.args.kind c.requires.unsigned)
    c.keep_item_at.ensures.entry
