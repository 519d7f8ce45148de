-- The text stands whole in the piece, and is put where it stays.
use Rattle.std.proofs.Common.{◌+◌, refl, length}
use Rattle.std.specs.Prelude.{true, Some}
use Rattle.fast_items.specs.device.TextItems.{with_last, text_source}
use Rattle.fast_items.proofs.TextItems.{sent_whole}
use Rattle.fast_items.proofs.long_ascii.sent_characters.Goals as goal

pub returns-clause-unit : goal.returns-clause-unit
returns-clause-unit c optional =
    let text = with_last c.in_ok-front.front.now (Some c.in_ok-front.last) in
    sent_whole optional c.args.operator c.args.entry c.args.max_text c.args.rest.now c.args.slots.now c.put_text.new.slots
    c.put_text.new.scratch.text (text_source c.args.operator) text true (length c.in_ok-front.front.now + 1)
    (c.in_ok-front.ensures.next optional) (c.if-not-put_text.ensures.put refl)
