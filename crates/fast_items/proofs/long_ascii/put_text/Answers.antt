-- By operator: the text, or the tail behind what the entry held, is in the scratch or at the entry.
use Rattle.std.proofs.Common.{◌∙◌, refl, ap, ◌++◌}
use Rattle.fast_tree.specs.meaning.Entries.{keeps_value}
use Rattle.fast_dict.specs.meaning.Operators.{with_tail}
use Rattle.fast_items.specs.device.TextItems.{with_last}
use Rattle.fast_items.proofs.TextItems.{scratch_put, copy_put, tail_put}
use Rattle.fast_items.proofs.long_ascii.put_text.Goals as goal

pub returns-in-None-clause-put : goal.returns-in-None-clause-put
returns-in-None-clause-put c _ =
    let text = with_last c.args.front.now c.args.last in
    scratch_put c.args.operator c.args.entry c.args.slots.now c.args.slots.now c.append_text.new.scratch.text text c.in-None.is refl
    (c.append_text.ensures.text ∙ ap (λ t. t ++ text) c.clear.ensures.text)

pub returns-in-Copy-clause-put : goal.returns-in-Copy-clause-put
returns-in-Copy-clause-put c h =
    copy_put c.args.operator c.args.entry c.args.slots.now c.copy_long.new.slots c.copy_long.new.scratch.text
    (with_last c.args.front.now c.args.last) c.in-Copy.is (c.requires.within (ap keeps_value c.in-Copy.is))
    (c.copy_long.ensures.holds h) (c.copy_long.ensures.kept h)

pub returns-in-Tail-clause-put : goal.returns-in-Tail-clause-put
returns-in-Tail-clause-put c h =
    let (base, held, written) = c.tail_long.ensures.kept h in
    let part = with_last c.args.front.now c.args.last in
    tail_put c.args.operator c.args.entry c.args.slots.now c.tail_long.new.slots c.tail_long.new.scratch.text base part
    (with_tail base part) c.in-Tail.is (c.requires.within (ap keeps_value c.in-Tail.is))
    (c.tail_long.ensures.holds h) held refl written
