-- By operator: the text, or the tail behind what the entry held, is in the scratch or at the entry.
use Rattle.std.proofs.Common.{◌∙◌, refl, ap, ◌++◌, take}
use Rattle.fast_tree.specs.meaning.Entries.{keeps_value}
use Rattle.fast_dict.specs.meaning.Operators.{with_tail}
use Rattle.fast_items.proofs.TextItems.{scratch_put, copy_put, tail_put}
use Rattle.fast_items.proofs.ascii_items.put_short.Goals as goal

pub returns-in-None-clause-put : goal.returns-in-None-clause-put
returns-in-None-clause-put c _ =
    let text = take c.args.count c.args.block.now in
    scratch_put c.args.operator c.args.entry c.args.slots.now c.args.slots.now c.append_front.new.self.text text c.in-None.is refl
    (c.append_front.ensures.text ∙ ap (λ t. t ++ text) c.clear.ensures.text)

pub returns-else-not-takes_text-clause-put : goal.returns-else-not-takes_text-clause-put
returns-else-not-takes_text-clause-put c _ =
    copy_put c.args.operator c.args.entry c.args.slots.now c.set_ascii_block.new.self c.args.scratch.now.text
    (take c.args.count c.args.block.now) c.in-Copy.is (c.requires.within (ap keeps_value c.in-Copy.is))
    c.set_ascii_block.ensures.holds c.set_ascii_block.ensures.entry

pub returns-in-Tail-clause-put : goal.returns-in-Tail-clause-put
returns-in-Tail-clause-put c h =
    let (base, held, written) = c.set_ascii_tail.ensures.tail h in
    let part = take c.args.count c.args.block.now in
    tail_put c.args.operator c.args.entry c.args.slots.now c.set_ascii_tail.new.self c.args.scratch.now.text base part
    (with_tail base part) c.in-Tail.is (c.requires.within (ap keeps_value c.in-Tail.is))
    (c.set_ascii_tail.ensures.holds h) held refl written
