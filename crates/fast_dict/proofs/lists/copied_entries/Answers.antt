use Rattle.std.proofs.Common.{rules, ◌∙◌, ap, map, arith}
use Rattle.std.proofs.lemmas.List.{take_all}
use Rattle.fast_dict.specs.meaning.Held.{held_data}
use Rattle.fast_dict.proofs.lists.copied_entries.Goals as goal

pub returns-in_err-copies : goal.returns-in_err-copies
returns-in_err-copies c = search rules

pub loop-held-init : goal.loop-held-init
loop-held-init c = ap (map held_data) c.in_ok-copies.ensures.items

pub offset_bounds-entries-held-index : goal.offset_bounds-entries-held-index
offset_bounds-entries-held-index c = search rules

pub bounds-entries-held-index : goal.bounds-entries-held-index
bounds-entries-held-index c = c.loop-held-test.true

pub returns-in_err-push : goal.returns-in_err-push
returns-in_err-push c = search rules

pub loop-held-smaller : goal.loop-held-smaller
loop-held-smaller c = omega (arith, c.loop-held-test.true)

pub returns : goal.returns
returns c = c.loop-held.invariant ∙ ap (map held_data) (take_all c.loop-held.held-index c.args.entries.now c.loop-held-test.false)
