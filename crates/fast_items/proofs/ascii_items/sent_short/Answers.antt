-- The text stands whole in the bytes.
use Rattle.std.proofs.Common.{subst, take, List, ℕ, sym, refl}
use Rattle.std.specs.Prelude.{true}
use Rattle.fast_units.specs.device.NextUnits.{IsNextText}
use Rattle.fast_items.specs.device.TextItems.{text_source}
use Rattle.fast_units.specs.declared.progress.Progress.TheVariants.{Whole}
use Rattle.fast_items.proofs.TextItems.{sent_whole}
use Rattle.fast_items.proofs.ascii_items.sent_short.Goals as goal

pub returns-clause-unit : goal.returns-clause-unit
returns-clause-unit c optional =
    let room = c.args.slots.now.max_text in
    let n = c.in_ok-count.count in
    let (small, long, next) = c.in_ok-count.ensures in
    let text : List ℕ = take n c.stripped-block.result in
    let stands : IsNextText optional room c.args.rest.now text (Whole true n) =
    subst (λ (w : List ℕ). IsNextText optional room c.args.rest.now (take n w) (Whole true n)) (sym c.stripped-block.ensures)
    (next optional room c.requires.least) in
    sent_whole optional c.args.operator c.args.entry room c.args.rest.now c.args.slots.now c.put_short.new.slots
    c.put_short.new.scratch.text (text_source c.args.operator) text true n stands (c.if-not-put_short.ensures.put refl)
