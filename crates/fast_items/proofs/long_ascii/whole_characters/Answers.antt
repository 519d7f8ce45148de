-- The text ends at the first stop of the bytes that there is room for.
use Rattle.std.proofs.Common.{◌+◌, ◌-◌, ◌≡◌, sym, arith, refl, subst, take, length, get_or, List, ℕ}
use Rattle.std.specs.Prelude.{true, Some}
use Rattle.std.proofs.lemmas.List.{length-take-le}
use Rattle.fast_units.specs.device.NextUnits.{IsNextText}
use Rattle.fast_items.specs.device.TextItems.{with_last}
use Rattle.fast_units.specs.declared.progress.Progress.TheVariants.{Whole}
use Rattle.fast_units.proofs.NextTexts.{text_whole}
use Rattle.fast_items.proofs.long_ascii.whole_characters.Goals as goal

pub returns-clause-next : goal.returns-clause-next
returns-clause-next c nullable =
    let room = c.args.max_text in
    let rest = c.args.rest.now in
    let m = c.min.result in
    let last = c.in_ok-last.last in
    let here : List ℕ = take m rest in
    let text : List ℕ = with_last (take last here) (Some (get_or here last 0 - 128)) in
    let stop = c.in_ok-last.ensures in
    let len : length (take last here) ≡ last = length-take-le last here (let i = stop.within in omega (arith, i)) in
    subst (λ (n : ℕ). IsNextText nullable room rest text (Whole true (n + 1))) (sym len)
    (text_whole nullable room rest c.requires.begins m last (take last here) text
    (let k = c.min.ensures in omega (arith, k)) (let k = c.min.ensures in omega (arith, k)) stop.within stop.first stop.found
    (c.type_inv.rest last).fits refl refl)
