use Rattle.std.proofs.Common.{◌≡◌, ◌+◌, ◌-◌, suc, map, sym, subst, add-one, arith, ◌∙◌, ap, length, true}
use Rattle.std.specs.Prelude.{is_some}
use Rattle.std.specs.List.{list_all}
use Rattle.std.specs.HashMap.{get_by_text}
use Rattle.std.proofs.lemmas.List.{length-map}
use Rattle.fast_notation.specs.device.Extents.{AreExtents, named_extent, next_extents}
use Rattle.fast_notation.specs.device.WrittenSets.{written_data}
use Rattle.fast_notation.proofs.references.ChainLaws.{next_round, no_round, rounds_stay}
use Rattle.fast_notation.proofs.chains.extents_of.Goals as goal

pub loop-round-init : goal.loop-round-init
loop-round-init c =
    no_round (map written_data c.args.templates.now) (length c.args.templates.now) c.in_ok-extents.extents.items
    (sym (length-map c.args.templates.now written_data)) c.in_ok-extents.ensures

pub returns-then-are_known : goal.returns-then-are_known
returns-then-are_known c =
    let ts = map written_data c.args.templates.now in
    let es = c.loop-round.extents.items in
    let n = c.loop-round._round in
    let all : list_all is_some es ≡ true = ap (list_all is_some) (sym c.deref.ensures.value) ∙ sym c.are_known.ensures ∙ c.if-are_known.true in
    let rest : (65 - n) + n ≡ 65 = omega (arith, c.loop-round-test.true) in
    subst (λ r. AreExtents ts r es) rest (rounds_stay ts es n (65 - n) all c.loop-round.invariant)

pub loop-round-preserved : goal.loop-round-preserved
loop-round-preserved c =
    let ts = map written_data c.args.templates.now in
    let look = get_by_text c.args.names.now in
    let es = c.loop-round.extents.items in
    let n = c.loop-round._round in
    let is : c.in_ok-extents-2.extents.items ≡ next_extents (named_extent look es) es ts = c.in_ok-extents-2.ensures
    ∙ ap (λ xs. next_extents (named_extent look xs) xs ts) c.deref-in-loop-round.ensures.value in
    let next = next_round ts look n es c.requires.index c.requires.apart c.requires.known c.loop-round.invariant in
    subst (λ r. AreExtents ts r c.in_ok-extents-2.extents.items) (sym (add-one n)) (subst (AreExtents ts (suc n)) (sym is) next)
