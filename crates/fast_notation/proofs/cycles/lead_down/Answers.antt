use Rattle.std.proofs.Common.{◌≡◌, ◌<◌, ◌≤◌, ℕ, length, get_or, refl, sym, ◌∙◌, false, true, arith}
use Rattle.std.specs.Prelude.{nat_eq}
use Rattle.std.proofs.lemmas.Bool.{false≢true}
use Rattle.std.proofs.lemmas.Bool.Decides.{nat_tests}
use Rattle.std.proofs.lemmas.List.Elements.{All-more}
use Rattle.std.proofs.lemmas.Option.{slice_get_read}
use Rattle.fast_notation.specs.device.Cycles.{LeadsDown}
use Rattle.fast_notation.proofs.lists.Lists.{all_taken}
use Rattle.fast_notation.proofs.cycles.lead_down.Goals.{then-is_strict, else-is_strict}
use Rattle.fast_notation.proofs.cycles.lead_down.Goals as goal

pub loop-target-preserved : goal.loop-target-preserved
loop-target-preserved c =
    let ranks = c.args.ranks.now in
    let i = c.loop-target.target-index in
    let next = c.in-Some.next.now in
    let (below, is) = c.in-Some.ensures.lookup.3 in
    let at = slice_get_read ranks (length ranks) (get_or c.args.targets.now i 0) next refl below (is next) in
    let lower : c.args.is_strict ≡ true → next < c.args.rank = λ strict. elim c.if-is_strict.branch [
      | then-is_strict w ↦ strictly next c.args.rank c.if-next-rank.false (sym w.value-is ∙ c.if-next-rank-2.false)
      | else-is_strict w ↦ absurd (false≢true (sym w.if-is_strict.false ∙ strict))
    ] in
    All-more (LeadsDown ranks c.args.is_strict c.args.rank) c.args.targets.now i 0 c.loop-target-test.true c.loop-target.invariant
    (next, at, c.if-next-rank.false, lower)
  where
    strictly : (m n : ℕ) → m ≤ n → nat_eq m n ≡ false → m < n
    strictly m n least other = grind (arith, nat_tests)

pub returns : goal.returns
returns c holds = all_taken (LeadsDown c.args.ranks.now c.args.is_strict c.args.rank) c.args.targets.now c.loop-target.target-index
    c.loop-target-test.false c.loop-target.invariant
