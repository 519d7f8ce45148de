use Rattle.std.proofs.Common.{sym, ap, ◌∙◌}
use Rattle.std.specs.Prelude.{Some}
use Rattle.fast_machine.proofs.steps.Answered.{some_as, some_both}
use Rattle.fast_machine.proofs.quick_starts.number_with.Goals as goal

pub returns-then-count-gt-FEW-clause-some : goal.returns-then-count-gt-FEW-clause-some
returns-then-count-gt-FEW-clause-some c = some_both c.by_id.result (λ i h first. (h.0, h.1, h.2, first)) c.by_id.ensures.found c.by_id.ensures.first

pub returns-clause-some : goal.returns-clause-some
returns-clause-some c = some_as c.walk_to.result (λ i h.
    (h.0, h.1, h.2 ∙ ap Some c.from.ensures, λ j u before there its. h.3 j u before there (its ∙ ap Some (sym c.from.ensures))))
    c.walk_to.ensures.some
