use Rattle.std.proofs.Common.{get_or, subst}
use Rattle.std.proofs.lemmas.Bool.Decides.{not_from_Decides}
use Rattle.fast_wire.proofs.numbers.Overlong.{RepeatsSign, none_by_sign}
use Rattle.fast_fronts.proofs.whole.is_refused_signed_front.Goals as goal

pub returns-then-strict : goal.returns-then-strict
returns-then-strict c = λ other strict.
    let repeats = c.repeats_sign in
    let by_first = subst (λ first. RepeatsSign repeats.result first c.second_in.result) c.first_in.ensures repeats.ensures in
    let by_both = subst (λ second. RepeatsSign repeats.result (get_or c.args.bytes.now 0 0) second) c.second_in.ensures by_first in
    none_by_sign c.args.bytes.now (not_from_Decides repeats.result by_both other)
