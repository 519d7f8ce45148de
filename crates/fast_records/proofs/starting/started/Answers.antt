use Rattle.std.proofs.Common.{◌≡◌, ◌∙◌, ap, sym, length, [], arith}
use Rattle.std.proofs.lemmas.Bool.Decides.{nat_tests}
use Rattle.std.proofs.lemmas.List.{nil_from_length}
use Rattle.fast_records.specs.meaning.Waiting.{pending}
use Rattle.fast_records.proofs.Shown.{shows_none}
use Rattle.fast_records.proofs.starting.started.Goals as goal

pub returns-then-is_empty-clause-shows : goal.returns-then-is_empty-clause-shows
returns-then-is_empty-clause-shows c = λ s is.
    let waiting = c.args.waiting.now in
    let few = c.if-is_empty.ensures in
    let zero : length (pending waiting) ≡ 0 = grind (arith, nat_tests) in
    shows_none s waiting (nil_from_length (pending waiting) zero) is.same_waiting is.filled (is.limit ∙ sym (ap length is.same_records)) is.used
