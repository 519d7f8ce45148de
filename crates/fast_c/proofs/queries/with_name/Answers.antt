use Rattle.std.proofs.Common.{◌≡◌, ℕ, List, string_bytes, subst}
use Rattle.fast_template.specs.meaning.Flat.{templates_of}
use Rattle.fast_c.specs.meaning.Queries.{IsFirstWith}
use Rattle.fast_c.proofs.queries.with_name.Goals as goal

pub returns : goal.returns
returns c =
    let e = c.by_name.ensures in
    subst (λ (name : List ℕ). IsFirstWith (λ t. string_bytes t.name ≡ name) (templates_of c.args.set.now) c.number_or_none.result) c.in-Ok.ensures.cases.0
    (record { found = c.by_name.result; number_is = c.number_or_none.ensures; some = e.found; first = e.first; none = e.none })
