-- As many groups as the number takes, or an array.
use Rattle.std.proofs.Common.{◌≤◌, ◌++◌, ℕ, List, ap, ◌∙◌, arith}
use Rattle.fast_spelling.proofs.bytes.Groups.{unsigned_means}
use Rattle.fast_spelling.proofs.bytes.Spelling.{on_ok}
use Rattle.fast_spelling.proofs.integers.write_long_unsigned.Goals as goal

pub returns-then-sent-lt-LONG_SUM : goal.returns-then-sent-lt-LONG_SUM
returns-then-sent-lt-LONG_SUM c =
    let g = c.groups.ensures in
    let few : c.groups.result ≤ 8 = let most = g.few in omega (arith, most) in
    let h = c.push_groups.ensures in (
      h.0,
      h.1 ∙ ap (λ (l : List ℕ). l ++ h.0) c.reserve.ensures.items,
      unsigned_means c.args.nullable c.args.number c.raised-sent.result c.groups.result h.0 h.2 few g.no_more
          c.raised-sent.ensures.meaning,
    )

pub returns : goal.returns
returns c =
    let g = c.long_groups.ensures in
    on_ok c.push_long_groups.result c.push_long_groups.ensures
    (λ h. (
      h.0,
      h.1,
      unsigned_means c.args.nullable c.args.number c.raised-sent.result c.long_groups.result h.0 h.2 g.few
          (λ more. g.no_more) c.raised-sent.ensures.meaning,
    ))
