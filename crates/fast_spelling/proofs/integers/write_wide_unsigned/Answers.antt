-- As many groups as the number takes.
use Rattle.std.proofs.Common.{◌≤◌, arith}
use Rattle.fast_spelling.proofs.bytes.Groups.{unsigned_means}
use Rattle.fast_spelling.proofs.integers.write_wide_unsigned.Goals as goal

pub returns : goal.returns
returns c =
    let g = c.groups.ensures in
    let few : c.groups.result ≤ 8 = let most = g.few in omega (arith, most) in
    let h = c.push_groups.ensures in (
      h.0,
      h.1,
      unsigned_means c.args.nullable c.args.number c.raised-sent.result c.groups.result h.0 h.2 few g.no_more
          c.raised-sent.ensures.meaning,
    )
