-- As many groups as twice the complement takes.
use Rattle.std.proofs.Common.{ℕ, ◌-◌, subst}
use Rattle.fast_spelling.specs.device.Groups.{IsGroups}
use Rattle.fast_spelling.proofs.bytes.Groups.{negative_least}
use Rattle.fast_spelling.proofs.integers.push_negative.Goals as goal

pub returns : goal.returns
returns c =
    let g = c.groups-len.ensures in
    let len = c.groups-len.result in
    let h = c.push_groups.ensures in (
      h.0,
      h.1,
      negative_least c.args.complement len h.0 (subst
          (λ (n : ℕ). IsGroups (n - 1 - c.args.complement) len h.0) c.reach.ensures h.2) g.some g.few g.enough g.no_more,
    )
