-- As many groups as twice the number takes.
use Rattle.fast_spelling.proofs.bytes.Groups.{natural_least}
use Rattle.fast_spelling.proofs.integers.push_natural.Goals as goal

pub returns : goal.returns
returns c =
    let g = c.groups.ensures in
    let h = c.push_groups.ensures in
    (h.0, h.1, natural_least c.args.sum c.groups.result h.0 h.2 g.some g.few g.enough g.no_more)
