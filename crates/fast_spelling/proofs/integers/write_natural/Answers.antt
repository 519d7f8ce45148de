-- One group, or as many as the number takes.
use Rattle.std.proofs.Common.{arith}
use Rattle.std.specs.Prelude.{pos}
use Rattle.fast_spelling.proofs.bytes.Groups.{signed_means, natural_least}
use Rattle.fast_spelling.proofs.bytes.Spelling.{on_ok}
use Rattle.fast_spelling.proofs.integers.write_natural.Goals as goal

pub returns-then-number-lt63 : goal.returns-then-number-lt63
returns-then-number-lt63 c =
    let low = c.if-number-lt63.true in
    let sent = c.raised.ensures.small in
    on_ok c.push_one.result c.push_one.ensures (λ h. (
      h.0,
      h.1,
      signed_means c.args.nullable (pos c.args.number) (pos c.raised.result) h.0
          (natural_least c.raised.result 1 h.0 h.2 (omega arith) (omega arith) (omega (arith, low, sent))
          (λ less. absurd (omega (arith, less)))) c.raised.ensures.meaning,
    ))
