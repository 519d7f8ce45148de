-- One group, or as many as the number takes.
use Rattle.std.proofs.Common.{arith}
use Rattle.fast_spelling.proofs.bytes.Groups.{unsigned_means}
use Rattle.fast_spelling.proofs.bytes.Spelling.{on_ok}
use Rattle.fast_spelling.proofs.integers.write_unsigned_as.Goals as goal

pub returns-then-number-lt127 : goal.returns-then-number-lt127
returns-then-number-lt127 c =
    on_ok c.push_one.result c.push_one.ensures (λ h. (
      h.0,
      h.1,
      unsigned_means c.args.nullable c.args.number c.raised.result 1 h.0 h.2 (omega arith)
          (λ less. absurd (omega (arith, less))) c.raised.ensures.meaning,
    ))
