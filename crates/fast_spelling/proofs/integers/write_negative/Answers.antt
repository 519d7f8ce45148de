-- One group, or as many as the complement takes.
use Rattle.std.proofs.Common.{arith}
use Rattle.std.specs.Prelude.{negsuc}
use Rattle.fast_spelling.proofs.bytes.Groups.{signed_means, negative_least, negative_means}
use Rattle.fast_spelling.proofs.bytes.Spelling.{on_ok}
use Rattle.fast_spelling.proofs.integers.write_negative.Goals as goal

pub returns-then-complement-lt64 : goal.returns-then-complement-lt64
returns-then-complement-lt64 c =
    let k = c.args.complement in
    let low = c.if-complement-lt64.true in
    on_ok c.push_one.result c.push_one.ensures (λ h. (
      h.0,
      h.1,
      signed_means c.args.nullable (negsuc k) (negsuc k) h.0
          (negative_least k 1 h.0 h.2 (omega arith) (omega arith) (omega (arith, low)) (λ less. absurd (omega (arith, less))))
          (negative_means c.args.nullable k),
    ))
