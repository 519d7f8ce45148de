-- By groups, or by an array.
use Rattle.std.proofs.Common.{rules, subst}
use Rattle.std.specs.Prelude.{ℤ, true, pos, Some}
use Rattle.fast_wire.specs.meaning.Shortest.{IsShortest}
use Rattle.fast_spelling.proofs.bytes.Groups.{signed_means}
use Rattle.fast_spelling.proofs.bytes.Spelling.{on_ok, handed}
use Rattle.fast_spelling.proofs.integers.write_wide_natural.Goals as goal

pub returns-then-number-ge-LONG_NUMBER : goal.returns-then-number-ge-LONG_NUMBER
returns-then-number-ge-LONG_NUMBER c = on_ok c.write_long_signed.result c.write_long_signed.ensures
    (λ h. (
      h.0,
      h.1,
      subst (λ (x : ℤ). IsShortest true c.args.nullable (Some x) h.0) c.from.ensures
          (handed c.args.nullable c.from.result h.0 (search rules) h.2),
    ))

pub returns : goal.returns
returns c =
    let h = c.push_natural.ensures in
    (h.0, h.1, signed_means c.args.nullable (pos c.args.number) (pos c.raised.result) h.0 h.2 c.raised.ensures.meaning)
