-- By groups, or by an array.
use Rattle.std.proofs.Common.{rules, subst}
use Rattle.std.specs.Prelude.{ℤ, true, negsuc, Some}
use Rattle.fast_wire.specs.meaning.Shortest.{IsShortest}
use Rattle.fast_spelling.proofs.bytes.Groups.{signed_means, negative_means}
use Rattle.fast_spelling.proofs.bytes.Spelling.{on_ok, handed}
use Rattle.fast_spelling.proofs.integers.write_wide_negative.Goals as goal

pub returns-then-complement-ge-LONG_COMPLEMENT : goal.returns-then-complement-ge-LONG_COMPLEMENT
returns-then-complement-ge-LONG_COMPLEMENT c = on_ok c.write_long_signed.result c.write_long_signed.ensures
    (λ h. (
      h.0,
      h.1,
      subst (λ (x : ℤ). IsShortest true c.args.nullable (Some x) h.0) c.negative_of.ensures.value
          (handed c.args.nullable c.negative_of.result h.0 (search rules) h.2),
    ))

pub returns : goal.returns
returns c =
    let h = c.push_negative.ensures in (
      h.0,
      h.1,
      signed_means c.args.nullable (negsuc c.args.complement) (negsuc c.args.complement) h.0 h.2
          (negative_means c.args.nullable c.args.complement),
    )
