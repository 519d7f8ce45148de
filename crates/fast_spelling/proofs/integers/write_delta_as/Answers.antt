-- By 64 bits, where they are enough.
use Rattle.std.proofs.Common.{◌≡◌, ◌∙◌, subst, rules, sym}
use Rattle.std.specs.Prelude.{ℤ, true, Some}
use Rattle.std.specs.Int.{w64, w128}
use Rattle.std.proofs.lemmas.Int.{to_z-of_z}
use Rattle.fast_wire.specs.meaning.Shortest.{IsShortest}
use Rattle.fast_spelling.proofs.bytes.Spelling.{on_ok, handed}
use Rattle.fast_wire.specs.meaning.Integers.{signed_range, IsWithin}
use Rattle.fast_spelling.proofs.integers.write_delta_as.Goals as goal

pub returns-in-Ok : goal.returns-in-Ok
returns-in-Ok c =
    let is : c.in-Ok.narrow ≡ c.args.number = c.in-Ok.ensures.1 ∙ to_z-of_z w128 c.args.number (search rules) in
    on_ok c.write_narrow_as.result c.write_narrow_as.ensures
    (λ h. (
      h.0,
      h.1,
      subst (λ (x : ℤ). IsShortest true c.args.nullable (Some x) h.0)
          (to_z-of_z w64 c.in-Ok.narrow (search rules) ∙ is) h.2,
    ))

pub write_long_signed-requires : goal.write_long_signed-requires
write_long_signed-requires c = subst (IsWithin (signed_range 68)) (sym (to_z-of_z w128 c.args.number c.ranges.number)) c.requires

pub returns-in-Err : goal.returns-in-Err
returns-in-Err c = on_ok c.write_long_signed.result c.write_long_signed.ensures (λ h. (h.0, h.1, handed c.args.nullable c.args.number h.0 c.ranges.number h.2))
