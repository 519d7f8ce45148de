-- Signed integers are written as they are.
use Rattle.std.proofs.Common.{◌++◌, List, ℕ, ℤ, refl, ◌∙◌, ap, sym, subst, append_assoc, rules}
use Rattle.std.specs.Prelude.{true, false, Some}
use Rattle.std.specs.Int.{w32, w64}
use Rattle.std.proofs.lemmas.Int.{to_z-of_z}
use mathlib.Core.List.{not-mem-nil}
use Rattle.fast_wire.specs.meaning.Shortest.{IsShortest}
use Rattle.fast_value.specs.meaning.Values.{scalar_data}
use Rattle.fast_value.specs.declared.values.Scalar.{Scalar}
use Rattle.fast_spelling.specs.device.Drafts.{SpellsValue}
use Rattle.fast_spelling.proofs.items.write_value.Goals as goal

pub returns-in_ok-write_narrow_as-in-I-clause-ok : goal.returns-in_ok-write_narrow_as-in-I-clause-ok
returns-in_ok-write_narrow_as-in-I-clause-ok c =
    let h = c.in_ok-write_narrow_as-in-I.ensures in (
      h.0,
      h.1,
      subst (λ (v : Scalar). SpellsValue c.args.kind c.args.nullable (scalar_data v) h.0) (sym c.in-I.is)
          (subst (λ (n : ℤ). IsShortest true c.args.nullable (Some n) h.0) (to_z-of_z w64 c.in-I.number (search rules)) h.2),
    )

pub returns-in_ok-write_narrow_as-in-Dec-2-clause-ok : goal.returns-in_ok-write_narrow_as-in-Dec-2-clause-ok
returns-in_ok-write_narrow_as-in-Dec-2-clause-ok c =
    let h = c.in_ok-write_narrow_as-in-Dec.ensures in
    let k = c.in_ok-write_narrow_as-in-Dec-2.ensures in (
      h.0 ++ k.0,
      k.1 ∙ ap (λ (w : List ℕ). w ++ k.0) h.1 ∙ append_assoc c.args.bytes.now.items h.0 k.0,
      subst (λ (v : Scalar). SpellsValue c.args.kind c.args.nullable (scalar_data v) (h.0 ++ k.0)) (sym c.in-Dec.is) (
        h.0,
        k.0,
        subst (λ (n : ℤ). IsShortest true c.args.nullable (Some n) h.0)
            (to_z-of_z w64 c.from.result (search rules) ∙ c.from.ensures ∙ to_z-of_z w32 c.in-Dec.exponent (search rules)) h.2,
        subst (λ (n : ℤ). IsShortest true false (Some n) k.0) (to_z-of_z w64 c.in-Dec.mantissa (search rules)) k.2,
        refl,
      ),
    )

pub returns-in_ok-write_unsigned_as-in-U-clause-ok : goal.returns-in_ok-write_unsigned_as-in-U-clause-ok
returns-in_ok-write_unsigned_as-in-U-clause-ok c =
    let h = c.in_ok-write_unsigned_as-in-U.ensures in
    (h.0, h.1, subst (λ (v : Scalar). SpellsValue c.args.kind c.args.nullable (scalar_data v) h.0) (sym c.in-U.is) h.2)

pub branch-write_unsigned_as-requires : goal.branch-write_unsigned_as-requires
branch-write_unsigned_as-requires c κs = (λ a m. absurd (not-mem-nil m), λ a m. absurd (not-mem-nil m))

pub from_residual-requires : goal.from_residual-requires
from_residual-requires c κs = (λ a m. absurd (not-mem-nil m), (λ a m. absurd (not-mem-nil m), λ a m. absurd (not-mem-nil m)))

pub branch-write_narrow_as-requires : goal.branch-write_narrow_as-requires
branch-write_narrow_as-requires c κs = (λ a m. absurd (not-mem-nil m), λ a m. absurd (not-mem-nil m))

pub from_residual-requires-in_err-write_narrow_as-in-I : goal.from_residual-requires-in_err-write_narrow_as-in-I
from_residual-requires-in_err-write_narrow_as-in-I c κs = (λ a m. absurd (not-mem-nil m), (λ a m. absurd (not-mem-nil m), λ a m. absurd (not-mem-nil m)))

pub branch-write_narrow_as-requires-in-Dec : goal.branch-write_narrow_as-requires-in-Dec
branch-write_narrow_as-requires-in-Dec c κs = (λ a m. absurd (not-mem-nil m), λ a m. absurd (not-mem-nil m))

pub from_residual-requires-in_err-write_narrow_as-in-Dec : goal.from_residual-requires-in_err-write_narrow_as-in-Dec
from_residual-requires-in_err-write_narrow_as-in-Dec c κs = (λ a m. absurd (not-mem-nil m), (λ a m. absurd (not-mem-nil m), λ a m. absurd (not-mem-nil m)))

pub branch-write_narrow_as-requires-in-Dec-2 : goal.branch-write_narrow_as-requires-in-Dec-2
branch-write_narrow_as-requires-in-Dec-2 c κs = (λ a m. absurd (not-mem-nil m), λ a m. absurd (not-mem-nil m))

pub from_residual-requires-in_err-write_narrow_as-in-Dec-2 : goal.from_residual-requires-in_err-write_narrow_as-in-Dec-2
from_residual-requires-in_err-write_narrow_as-in-Dec-2 c κs = (λ a m. absurd (not-mem-nil m), (λ a m. absurd (not-mem-nil m), λ a m. absurd (not-mem-nil m)))
