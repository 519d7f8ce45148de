-- A field begins with an ASCII string, whose first character may be a zero, or with an integer.
use Rattle.std.proofs.Common.{refl, rules, arith}
use Rattle.fast_value.specs.meaning.Limits.{bounds}
use Rattle.fast_tree.specs.meaning.Nodes.{field_data}
use Rattle.fast_units.specs.device.UnitFronts.{IsAsciiFirst}
use Rattle.fast_units.proofs.OpenUnits.{field_open}
use Rattle.fast_fields.proofs.Carries.{none_open}
use Rattle.fast_fields.proofs.carry.first_missing.Goals.{else-eq-via-then-eq+else-ne, else-eq-via-else-eq}
use Rattle.fast_fields.proofs.carry.first_missing.Goals as goal

pub returns-then-ne-clause-carried : goal.returns-then-ne-clause-carried
returns-then-ne-clause-carried c l p = (
  omega arith,
  λ v none short. none_open l.strict (bounds l) (field_data c.args.field.now) p v (search rules) c.requires.varies short,
)

pub returns-clause-carried : goal.returns-clause-carried
returns-clause-carried c l p =
    let f = field_data c.args.field.now in
    let other : ¬ (IsAsciiFirst f) = elim c.else-eq.branch [
      | else-eq-via-then-eq+else-ne w ↦ search rules
      | else-eq-via-else-eq w ↦ search rules
    ] in (
      omega arith,
      λ v none short. field_open l.strict (bounds l) f p v other c.requires.varies (record { no_stop = none refl; short = short }),
    )
