-- As it stands.
use Rattle.std.proofs.Common.{refl, Option, ℤ}
use Rattle.std.specs.Prelude.{Bool, true, IfSome, Some, None}
use Rattle.fast_fronts.specs.device.Fronts.{IsFirstInt}
use Rattle.fast_wire.specs.meaning.Integers.{IsWithin, exponent_range}
use Rattle.fast_fronts.specs.declared.fronts.First.TheVariants as First
use Rattle.fast_value.specs.declared.kinds.Kind.TheVariants.{Int32}
use Rattle.fast_items.specs.device.DecimalParts.{IsPartBy}
use Rattle.fast_items.proofs.DecimalParts.{part_whole, exponent_first, exponent_sent}
use Rattle.fast_items.proofs.decimal_parts.sent_exponent.Goals as goal

pub returns-in_default : goal.returns-in_default
returns-in_default c = by c.short_exponent.result c.short_exponent.ensures
  where
    by : (o : Option (Option ℤ)) → IfSome o (λ r. (strict : Bool)
        → IsFirstInt (λ y. y) strict exponent_range c.args.field.now.optional (First.Whole r 1) c.args.rest.bytes.now)
        → record {
          part : IfSome o (λ x. (strict : Bool) → IsPartBy true c.args.field.now true strict c.args.rest.bytes.now c.args.slots.now x 1);
          within : IfSome o (λ x. IfSome x (IsWithin exponent_range));
        }
    by None h = record { part = tt; within = tt }
    by (Some x) h = record {
      part = λ strict.
          part_whole c.args.field.now strict c.args.rest.bytes.now c.args.slots.now Int32 x 1 c.requires.kind refl
          (exponent_sent x) c.in_default.not-Delta c.requires.no_constant
          (exponent_first strict c.args.field.now.optional c.args.rest.bytes.now x 1 (h strict));
      within = (h true).1.fits;
    }
