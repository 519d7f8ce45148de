-- One that is sent, or what it is without a byte.
use Rattle.std.proofs.Common.{refl, sym, subst}
use Rattle.std.specs.Prelude.{true, false, Bool}
use Rattle.fast_fronts.specs.device.Fronts.{IsFirstInt}
use Rattle.fast_wire.specs.meaning.Integers.{exponent_range}
use Rattle.fast_fronts.specs.declared.fronts.First.TheVariants.{Whole}
use Rattle.fast_value.specs.declared.kinds.Kind.TheVariants.{Int32}
use Rattle.fast_items.specs.device.DecimalParts.{IsPartBy, IsPartKnown}
use Rattle.fast_items.proofs.DecimalParts.{part_whole, exponent_first, exponent_sent, usual_sent, usual_no_delta, usual_no_constant}
use Rattle.fast_items.proofs.decimal_parts.usual_exponent.Goals as goal

pub returns-then-bit : goal.returns-then-bit
returns-then-bit c =
    let x = c.in_ok-exponent.exponent in
    let field = c.args.field.now in
    record {
      part = λ strict.
          subst (λ (b : Bool). IsPartBy b field c.args.bit strict c.args.rest.bytes.now c.args.slots.now x 1)
          (sym (usual_sent field c.args.bit true c.requires.usual c.if-bit.true))
          (part_whole field strict c.args.rest.bytes.now c.args.slots.now Int32 x 1 c.requires.kind refl (exponent_sent x)
          (usual_no_delta field c.requires.usual) (usual_no_constant field c.requires.usual)
          (exponent_first strict field.optional c.args.rest.bytes.now x 1
          (subst (λ o. IsFirstInt (λ y. y) strict exponent_range o (Whole x 1) c.args.rest.bytes.now) (sym c.requires.optional)
          (c.in_ok-exponent.ensures strict))));
      within = (c.in_ok-exponent.ensures true).1.fits;
    }

pub returns : goal.returns
returns c =
    let field = c.args.field.now in
    record {
      part = λ strict.
          subst (λ (b : Bool). IsPartBy b field c.args.bit strict c.args.rest.bytes.now c.args.slots.now c.in_ok-known.known 0)
          (sym (usual_sent field c.args.bit false c.requires.usual c.if-bit.false))
          (refl, subst (λ (b : Bool). IsPartKnown field b c.args.slots.now c.in_ok-known.known) (sym c.if-bit.false) c.in_ok-known.ensures.known);
      within = c.in_ok-known.ensures.within;
    }
