-- By what is sent.
use Rattle.std.proofs.Common.{refl, sym, ◌∙◌, subst}
use Rattle.std.specs.Prelude.{Bool}
use Rattle.fast_items.specs.device.DecimalParts.{IsPartBy}
use Rattle.fast_items.proofs.decimal_parts.exponent_part.Goals as goal

pub returns-then-needs_bytes : goal.returns-then-needs_bytes
returns-then-needs_bytes c = record {
  part = λ strict.
      subst (λ (b : Bool). IsPartBy b c.args.field.now c.args.bit strict c.args.rest.bytes.now c.args.slots.now c.in_ok-sent.sent 1)
      (sym c.if-needs_bytes.true ∙ c.needs_bytes.ensures.needed)
      (c.in_ok-sent.ensures.part strict);
  within = c.in_ok-sent.ensures.within;
}

pub returns : goal.returns
returns c = record {
  part = λ strict.
      subst (λ (b : Bool). IsPartBy b c.args.field.now c.args.bit strict c.args.rest.bytes.now c.args.slots.now c.in_ok-known.known 0)
      (sym c.if-needs_bytes.false ∙ c.needs_bytes.ensures.needed)
      (refl, c.in_ok-known.ensures.known);
  within = c.in_ok-known.ensures.within;
}
