-- The plan is one of the set and the limits.
use Rattle.std.proofs.Common.{◌≡◌, Bor, ap, sym, subst, ◌∙◌, length, arith}
use Rattle.std.specs.Prelude.{true, false}
use Rattle.std.proofs.lemmas.List.{length-replicate}
use Rattle.fast_value.specs.declared.settings.Limits.{Limits}
use Rattle.fast_template.specs.declared.sets.Templates.{Templates}
use Rattle.fast_dict.specs.meaning.Dictionary.{undefined}
use Rattle.fast_encoder.specs.meaning.Encoders.{IsSound}
use Rattle.fast_encoder.proofs.encoder.Encoder.new.Goals as goal

pub invariant_of-result : goal.invariant_of-result
invariant_of-result c =
    let s = c.in-Ok-new.ledger in
    let most = c.if-limits-gt-MAX_TEXT.false in
    subst (λ (t : Bor Templates). IsSound t.now c.in-Ok.plan.limits s) (sym c.in-Ok.ensures.0)
    (subst (λ (l : Limits). IsSound c.args.templates.now l s) (sym c.in-Ok.ensures.1) (record {
      ready = record {
        entries = ap length c.in-Ok-new.ensures.now ∙ length-replicate c.entries.result undefined ∙ c.entries.ensures.number;
        room = sym c.in-Ok-new.ensures.max_text;
        small = omega (arith, most);
        initial = λ long. let clash : false ≡ true = c.if-has_long_initial.ensures.1 long in absurd (cc clash);
      };
      committed = c.in-Ok-new.ensures.before;
    }))
