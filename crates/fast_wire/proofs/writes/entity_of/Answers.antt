use Rattle.std.proofs.Common.{◌≡◌, ◌-◌, ◌*◌, ◌/◌, ◌^◌, ap, subst, ◌∙◌, refl, arith, length-append}
use Rattle.std.proofs.lemmas.Nat.{and_le_r}
use Rattle.fast_wire.specs.meaning.Entities.{number}
use Rattle.fast_wire.proofs.numbers.Writing.{group_more, last_group}
use Rattle.fast_wire.proofs.writes.entity_of.Goals as goal

pub loop-i-preserved : goal.loop-i-preserved
loop-i-preserved c =
    let p = c.push.ensures in
    record {
      some = omega arith;
      unstopped = p.still_open (λ e. absurd (omega (arith, p.whole.0 e, and_le_r (c.args.n / 2 ^ (7 * (c.loop-i.i - 1))) 127)));
      count = rw (p.bytes, length-append) (omega arith);
      value = ap number p.bytes ∙ group_more c.args.n c.loop-i.i _ c.loop-i.entity c.loop-i.invariant.some c.loop-i.invariant.value refl;
    }

pub returns-clause-value : goal.returns-clause-value
returns-clause-value c =
    let e : c.loop-i.i ≡ 1 = omega arith in
    ap number c.push-2.ensures.bytes ∙ last_group c.args.n _ c.loop-i.entity
    (subst (λ i. number c.loop-i.entity ≡ c.args.n / 2 ^ (7 * i)) e c.loop-i.invariant.value) refl
