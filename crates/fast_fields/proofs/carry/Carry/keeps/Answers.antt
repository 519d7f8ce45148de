-- The rest has fewer bytes than are missing, and no stop bit if one would decide something.
use Rattle.std.proofs.Common.{sym, ap, ◌∙◌, subst, arith, length-append}
use Rattle.std.specs.Prelude.{◌≡◌, ℕ, ◌-◌, List, length, true}
use Rattle.fast_wire.specs.meaning.Entities.{HaveNoStop}
use Rattle.fast_fields.specs.device.Readings.{IsUndecided}
use Rattle.fast_fields.proofs.Carries.{kept_undecided}
use Rattle.fast_fields.proofs.carry.Carry.keeps.Goals.{then-self, else-self}
use Rattle.fast_fields.proofs.carry.Carry.keeps.Goals as goal

pub returns-clause-carried : goal.returns-clause-carried
returns-clause-carried c e l r (undecided, fits) =
    let front = c.args.self.now.bytes.text in
    let missing = c.args.self.now.missing in
    let rest = c.args.rest.now in
    let short = c.if-rest-self.false in
    let none : missing.stops ≡ true → HaveNoStop rest = elim c.if-self.branch [
      | then-self w ↦ λ _. w.has_stop.ensures (sym w.value-is ∙ c.if-has_stop.false)
      | else-self w ↦ λ h. absurd (cc (sym h ∙ w.if-self.false))
    ] in
    let kept = c.keep.ensures.text in
    let len = ap length kept ∙ length-append front rest in (
      subst (λ (u : List ℕ). IsUndecided r u (record { bytes = missing.bytes - length rest; stops = missing.stops })) (sym kept)
          (kept_undecided r front rest missing (missing.bytes - length rest) (omega (arith, short)) (omega (arith, short)) none undecided),
      omega (arith, len, fits, short),
    )
