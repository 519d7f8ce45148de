-- More of a field is carried.
use Rattle.std.proofs.Common.{◌≡◌, ap, inl, inr, true}
use Rattle.fast_fields.specs.declared.carry.Carry.{Carry}
use Rattle.fast_machine.specs.device.Positions.{set_of}
use Rattle.fast_machine.specs.device.Gathered.{IsGatheredBy}
use Rattle.fast_machine.specs.declared.machine.Waiting.{Waiting}
use Rattle.fast_machine.specs.declared.machine.Waiting.TheVariants.{Identifier, Field, Mantissa}
use Rattle.fast_machine.proofs.machines.Gathers.{Carries, carry_gathered}
use Rattle.fast_machine.proofs.machine.Machine.gathers.Goals as goal

pub returns-in-Identifier : goal.returns-in-Identifier
returns-in-Identifier c =
    let set = set_of c.args.templates.now in
    let l = c.args.limits in
    let m = c.args.self.now in
    let rest = c.args.rest.now in
    let kept = c.keeps.ensures in
    let gathered : (w : Waiting) → m.waiting ≡ w → Carries w → c.keeps.result ≡ true → IsGatheredBy set l m (record m { carry = c.keeps.new.self }) rest =
    λ w is of e. carry_gathered set l m c.requires.ready w is of c.keeps.new.self rest kept.capacity (kept.kept e) (kept.carried e l) in
    record {
      gathered = elim c.in-Identifier.is [
        | inl is ↦ gathered Identifier is tt
        | inr more ↦ elim more [ inl is ↦ gathered Field is tt | inr x ↦ gathered (Mantissa x.0) x.1 tt ]
      ];
      same = λ e. ap (λ (x : Carry). record m { carry = x }) (kept.same e);
    }
