-- What is handed over where nothing is sent.
use Rattle.std.proofs.Common.{sym, subst, ap}
use Rattle.std.specs.Prelude.{false, Option}
use Rattle.fast_value.specs.meaning.Kinds.{ScalarData}
use Rattle.fast_machine.specs.declared.machine.Machine.{Machine}
use Rattle.fast_loop.specs.device.Arms.{IsFieldUnsent}
use Rattle.fast_machine.specs.device.Positions.{set_of}
use Rattle.fast_loop.proofs.integer_arms.unsent_integer_arm.Goals as goal

pub returns-in-Some : goal.returns-in-Some
returns-in-Some g c =
    let set = set_of c.args.templates.now in
    let l = c.args.limits in
    let m = c.args.machine.now in
    let m1 = c.unsent_item.new.machine in
    let (f, uses, unsent) = c.in-Some.ensures.unsent in
    record {
      went = c.hand_unsent.ensures.went set l m m1 f false uses (ap (λ (y : Machine). y.turns) c.unsent_item.ensures.same)
          (subst (λ (v : Option ScalarData). IsFieldUnsent set l m m1 c.args.spot.now.place c.args.op.now.node f false v)
          (sym c.scalar_of-value.ensures) unsent);
    }
