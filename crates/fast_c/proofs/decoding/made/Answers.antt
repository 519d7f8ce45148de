use Rattle.std.proofs.Common.{◌≡◌, refl, sym, subst, false, Ok, Err}
use Rattle.std.proofs.lemmas.Result.{IfOk-weaker, IfErr-weaker}
use Rattle.fast_template.specs.declared.sets.Templates.{Templates}
use Rattle.fast_stream.specs.declared.faults.MakeError.TheVariants as Why
use Rattle.fast_records.specs.declared.status.Status.{Status}
use Rattle.fast_records.specs.declared.status.Status.TheVariants as To
use Rattle.fast_c.specs.declared.decoding.Decoding.{Decoding}
use Rattle.fast_c.specs.meaning.Opening.{CanBeMade, IsNotMade}
use Rattle.fast_c.specs.meaning.Decoders.{IsMade}
use Rattle.fast_c.proofs.Made.{can_be_made, not_made}
use Rattle.fast_c.proofs.decoding.made.Goals as goal

pub returns-in-Ok-clause-ok : goal.returns-in-Ok-clause-ok
returns-in-Ok-clause-ok c =
    let l = c.args.limits in let e = c.in-Ok.ensures in let can =
    can_be_made c.lent.result.now l (Ok c.in-Ok.decoder) c.in-Ok.decoder refl e.bad_limits e.long_initial in
    let new : Decoding = record { decoder = c.in-Ok.decoder; waiting = c.new-waiting.result; is_cut = false } in
    let made : IsMade c.lent.result.now l new = record {
      can = can;
      read = e.made.0;
      nothing_waits = c.new-waiting.ensures;
      whole = refl;
      its_set = e.made.1;
      its_limits = e.made.2;
    } in
    let is = subst (λ (t : Templates). IsMade t l new) c.lent.ensures made in
    IfOk-weaker c.boxed.result (λ b. b.value ≡ new) (λ b. IsMade c.args.set.value l b.value)
    (λ b same. subst (λ (d : Decoding). IsMade c.args.set.value l d) (sym same) is) c.boxed.ensures.ok

pub returns-in-Ok-clause-err : goal.returns-in-Ok-clause-err
returns-in-Ok-clause-err c =
    let l = c.args.limits in let e = c.in-Ok.ensures in let can =
    can_be_made c.lent.result.now l (Ok c.in-Ok.decoder) c.in-Ok.decoder refl e.bad_limits e.long_initial in
    let still : IsNotMade c.args.set.value l (To.Make Why.Memory) = subst (λ (t : Templates). CanBeMade t l) c.lent.ensures can in
    IfErr-weaker c.boxed.result (λ s. s ≡ To.Make Why.Memory) (IsNotMade c.args.set.value l)
    (λ s same. subst (λ (s : Status). IsNotMade c.args.set.value l s) (sym same) still) c.boxed.ensures.err

pub returns-in-Err-clause-ok : goal.returns-in-Err-clause-ok
returns-in-Err-clause-ok c = tt

pub returns-in-Err-clause-err : goal.returns-in-Err-clause-err
returns-in-Err-clause-err c =
    let l = c.args.limits in let e = c.in-Err.ensures in
    subst (λ (t : Templates). IsNotMade t l (To.Make c.in-Err.error)) c.lent.ensures
    (not_made c.lent.result.now l (Err c.in-Err.error) c.in-Err.error refl e.bad_limits e.long_initial)
