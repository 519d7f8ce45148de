use Rattle.std.proofs.Common.{refl, subst, Ok, Err}
use Rattle.fast_value.specs.declared.settings.Limits.{Limits}
use Rattle.fast_c.specs.meaning.Opening.{IsNotMade}
use Rattle.fast_c.specs.meaning.Encoders.{IsNewEncoding}
use Rattle.fast_c.proofs.encoding.fast_encoder_open.Goals as goal

pub returns-in-Ok : goal.returns-in-Ok
returns-in-Ok c =
    let it = c.in-Ok.encoding.value in
    record {
      result = Ok it;
      ok = subst (λ (l : Limits). IsNewEncoding c.args.set.value l it) c.limits_of-limits.ensures
          c.in-Ok.ensures.ok;
      err = tt;
      told = refl;
      unchanged = tt;
    }

pub returns-in-Err : goal.returns-in-Err
returns-in-Err c =
    let why = c.in-Err.status in
    record {
      result = Err why;
      ok = tt;
      err = subst (λ (l : Limits). IsNotMade c.args.set.value l why) c.limits_of-limits.ensures
          c.in-Err.ensures.err;
      told = c.number.ensures;
      unchanged = refl;
    }
