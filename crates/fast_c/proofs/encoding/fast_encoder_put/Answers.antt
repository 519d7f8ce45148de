use Rattle.std.proofs.Common.{subst, ◌∙◌}
use Rattle.fast_c.specs.declared.encoding.Encoding.{Encoding}
use Rattle.fast_c.specs.meaning.Encoders.{HasCome}
use Rattle.fast_c.proofs.encoding.fast_encoder_put.Goals as goal

pub returns : goal.returns
returns c =
    let f = c.put in (
      f.new.encoding,
      subst (λ (old : Encoding). HasCome old c.args.records.now c.args.texts.now f.result f.new.encoding)
          (c.deref_mut.ensures.value ∙ c.into_box-encoding.ensures) f.ensures,
    )
