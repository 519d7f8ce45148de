use Rattle.std.proofs.Common.{subst, ◌∙◌}
use Rattle.fast_c.specs.declared.encoding.Encoding.{Encoding}
use Rattle.fast_c.specs.meaning.Encoders.{IsTaken}
use Rattle.fast_c.proofs.encoding.fast_encoder_take.Goals as goal

pub returns : goal.returns
returns c =
    let f = c.take-count in (
      f.new.encoding,
      subst (λ (old : Encoding). IsTaken old c.args.out.now f.new.out f.result f.new.encoding)
          (c.deref_mut.ensures.value ∙ c.into_box-encoding.ensures) f.ensures,
    )
