use Rattle.std.proofs.Common.{subst, ◌∙◌}
use Rattle.fast_c.specs.declared.encoding.Encoding.{Encoding}
use Rattle.fast_c.specs.meaning.Encoders.{IsResetEncoding}
use Rattle.fast_c.proofs.encoding.fast_encoder_reset.Goals as goal

pub returns : goal.returns
returns c = (
  c.reset.new.encoding,
  subst (λ (old : Encoding). IsResetEncoding old c.reset.new.encoding)
      (c.deref_mut.ensures.value ∙ c.into_box-encoding.ensures) c.reset.ensures,
)
