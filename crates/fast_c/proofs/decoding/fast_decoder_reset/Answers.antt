use Rattle.std.proofs.Common.{subst, ◌∙◌}
use Rattle.fast_c.specs.declared.decoding.Decoding.{Decoding}
use Rattle.fast_c.specs.meaning.Decoders.{IsReset}
use Rattle.fast_c.proofs.decoding.fast_decoder_reset.Goals as goal

pub returns : goal.returns
returns c = (
  c.reset.new.decoding,
  subst (λ (old : Decoding). IsReset old c.reset.new.decoding)
      (c.deref_mut.ensures.value ∙ c.into_box-decoding.ensures) c.reset.ensures,
)
