use Rattle.std.proofs.Common.{subst, ◌∙◌}
use Rattle.fast_c.specs.declared.decoding.Decoding.{Decoding}
use Rattle.fast_c.specs.meaning.Decoders.{Feeds}
use Rattle.fast_c.proofs.decoding.fast_decoder_feed.Goals as goal

pub returns : goal.returns
returns c =
    let f = c.feed in (
      f.new.decoding,
      subst (λ (old : Decoding). Feeds old c.args.piece.now f.new.records f.new.texts f.result f.new.decoding)
          (c.deref_mut.ensures.value ∙ c.into_box-decoding.ensures) f.ensures,
    )
