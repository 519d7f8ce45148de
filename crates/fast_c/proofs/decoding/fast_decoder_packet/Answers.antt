use Rattle.std.proofs.Common.{subst, not, ◌==◌, ◌∙◌}
use Rattle.fast_c.specs.declared.decoding.Decoding.{Decoding}
use Rattle.fast_c.specs.meaning.Decoders.{FeedsPacket}
use Rattle.fast_c.proofs.decoding.fast_decoder_packet.Goals as goal

pub returns : goal.returns
returns c =
    let f = c.feed_packet in (
      f.new.decoding,
      subst (λ (old : Decoding). FeedsPacket
          (not (c.args.start == 0)) old c.args.packet.now f.new.records f.new.texts f.result f.new.decoding)
          (c.deref_mut.ensures.value ∙ c.into_box-decoding.ensures) f.ensures,
    )
