-- A message that was written is not refused; else the encoder is as it was, and says which fault comes first.
use Rattle.std.proofs.Common.{◌≡◌, refl, sym, subst}
use Rattle.fast_value.specs.meaning.Views.{message_data}
use Rattle.fast_spelling.specs.meaning.Refusals.{IsRefused}
use Rattle.fast_spelling.proofs.encodings.Excluded.{refused_is_not_encoded}
use Rattle.fast_encoder.specs.meaning.Encoders.{EncoderData, tree}
use Rattle.fast_encoder.proofs.encoder.Encoder.encode.Goals as goal

pub returns-then-try_encode-clause-told : goal.returns-then-try_encode-clause-told
returns-then-try_encode-clause-told c = λ f h.
    let e = c.if-try_encode.ensures.encoded refl in
    absurd (refused_is_not_encoded (tree c.args.self.now) c.args.self.now.limits c.args.self.now.dictionary
    c.try_encode.new.self.dictionary (message_data c.args.message.now) e.bytes f e.suits e.fits e.ruled h)

pub returns-clause-told : goal.returns-clause-told
returns-clause-told c = λ f h.
    let same : c.try_encode.new.self ≡ c.args.self.now = (c.if-try_encode.ensures.unchanged refl).0 in
    c.encode_in_order.ensures.told f (subst (λ (e : EncoderData). IsRefused (tree e) e.limits e.dictionary (message_data c.args.message.now) f) (sym same) h)
