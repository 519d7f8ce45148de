-- A decoder that reads what an encoder wrote.
use Rattle.std.specs.Prelude.{◌≡◌, true, ℕ, List, ◌++◌, Result, Ok, Err}
use Rattle.fast_value.specs.meaning.Limits.{in_mode}
use Rattle.fast_value.specs.meaning.Messages.{MessageData}
use Rattle.fast_stream.specs.declared.faults.Fault.{Fault}
use Rattle.fast_stream.specs.declared.faults.FaultCode.TheVariants as Why
use Rattle.fast_stream.specs.meaning.Events.{EventData, events}
use Rattle.fast_stream.specs.meaning.Sinks.{Takes}
use Rattle.fast_stream.specs.meaning.Streams.{Chain}
use Rattle.fast_decoder.specs.meaning.Decoding.{DecoderData, HasRead, account, tree as decoded_tree}
use Rattle.fast_encoder.specs.meaning.Encoders.{EncoderData, tree}

-- The two are of the same set and limits, whatever the decoder's mode, and stand between messages at the same dictionary: these bytes, which
-- gave these events, have led to the decoder.
pub record AreLevel (e : EncoderData) (d : DecoderData) (w : List ℕ) (es : List EventData) : Type 0 where
  pub same_tree : decoded_tree d ≡ tree e
  pub same_limits : in_mode true d.limits ≡ in_mode true e.limits
  pub so : HasRead d w es
  pub is_between : (account d).is_between ≡ true
  pub chain : Chain (decoded_tree d) d.limits w es e.dictionary

-- the feed ended since its sink stopped
abbrev pub IsSinkStop : Result Unit Fault → Type 0
IsSinkStop (Ok u) = ⊥
IsSinkStop (Err f) = f.code ≡ Why.SinkStopped

-- The sink took exactly the events of the message, and the two are level again after its bytes.
pub record IsReadBack {S : Type 0} (takes : S → EventData → S → Type 0) (m : MessageData) (bytes : List ℕ) (w : List ℕ)
    (es : List EventData) (s : S) (e : EncoderData) (d : DecoderData) (s' : S) : Type 0 where
  pub took : Takes takes s (events (tree e) m) s'
  pub level : AreLevel e d (w ++ bytes) (es ++ events (tree e) m)
