-- What comes of messages that are encoded, and read at once by a decoder that is level with the encoder.
use Rattle.std.specs.Prelude.{◌≡◌, ℕ, List, [], ◌∷◌, ◌++◌, length, flat_map, Some, Result, Ok, Err}
use Rattle.fast_value.specs.meaning.Messages.{MessageData}
use Rattle.fast_stream.specs.declared.faults.FaultCode.{FaultCode}
use Rattle.fast_stream.specs.declared.faults.FaultCode.TheVariants as Why
use Rattle.fast_stream.specs.meaning.Events.{EventData, events}
use Rattle.fast_stream.specs.meaning.Sinks.{Takes, TakesUpTo}
use Rattle.fast_decoder.specs.meaning.Decoding.{DecoderData, IsRefused, tree as decoded_tree}
use Rattle.fast_decoder.specs.meaning.Feeding.{StopsShort}
use Rattle.fast_spelling.specs.declared.faults.EncodeFault.{EncodeFault}
use Rattle.fast_encoder.specs.declared.round_trips.RoundTripFault.{RoundTripFault}
use Rattle.fast_encoder.specs.declared.round_trips.RoundTripFault.TheVariants.{Encode, Decode}
use Rattle.fast_encoder.specs.declared.round_trips.RoundTripStop.{RoundTripStop}
use Rattle.fast_encoder.specs.meaning.Encoders.{EncoderData, IsEncoded, IsToldOf, tree}
use Rattle.fast_encoder.specs.meaning.ReadBack.{AreLevel, IsReadBack}

-- The encoder refuses the message, or memory was refused: nothing has changed, and the two are level as before.
pub record IsTurnedAway {S : Type 0} (e : EncoderData) (d : DecoderData) (m : MessageData) (out : List ℕ) (w : List ℕ)
    (es : List EventData) (s : S) (c : EncodeFault) (e' : EncoderData) (d' : DecoderData) (longer : List ℕ) (s' : S) : Type 0 where
  pub told : IsToldOf e m c
  pub same_encoder : e' ≡ e
  pub same_decoder : d' ≡ d
  pub same_bytes : longer ≡ out
  pub same_sink : s' ≡ s
  pub level : AreLevel e' d' w es

-- The sink took the events of the message up to one, and stopped at it; the byte before the place gives this event.
pub record IsCutShort {S : Type 0} (takes stops : S → EventData → S → Type 0) (d : DecoderData) (m : MessageData) (bytes : List ℕ)
    (w : List ℕ) (es : List EventData) (s : S) (place : ℕ) (d' : DecoderData) (s' : S) : Type 0 where
  pub took : TakesUpTo takes stops s (events (decoded_tree d) m) s'
  pub short : StopsShort takes stops (decoded_tree d) d.limits w es bytes s place d' s'

-- What a fault means of the feed of a message's bytes: it is none of the stream.
abbrev pub EndsAt : {S : Type 0} → (S → EventData → S → Type 0) → (S → EventData → S → Type 0) → DecoderData → MessageData → List ℕ
    → List ℕ → List EventData → S → FaultCode → ℕ → DecoderData → S → Type 0
EndsAt takes stops d m bytes w es s (Why.Stream c) place d' s' = ⊥
EndsAt takes stops d m bytes w es s Why.L4 place d' s' = IsRefused d bytes s place s'
EndsAt takes stops d m bytes w es s Why.SinkStopped place d' s' = IsCutShort takes stops d m bytes w es s place d' s'

-- What comes of a message: it is encoded and read back; or it is refused; or it is encoded, and the decoder has stopped, and is not level any more.
abbrev pub ComesBack : {S : Type 0} → (S → EventData → S → Type 0) → (S → EventData → S → Type 0) → EncoderData → DecoderData → MessageData
    → List ℕ → List ℕ → List EventData → S → Result Unit RoundTripFault → EncoderData → DecoderData → List ℕ → S → Type 0
ComesBack takes stops e d m out w es s (Ok u) e' d' longer s' = (written : IsEncoded e m out e' longer) × IsReadBack takes m written.bytes w es s e' d' s'
ComesBack takes stops e d m out w es s (Err (Encode c)) e' d' longer s' = IsTurnedAway e d m out w es s c e' d' longer s'
ComesBack takes stops e d m out w es s (Err (Decode f)) e' d' longer s' = (written : IsEncoded e m out e' longer) × (d'.fault ≡ Some f)
    × EndsAt takes stops d m written.bytes w es s f.code f.place d' s'

-- each message is encoded, from what the one before it has left
abbrev pub AreEncoded : EncoderData → List MessageData → List ℕ → EncoderData → List ℕ → Type 0
AreEncoded e [] out e' longer = (e' ≡ e) × (longer ≡ out)
AreEncoded e (m ∷ ms) out e' longer = (mid : EncoderData) × (more : List ℕ) × IsEncoded e m out mid more × AreEncoded mid ms more e' longer

-- The messages are encoded and read back: the sink took exactly their events, in order, and the two are level again.
pub record AreReadBack {S : Type 0} (takes : S → EventData → S → Type 0) (e : EncoderData) (ms : List MessageData) (out : List ℕ)
    (w : List ℕ) (es : List EventData) (s : S) (e' : EncoderData) (d' : DecoderData) (longer : List ℕ) (s' : S) : Type 0 where
  pub bytes : List ℕ
  pub appended : longer ≡ out ++ bytes
  pub encoded : AreEncoded e ms out e' longer
  pub took : Takes takes s (flat_map (events (tree e)) ms) s'
  pub level : AreLevel e' d' (w ++ bytes) (es ++ flat_map (events (tree e)) ms)

-- The messages before the one of this index are encoded and read back, and from there this one comes to the fault.
pub record StopsAt {S : Type 0} (takes stops : S → EventData → S → Type 0) (e : EncoderData) (ms : List MessageData) (out : List ℕ)
    (w : List ℕ) (es : List EventData) (s : S) (stop : RoundTripStop) (e' : EncoderData) (d' : DecoderData) (longer : List ℕ)
    (s' : S) : Type 0 where
  pub earlier : List MessageData
  pub refused : MessageData
  pub later : List MessageData
  pub split : ms ≡ earlier ++ refused ∷ later
  pub index_is : stop.index ≡ length earlier
  pub mid_encoder : EncoderData
  pub mid_decoder : DecoderData
  pub mid_out : List ℕ
  pub mid_sink : S
  pub back : AreReadBack takes e earlier out w es s mid_encoder mid_decoder mid_out mid_sink
  pub last : ComesBack takes stops mid_encoder mid_decoder refused mid_out (w ++ back.bytes)
      (es ++ flat_map (events (tree e)) earlier) mid_sink (Err stop.fault) e' d' longer s'

-- what comes of a list of messages
abbrev pub AllComeBack : {S : Type 0} → (S → EventData → S → Type 0) → (S → EventData → S → Type 0) → EncoderData → List MessageData
    → List ℕ → List ℕ → List EventData → S → Result Unit RoundTripStop → EncoderData → DecoderData → List ℕ → S → Type 0
AllComeBack takes stops e ms out w es s (Ok u) e' d' longer s' = AreReadBack takes e ms out w es s e' d' longer s'
AllComeBack takes stops e ms out w es s (Err stop) e' d' longer s' = StopsAt takes stops e ms out w es s stop e' d' longer s'
