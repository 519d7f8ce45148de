-- What a call gives that feeds bytes and hands records out.
use Rattle.std.specs.Prelude.{◌≡◌, ◌≢◌, ◌⊎◌, ℕ, ◌-◌, ◌<◌, ◌≤◌, ◌==◌, nat_lt, Bool, true, false, List, [], ◌∷◌, ◌++◌, length, take, Result, Ok, Err}
use Rattle.fast_value.specs.declared.settings.Limits.{Limits}
use Rattle.fast_tree.specs.meaning.Tree.{Tree}
use Rattle.fast_stream.specs.declared.faults.Fault.{Fault}
use Rattle.fast_stream.specs.declared.faults.FaultCode.{FaultCode}
use Rattle.fast_stream.specs.declared.faults.FaultCode.TheVariants as Why
use Rattle.fast_stream.specs.meaning.Events.{EventData}
use Rattle.fast_decoder.specs.meaning.Decoding.{DecoderData, HasRead, answer}
use Rattle.fast_decoder.specs.meaning.Feeding.{Followed}
use Rattle.fast_records.specs.declared.records.Record.{Record}
use Rattle.fast_records.specs.declared.feeding.Fed.{Fed}
use Rattle.fast_records.specs.declared.feeding.Outcome.{Outcome}
use Rattle.fast_records.specs.declared.feeding.Outcome.TheVariants as Came
use Rattle.fast_records.specs.meaning.Records.{event_text, AreRecordsOf}

-- a list of events takes one more, and one that refuses it stays as it is
abbrev pub Appends : List EventData → EventData → List EventData → Type 0
Appends old e new = new ≡ old ++ e ∷ []

abbrev pub Stays : List EventData → EventData → List EventData → Type 0
Stays old e new = new ≡ old

-- Of these events the first were given, as their records and texts, and the others wait: none is lost, none comes twice, none out of turn.
pub record Gives (es : List EventData) (records : List Record) (texts : List ℕ) (waits : List EventData) : Type 0 where
  pub given : List EventData
  pub are_records : AreRecordsOf given records texts
  pub all : es ≡ given ++ waits

-- so of a fault of the stream; the others are at no place in a stream
abbrev pub OnStreamCode : FaultCode → Type 0 → Type 0
OnStreamCode (Why.Stream c) A = A
OnStreamCode Why.L4 A = Unit {0}
OnStreamCode Why.SinkStopped A = Unit {0}

-- so without a fault and at one of the stream
abbrev pub OnStream : Result Unit Fault → Type 0 → Type 0
OnStream (Ok u) A = A
OnStream (Err f) A = OnStreamCode f.code A

-- After bytes that gave events, a front of the piece was fed, which gave more. Those that waited and then these were given, or wait now.
-- No byte is fed before all that waited was given, so that what waits then is of the bytes of this call.
-- Without a fault, and at one of the stream, what was fed leads to the decoder, so that the same can be said of the next call. The rest is
-- what `feed` says of a sink that is a list.
pub record Delivers (t : Tree) (l : Limits) (w : List ℕ) (es : List EventData) (piece : List ℕ) (waited : List EventData)
    (new : DecoderData) (records : List Record) (texts : List ℕ) (waits : List EventData) : Type 0 where
  pub count : ℕ
  pub within : count ≤ length piece
  pub more : List EventData
  pub gives : Gives (waited ++ more) records texts waits
  pub late : 0 < count → (front : List EventData) × (more ≡ front ++ waits)
  pub followed : Followed Appends Stays t l w es (take count piece) waited (answer new.fault) new (waited ++ more)
  pub so : OnStream (answer new.fault) (HasRead new (w ++ take count piece) (es ++ more))

-- the text of the first of these events is longer than that
abbrev pub IsTooLong : ℕ → List EventData → Type 0
IsTooLong room [] = ⊥
IsTooLong room (e ∷ es) = room < length (event_text e)

-- Among so many records there is none for the first of these events, or its text is too long for so many bytes.
abbrev pub HasNoRoom : ℕ → ℕ → List EventData → Type 0
HasNoRoom records texts es = (records ≡ 0) ⊎ IsTooLong texts es

-- how a call ends that is not done: at nothing taken and nothing given there is too little room for the next record
abbrev pub unfinished : Bool → Outcome
unfinished true = Came.NoRoom
unfinished false = Came.More

-- How a call ends: by whether an event waits, what the decoder answers, and whether the whole piece was taken. A fault is told once
-- nothing waits.
abbrev pub outcome_of : Bool → Result Unit Fault → Bool → Bool → Outcome
outcome_of true r all nothing = unfinished nothing
outcome_of false (Err f) all nothing = Came.Fault f.code
outcome_of false (Ok u) true nothing = Came.Done
outcome_of false (Ok u) false nothing = unfinished nothing

-- What a call does of a decoder that had stopped before, at this fault: it takes no byte, and of the events that waited it gives the first.
-- The fault is reported once none waits.
pub record HandsOver (waited : List EventData) (f : Fault) (records : List Record) (texts : List ℕ) (fed : Fed) (waits : List EventData) : Type 0 where
  pub nothing : fed.taken ≡ 0
  pub room : (fed.records ≤ length records) × (fed.texts ≤ length texts)
  pub gives : Gives waited (take fed.records records) (take fed.texts texts) waits
  pub full : waits ≢ [] → HasNoRoom (length records - fed.records) (length texts - fed.texts) waits
  pub outcome : fed.outcome ≡ outcome_of (nat_lt 0 (length waits)) (Err f) false (fed.records == 0)
