-- What becomes of records that are put to an encoder.
use Rattle.std.specs.Prelude.{ℕ, ◌<◌, ◌≤◌, List, length, take, ◌≢◌}
use Rattle.fast_value.specs.meaning.Messages.{MessageData}
use Rattle.fast_tree.specs.meaning.Tree.{Tree}
use Rattle.fast_stream.specs.meaning.Events.{EventData, events}
use Rattle.fast_spelling.specs.declared.faults.EncodeFault.{EncodeFault}
use Rattle.fast_encoder.specs.meaning.Encoders.{EncoderData, IsEncoded, IsToldOf}
use Rattle.fast_records.specs.declared.records.Record.{Record}
use Rattle.fast_records.specs.declared.encoding.PutRefusal.{PutRefusal}
use Rattle.fast_records.specs.declared.encoding.PutRefusal.TheVariants as Why
use Rattle.fast_records.specs.declared.putting.PutFault.{PutFault}
use Rattle.fast_records.specs.declared.putting.PutFault.TheVariants as Put
use Rattle.fast_records.specs.meaning.Lent.{AreTold}

-- so of records that are called misplaced, at the one of this number
abbrev pub OnMisplacedAt : (ℕ → Type 0) → PutFault → Type 0
OnMisplacedAt A (Put.Misplaced n) = A n
OnMisplacedAt A Put.Memory = Unit {0}

-- so of records that are called misplaced
abbrev pub OnMisplaced : Type 0 → PutFault → Type 0
OnMisplaced A f = OnMisplacedAt (λ n. A) f

-- The number is that of one of the records, or of the one that is missing behind them, and the records before it tell events.
pub record IsPlaced (records : List Record) (texts : List ℕ) (n : ℕ) : Type 0 where
  pub within : n ≤ length records
  pub before : List EventData
  pub told : AreTold texts (take n records) before

-- No message of the set has events that the records tell.
abbrev pub AreNoMessage : Tree → List Record → List ℕ → Type 0
AreNoMessage t records texts = (m : MessageData) → m.template < length t.templates → ¬ (AreTold texts records (events t m))

-- The records tell the events of a message of the set, and of that message the encoder has appended the bytes.
pub record IsPut (t : Tree) (old : EncoderData) (records : List Record) (texts out : List ℕ) (new : EncoderData) (longer : List ℕ) : Type 0 where
  pub message : MessageData
  pub known : message.template < length t.templates
  pub told : AreTold texts records (events t message)
  pub encoded : IsEncoded old message out new longer

-- The records tell the events of a message of the set, of which the encoder tells this fault.
pub record IsRefusedPut (t : Tree) (old : EncoderData) (records : List Record) (texts : List ℕ) (f : EncodeFault) : Type 0 where
  pub message : MessageData
  pub known : message.template < length t.templates
  pub told : AreTold texts records (events t message)
  pub refused : IsToldOf old message f

-- so of each refusal: the records are no message, or the fault is the encoder's
abbrev pub IsToldOfPut : Tree → EncoderData → List Record → List ℕ → PutRefusal → Type 0
IsToldOfPut t old records texts (Why.Records f) = OnMisplaced (AreNoMessage t records texts) f
IsToldOfPut t old records texts (Why.Message f) = IsRefusedPut t old records texts f

-- so of each refusal that names a record
abbrev pub IsPlacedPut : List Record → List ℕ → PutRefusal → Type 0
IsPlacedPut records texts (Why.Records f) = OnMisplacedAt (IsPlaced records texts) f
IsPlacedPut records texts (Why.Message f) = Unit {0}

-- no message of the set
abbrev pub HasNoMessage : Tree → List EventData → Type 0
HasNoMessage t from = (m : MessageData) → m.template < length t.templates → from ≢ events t m

-- a record that is called misplaced is one of so many, or the one that is missing behind them
abbrev pub IsWithin : ℕ → PutFault → Type 0
IsWithin limit f = OnMisplacedAt (λ n. n ≤ limit) f
