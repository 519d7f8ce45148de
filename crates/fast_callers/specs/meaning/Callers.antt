-- What the callers say of a stream.
use Rattle.std.specs.Prelude.{◌≡◌, ℕ, ◌+◌, ◌≤◌, ◌^◌, Bool, false, if◌then◌else◌, ◌&&◌, nat_eq, List, [], ◌∷◌, ◌++◌, length, Option, Some, None}
use Rattle.std.specs.Str.{bytes_eq}
use Rattle.fast_value.specs.declared.settings.Limits.{Limits}
use Rattle.fast_value.specs.meaning.Kinds.{Dec, AsciiText}
use Rattle.fast_tree.specs.meaning.Tree.{Tree}
use Rattle.fast_dict.specs.meaning.EntryTexts.{HasLongInitial}
use Rattle.fast_template.specs.declared.sets.Templates.{Templates}
use Rattle.fast_template.specs.meaning.Flat.{nodes_of}
use Rattle.fast_stream.specs.declared.faults.Fault.{Fault}
use Rattle.fast_stream.specs.declared.faults.FaultCode.{FaultCode}
use Rattle.fast_stream.specs.declared.faults.FaultCode.TheVariants as Why
use Rattle.fast_stream.specs.meaning.Events.{EventData, FieldValue, MessageEnd}
use Rattle.fast_stream.specs.meaning.Streams.{End, between, inside, faulted, Stream}
use Rattle.fast_stream.specs.meaning.Account.{Account, TellsStream}
use Rattle.fast_decoder.specs.meaning.Decoding.{AreBadLimits}
use Rattle.fast_callers.specs.declared.counting.Counter.{Counter}
use Rattle.fast_callers.specs.declared.counting.Refusal.{Refusal}
use Rattle.fast_callers.specs.declared.counting.Refusal.TheVariants.{Make, Stream as AtFault}
use Rattle.fast_callers.specs.declared.prices.Price.{Price}
use Rattle.fast_callers.specs.declared.prices.Columns.{Columns}
use Rattle.fast_callers.specs.declared.prices.LastPrice.{LastPrice}
use Rattle.fast_callers.specs.declared.stopping.Stopped.{Stopped}

-- how many messages an event ends
abbrev pub ends : EventData → ℕ
ends MessageEnd = 1
ends e = 0

-- how many messages are whole among these events
abbrev pub whole : List EventData → ℕ
whole [] = 0
whole (e ∷ es) = ends e + whole es

-- a counter takes an event
abbrev pub Counts : Counter → EventData → Counter → Type 0
Counts old e new = new.messages ≡ old.messages + ends e

-- a counter stops at the end of one message more than can be counted
abbrev pub CountsNoMore : Counter → EventData → Counter → Type 0
CountsNoMore old e new = (new ≡ old) × (2 ^ 64 ≤ old.messages + ends e)

-- The limits are good, and an initial value is longer than they allow.
abbrev pub HasLongValue : Templates → Limits → Type 0
HasLongValue set l = ¬ (AreBadLimits l) × HasLongInitial l.max_text (nodes_of set)

-- The bytes are more than can be counted: those up to the place gave these events, and the others were not read.
pub record IsCutOff (t : Tree) (l : Limits) (w : List ℕ) (place : ℕ) (es : List EventData) : Type 0 where
  pub front : List ℕ
  pub rest : List ℕ
  pub end : End
  pub both : w ≡ front ++ rest
  pub place_is : place ≡ length front
  pub stream : Stream t l front es end
  pub many : 2 ^ 64 ≤ length w

-- Why a stream is not read to its end: its first fault, or bytes that are more than can be counted. Sinks do not stop.
abbrev pub IsStopped : Tree → Limits → List ℕ → FaultCode → ℕ → Type 0
IsStopped t l w (Why.Stream c) place = (es : List EventData) × Stream t l w es (faulted c place)
IsStopped t l w Why.L4 place = (es : List EventData) × IsCutOff t l w place es
IsStopped t l w Why.SinkStopped place = ⊥

-- why a call refuses a stream, where there is a decoder
abbrev pub IsRefused : Tree → Limits → List ℕ → Refusal → Type 0
IsRefused t l w (Make cause) = Unit {0}
IsRefused t l w (AtFault f) = IsStopped t l w f.code f.place

-- a stream ends without a fault
abbrev pub HasNoFault : End → Type 0
HasNoFault between = Unit {0}
HasNoFault inside = Unit {0}
HasNoFault (faulted c place) = ⊥

-- The stream has no fault, and so many of its messages are whole.
abbrev pub HasMessages : Tree → Limits → List ℕ → ℕ → Type 0
HasMessages t l w n = (es : List EventData) × (e : End) × Stream t l w es e × HasNoFault e × (n ≡ whole es)

-- what is known of prices: whether the last symbol is the one that is looked for, and its last price
pub record Known : Type 0 where
  pub is_ours : Bool
  pub price : Option Price

-- what is known behind an event
abbrev pub learn : Columns → List ℕ → Known → EventData → Known
learn c q k (FieldValue n (AsciiText v)) = if nat_eq n c.symbol then record { is_ours = bytes_eq v q; price = k.price } else k
learn c q k (FieldValue n (Dec x m)) = if nat_eq n c.price && k.is_ours then record {
  is_ours = k.is_ours;
  price = Some (record { exponent = x; mantissa = m });
} else k
learn c q k e = k

-- what is known behind events
abbrev pub learn_all : Columns → List ℕ → Known → List EventData → Known
learn_all c q k [] = k
learn_all c q k (e ∷ es) = learn_all c q (learn c q k e) es

-- what a sink knows
abbrev pub known_by : LastPrice → Known
known_by s = record { is_ours = s.is_ours; price = s.price }

-- it takes an event
pub record TakesPrice (old : LastPrice) (e : EventData) (new : LastPrice) : Type 0 where
  pub columns : new.columns ≡ old.columns
  pub symbol : new.symbol.now ≡ old.symbol.now
  pub known : known_by new ≡ learn old.columns old.symbol.now (known_by old) e

-- The stream has no fault, and this is the last price of the symbol, if it has one.
abbrev pub HasLastPrice : Tree → Limits → Columns → List ℕ → List ℕ → Option Price → Type 0
HasLastPrice t l c q w p = (es : List EventData) × (e : End) × Stream t l w es e × HasNoFault e × (p ≡ (learn_all c q (record {
  is_ours = false;
  price = None;
}) es).price)

-- what is told of where a stream was left
abbrev pub told : Stopped → Account
told s = record { is_between = s.is_between; fault = s.fault; consumed = s.bytes }

-- The stream was read to its end or to its first fault, with the messages that are whole up to there.
abbrev pub IsReadThrough : Tree → Limits → List ℕ → Stopped → Type 0
IsReadThrough t l w s = (es : List EventData) × TellsStream t l w es (told s) × (s.messages ≡ whole es)

-- The bytes of the stream are more than can be counted, and it was left at this place.
pub record IsLeft (t : Tree) (l : Limits) (w : List ℕ) (s : Stopped) (place : ℕ) : Type 0 where
  pub events : List EventData
  pub read : IsCutOff t l w place events
  pub messages : s.messages ≡ whole events
  pub bytes : s.bytes ≡ place
  pub none_between : s.is_between ≡ false

-- how far the stream was read, by the fault that is told, if one is
abbrev pub HasStoppedBy : Tree → Limits → List ℕ → Stopped → FaultCode → ℕ → Type 0
HasStoppedBy t l w s (Why.Stream c) place = IsReadThrough t l w s
HasStoppedBy t l w s Why.L4 place = IsLeft t l w s place
HasStoppedBy t l w s Why.SinkStopped place = ⊥

abbrev pub HasStoppedAt : Tree → Limits → List ℕ → Stopped → Option Fault → Type 0
HasStoppedAt t l w s None = IsReadThrough t l w s
HasStoppedAt t l w s (Some f) = HasStoppedBy t l w s f.code f.place

-- How far the stream was read: to its end or to its first fault, or as far as its bytes can be counted.
abbrev pub HasStopped : Tree → Limits → List ℕ → Stopped → Type 0
HasStopped t l w s = HasStoppedAt t l w s s.fault
