-- The model of a decoder in contracts, and the bytes and events that it has read.
use Rattle.std.specs.Prelude.{◌≡◌, ◌⊎◌, ℕ, ◌+◌, ◌-◌, ◌*◌, ◌<◌, ◌≤◌, ◌^◌, ◌&&◌, is_none, List, ◌++◌, length, take, Option, Some, None, Result, Ok, Err, vec_len}
use Rattle.fast_wire.specs.meaning.Maps.{map_limit}
use Rattle.fast_value.specs.declared.settings.Limits.{Limits}
use Rattle.fast_tree.specs.meaning.Tree.{Tree}
use Rattle.fast_tree.specs.meaning.Numbers.{NameLaterNodes}
use Rattle.fast_dict.specs.meaning.Dictionary.{Dictionary}
use Rattle.fast_stream.specs.declared.faults.Fault.{Fault}
use Rattle.fast_stream.specs.declared.faults.FaultCode.{FaultCode}
use Rattle.fast_stream.specs.declared.faults.FaultCode.TheVariants as Why
use Rattle.fast_machine.specs.declared.machine.Machine.{Machine}
use Rattle.fast_stream.specs.meaning.Events.{EventData}
use Rattle.fast_stream.specs.meaning.Sinks.{Takes, TakesUpTo}
use Rattle.fast_stream.specs.meaning.Streams.{End, Stream, AreBytes}
use Rattle.fast_stream.specs.meaning.Account.{Stored, Account}
use Rattle.fast_stream.specs.device.Running.{Position, at_fault, reading}
use Rattle.fast_machine.specs.device.Positions.{Set, tree_in, meaning, IsSupplied, IsReady, is_idle}
use Rattle.fast_machine.specs.device.Handing.{waiting_at}
use Rattle.fast_machine.specs.device.TurnsLeft.{IsWithinMessage}

-- A decoder: its template set and limits, its machine, the bytes that it has consumed, and its fault.
pub record DecoderData : Type 0 where
  pub set : Set
  pub limits : Limits
  pub machine : Machine
  pub consumed : ℕ
  pub fault : Option Fault

-- the tree of the decoder's template set
abbrev pub tree : DecoderData → Tree
tree d = tree_in d.set

-- The machine of a decoder can go on, unless the decoder has a fault, whose offset (`place`) is the number of bytes consumed.
abbrev pub IsSoundAt : Option Fault → Set → Limits → Machine → ℕ → Type 0
IsSoundAt None set l m n = IsReady set l m
IsSoundAt (Some f) set l m n = f.place ≡ n

-- Without a fault, the rest of a message that has begun is within its most turns.
abbrev pub IsPaidAt : Option Fault → Set → Limits → Machine → Type 0
IsPaidAt None set l m = IsWithinMessage set l m
IsPaidAt (Some f) set l m = Unit {0}

-- the invariant of a decoder, which its functions keep
pub record IsSound (d : DecoderData) : Type 0 where
  pub later : NameLaterNodes d.set.nodes
  pub supplied : IsSupplied d.set d.limits d.machine
  pub at : IsSoundAt d.fault d.set d.limits d.machine d.consumed
  pub paid : IsPaidAt d.fault d.set d.limits d.machine

-- A fault of the stream is at its offset. The other faults have no position in a stream.
abbrev pub IsFaultAt : FaultCode → ℕ → Position Dictionary → Type 0
IsFaultAt (Why.Stream c) place s = s ≡ at_fault c place
IsFaultAt Why.L4 place s = ⊥
IsFaultAt Why.SinkStopped place s = ⊥

-- the position of a decoder in the stream, after n bytes
abbrev pub IsAt : Option Fault → DecoderData → ℕ → Position Dictionary → Type 0
IsAt None d n s = (s ≡ waiting_at (meaning d.set d.limits d.machine)) × (d.consumed ≡ n)
IsAt (Some f) d n s = IsFaultAt f.code f.place s

-- The decoder has read these bytes, which gave these events.
pub record HasRead (d : DecoderData) (w : List ℕ) (es : List EventData) : Type 0 where
  pub sound : IsSound d
  pub bytes : AreBytes w
  pub position : Position Dictionary
  pub read : reading (tree d) d.limits w ≡ (es, position)
  pub at : IsAt d.fault d (length w) position

-- the limit on strings is too small or too great
abbrev pub AreBadLimits : Limits → Type 0
AreBadLimits l = (l.max_text < 16) ⊎ (1048576 < l.max_text)

-- the fault is that the bytes can no longer be counted
abbrev pub IsUncounted : Result Unit Fault → Type 0
IsUncounted (Ok u) = ⊥
IsUncounted (Err f) = f.code ≡ Why.L4

-- the turns that the decoder's machine made in the last call that made, fed or reset it
abbrev pub turns : DecoderData → ℕ
turns d = d.machine.turns.count

-- The memory of a decoder's machine for a stream: all cells of the scratch, those of the carry for the bytes of a string, the whole block
-- of the dictionary's strings, the entries, a frame for each level of nesting, and the cells of one map for the message and for each level:
-- a cursor's model has only the maps that have been read, and `IsCursor` counts the cells. It includes neither memory whose size depends
-- on neither the set nor the limits, such as the 22 cells of the carry for the integers of a field, nor memory that is written once: a
-- number for each entry, the offset of its string in the block (`slots.places`).
abbrev pub stored_by : Machine → Stored
stored_by m = record {
  scratch = m.text.capacity + (m.carry.bytes.capacity - 22);
  texts = vec_len m.slots.block;
  entries = vec_len m.slots.entries;
  frames = m.cursor.depth;
  maps = map_limit * (m.cursor.depth + 1);
}

-- the memory of a decoder
abbrev pub stored : DecoderData → Stored
stored d = stored_by d.machine

-- the account that a decoder gives of itself
abbrev pub account : DecoderData → Account
account d = record { is_between = is_none d.fault && is_idle d.machine; fault = d.fault; consumed = d.consumed }

-- the result of a decoder with this fault, or none
abbrev pub answer : Option Fault → Result Unit Fault
answer None = Ok tt
answer (Some f) = Err f

-- The piece gives these events, all of which the sink accepts, and the decoder has read it.
pub record Carries {S : Type 0} (takes : S → EventData → S → Type 0) (w : List ℕ) (es : List EventData) (piece : List ℕ) (s : S)
    (new : DecoderData) (s' : S) : Type 0 where
  pub more : List EventData
  pub so : HasRead new (w ++ piece) (es ++ more)
  pub took : Takes takes s more s'

-- The sink accepts all events of the stream up to one that the byte before the offset gives, and stops at this one.
pub record SinkEnds {S : Type 0} (takes stops : S → EventData → S → Type 0) (old : DecoderData) (w : List ℕ) (es : List EventData)
    (piece : List ℕ) (s : S) (place : ℕ) (s' : S) : Type 0 where
  pub bytes : ℕ
  pub earlier : List EventData
  pub given : List EventData
  pub mid : S
  pub end_before : End
  pub end_after : End
  pub within : bytes < length piece
  pub place_is : place ≡ old.consumed + (bytes + 1)
  pub until : Stream (tree old) old.limits (w ++ take bytes piece) (es ++ earlier) end_before
  pub through : Stream (tree old) old.limits (w ++ take (bytes + 1) piece) (es ++ earlier ++ given) end_after
  pub took : Takes takes s earlier mid
  pub stopped : TakesUpTo takes stops mid given s'

-- The bytes are more than can be counted: none is read, and the sink is not called.
pub record IsRefused {S : Type 0} (old : DecoderData) (piece : List ℕ) (s : S) (place : ℕ) (s' : S) : Type 0 where
  pub many : 2 ^ 64 ≤ old.consumed + length piece
  pub place_is : place ≡ old.consumed
  pub same : s' ≡ s

-- the meaning of a fault of a feed
abbrev pub CarriesAt : {S : Type 0} → (S → EventData → S → Type 0) → (S → EventData → S → Type 0) → DecoderData → List ℕ → List EventData
    → List ℕ → S → FaultCode → ℕ → DecoderData → S → Type 0
CarriesAt takes stops old w es piece s (Why.Stream c) place new s' = Carries takes w es piece s new s'
CarriesAt takes stops old w es piece s Why.L4 place new s' = IsRefused old piece s place s'
CarriesAt takes stops old w es piece s Why.SinkStopped place new s' = SinkEnds takes stops old w es piece s place s'

-- the effect of feeding a piece, after the bytes that the decoder had read
abbrev pub Carried : {S : Type 0} → (S → EventData → S → Type 0) → (S → EventData → S → Type 0) → DecoderData → List ℕ → List EventData
    → List ℕ → S → Result Unit Fault → DecoderData → S → Type 0
Carried takes stops old w es piece s (Ok u) new s' = Carries takes w es piece s new s'
Carried takes stops old w es piece s (Err f) new s' = CarriesAt takes stops old w es piece s f.code f.place new s'
