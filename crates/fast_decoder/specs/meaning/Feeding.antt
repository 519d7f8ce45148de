-- The effect of a call that feeds bytes on the stream, the sink and the decoder.
use Rattle.std.specs.Prelude.{◌≡◌, ℕ, ◌+◌, ◌*◌, ◌≤◌, ◌^◌, List, ◌∷◌, [], ◌++◌, length, flat_map, None, IfSome, Result, Ok, Err}
use Rattle.std.specs.Borrow.{Bor}
use Rattle.fast_value.specs.declared.settings.Limits.{Limits}
use Rattle.fast_tree.specs.meaning.Tree.{Tree}
use Rattle.fast_tree.specs.meaning.Sizes.{message_cap}
use Rattle.fast_stream.specs.declared.faults.Fault.{Fault}
use Rattle.fast_stream.specs.declared.faults.FaultCode.{FaultCode}
use Rattle.fast_stream.specs.declared.faults.FaultCode.TheVariants as Why
use Rattle.fast_stream.specs.meaning.Events.{EventData}
use Rattle.fast_stream.specs.meaning.Sinks.{Takes}
use Rattle.fast_stream.specs.meaning.Streams.{End, Stream}
use Rattle.fast_stream.specs.meaning.Account.{TellsStream}
use Rattle.fast_decoder.specs.meaning.Decoding.{DecoderData, HasRead, account}

-- At a fault the bytes consumed are those up to its offset.
abbrev pub IsAtPlace : DecoderData → Type 0
IsAtPlace d = IfSome d.fault (λ (f : Fault). d.consumed ≡ f.place)

-- A call consumes bytes, at most n.
abbrev pub ConsumesAtMost : ℕ → DecoderData → DecoderData → Type 0
ConsumesAtMost n old new = (old.consumed ≤ new.consumed) × (new.consumed ≤ old.consumed + n)

-- the bytes of the pieces, one after the other
abbrev pub all_bytes : List (Bor (List ℕ)) → List ℕ
all_bytes pieces = flat_map (λ (p : Bor (List ℕ)). p.now) pieces

-- More bytes were fed after bytes that gave events. The sink received exactly the events that these give, and the decoder reports where the
-- stream is: between messages, inside one, or at its first fault, by name and offset. All the events are at most the cap of a message for
-- each byte consumed. Without a fault, the decoder has read what was fed, and more can be fed after it.
pub record Follows {S : Type 0} (takes : S → EventData → S → Type 0) (t : Tree) (l : Limits) (w : List ℕ) (es : List EventData)
    (fed : List ℕ) (s : S) (new : DecoderData) (s' : S) : Type 0 where
  pub given : List EventData
  pub took : Takes takes s given s'
  pub stream : TellsStream t l (w ++ fed) (es ++ given) (account new)
  pub few : length (es ++ given) ≤ new.consumed * message_cap t l
  pub so : new.fault ≡ None → HasRead new (w ++ fed) (es ++ given)

-- The sink accepted the stream's events up to one that the byte before the offset gives, and stopped at this one.
pub record StopsShort {S : Type 0} (takes stops : S → EventData → S → Type 0) (t : Tree) (l : Limits) (w : List ℕ) (es : List EventData)
    (fed : List ℕ) (s : S) (place : ℕ) (new : DecoderData) (s' : S) : Type 0 where
  pub before : List ℕ
  pub byte : ℕ
  pub unread : List ℕ
  pub fed_is : fed ≡ before ++ byte ∷ unread
  pub place_is : place ≡ length (w ++ before) + 1
  pub earlier : List EventData
  pub given : List EventData
  pub refused : EventData
  pub later : List EventData
  pub end_before : End
  pub end_after : End
  pub until : Stream t l (w ++ before) (es ++ earlier) end_before
  pub through : Stream t l (w ++ before ++ byte ∷ []) (es ++ earlier ++ given ++ refused ∷ later) end_after
  pub mid : S
  pub took : Takes takes s (earlier ++ given) mid
  pub stopped : stops mid refused s'
  pub few : length (es ++ earlier ++ given) ≤ new.consumed * message_cap t l

-- The sink received the events of the bytes up to the offset. The bytes after it are more than can be counted, and were not read.
pub record Overflows {S : Type 0} (takes : S → EventData → S → Type 0) (t : Tree) (l : Limits) (w : List ℕ) (es : List EventData)
    (fed : List ℕ) (s : S) (place : ℕ) (new : DecoderData) (s' : S) : Type 0 where
  pub before : List ℕ
  pub unread : List ℕ
  pub fed_is : fed ≡ before ++ unread
  pub place_is : place ≡ length (w ++ before)
  pub many : 2 ^ 64 ≤ length (w ++ fed)
  pub given : List EventData
  pub end_before : End
  pub until : Stream t l (w ++ before) (es ++ given) end_before
  pub took : Takes takes s given s'
  pub few : length (es ++ given) ≤ new.consumed * message_cap t l

-- the meaning of each fault
abbrev pub FollowedAt : {S : Type 0} → (S → EventData → S → Type 0) → (S → EventData → S → Type 0) → Tree → Limits → List ℕ
    → List EventData → List ℕ → S → FaultCode → ℕ → DecoderData → S → Type 0
FollowedAt takes stops t l w es fed s (Why.Stream c) place new s' = Follows takes t l w es fed s new s'
FollowedAt takes stops t l w es fed s Why.L4 place new s' = Overflows takes t l w es fed s place new s'
FollowedAt takes stops t l w es fed s Why.SinkStopped place new s' = StopsShort takes stops t l w es fed s place new s'

-- The effect of a call that feeds bytes after others, which gave events: the sink follows the stream of all of them, up to its first fault,
-- unless it stops or the bytes are more than can be counted.
abbrev pub Followed : {S : Type 0} → (S → EventData → S → Type 0) → (S → EventData → S → Type 0) → Tree → Limits → List ℕ → List EventData
    → List ℕ → S → Result Unit Fault → DecoderData → S → Type 0
Followed takes stops t l w es fed s (Ok u) new s' = Follows takes t l w es fed s new s'
Followed takes stops t l w es fed s (Err f) new s' = FollowedAt takes stops t l w es fed s f.code f.place new s'
