-- What a run has passed to an output, and how it ends.
use Rattle.std.specs.Prelude.{◌≡◌, ◌⊎◌, ℕ, Bool, true, false, List, [], ◌∷◌, ◌++◌, length, Option, Some, None, Result, Ok, Err}
use Rattle.fast_value.specs.declared.settings.Limits.{Limits}
use Rattle.fast_value.specs.declared.codes.Code.{Code}
use Rattle.fast_tree.specs.meaning.Tree.{Tree}
use Rattle.fast_stream.specs.declared.faults.Fault.{Fault}
use Rattle.fast_stream.specs.declared.faults.FaultCode.TheVariants.{Stream as FaultOfStream}
use Rattle.fast_stream.specs.declared.faults.MakeError.{MakeError}
use Rattle.fast_stream.specs.meaning.Events.{EventData}
use Rattle.fast_stream.specs.meaning.Streams.{End, between, inside, faulted, Stream}
use Rattle.fast_select.specs.declared.selected.Chooser.{Chooser}
use Rattle.fast_select.specs.meaning.Selecting.{Gives}
use Rattle.fast_select.specs.meaning.Choosing.{is_none_left, after_all, chosen}
use Rattle.fast_command.specs.declared.faults.ShowEnd.{ShowEnd}
use Rattle.fast_command.specs.declared.faults.ShowEnd.TheVariants.{Good, Faulted, Truncated}
use Rattle.fast_command.specs.declared.faults.RunFault.{RunFault}
use Rattle.fast_command.specs.declared.faults.RunFault.TheVariants.{Read, Write, BadHex, Templates as Refused, Make, Text, Encode, Memory}
use Rattle.fast_command.specs.meaning.Showing.{StandsFor, IsGoodEnd}

-- What closes a stream was put after its events: the fault, or the end inside a message.
abbrev pub Puts : {S : Type 0} → (S → Fault → S → Type 0) → (S → ℕ → S → Type 0) → Result ShowEnd RunFault → S → S → Type 0
Puts faults cuts (Ok (Faulted f)) s s' = faults s f s'
Puts faults cuts (Ok (Truncated n)) s s' = cuts s n s'
Puts faults cuts (Ok Good) s s' = s' ≡ s
Puts faults cuts (Err e) s s' = s' ≡ s

-- An output took the events, what closes the stream was put after them, and then it was flushed.
pub record Shows {S : Type 0} (takes : S → EventData → S → Type 0) (flushes : S → S → Type 0) (faults : S → Fault → S → Type 0)
    (cuts : S → ℕ → S → Type 0) (r : Result ShowEnd RunFault) (s : S) (es : List EventData) (s' : S) : Type 0 where
  pub mid : S
  pub put : S
  pub gives : Gives takes flushes s es mid
  pub puts : Puts faults cuts r mid put
  pub flushed : flushes put s'

-- The whole input was read: the text stands for the bytes, and the chosen ones of their events were given.
pub record IsWhole (t : Tree) (l : Limits) (hex : Bool) (c : Chooser) (AtEnd : Type 0) (G : List EventData → Type 0) (text : List ℕ) (e : End) : Type 0 where
  pub bytes : List ℕ
  pub events : List EventData
  pub stands : StandsFor hex text bytes None
  pub stream : Stream t l bytes events e
  pub given : G (chosen c events)
  pub at_end : AtEnd

-- A front of the bytes gave events with which the last message that can be chosen ends. Those that were chosen were given.
pub record IsEnough (t : Tree) (l : Limits) (hex : Bool) (c : Chooser) (G : List EventData → Type 0) (text : List ℕ) : Type 0 where
  pub place : Option ℕ
  pub bytes : List ℕ
  pub rest : List ℕ
  pub events : List EventData
  pub more : List EventData
  pub end : End
  pub stands : StandsFor hex text (bytes ++ rest) place
  pub stream : Stream t l bytes (events ++ more) end
  pub full : is_none_left (after_all c events).rest ≡ true
  pub given : G (chosen c events)

-- The bytes have a fault, and the chosen ones of the events before it were given.
pub record IsAtFault (t : Tree) (l : Limits) (hex : Bool) (c : Chooser) (G : List EventData → Type 0) (text : List ℕ) (f : Fault) : Type 0 where
  pub place : Option ℕ
  pub bytes : List ℕ
  pub events : List EventData
  pub code : Code
  pub stands : StandsFor hex text bytes place
  pub stream : Stream t l bytes events (faulted code f.place)
  pub code_is : f.code ≡ FaultOfStream code
  pub given : G (chosen c events)

-- The text stands for the bytes up to its first bad place, if it has one. They have no fault, and the chosen ones of their events were given.
pub record IsSoFar (t : Tree) (l : Limits) (hex : Bool) (c : Chooser) (G : List EventData → Type 0) (text : List ℕ) (place : Option ℕ) : Type 0 where
  pub bytes : List ℕ
  pub events : List EventData
  pub end : End
  pub stands : StandsFor hex text bytes place
  pub stream : Stream t l bytes events end
  pub good : IsGoodEnd end
  pub given : G (chosen c events)

-- What a run has read and shown that ended so: `G es` says that the events were given to the output. The run can say for which cause no
-- decoder is made, that the input is at its end, that it reads no more, and that the output has failed.
abbrev pub Ran : Tree → Limits → Bool → Chooser → (Refuses : MakeError → Type 0) → (AtEnd ReadsNoMore HasFailed : Type 0)
    → (G : List EventData → Type 0) → List ℕ → Result ShowEnd RunFault → Type 0
Ran t l hex c Refuses AtEnd ReadsNoMore HasFailed G text (Ok Good) = IsWhole t l hex c AtEnd G text between ⊎ IsEnough t l hex c G text
Ran t l hex c Refuses AtEnd ReadsNoMore HasFailed G text (Ok (Faulted f)) = IsAtFault t l hex c G text f
Ran t l hex c Refuses AtEnd ReadsNoMore HasFailed G text (Ok (Truncated n)) = (w : IsWhole t l hex c AtEnd G text inside) × (n ≡ length w.bytes)
Ran t l hex c Refuses AtEnd ReadsNoMore HasFailed G text (Err (BadHex n)) = IsSoFar t l hex c G text (Some n)
Ran t l hex c Refuses AtEnd ReadsNoMore HasFailed G text (Err Read) = (place : Option ℕ) × IsSoFar t l hex c G text place × ReadsNoMore
Ran t l hex c Refuses AtEnd ReadsNoMore HasFailed G text (Err Write) = HasFailed
Ran t l hex c Refuses AtEnd ReadsNoMore HasFailed G text (Err (Make cause)) = (text ≡ []) × Refuses cause
Ran t l hex c Refuses AtEnd ReadsNoMore HasFailed G text (Err Memory) = text ≡ []
Ran t l hex c Refuses AtEnd ReadsNoMore HasFailed G text (Err (Refused fault)) = ⊥
Ran t l hex c Refuses AtEnd ReadsNoMore HasFailed G text (Err (Text line kind)) = ⊥
Ran t l hex c Refuses AtEnd ReadsNoMore HasFailed G text (Err (Encode message fault)) = ⊥
