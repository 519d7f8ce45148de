-- What a run of show --bytes has read, and what it has written of that. `W b ls r` says that rows with the bytes `b` and the lines `ls` of
-- show were written, all of them or a front.
use Rattle.std.specs.Prelude.{◌≡◌, ◌⊎◌, ℕ, All, Bool, List, [], ◌++◌, length, Option, Some, None, Result, Ok, Err}
use Rattle.fast_value.specs.declared.settings.Limits.{Limits}
use Rattle.fast_value.specs.declared.codes.Code.{Code}
use Rattle.fast_tree.specs.meaning.Tree.{Tree}
use Rattle.fast_stream.specs.declared.faults.Fault.{Fault}
use Rattle.fast_stream.specs.declared.faults.FaultCode.TheVariants.{Stream as FaultOfStream}
use Rattle.fast_stream.specs.declared.faults.MakeError.{MakeError}
use Rattle.fast_stream.specs.meaning.Events.{EventData}
use Rattle.fast_stream.specs.meaning.Streams.{End, between, inside, faulted, Stream}
use Rattle.fast_lines.specs.meaning.Lines.{lines}
use Rattle.fast_lines.specs.meaning.Values.{HoldsBytes}
use Rattle.fast_text.specs.declared.streams.Failed.{Failed}
use Rattle.fast_command.specs.declared.faults.ShowEnd.{ShowEnd}
use Rattle.fast_command.specs.declared.faults.ShowEnd.TheVariants.{Good, Faulted, Truncated}
use Rattle.fast_command.specs.declared.faults.RunFault.{RunFault}
use Rattle.fast_command.specs.declared.faults.RunFault.TheVariants.{Read, Write, BadHex, Templates as Refused, Make, Text, Encode, Memory}
use Rattle.fast_command.specs.meaning.Closing.{fault_line, truncated_line, closing}
use Rattle.fast_command.specs.meaning.Showing.{StandsFor, IsStreamOf, IsGoodEnd}

-- These bytes have a fault. All rows up to it were written, and the line of the fault.
pub record IsAtFault (t : Tree) (l : Limits) (W : List ℕ → List ℕ → Result (Unit {0}) Failed → Type 0) (b : List ℕ) (f : Fault) : Type 0 where
  pub shown : List ℕ
  pub rest : List ℕ
  pub events : List EventData
  pub code : Code
  pub split : shown ++ rest ≡ b
  pub stream : Stream t l shown events (faulted code f.place)
  pub holds : All HoldsBytes events
  pub code_is : f.code ≡ FaultOfStream code
  pub rows : W shown (lines t events ++ fault_line f.code f.place) (Ok tt)

-- Of these bytes some were read, and a front of their rows was written. Their lines are the first ones of what show writes.
pub record IsCut (t : Tree) (l : Limits) (W : List ℕ → List ℕ → Result (Unit {0}) Failed → Type 0) (b : List ℕ) : Type 0 where
  pub shown : List ℕ
  pub rest : List ℕ
  pub events : List EventData
  pub end : End
  pub line : List ℕ
  pub out : List ℕ
  pub more : List ℕ
  pub why : Failed
  pub split : shown ++ rest ≡ b
  pub stream : Stream t l shown events end
  pub closes : (line ≡ []) ⊎ (line ≡ closing shown end)
  pub lines_are : lines t events ++ line ≡ out ++ more
  pub rows : W shown out (Err why)

-- These bytes have no fault, and all their rows were written.
pub record IsSoFar (t : Tree) (l : Limits) (hex : Bool) (W : List ℕ → List ℕ → Result (Unit {0}) Failed → Type 0) (text : List ℕ)
    (place : Option ℕ) : Type 0 where
  pub bytes : List ℕ
  pub events : List EventData
  pub end : End
  pub stream : IsStreamOf t l hex text place bytes events end
  pub good : IsGoodEnd end
  pub rows : W bytes (lines t events) (Ok tt)

-- What a run has read and written that ended so. The run can say for which cause no decoder is made, that there is no memory for it, that the
-- input is at its end, and that it reads no more.
abbrev pub IsDumped : Tree → Limits → Bool → (Refuses : MakeError → Type 0) → (LacksMemory AtEnd ReadsNoMore : Type 0)
    → (W : List ℕ → List ℕ → Result (Unit {0}) Failed → Type 0) → List ℕ → Result ShowEnd RunFault → Type 0
IsDumped t l hex Refuses LacksMemory AtEnd ReadsNoMore W text (Ok Good) =
    (b : List ℕ) × (es : List EventData) × IsStreamOf t l hex text None b es between × W b (lines t es) (Ok tt) × AtEnd
IsDumped t l hex Refuses LacksMemory AtEnd ReadsNoMore W text (Ok (Faulted f)) = (place : Option ℕ) × (b : List ℕ)
    × StandsFor hex text b place × IsAtFault t l W b f
IsDumped t l hex Refuses LacksMemory AtEnd ReadsNoMore W text (Ok (Truncated n)) =
    (b : List ℕ) × (es : List EventData) × IsStreamOf t l hex text None b es inside × (n ≡ length b) × W b (lines t es ++ truncated_line n) (Ok tt) × AtEnd
IsDumped t l hex Refuses LacksMemory AtEnd ReadsNoMore W text (Err (BadHex n)) = IsSoFar t l hex W text (Some n)
IsDumped t l hex Refuses LacksMemory AtEnd ReadsNoMore W text (Err Read) = (place : Option ℕ) × IsSoFar t l hex W text place × ReadsNoMore
IsDumped t l hex Refuses LacksMemory AtEnd ReadsNoMore W text (Err Write) = (place : Option ℕ) × (b : List ℕ) × StandsFor hex text b place × IsCut t l W b
IsDumped t l hex Refuses LacksMemory AtEnd ReadsNoMore W text (Err (Refused fault)) = ⊥
IsDumped t l hex Refuses LacksMemory AtEnd ReadsNoMore W text (Err (Text line kind)) = ⊥
IsDumped t l hex Refuses LacksMemory AtEnd ReadsNoMore W text (Err (Encode message fault)) = ⊥
IsDumped t l hex Refuses LacksMemory AtEnd ReadsNoMore W text (Err (Make cause)) = (text ≡ []) × Refuses cause × W [] [] (Ok tt)
IsDumped t l hex Refuses LacksMemory AtEnd ReadsNoMore W text (Err Memory) = (text ≡ []) × LacksMemory × W [] [] (Ok tt)
