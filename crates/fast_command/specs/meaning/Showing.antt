-- What is shown of a stream.
use Rattle.std.specs.Prelude.{◌≡◌, ◌⊎◌, ℕ, ◌<◌, All, Bool, true, false, List, [], ◌++◌, length, Option, Some, None, Result, Ok, Err}
use Rattle.fast_value.specs.declared.settings.Limits.{Limits}
use Rattle.fast_value.specs.declared.codes.Code.{Code}
use Rattle.fast_tree.specs.meaning.Tree.{Tree}
use Rattle.fast_template.specs.declared.sets.Templates.{Templates}
use Rattle.fast_template.specs.meaning.Flat.{nodes_of}
use Rattle.fast_dict.specs.meaning.EntryTexts.{HasLongInitial}
use Rattle.fast_decoder.specs.meaning.Decoding.{AreBadLimits}
use Rattle.fast_stream.specs.declared.faults.FaultCode.TheVariants.{Stream as FaultOfStream}
use Rattle.fast_stream.specs.declared.faults.MakeError.{MakeError}
use Rattle.fast_stream.specs.declared.faults.MakeError.TheVariants as Why
use Rattle.fast_stream.specs.meaning.Events.{EventData}
use Rattle.fast_stream.specs.meaning.Streams.{End, between, inside, faulted, Stream}
use Rattle.fast_lines.specs.meaning.Lines.{lines}
use Rattle.fast_lines.specs.meaning.Hex.{Unhexed}
use Rattle.fast_lines.specs.meaning.Values.{HoldsBytes}
use Rattle.fast_command.specs.declared.faults.ShowEnd.{ShowEnd}
use Rattle.fast_command.specs.declared.faults.ShowEnd.TheVariants.{Good, Faulted, Truncated}
use Rattle.fast_command.specs.declared.faults.RunFault.{RunFault}
use Rattle.fast_command.specs.declared.faults.RunFault.TheVariants.{Read, Write, BadHex, Templates as Refused, Make, Text, Encode, Memory}
use Rattle.fast_command.specs.meaning.Closing.{fault_line, truncated_line, closing}

-- The text stands for the bytes, up to its first bad place if it has one. A text that is not hexadecimal is its bytes.
abbrev pub StandsFor : Bool → List ℕ → List ℕ → Option ℕ → Type 0
StandsFor false text b place = (b ≡ text) × (place ≡ None)
StandsFor true text b place = Unhexed text b place

-- the end is no fault
abbrev pub IsGoodEnd : End → Type 0
IsGoodEnd between = Unit {0}
IsGoodEnd inside = Unit {0}
IsGoodEnd (faulted c place) = ⊥

-- A stream of the bytes that a text stands for, with its events and its end. These were handed over, so that the elements of their vectors
-- are bytes.
pub record IsStreamOf (t : Tree) (l : Limits) (hex : Bool) (text : List ℕ) (place : Option ℕ) (b : List ℕ) (es : List EventData) (e : End) : Type 0 where
  pub bytes : StandsFor hex text b place
  pub stream : Stream t l b es e
  pub holds : All HoldsBytes es

-- Why no decoder is made, for another cause than memory.
abbrev pub IsRefusal : Templates → Limits → MakeError → Type 0
IsRefusal templates l Why.BadLimits = AreBadLimits l
IsRefusal templates l Why.InitialTooLong = ¬ (AreBadLimits l) × HasLongInitial l.max_text (nodes_of templates)
IsRefusal templates l Why.Memory = ⊥

-- what a run answers where no decoder is made
abbrev pub refusal_of : MakeError → RunFault
refusal_of Why.BadLimits = Make Why.BadLimits
refusal_of Why.InitialTooLong = Make Why.InitialTooLong
refusal_of Why.Memory = Memory

-- whether there was a decoder in a run that ended so
abbrev pub has_begun : Result ShowEnd RunFault → Bool
has_begun (Ok end) = true
has_begun (Err Read) = true
has_begun (Err Write) = true
has_begun (Err (BadHex place)) = true
has_begun (Err (Refused fault)) = true
has_begun (Err (Text line kind)) = true
has_begun (Err (Encode message fault)) = true
has_begun (Err (Make cause)) = false
has_begun (Err Memory) = false

-- The line that can be begun behind the events of a stream: that of its fault; and where all of the input was read and has no bad place,
-- that of its end inside a message.
abbrev pub IsClosing : (AtEnd : Type 0) → Option ℕ → List ℕ → End → List ℕ → Type 0
IsClosing AtEnd place b inside line = (line ≡ []) ⊎ (line ≡ closing b inside) × (place ≡ None) × AtEnd
IsClosing AtEnd place b e line = line ≡ closing b e

-- What was shown of a text that was read, and what the end of the run says of it. The run can say for which cause
-- no decoder is made, that the input is at its end, that it reads no more, and that the writer has failed.
abbrev pub IsShown : Tree → Limits → Bool → (Refuses : MakeError → Type 0) → (AtEnd ReadsNoMore HasFailed : Type 0) → List ℕ → List ℕ
    → Result ShowEnd RunFault → Type 0
IsShown t l hex Refuses AtEnd ReadsNoMore HasFailed text out (Ok Good) =
    (b : List ℕ) × (es : List EventData) × IsStreamOf t l hex text None b es between × (out ≡ lines t es) × AtEnd
IsShown t l hex Refuses AtEnd ReadsNoMore HasFailed text out (Ok (Faulted f)) =
    (place : Option ℕ) × (b : List ℕ) × (es : List EventData) × (c : Code) × IsStreamOf t l hex text place b es (faulted c f.place)
    × (f.code ≡ FaultOfStream c) × (out ≡ lines t es ++ fault_line f.code f.place)
IsShown t l hex Refuses AtEnd ReadsNoMore HasFailed text out (Ok (Truncated n)) =
    (b : List ℕ) × (es : List EventData) × IsStreamOf t l hex text None b es inside × (n ≡ length b) × (out ≡ lines t es ++ truncated_line n) × AtEnd
IsShown t l hex Refuses AtEnd ReadsNoMore HasFailed text out (Err (BadHex n)) =
    (b : List ℕ) × (es : List EventData) × (e : End) × IsStreamOf t l hex text (Some n) b es e × IsGoodEnd e × (out ≡ lines t es) × ((n < length text) ⊎ AtEnd)
IsShown t l hex Refuses AtEnd ReadsNoMore HasFailed text out (Err Read) =
    (place : Option ℕ) × (b : List ℕ) × (es : List EventData) × (e : End) × IsStreamOf t l hex text place b es e × IsGoodEnd e
    × (out ≡ lines t es) × ReadsNoMore
IsShown t l hex Refuses AtEnd ReadsNoMore HasFailed text out (Err Write) =
    (place : Option ℕ) × (b : List ℕ) × (es : List EventData) × (e : End) × (line rest : List ℕ) × StandsFor hex text b place
    × Stream t l b es e × IsClosing AtEnd place b e line × (lines t es ++ line ≡ out ++ rest) × HasFailed
IsShown t l hex Refuses AtEnd ReadsNoMore HasFailed text out (Err (Refused fault)) = ⊥
IsShown t l hex Refuses AtEnd ReadsNoMore HasFailed text out (Err (Text line kind)) = ⊥
IsShown t l hex Refuses AtEnd ReadsNoMore HasFailed text out (Err (Encode message fault)) = ⊥
IsShown t l hex Refuses AtEnd ReadsNoMore HasFailed text out (Err (Make cause)) = (text ≡ []) × (out ≡ []) × Refuses cause
IsShown t l hex Refuses AtEnd ReadsNoMore HasFailed text out (Err Memory) = (text ≡ []) × (out ≡ [])
