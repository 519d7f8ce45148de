-- How far a run that shows a stream has come.
use Rattle.std.specs.Prelude.{◌≡◌, ◌⊎◌, ℕ, ◌+◌, ◌<◌, ◌^◌, All, Bool, IsTrue, List, ◌++◌, length, Option, Some, None, is_some, Result, Ok, Err}
use Rattle.fast_value.specs.declared.settings.Limits.{Limits}
use Rattle.fast_tree.specs.meaning.Tree.{Tree}
use Rattle.fast_template.specs.meaning.Flat.{tree_of}
use Rattle.fast_stream.specs.declared.faults.Fault.{Fault}
use Rattle.fast_stream.specs.declared.faults.FaultCode.{FaultCode}
use Rattle.fast_stream.specs.declared.faults.FaultCode.TheVariants as Why
use Rattle.fast_stream.specs.meaning.Events.{EventData}
use Rattle.fast_stream.specs.meaning.Streams.{End, Stream}
use Rattle.fast_decoder.specs.meaning.Decoding.{DecoderData, HasRead, tree}
use Rattle.fast_lines.specs.meaning.Lines.{lines}
use Rattle.fast_lines.specs.meaning.Values.{HoldsBytes}
use Rattle.fast_text.specs.meaning.Fronts.{set_of}
use Rattle.fast_text.specs.meaning.Streams.{Appends, AppendsFront}
use Rattle.fast_lines.specs.meaning.Hex.{Unhexed}
use Rattle.fast_command.specs.declared.unhexer.Unhexer.{Unhexer}
use Rattle.fast_command.specs.declared.show.Show.{Show}
use Rattle.fast_command.specs.declared.faults.ShowEnd.{ShowEnd}
use Rattle.fast_command.specs.declared.faults.ShowEnd.TheVariants.{Faulted}
use Rattle.fast_command.specs.declared.faults.RunFault.{RunFault}
use Rattle.fast_command.specs.declared.faults.RunFault.TheVariants.{Write}
use Rattle.fast_command.specs.meaning.Closing.{fault_line}
use Rattle.fast_command.specs.meaning.Showing.{IsShown}
use Rattle.fast_command.specs.meaning.Unhexing.{Unhexes}

-- The text was taken, and stands for the bytes.
abbrev pub IsTaken : Option Unhexer → List ℕ → List ℕ → Type 0
IsTaken None text b = b ≡ text
IsTaken (Some u) text b = Unhexes u text b

-- there is room to count the characters of a piece
abbrev pub HasRoom : Option Unhexer → ℕ → Type 0
HasRoom None n = Unit {0}
HasRoom (Some u) n = u.len + n < 2 ^ 64

-- The run has read the text, which stands for the bytes, and these gave the events. There was no fault.
pub record Progress (t : Tree) (l : Limits) (hex : Bool) (s : Show) (text b : List ℕ) (es : List EventData) : Type 0 where
  pub names : tree_of (set_of s.fronts).now ≡ t
  pub set : tree s.decoder ≡ t
  pub limits : s.decoder.limits ≡ l
  pub so : HasRead s.decoder b es
  pub holds : All HoldsBytes es
  pub good : s.decoder.fault ≡ None
  pub hex_is : is_some s.unhexer ≡ hex
  pub taken : IsTaken s.unhexer text b

-- What a target held, and whether it had failed, before and after.
pub record Change : Type 0 where
  pub held : Option (List ℕ)
  pub holds : Option (List ℕ)
  pub had_failed : Bool
  pub has_failed : Bool

-- what becomes of a target
abbrev pub changed : {T : Type 0} → (T → Option (List ℕ)) → (T → Bool) → T → T → Change
changed written failed old new = record { held = written old; holds = written new; had_failed = failed old; has_failed = failed new }

-- The bytes gave these events, whose lines were written, and lead to the decoder.
pub record Fed (t : Tree) (b : List ℕ) (es : List EventData) (bytes : List ℕ) (d : DecoderData) (w : Change) : Type 0 where
  pub more : List EventData
  pub so : HasRead d (b ++ bytes) (es ++ more)
  pub holds : All HoldsBytes more
  pub written : Appends w.held w.holds (lines t more)
  pub as_before : w.has_failed ≡ w.had_failed

-- The bytes give a stream. Of the lines of its events a front was written, and the target has failed.
pub record CutShort (t : Tree) (l : Limits) (b : List ℕ) (es : List EventData) (bytes : List ℕ) (w : Change) : Type 0 where
  pub all : List EventData
  pub end : End
  pub out : List ℕ
  pub rest : List ℕ
  pub stream : Stream t l (b ++ bytes) all end
  pub lines_are : lines t all ≡ lines t es ++ out ++ rest
  pub written : Appends w.held w.holds out
  pub failed : IsTrue w.has_failed

-- what a fault of a feed means
abbrev pub IsFedAt : Tree → Limits → List ℕ → List EventData → List ℕ → DecoderData → Change → FaultCode → Type 0
IsFedAt t l b es bytes d w (Why.Stream c) = Fed t b es bytes d w
IsFedAt t l b es bytes d w Why.L4 = ⊥
IsFedAt t l b es bytes d w Why.SinkStopped = CutShort t l b es bytes w

-- what a feed of bytes does, behind those that led to the decoder
abbrev pub IsFed : Tree → Limits → List ℕ → List EventData → List ℕ → DecoderData → Change → Result (Unit {0}) Fault → Type 0
IsFed t l b es bytes d w (Ok u) = Fed t b es bytes d w
IsFed t l b es bytes d w (Err f) = IsFedAt t l b es bytes d w f.code

-- The run has read the text, and has written the lines of what it gave behind these events.
pub record GoesOn (t : Tree) (l : Limits) (hex : Bool) (s : Show) (text : List ℕ) (es : List EventData) (w : Change) : Type 0 where
  pub bytes : List ℕ
  pub more : List EventData
  pub progress : Progress t l hex s text bytes (es ++ more)
  pub written : Appends w.held w.holds (lines t more)
  pub as_before : w.has_failed ≡ w.had_failed

-- The run has ended behind the text, at the end of the input or not. It has written what was to be written behind these
-- events. A target that has failed is told.
pub record Ended (t : Tree) (l : Limits) (hex : Bool) (AtEnd : Type 0) (text : List ℕ) (es : List EventData) (w : Change)
    (r : Result ShowEnd RunFault) : Type 0 where
  pub out : List ℕ
  pub written : Appends w.held w.holds out
  pub shown : IsShown t l hex (λ _. ⊥) AtEnd ⊥ (IsTrue w.has_failed) text (lines t es ++ out) r
  pub told : (r ≡ Err Write) ⊎ (w.has_failed ≡ w.had_failed)

-- a bad place that the text has, before its end
abbrev pub IsBadPlace : Option Unhexer → ℕ → Type 0
IsBadPlace u place = (text b : List ℕ) → IsTaken u text b → IsTrue (is_some u) × Unhexed text b (Some place) × (place < length text)

-- what the fault of a feed leads to
abbrev pub IsClosedAt : Fault → FaultCode → Change → Result ShowEnd RunFault → Type 0
IsClosedAt f Why.SinkStopped w r = (r ≡ Err Write) × (w.holds ≡ w.held) × (w.has_failed ≡ w.had_failed)
IsClosedAt f code w r =
    (r ≡ Ok (Faulted f)) × Appends w.held w.holds (fault_line f.code f.place) × (w.has_failed ≡ w.had_failed)
    ⊎ (r ≡ Err Write) × AppendsFront w.held w.holds (fault_line f.code f.place) × IsTrue w.has_failed
