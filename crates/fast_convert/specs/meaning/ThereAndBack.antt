-- Lines that are turned into a stream and shown again, and lines that are shown and read again.
use Rattle.std.specs.Prelude.{◌≡◌, ◌⊎◌, ℕ, ◌≤◌, Bool, List, [], ◌++◌, length, Option, None, Result, Ok, Err, IsTrue}
use Rattle.std.specs.Io.KnownBytes.{IsAtEnd}
use Rattle.std.specs.declared.alloc.Global.{Global}
use Rattle.std.specs.declared.vec.Vec.{Vec}
use Rattle.fast_value.specs.declared.messages.Message.{Message}
use Rattle.fast_value.specs.declared.settings.Limits.{Limits}
use Rattle.fast_value.specs.meaning.Limits.{in_mode}
use Rattle.fast_template.specs.declared.sets.Templates.{Templates}
use Rattle.fast_template.specs.meaning.Flat.{tree_of}
use Rattle.fast_stream.specs.declared.faults.MakeError.TheVariants.{BadLimits, InitialTooLong}
use Rattle.fast_stream.specs.meaning.Events.{EventData}
use Rattle.fast_stream.specs.meaning.Streams.{between}
use Rattle.fast_decoder.specs.meaning.Decoding.{AreBadLimits}
use Rattle.fast_messages.specs.declared.faults.TextFault.{TextFault}
use Rattle.fast_messages.specs.meaning.Back.{IsReadAgain}
use Rattle.fast_messages.specs.meaning.Reading.{closed}
use Rattle.fast_text.specs.meaning.Streams.{Appends}
use Rattle.fast_command.specs.declared.faults.ShowEnd.{ShowEnd}
use Rattle.fast_command.specs.declared.faults.ShowEnd.TheVariants.{Good, Faulted, Truncated}
use Rattle.fast_command.specs.declared.faults.RunFault.{RunFault}
use Rattle.fast_command.specs.declared.faults.RunFault.TheVariants.{Read, Write, Make, Memory}
use Rattle.fast_command.specs.meaning.Showing.{IsShown, IsRefusal, IsStreamOf}
use Rattle.fast_convert.specs.meaning.Converting.{IsWhole, IsConverted}

-- What a run of show has written of all that was written of a text: the lines of the text. The bytes are at no fault, and end inside no
-- message; digits are all good, and the limits too. Where the writer fails a front of the lines was written, and nothing where there is no
-- memory.
abbrev pub IsShownAgain : List ℕ → List ℕ → Result ShowEnd RunFault → Type 0
IsShownAgain text out (Ok Good) = out ≡ closed text
IsShownAgain text out (Ok (Faulted f)) = ⊥
IsShownAgain text out (Ok (Truncated n)) = ⊥
IsShownAgain text out (Err Read) = out ≡ closed text
IsShownAgain text out (Err Write) = (rest : List ℕ) × (closed text ≡ out ++ rest)
IsShownAgain text out (Err Memory) = out ≡ []
IsShownAgain text out (Err fault) = ⊥

-- what a run of show ensures of its answer by `shown`, where it has read this text
abbrev pub IsRunOfShow : Templates → Limits → (hex : Bool) → (left : Option (List ℕ)) → (max_reads : ℕ)
    → (reader_failed writer_failed : Bool) → List ℕ → List ℕ → Result ShowEnd RunFault → Type 0
IsRunOfShow set l hex left max_reads reader_failed writer_failed text out r =
    IsShown (tree_of set) l hex (IsRefusal set l) (IsAtEnd left) (IsTrue reader_failed ⊎ (max_reads ≤ length text)) (IsTrue writer_failed) text out r

-- What a run of convert ensures of its answer by `converted`, `bad_limits` and `long_initial`.
pub record IsAnswerOfConvert (set : Templates) (l : Limits) (hex : Bool) (left_old left_new held holds : Option (List ℕ))
    (reader_failed writer_failed : Bool) (r : Result (Unit {0}) RunFault) : Type 0 where
  pub converted : IsConverted set l hex left_old left_new held holds (IsTrue reader_failed) (IsTrue writer_failed) r
  pub bad_limits : AreBadLimits l → r ≡ Err (Make BadLimits)
  pub long_initial : IsRefusal set l InitialTooLong → r ≡ Err (Make InitialTooLong)

-- The whole text was turned into these bytes, or digits, which show, in either mode, shows as the lines of the text.
pub record IsBack (set : Templates) (l : Limits) (hex : Bool) (left_old left_new held holds : Option (List ℕ)) : Type 0 where
  pub text : List ℕ
  pub stream : List ℕ
  pub whole : IsWhole left_old left_new text
  pub written : Appends held holds stream
  pub shown : (mode : Bool) (left : Option (List ℕ)) (max_reads : ℕ) (reader_failed writer_failed : Bool) (out : List ℕ) (r : Result ShowEnd RunFault)
      → IsRunOfShow set (in_mode mode l) hex left max_reads reader_failed writer_failed stream out r → IsShownAgain text out r

-- What a run of show ensures of its answer by `shown`, `bad_limits` and `long_initial`.
pub record IsAnswerOfShow (set : Templates) (l : Limits) (hex : Bool) (left : Option (List ℕ)) (max_reads : ℕ)
    (reader_failed writer_failed : Bool) (text out : List ℕ) (r : Result ShowEnd RunFault) : Type 0 where
  pub shown : IsRunOfShow set l hex left max_reads reader_failed writer_failed text out r
  pub bad_limits : AreBadLimits l → r ≡ Err (Make BadLimits)
  pub long_initial : IsRefusal set l InitialTooLong → r ≡ Err (Make InitialTooLong)

-- The lines that were shown of a text are read as the messages that its bytes spell, and these are encoded again.
pub record IsShownAndRead (set : Templates) (l : Limits) (hex : Bool) (text : List ℕ) (r : Result (Vec Message Global) TextFault) : Type 0 where
  pub bytes : List ℕ
  pub events : List EventData
  pub of_text : IsStreamOf (tree_of set) l hex text None bytes events between
  pub read : IsReadAgain (tree_of set) l bytes events r
