-- What becomes of a text of lines that is turned into a stream.
use Rattle.std.specs.Prelude.{◌≡◌, ◌⊎◌, ℕ, ◌≤◌, Bool, true, false, List, [], ◌∷◌, ◌++◌, length, flat_map, Option, Result, Ok, Err}
use Rattle.std.specs.Io.KnownBytes.{IsAtEnd}
use Rattle.fast_value.specs.declared.settings.Limits.{Limits}
use Rattle.fast_value.specs.meaning.Limits.{in_mode}
use Rattle.fast_value.specs.meaning.Messages.{MessageData}
use Rattle.fast_tree.specs.meaning.Tree.{Tree}
use Rattle.fast_template.specs.declared.sets.Templates.{Templates}
use Rattle.fast_template.specs.meaning.Flat.{tree_of}
use Rattle.fast_dict.specs.meaning.Dictionary.{Dictionary, fresh}
use Rattle.fast_stream.specs.meaning.Messages.{SpellsMessage}
use Rattle.fast_stream.specs.meaning.Streams.{AreBytes}
use Rattle.fast_lines.specs.meaning.Lines.{hex_byte}
use Rattle.fast_spelling.specs.meaning.Encoding.{EncodesMessage}
use Rattle.fast_spelling.specs.meaning.Refusals.{IsRefused}
use Rattle.fast_spelling.specs.meaning.Suiting.{SuitsTemplate, FitsLimits}
use Rattle.fast_messages.specs.declared.faults.TextFault.TheVariants.{BadLine}
use Rattle.fast_messages.specs.meaning.Reading.{Says, IsLineOf}
use Rattle.fast_messages.specs.meaning.Unsaid.{SaysNothing}
use Rattle.fast_text.specs.meaning.Streams.{Reads, Appends, AppendsFront}
use Rattle.fast_command.specs.declared.faults.RunFault.{RunFault}
use Rattle.fast_command.specs.declared.faults.RunFault.TheVariants.{Read, Write, Make, Text, Encode, Memory}
use Rattle.fast_command.specs.meaning.Showing.{IsRefusal}
use Rattle.fast_command.specs.meaning.Texts.{IsUnread}

-- the most bytes of a text of lines
abbrev pub line_limit : ℕ
line_limit = 67108864

-- what is written of a message's bytes
abbrev pub form : (hex : Bool) → List ℕ → List ℕ
form false w = w
form true w = flat_map hex_byte w ++ 0x0A ∷ []

-- The message suits its template and keeps to the limits, and the bytes, each below 256, spell it in strict mode, by the encoder's rule.
-- The next dictionary is the one behind it.
pub record IsCoded (t : Tree) (l : Limits) (d : Dictionary) (m : MessageData) (w : List ℕ) (next : Dictionary) : Type 0 where
  pub suits : SuitsTemplate t m
  pub fits : FitsLimits l m.slots
  pub ruled : EncodesMessage t l d m w next
  pub spelled : SpellsMessage t (in_mode true l) d m w next
  pub bytes : AreBytes w

-- So are messages, each from the dictionary that the one before has left.
abbrev pub AreCoded : Tree → Limits → Dictionary → List MessageData → List (List ℕ) → Dictionary → Type 0
AreCoded t l d [] [] next = next ≡ d
AreCoded t l d [] (w ∷ ws) next = ⊥
AreCoded t l d (m ∷ ms) [] next = ⊥
AreCoded t l d (m ∷ ms) (w ∷ ws) next = (mid : Dictionary) × IsCoded t l d m w mid × AreCoded t l mid ms ws next

-- These messages are encoded, from the first on, and others stand behind them.
pub record AreCodedTo (t : Tree) (l : Limits) (d : Dictionary) (all front later : List MessageData) (ws : List (List ℕ)) (next : Dictionary) : Type 0 where
  pub all_are : all ≡ front ++ later
  pub coded : AreCoded t l d front ws next

-- What is written of messages: the bytes of all; or of those before one that the encoder refuses; or, where the target has failed, a front
-- of them; or of those before one for which there was no memory.
abbrev pub AreWritten : Tree → Limits → (hex : Bool) → Dictionary → List MessageData → (held holds : Option (List ℕ))
    → (HasFailed : Type 0) → Result (Unit {0}) RunFault → Type 0
AreWritten t l hex d ms held holds HasFailed (Ok u) =
    (ws : List (List ℕ)) × (next : Dictionary) × AreCoded t l d ms ws next × Appends held holds (flat_map (form hex) ws)
AreWritten t l hex d ms held holds HasFailed (Err (Encode k fault)) =
    (front later : List MessageData) × (m : MessageData) × (ws : List (List ℕ)) × (next : Dictionary) × AreCodedTo t l d ms front (m ∷ later) ws next
    × (k ≡ length front) × IsRefused t l next m fault × Appends held holds (flat_map (form hex) ws)
AreWritten t l hex d ms held holds HasFailed (Err Write) =
    (front later : List MessageData) × (ws : List (List ℕ)) × (next : Dictionary) × AreCodedTo t l d ms front later ws next
    × AppendsFront held holds (flat_map (form hex) ws) × HasFailed
AreWritten t l hex d ms held holds HasFailed (Err Memory) =
    (front later : List MessageData) × (ws : List (List ℕ)) × (next : Dictionary) × AreCodedTo t l d ms front later ws next
    × Appends held holds (flat_map (form hex) ws)
AreWritten t l hex d ms held holds HasFailed (Err fault) = ⊥

-- The whole text was read.
pub record IsWhole (left_old left_new : Option (List ℕ)) (text : List ℕ) : Type 0 where
  pub read : Reads left_old left_new text
  pub end : IsAtEnd left_new
  pub short : length text ≤ line_limit

-- The whole text was read, it is the lines of messages, and this is written of them.
pub record IsTurned (t : Tree) (l : Limits) (hex : Bool) (left_old left_new held holds : Option (List ℕ)) (HasFailed : Type 0)
    (r : Result (Unit {0}) RunFault) : Type 0 where
  pub text : List ℕ
  pub messages : List MessageData
  pub whole : IsWhole left_old left_new text
  pub says : Says t text messages
  pub written : AreWritten t l hex (fresh t.entries) messages held holds HasFailed r

-- What a run has read and written. Where there is no encoder nothing was read; where the text is not read, nothing was written; nor where
-- it is refused, and then it is the lines of no messages whose values can be read back.
abbrev pub IsConverted : Templates → Limits → (hex : Bool) → (left_old left_new held holds : Option (List ℕ))
    → (ReaderFailed WriterFailed : Type 0) → Result (Unit {0}) RunFault → Type 0
IsConverted set l hex left_old left_new held holds ReaderFailed WriterFailed (Err (Make cause)) =
    Reads left_old left_new [] × Appends held holds [] × IsRefusal set l cause
IsConverted set l hex left_old left_new held holds ReaderFailed WriterFailed (Err Read) =
    IsUnread line_limit left_old left_new ReaderFailed Read × Appends held holds []
IsConverted set l hex left_old left_new held holds ReaderFailed WriterFailed (Err (Text line kind)) =
    (text : List ℕ) × IsWhole left_old left_new text × IsLineOf text (BadLine line kind) × SaysNothing (tree_of set) text × Appends held holds []
IsConverted set l hex left_old left_new held holds ReaderFailed WriterFailed (Err Memory) =
    Appends held holds [] ⊎ IsTurned (tree_of set) l hex left_old left_new held holds WriterFailed (Err Memory)
IsConverted set l hex left_old left_new held holds ReaderFailed WriterFailed (Ok u) =
    IsTurned (tree_of set) l hex left_old left_new held holds WriterFailed (Ok u)
IsConverted set l hex left_old left_new held holds ReaderFailed WriterFailed (Err Write) =
    IsTurned (tree_of set) l hex left_old left_new held holds WriterFailed (Err Write)
IsConverted set l hex left_old left_new held holds ReaderFailed WriterFailed (Err (Encode k fault)) =
    IsTurned (tree_of set) l hex left_old left_new held holds WriterFailed (Err (Encode k fault))
IsConverted set l hex left_old left_new held holds ReaderFailed WriterFailed (Err fault) = ⊥
