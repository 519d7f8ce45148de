-- The forms of lines.
use Rattle.std.specs.Prelude.{◌≡◌, ◌≢◌, ℕ, ◌<◌, ◌^◌, if◌then◌else◌, List, [], ◌++◌, codes, decimal}
use Rattle.std.specs.Str.{bytes_eq}
use Rattle.fast_tree.specs.meaning.Tree.{Tree}
use Rattle.fast_stream.specs.meaning.Events.{EventData, MessageStart, FieldValue, GroupStart, GroupEnd, SequenceStart, ElementStart}
use Rattle.fast_stream.specs.meaning.Events.{ElementEnd, SequenceEnd, MessageEnd}
use Rattle.fast_lines.specs.declared.forms.Keyword.{Keyword}
use Rattle.fast_lines.specs.declared.forms.Keyword.TheVariants as Key
use Rattle.fast_lines.specs.declared.forms.Line.{Line}
use Rattle.fast_lines.specs.declared.forms.Line.TheVariants as Lent
use Rattle.fast_lines.specs.meaning.Lines.{node_name, template_name, written}
use Rattle.fast_lines.specs.meaning.Values.{Lacks}

-- What a line says. A value is left as its text.
pub data LineData : Type 0 where
  message : List ℕ → LineData
  field : ℕ → List ℕ → List ℕ → LineData
  group : ℕ → List ℕ → LineData
  group_end : LineData
  sequence : ℕ → List ℕ → ℕ → LineData
  element : LineData
  element_end : LineData
  sequence_end : LineData
  message_end : LineData

-- the line, without its LF
abbrev pub text_of_line : LineData → List ℕ
text_of_line (message name) = codes "message " ++ name
text_of_line (field n name value) = codes "field " ++ (decimal n ++ codes " " ++ name) ++ codes " " ++ value
text_of_line (group n name) = codes "group " ++ (decimal n ++ codes " " ++ name)
text_of_line group_end = codes "end group"
text_of_line (sequence n name count) = codes "sequence " ++ (decimal n ++ codes " " ++ name) ++ codes " " ++ decimal count
text_of_line element = codes "element"
text_of_line element_end = codes "end element"
text_of_line sequence_end = codes "end sequence"
text_of_line message_end = codes "end message"

-- the name is one word
pub record IsWord (name : List ℕ) : Type 0 where
  pub some : name ≢ []
  pub whole : Lacks 0x20 name

-- The line is of its form: its names are words, its numbers have 32 bits.
abbrev pub IsForm : LineData → Type 0
IsForm (message name) = IsWord name
IsForm (field n name value) = (n < 2 ^ 32) × IsWord name
IsForm (group n name) = (n < 2 ^ 32) × IsWord name
IsForm (sequence n name count) = (n < 2 ^ 32) × IsWord name × (count < 2 ^ 32)
IsForm line = Unit {0}

-- what a line that was read says
abbrev pub line_data : Line → LineData
line_data (Lent.Message name) = message name.now
line_data (Lent.Field n name value) = field n name.now value.now
line_data (Lent.Group n name) = group n name.now
line_data Lent.GroupEnd = group_end
line_data (Lent.Sequence n name count) = sequence n name.now count
line_data Lent.Element = element
line_data Lent.ElementEnd = element_end
line_data Lent.SequenceEnd = sequence_end
line_data Lent.MessageEnd = message_end

-- what the line of an event says
abbrev pub line_of_event : Tree → EventData → LineData
line_of_event t (MessageStart n) = message (template_name t n)
line_of_event t (FieldValue n v) = field n (node_name t n) (written v)
line_of_event t (GroupStart n) = group n (node_name t n)
line_of_event t GroupEnd = group_end
line_of_event t (SequenceStart n count) = sequence n (node_name t n) count
line_of_event t ElementStart = element
line_of_event t ElementEnd = element_end
line_of_event t SequenceEnd = sequence_end
line_of_event t MessageEnd = message_end

-- the keyword that a word is
abbrev pub keyword_of : List ℕ → Keyword
keyword_of word =
    if bytes_eq word (codes "message") then Key.Message
    else if bytes_eq word (codes "field") then Key.Field
    else if bytes_eq word (codes "group") then Key.Group
    else if bytes_eq word (codes "sequence") then Key.Sequence
    else if bytes_eq word (codes "end") then Key.End
    else Key.Other

-- the word of a keyword
abbrev pub IsSpelled : Keyword → List ℕ → Type 0
IsSpelled Key.Message word = word ≡ codes "message"
IsSpelled Key.Field word = word ≡ codes "field"
IsSpelled Key.Group word = word ≡ codes "group"
IsSpelled Key.Sequence word = word ≡ codes "sequence"
IsSpelled Key.End word = word ≡ codes "end"
IsSpelled Key.Other word = Unit {0}

-- No line of this form has the text behind its keyword.
abbrev pub IsNoForm : Keyword → List ℕ → Type 0
IsNoForm Key.Message text = (name : List ℕ) → IsWord name → text ≢ name
IsNoForm Key.Field text = (n : ℕ) (name value : List ℕ) → n < 2 ^ 32 → IsWord name → text ≢ (decimal n ++ codes " " ++ name) ++ codes " " ++ value
IsNoForm Key.Group text = (n : ℕ) (name : List ℕ) → n < 2 ^ 32 → IsWord name → text ≢ decimal n ++ codes " " ++ name
IsNoForm Key.Sequence text = (n : ℕ) (name : List ℕ) (count : ℕ) → n < 2 ^ 32 → IsWord name → count < 2 ^ 32
    → text ≢ (decimal n ++ codes " " ++ name) ++ codes " " ++ decimal count
IsNoForm Key.End text = (text ≢ codes "group") × (text ≢ codes "element") × (text ≢ codes "sequence") × (text ≢ codes "message")
IsNoForm Key.Other text = Unit {0}

-- The text with these words before it is that line.
abbrev pub Gives : List ℕ → List ℕ → Line → Type 0
Gives words text line = (words ++ text ≡ text_of_line (line_data line)) × IsForm (line_data line)
