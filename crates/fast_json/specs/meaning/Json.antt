-- Each message as an object of JSON, on a line of its own.
use Rattle.std.specs.Prelude.{ℕ, Bool, true, false, ◌||◌, nat_eq, nat_lt, if◌then◌else◌, List, [], ◌∷◌, ◌++◌, flat_map, get_or, length}
use Rattle.std.specs.Prelude.{drop, slice_get, codes, decimal, Option, Some, None}
use Rattle.std.specs.Fmt.{signed_decimal}
use Rattle.fast_value.specs.meaning.Kinds.{ScalarData, U, I, Dec, AsciiText, UnicodeText, ByteVector}
use Rattle.fast_tree.specs.meaning.Tree.{TemplateData, Tree}
use Rattle.fast_stream.specs.declared.faults.FaultCode.{FaultCode}
use Rattle.fast_stream.specs.meaning.FaultCodes.{code_text}
use Rattle.fast_stream.specs.meaning.Events.{EventData, MessageStart, FieldValue, GroupStart, GroupEnd, SequenceStart, ElementStart}
use Rattle.fast_stream.specs.meaning.Events.{ElementEnd, SequenceEnd, MessageEnd}
use Rattle.fast_lines.specs.meaning.Lines.{hex_byte, node_name, template_name}

-- ---- what is open

-- The brackets that end what is open, the innermost first, and whether the next item is the first of its object or array.
pub record Nesting : Type 0 where
  pub is_first : Bool
  pub brackets : List ℕ

-- nothing is open
abbrev pub between_messages : Nesting
between_messages = record { is_first = true; brackets = [] }

-- One more bracket, of at most 160. A message has at most 129 of them open, since at most 64 groups and sequences nest.
abbrev pub with_bracket : ℕ → List ℕ → List ℕ
with_bracket bracket brackets = if nat_lt (length brackets) 160 then bracket ∷ brackets else brackets

-- an object or an array begins
abbrev pub begun : ℕ → Nesting → Nesting
begun bracket s = record { is_first = true; brackets = with_bracket bracket s.brackets }

-- the innermost one ends
abbrev pub ended : Nesting → Nesting
ended s = record { is_first = false; brackets = drop 1 s.brackets }

-- what is open after an event
abbrev pub after_event : Nesting → EventData → Nesting
after_event s (MessageStart n) = begun 0x7D s
after_event s (FieldValue n v) = record { is_first = false; brackets = s.brackets }
after_event s (GroupStart n) = begun 0x7D s
after_event s GroupEnd = ended s
after_event s (SequenceStart n count) = begun 0x5D s
after_event s ElementStart = begun 0x7D s
after_event s ElementEnd = ended s
after_event s SequenceEnd = ended s
after_event s MessageEnd = ended s

-- ---- values

-- A quote and a backslash come after a backslash, and control characters are written as \u00 and two digits.
abbrev pub json_escaped : ℕ → List ℕ
json_escaped c =
    if nat_eq c 0x22 || nat_eq c 0x5C then 0x5C ∷ c ∷ []
    else if nat_lt c 0x20 || nat_eq c 0x7F then 0x5C ∷ 0x75 ∷ 0x30 ∷ 0x30 ∷ hex_byte c
    else c ∷ []

-- a string
abbrev pub json_string : List ℕ → List ℕ
json_string v = 0x22 ∷ flat_map json_escaped v ++ 0x22 ∷ []

-- a value: an integer is a number, any other value a string
abbrev pub json_value : ScalarData → List ℕ
json_value (U n) = decimal n
json_value (I x) = signed_decimal x
json_value (Dec e m) = 0x22 ∷ signed_decimal m ++ codes "e" ++ signed_decimal e ++ 0x22 ∷ []
json_value (AsciiText v) = json_string v
json_value (UnicodeText v) = json_string v
json_value (ByteVector v) = 0x22 ∷ flat_map hex_byte v ++ 0x22 ∷ []

-- ---- keys

-- the number after a name that is not the first of its segment
abbrev pub repeat_mark : ℕ → List ℕ
repeat_mark k = if nat_lt 1 k then codes "#" ++ decimal k else []

-- The key of a node, with its quotes and its colon. The list has for each node how many instructions of its segment have its name, up to
-- its own.
abbrev pub key_words : Tree → List ℕ → ℕ → List ℕ
key_words t repeats n = codes "\"" ++ node_name t n ++ repeat_mark (get_or repeats n 0) ++ codes "\":"

-- the comma before an item that is not the first
abbrev pub comma : Bool → List ℕ
comma is_first = if is_first then [] else codes ","

-- ---- events

-- an identifier; a template of messages has one
abbrev pub id_if : Option ℕ → List ℕ
id_if None = codes "null"
id_if (Some id) = decimal id

-- the identifier of a template, if there is one of that number
abbrev pub id_of : Option TemplateData → List ℕ
id_of None = codes "null"
id_of (Some u) = id_if u.id

-- the name and the identifier of a template, and what is between them
abbrev pub template_words : Tree → ℕ → List ℕ
template_words t n = template_name t n ++ codes "\",\"id\":" ++ id_of (slice_get t.templates n)

-- the start of a message's object
abbrev pub message_words : Tree → ℕ → List ℕ
message_words t n = codes "{\"template\":\"" ++ template_words t n ++ codes ",\"message\":{"

-- the text of an event
abbrev pub event_text : Tree → List ℕ → Bool → EventData → List ℕ
event_text t repeats is_first (MessageStart n) = message_words t n
event_text t repeats is_first (FieldValue n v) = (comma is_first ++ key_words t repeats n) ++ json_value v
event_text t repeats is_first (GroupStart n) = (comma is_first ++ key_words t repeats n) ++ codes "{"
event_text t repeats is_first GroupEnd = codes "}"
event_text t repeats is_first (SequenceStart n count) = (comma is_first ++ key_words t repeats n) ++ codes "["
event_text t repeats is_first ElementStart = comma is_first ++ codes "{"
event_text t repeats is_first ElementEnd = codes "}"
event_text t repeats is_first SequenceEnd = codes "]"
event_text t repeats is_first MessageEnd = codes "}}\n"

-- what is open after events
abbrev pub after_events : Nesting → List EventData → Nesting
after_events s [] = s
after_events s (e ∷ es) = after_events (after_event s e) es

-- the text of events, from what is open before them
abbrev pub json_from : Tree → List ℕ → Nesting → List EventData → List ℕ
json_from t repeats s [] = []
json_from t repeats s (e ∷ es) = event_text t repeats s.is_first e ++ json_from t repeats (after_event s e) es

-- the text of the events of a stream
abbrev pub json : Tree → List ℕ → List EventData → List ℕ
json t repeats es = json_from t repeats between_messages es

-- ---- the end of a stream

-- What comes before the last keys: the brackets that end what is open, and a comma; or the start of an object, if nothing is open.
abbrev pub before_last : List ℕ → List ℕ
before_last [] = codes "{"
before_last (bracket ∷ brackets) = bracket ∷ brackets ++ codes ","

-- the end of a stream at fault, with the code and the offset as last keys
abbrev pub json_fault : List ℕ → FaultCode → ℕ → List ℕ
json_fault brackets code place = before_last brackets ++ codes "\"fault\":\"" ++ code_text code ++ codes "\",\"offset\":" ++ decimal place ++ codes "}\n"

-- the end of a stream that ends inside a message, after so many bytes
abbrev pub json_truncated : List ℕ → ℕ → List ℕ
json_truncated brackets n = before_last brackets ++ codes "\"truncated\":" ++ decimal n ++ codes "}\n"

-- the end of a message whose rest is not known; nothing if none is open
abbrev pub json_incomplete : List ℕ → List ℕ
json_incomplete [] = []
json_incomplete (bracket ∷ brackets) = bracket ∷ brackets ++ codes ",\"incomplete\":true}\n"
