-- One line for each event.
use Rattle.std.specs.Prelude.{ℕ, ◌+◌, ◌/◌, ◌%◌, ◌||◌, nat_eq, nat_lt, if◌then◌else◌, List, [], ◌∷◌, ◌++◌, flat_map, slice_get, codes}
use Rattle.std.specs.Prelude.{decimal, Option, Some, None}
use Rattle.std.specs.Fmt.{signed_decimal}
use Rattle.fast_value.specs.meaning.Kinds.{ScalarData, U, I, Dec, AsciiText, UnicodeText, ByteVector}
use Rattle.fast_tree.specs.meaning.Tree.{Label, TemplateData, Tree}
use Rattle.fast_notation.specs.meaning.Labels.{template_labels}
use Rattle.fast_stream.specs.meaning.Events.{EventData, MessageStart, FieldValue, GroupStart, GroupEnd, SequenceStart, ElementStart}
use Rattle.fast_stream.specs.meaning.Events.{ElementEnd, SequenceEnd, MessageEnd}

-- The name of a node, and of a template; empty for a number that the set doesn't have.
abbrev pub name_among : ℕ → List Label → List ℕ
name_among n [] = []
name_among n (l ∷ ls) = if nat_eq l.node n then l.name else name_among n ls

-- the name of a node of the set
abbrev pub node_name : Tree → ℕ → List ℕ
node_name t n = name_among n (template_labels t.templates)

-- a name, or none
abbrev pub name_if : Option TemplateData → List ℕ
name_if None = []
name_if (Some u) = u.name

-- the name of a template of the set
abbrev pub template_name : Tree → ℕ → List ℕ
template_name t n = name_if (slice_get t.templates n)

-- a lower case hexadecimal digit, and the two of a byte
abbrev pub hex_digit : ℕ → ℕ
hex_digit n = if nat_lt n 10 then 0x30 + n else 0x57 + n

-- a byte as two digits
abbrev pub hex_byte : ℕ → List ℕ
hex_byte c = hex_digit (c / 16) ∷ hex_digit (c % 16) ∷ []

-- A quote and a backslash stand behind a backslash, and control characters are written in hexadecimal.
abbrev pub escaped : ℕ → List ℕ
escaped c =
    if nat_eq c 0x22 || nat_eq c 0x5C then 0x5C ∷ c ∷ []
    else if nat_lt c 0x20 || nat_eq c 0x7F then 0x5C ∷ 0x78 ∷ hex_byte c
    else c ∷ []

-- a text between quotes, with escapes
abbrev pub quoted : List ℕ → List ℕ
quoted v = 0x22 ∷ flat_map escaped v ++ 0x22 ∷ []

-- the letter of a value's kind, a space, and the value
abbrev pub written : ScalarData → List ℕ
written (U n) = codes "u " ++ decimal n
written (I x) = codes "i " ++ signed_decimal x
written (Dec e m) = codes "d " ++ signed_decimal m ++ codes "e" ++ signed_decimal e
written (AsciiText v) = codes "a " ++ quoted v
written (UnicodeText v) = codes "s " ++ quoted v
written (ByteVector v) = codes "b " ++ flat_map hex_byte v

-- a node's number and its name
abbrev pub node : Tree → ℕ → List ℕ
node t n = decimal n ++ codes " " ++ node_name t n

-- the line of an event
abbrev pub line_of : Tree → EventData → List ℕ
line_of t (MessageStart n) = codes "message " ++ template_name t n
line_of t (FieldValue n v) = codes "field " ++ node t n ++ codes " " ++ written v
line_of t (GroupStart n) = codes "group " ++ node t n
line_of t GroupEnd = codes "end group"
line_of t (SequenceStart n count) = codes "sequence " ++ node t n ++ codes " " ++ decimal count
line_of t ElementStart = codes "element"
line_of t ElementEnd = codes "end element"
line_of t SequenceEnd = codes "end sequence"
line_of t MessageEnd = codes "end message"

-- the lines of the events, in order, each with its LF
abbrev pub lines : Tree → List EventData → List ℕ
lines t es = flat_map (λ e. line_of t e ++ 0x0A ∷ []) es
