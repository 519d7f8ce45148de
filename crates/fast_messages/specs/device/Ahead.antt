-- What is ahead in a text.
use Rattle.std.specs.Prelude.{All, ◌≡◌, ◌≢◌, ℕ, ◌+◌, ◌≤◌, List, [], ◌∷◌, ◌++◌, Option, Some, None, option_map}
use Rattle.fast_value.specs.declared.values.Value.{Value}
use Rattle.fast_value.specs.meaning.Kinds.{ScalarData}
use Rattle.fast_value.specs.meaning.Values.{value_data}
use Rattle.fast_tree.specs.meaning.Tree.{Tree}
use Rattle.fast_stream.specs.meaning.Events.{EventData}
use Rattle.fast_lines.specs.declared.forms.Line.{Line}
use Rattle.fast_lines.specs.declared.forms.Line.TheVariants as Lent
use Rattle.fast_lines.specs.meaning.Forms.{LineData, field, line_data, text_of_line}
use Rattle.fast_lines.specs.meaning.Lines.{written, lines}
use Rattle.fast_lines.specs.meaning.Values.{IsHeld}
use Rattle.fast_messages.specs.declared.faults.TextFault.{TextFault}
use Rattle.fast_messages.specs.declared.faults.TextFault.TheVariants.{BadLine, Memory}
use Rattle.fast_messages.specs.meaning.Lined.{IsLined, IsShown}
use Rattle.fast_messages.specs.meaning.Reading.{closed, feeds}

-- the value of a line, which is a field's, and which the types of values hold
abbrev pub IsValueOf : Line → Option Value → Type 0
IsValueOf (Lent.Field n name text) (Some v) = text.now ≡ written (value_data v)
IsValueOf (Lent.Field n name text) None = (v : ScalarData) → IsHeld v → text.now ≢ written v
IsValueOf line value = Unit {0}

-- a value that is there is that of the field's line
abbrev pub TellsValue : Option Line → Option Value → Type 0
TellsValue line value = (n : ℕ) (name text : List ℕ) (v : Value) → option_map line_data line ≡ Some (field n name text) → value ≡ Some v
    → text ≡ written (value_data v)

-- where none is there, the field's line has none that the types of values hold
abbrev pub TellsNone : Option Line → Option Value → Type 0
TellsNone line value = (n : ℕ) (name text : List ℕ) (v : ScalarData) → option_map line_data line ≡ Some (field n name text) → value ≡ None
    → IsHeld v → text ≢ written v

-- the text from a line on, and none behind the last
abbrev pub text_from : Option Line → List ℕ → List ℕ
text_from None rest = []
text_from (Some l) rest = text_of_line (line_data l) ++ 0x0A ∷ closed rest

-- the fault is that of the line of this number, if it is one of a line
abbrev pub IsAt : ℕ → TextFault → Type 0
IsAt n (BadLine line kind) = line ≡ n
IsAt n Memory = Unit {0}

-- so of the first line of a text, which it has
abbrev pub IsAtText : ℕ → List ℕ → TextFault → Type 0
IsAtText n text (BadLine line kind) = (line ≡ n) × (1 ≤ feeds text)
IsAtText n text Memory = Unit {0}

-- the number of the line behind that of a number, where that is not the greatest
abbrev pub IsNextNumber : ℕ → ℕ → Type 0
IsNextNumber n next = (n ≤ next) × (next ≤ n + 1)

-- the fault is that of the first line of a text behind the line of a number, if it is one of a line
abbrev pub IsNextText : ℕ → List ℕ → TextFault → Type 0
IsNextText n text (BadLine line kind) = IsNextNumber n line × (1 ≤ feeds text)
IsNextText n text Memory = Unit {0}

-- the line is that of a field whose text is no value that the types of values hold
abbrev pub HasNoValue : Line → Type 0
HasNoValue (Lent.Field n name text) = (v : ScalarData) → IsHeld v → text.now ≢ written v
HasNoValue line = ⊥

-- The text is not the lines of events whose values can be read back.
abbrev pub HasNoLines : List ℕ → Type 0
HasNoLines text = (t : Tree) (es : List EventData) → All (IsLined t) es → All IsShown es → text ≢ lines t es

-- the line has no LF
abbrev pub IsOneLine : Option Line → Type 0
IsOneLine line = (d : LineData) → option_map line_data line ≡ Some d → feeds (text_of_line d) ≡ 0
