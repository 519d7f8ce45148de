-- Streams that are read, and of which the last message is refused.
use Rattle.std.specs.Prelude.{ℕ, false, List, [], ◌∷◌, ◌++◌, Option, Some, None, Bool}
use Rattle.fast_value.specs.declared.kinds.Kind.TheVariants.{Ascii}
use Rattle.fast_value.specs.declared.settings.Limits.{Limits}
use Rattle.fast_value.specs.meaning.Kinds.{ScalarData, AsciiText}
use Rattle.fast_tree.specs.declared.operators.Operator.{Operator}
use Rattle.fast_tree.specs.meaning.Tree.{FieldData, field, end, step, Tree}
use Rattle.fast_dict.specs.meaning.Dictionary.{PreviousData, assigned}
use Rattle.fast_stream.specs.meaning.Events.{EventData, MessageStart, FieldValue, MessageEnd}
use Rattle.fast_stream.specs.meaning.Streams.{Stream, between}
use Rattle.fast_spelling.specs.meaning.Refusals.{RefusesField}
use Rattle.fast_spelling.specs.declared.faults.EncodeFault.TheVariants.{R9}

-- an ASCII field under an operator
abbrev pub ascii_field : Operator → Bool → Option ScalarData → FieldData
ascii_field o optional initial = record { kind = Ascii; optional = optional; operator = o; initial = initial; entry = Some 1 }

-- the set of a template with the identifier 1 and one field
abbrev pub set_of : FieldData → Tree
set_of f = record { templates = record { name = []; id = Some 1; reset = false; body = step (field (record { node = 0; name = [] }) f) end } ∷ []; entries = 2 }

-- limits that all of these keep to
abbrev pub wide : Limits
wide = record { strict = false; max_text = 64; max_elements = 1; max_total = 1 }

-- the events of a message with this text
abbrev pub text_events : List ℕ → List EventData
text_events t = MessageStart 0 ∷ FieldValue 0 (AsciiText t) ∷ MessageEnd ∷ []

-- Two messages are read; behind the first, the second one's text is refused.
abbrev pub IsReadButRefused : Operator → List ℕ → List ℕ → List ℕ → Type 0
IsReadButRefused o w first second = Stream (set_of (ascii_field o false None)) wide w (text_events first ++ text_events second) between
    × ((p : PreviousData) → RefusesField (ascii_field o false None) (p ∷ assigned Ascii (AsciiText first) ∷ []) (Some (AsciiText second)) R9)
