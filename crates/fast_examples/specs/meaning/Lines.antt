-- The lines of messages, as statements.
use Rattle.std.specs.Prelude.{◌≡◌, ℕ, List, [], ◌∷◌, ◌++◌, codes, flat_map}
use Rattle.fast_value.specs.meaning.Kinds.{U}
use Rattle.fast_lines.specs.meaning.Lines.{lines}
use Rattle.fast_messages.specs.meaning.Reading.{Says}
use Rattle.fast_examples.specs.meaning.Vectors.{vectors}
use Rattle.fast_examples.specs.meaning.Messages.{nested_events}
use Rattle.fast_examples.specs.meaning.Asked.{message, only}
use Rattle.fast_examples.specs.meaning.Encodings.{nested}

-- a line with its line feed
abbrev pub with_lf : List ℕ → List ℕ
with_lf text = text ++ 0x0A ∷ []

-- the text of the nested message
abbrev pub nested_text : List ℕ
nested_text =
    flat_map with_lf
    (codes "message T15"
    ∷ codes "field 15 x u 5"
    ∷ codes "group 16 g"
    ∷ codes "field 17 b b 01ff"
    ∷ codes "end group"
    ∷ codes "sequence 18 legs 2"
    ∷ codes "element"
    ∷ codes "field 19 sym a \"AB\""
    ∷ codes "field 20 px i 100"
    ∷ codes "end element"
    ∷ codes "element"
    ∷ codes "field 19 sym a \"AB\""
    ∷ codes "field 20 px i 98"
    ∷ codes "end element"
    ∷ codes "end sequence"
    ∷ codes "end message"
    ∷ [])

-- these are the lines of its events
abbrev pub NestedLines : Type 0
NestedLines = lines vectors nested_events ≡ nested_text

-- They say the message. So do lines of which the last has no line feed.
abbrev pub LinesSaid : Type 0
LinesSaid =
    Says vectors nested_text (nested ∷ [])
    × Says vectors (codes "message T1\nfield 0 x u 942755\nend message") (message 0 (only (U 942755)) ∷ [])
