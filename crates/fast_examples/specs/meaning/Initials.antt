-- Initial values, as statements: their texts, the set that is read of them, and its messages.
use Rattle.std.specs.Prelude.{◌≡◌, ℕ, Bool, true, false, List, [], ◌∷◌, ◌++◌, codes, pos, negsuc, Option, Some, None}
use Rattle.toml.specs.Data.{Members}
use Rattle.toml.specs.Parse.{parse_document}
use Rattle.fast_value.specs.declared.kinds.Kind.{Kind}
use Rattle.fast_value.specs.declared.kinds.Kind.TheVariants.{UInt32, Int32, Decimal, Ascii, Bytes}
use Rattle.fast_value.specs.meaning.Kinds.{ScalarData, U, I, Dec, AsciiText, ByteVector}
use Rattle.fast_value.specs.meaning.Initial.{IsInitial}
use Rattle.fast_value.specs.meaning.Messages.{one, Slots, absent, present}
use Rattle.fast_tree.specs.declared.operators.Operator.{Operator}
use Rattle.fast_tree.specs.declared.operators.Operator.TheVariants.{Constant, Default}
use Rattle.fast_tree.specs.meaning.Tree.{FieldData, field, end, step, Tree}
use Rattle.fast_notation.specs.meaning.Checked.{IsTree}
use Rattle.fast_dict.specs.meaning.Dictionary.{fresh}
use Rattle.fast_stream.specs.meaning.Events.{MessageStart, FieldValue, MessageEnd}
use Rattle.fast_stream.specs.meaning.Streams.{Stream, between}
use Rattle.fast_spelling.specs.meaning.Encoding.{EncodesMessage}
use Rattle.fast_examples.specs.meaning.Vectors.{lenient, at, template}
use Rattle.fast_examples.specs.meaning.Asked.{message, none, behind}

-- 7 and -3; 15e-1; a text; two bytes, in digits of either case
abbrev pub InitialTexts : Type 0
InitialTexts =
    IsInitial UInt32 (codes "7") (U 7)
    × IsInitial Int32 (codes "-3") (I (negsuc 2))
    × IsInitial Decimal (codes "15e-1") (Dec (negsuc 0) (pos 15))
    × IsInitial Ascii (codes "AB") (AsciiText (codes "AB"))
    × IsInitial Bytes (codes "01fF") (ByteVector (0x01 ∷ 0xFF ∷ []))

-- an optional constant, a default, and an optional default without initial value
abbrev pub initials_text : List ℕ
initials_text =
    codes "[[template]]\nname = 'V'\nid = 1\nfields = ["
    ++ codes "{kind='uInt32', name='c', optional=true, op='constant', value='7'}, "
    ++ codes "{kind='int32', name='d', op='default', value='-3'}, "
    ++ codes "{kind='uInt32', name='e', optional=true, op='default'}]\n"

-- a field that has no entry
abbrev pub without_entry : Kind → Bool → Operator → Option ScalarData → FieldData
without_entry kind optional o initial = record { kind = kind; optional = optional; operator = o; initial = initial; entry = None }

abbrev pub seven : FieldData
seven = without_entry UInt32 true Constant (Some (U 7))

abbrev pub minus_three : FieldData
minus_three = without_entry Int32 false Default (Some (I (negsuc 2)))

abbrev pub absent_by_default : FieldData
absent_by_default = without_entry UInt32 true Default None

-- the set
abbrev pub initials : Tree
initials = record {
  templates = template (codes "V") 1
      (step (field (at 0 (codes "c")) seven)
      (step (field (at 1 (codes "d")) minus_three)
      (step (field (at 2 (codes "e")) absent_by_default) end))) ∷ [];
  entries = 1;
}

-- the text is read as the set
abbrev pub InitialsRead : Type 0
InitialsRead = (document : Members) × (parse_document initials_text ≡ Some document) × IsTree document initials

-- 7 by its bit alone, -3 since nothing is sent, and absence; no constant by its bit, 2, and NULL
abbrev pub InitialsInStreams : Type 0
InitialsInStreams =
    Stream initials lenient
    (0xE0 ∷ 0x81
    ∷ 0x98 ∷ 0x82 ∷ 0x80 ∷ [])
    (MessageStart 0 ∷ FieldValue 0 (U 7) ∷ FieldValue 1 (I (negsuc 2)) ∷ MessageEnd
    ∷ MessageStart 0 ∷ FieldValue 1 (I (pos 2)) ∷ MessageEnd ∷ [])
    between

-- a message of 7 and -3, and one of 2
abbrev pub with_seven : Slots
with_seven = present (one (U 7)) (present (one (I (negsuc 2))) none)

abbrev pub with_two : Slots
with_two = absent (present (one (I (pos 2))) none)

-- No value of the first message is sent, and of the second 2 alone.
abbrev pub InitialsEncoded : Type 0
InitialsEncoded =
    EncodesMessage initials lenient (fresh 1) (message 0 with_seven) (0xE0 ∷ 0x81 ∷ []) (behind 1 (fresh 1))
    × EncodesMessage initials lenient (behind 1 (fresh 1)) (message 0 with_two) (0x90 ∷ 0x82 ∷ []) (behind 1 (fresh 1))
