use Rattle.std.proofs.Common.{refl, arith}
use Rattle.std.specs.Prelude.{[], ◌∷◌, codes, true, false, pos, negsuc, Some}
use Rattle.fast_value.specs.declared.codes.Code.TheVariants.{D5}
use Rattle.fast_value.specs.declared.kinds.Kind.TheVariants.{UInt32, Int32, Ascii}
use Rattle.fast_value.specs.meaning.Kinds.{U, I, AsciiText, ByteVector, unsigned_range}
use Rattle.fast_tree.specs.declared.operators.Operator.TheVariants.{Copy, Delta}
use Rattle.fast_tree.specs.meaning.Tree.{FieldData, identifier}
use Rattle.fast_dict.specs.meaning.Dictionary.{Dictionary, undefined, assigned}
use Rattle.fast_dict.specs.meaning.Operators.{value, integer_delta}
use Rattle.fast_spelling.specs.meaning.Encoding.{EncodesField}
use Rattle.fast_examples.specs.meaning.Vectors.{vectors, lenient, at, with_entry, plain, t15}
use Rattle.fast_examples.specs.meaning.Asked.{only, start, holding, behind}
use Rattle.fast_examples.proofs.Encoded.{integer_read, text_read, fits, map_read, no_bit, a_fault, unsent, sent, identified, more}
use Rattle.fast_examples.proofs.Encoded.{nothing_more, alone, encoded, reading}
use Rattle.std.specs.Prelude.{ℤ}
use Rattle.fast_value.specs.meaning.Messages.{one, group, sequence, no_slots, present, no_elements, element}
use Rattle.fast_value.specs.declared.kinds.Kind.TheVariants.{Bytes}
use Rattle.fast_tree.specs.meaning.Tree.{Body, field, group as group_of, sequence as sequence_of, end, step}
use Rattle.fast_spelling.specs.meaning.Encoding.{Encodes, EncodesBody, EncodesSegment}
use Rattle.fast_examples.specs.meaning.Vectors.{one_field}
use Rattle.fast_examples.specs.meaning.Encodings.{leg, nested}
use Rattle.fast_examples.proofs.encodings.nested_encoded.Goals as goal

-- the fields of T15
abbrev x : FieldData
x = plain UInt32 false

abbrev b : FieldData
b = plain Bytes false

abbrev length : FieldData
length = plain UInt32 true

abbrev sym : FieldData
sym = with_entry Ascii false Copy 9

abbrev px : FieldData
px = with_entry Int32 false Delta 10

-- a leg's body, and the others from the sequence and from the group on
abbrev a_leg : Body
a_leg = step (field (at 19 (codes "sym")) sym) (one_field 20 (codes "px") px)

abbrev from_legs : Body
from_legs = step (sequence_of (at 18 (codes "legs")) length a_leg) end

abbrev from_group : Body
from_group = step (group_of (at 16 (codes "g")) true (one_field 17 (codes "b") b)) from_legs

-- the dictionary after the identifier, and after a leg
abbrev base : Dictionary
base = behind 15 start

abbrev symbol : Dictionary
symbol = holding 9 (assigned Ascii (AsciiText (codes "AB"))) base

abbrev price : ℤ → Dictionary
price n = holding 10 (assigned Int32 (I n)) symbol

x_encoded : EncodesField lenient x base (Some (U 5)) [] (0x85 ∷ []) base
unfolding reading
x_encoded = sent lenient x base (Some (U 5)) (value (U 5)) undefined (0x85 ∷ []) (no_bit x _ _ refl) refl
    (pos 5, refl, integer_read _ _ _ _ refl (refl, refl, refl)) ((pos 5, fits (unsigned_range 32) (pos 5) refl, refl), refl)

b_encoded : EncodesField lenient b base (Some (ByteVector (0x01 ∷ 0xFF ∷ []))) [] (0x82 ∷ 0x01 ∷ 0xFF ∷ []) base
unfolding reading
b_encoded = sent lenient b base (Some (ByteVector (0x01 ∷ 0xFF ∷ []))) (value (ByteVector (0x01 ∷ 0xFF ∷ []))) undefined
    (0x82 ∷ 0x01 ∷ 0xFF ∷ []) (no_bit b _ _ refl) refl
    (0x01 ∷ 0xFF ∷ [], refl, (0x82 ∷ [], integer_read _ _ _ _ refl (refl, refl, refl), refl, omega arith)) ((0x01 ∷ 0xFF ∷ [], refl), refl)

length_encoded : EncodesField lenient length base (Some (U 2)) [] (0x83 ∷ []) base
unfolding reading
length_encoded = sent lenient length base (Some (U 2)) (value (U 2)) undefined (0x83 ∷ []) (no_bit length _ _ refl) refl
    (pos 2, refl, integer_read _ _ _ _ refl (refl, refl, refl)) ((pos 2, fits (unsigned_range 32) (pos 2) refl, refl), refl)

-- the first leg: its symbol is sent, and 100 as a delta
first_symbol : EncodesField lenient sym base (Some (AsciiText (codes "AB"))) (true ∷ []) (0x41 ∷ 0xC2 ∷ []) symbol
unfolding reading
first_symbol = sent lenient sym base (Some (AsciiText (codes "AB"))) (value (AsciiText (codes "AB")))
    (assigned Ascii (AsciiText (codes "AB"))) (0x41 ∷ 0xC2 ∷ []) (a_fault sym undefined (Some (AsciiText (codes "AB"))) D5 refl) refl
    (codes "AB", refl, text_read false 1024 (Some (codes "AB")) (0x41 ∷ 0xC2 ∷ []) refl (refl, refl, refl)) ((codes "AB", refl), refl)

first_price : EncodesField lenient px symbol (Some (I (pos 100))) [] (0x00 ∷ 0xE4 ∷ []) (price (pos 100))
unfolding reading
first_price = sent lenient px symbol (Some (I (pos 100))) (integer_delta (pos 100)) (assigned Int32 (I (pos 100))) (0x00 ∷ 0xE4 ∷ [])
    (no_bit px _ _ refl) (I (pos 0), refl, refl) (integer_read _ _ _ _ refl (refl, refl, refl)) (tt, refl)

first_leg : EncodesSegment a_leg (EncodesBody lenient a_leg) base (leg (pos 100)) (0xC0 ∷ 0x41 ∷ 0xC2 ∷ 0x00 ∷ 0xE4 ∷ []) (price (pos 100))
unfolding reading Encodes
first_leg = (
  true ∷ [],
  0xC0 ∷ [],
  0x41 ∷ 0xC2 ∷ 0x00 ∷ 0xE4 ∷ [],
  more lenient (field (at 19 (codes "sym")) sym) (one_field 20 (codes "px") px) base symbol (price (pos 100))
      (Some (one (AsciiText (codes "AB")))) (only (I (pos 100))) (true ∷ []) [] (0x41 ∷ 0xC2 ∷ []) (0x00 ∷ 0xE4 ∷ []) first_symbol
      (alone lenient (at 20 (codes "px")) px symbol (price (pos 100)) (Some (I (pos 100))) [] (0x00 ∷ 0xE4 ∷ []) first_price),
  map_read (true ∷ []) (0xC0 ∷ []) refl (refl, refl, refl) refl,
  refl,
)

-- the second leg: its symbol is copied, and -2 is the delta
second_symbol : EncodesField lenient sym (price (pos 100)) (Some (AsciiText (codes "AB"))) (false ∷ []) [] (price (pos 100))
second_symbol = unsent lenient sym (price (pos 100)) (Some (AsciiText (codes "AB"))) (assigned Ascii (AsciiText (codes "AB"))) refl refl refl

second_price : EncodesField lenient px (price (pos 100)) (Some (I (pos 98))) [] (0xFE ∷ []) (price (pos 98))
unfolding reading
second_price = sent lenient px (price (pos 100)) (Some (I (pos 98))) (integer_delta (negsuc 1)) (assigned Int32 (I (pos 98))) (0xFE ∷ [])
    (no_bit px _ _ refl) (I (pos 100), refl, refl) (integer_read _ _ _ _ refl (refl, refl, refl)) (tt, refl)

second_leg : EncodesSegment a_leg (EncodesBody lenient a_leg) (price (pos 100)) (leg (pos 98)) (0x80 ∷ 0xFE ∷ []) (price (pos 98))
unfolding reading Encodes
second_leg = (
  false ∷ [],
  0x80 ∷ [],
  0xFE ∷ [],
  more lenient (field (at 19 (codes "sym")) sym) (one_field 20 (codes "px") px) (price (pos 100)) (price (pos 100)) (price (pos 98))
      (Some (one (AsciiText (codes "AB")))) (only (I (pos 98))) (false ∷ []) [] [] (0xFE ∷ []) second_symbol
      (alone lenient (at 20 (codes "px")) px (price (pos 100)) (price (pos 98)) (Some (I (pos 98))) [] (0xFE ∷ []) second_price),
  map_read (false ∷ []) (0x80 ∷ []) refl (refl, refl, refl) refl,
  refl,
)

legs : EncodesBody lenient from_legs base (present (sequence (element (leg (pos 100)) (element (leg (pos 98)) no_elements))) no_slots) []
    (0x83 ∷ 0xC0 ∷ 0x41 ∷ 0xC2 ∷ 0x00 ∷ 0xE4 ∷ 0x80 ∷ 0xFE ∷ []) (price (pos 98))
unfolding Encodes
legs = more lenient (sequence_of (at 18 (codes "legs")) length a_leg) end base (price (pos 98)) (price (pos 98))
    (Some (sequence (element (leg (pos 100)) (element (leg (pos 98)) no_elements)))) no_slots [] []
    (0x83 ∷ 0xC0 ∷ 0x41 ∷ 0xC2 ∷ 0x00 ∷ 0xE4 ∷ 0x80 ∷ 0xFE ∷ []) [] (
      0x83 ∷ [],
      0xC0 ∷ 0x41 ∷ 0xC2 ∷ 0x00 ∷ 0xE4 ∷ 0x80 ∷ 0xFE ∷ [],
      base,
      length_encoded,
      (
        0xC0 ∷ 0x41 ∷ 0xC2 ∷ 0x00 ∷ 0xE4 ∷ [],
        0x80 ∷ 0xFE ∷ [],
        price (pos 100),
        first_leg,
        (0x80 ∷ 0xFE ∷ [], [], price (pos 98), second_leg, (refl, refl), refl),
        refl,
      ),
      refl,
    )
    (nothing_more lenient (price (pos 98)))

groups : EncodesBody lenient from_group base (present (group (only (ByteVector (0x01 ∷ 0xFF ∷ []))))
    (present (sequence (element (leg (pos 100)) (element (leg (pos 98)) no_elements))) no_slots)) (true ∷ [])
    (0x82 ∷ 0x01 ∷ 0xFF ∷ 0x83 ∷ 0xC0 ∷ 0x41 ∷ 0xC2 ∷ 0x00 ∷ 0xE4 ∷ 0x80 ∷ 0xFE ∷ []) (price (pos 98))
unfolding Encodes
groups = more lenient (group_of (at 16 (codes "g")) true (one_field 17 (codes "b") b)) from_legs base base (price (pos 98))
    (Some (group (only (ByteVector (0x01 ∷ 0xFF ∷ []))))) (present
    (sequence (element (leg (pos 100)) (element (leg (pos 98)) no_elements))) no_slots)
    (true ∷ []) [] (0x82 ∷ 0x01 ∷ 0xFF ∷ []) (0x83 ∷ 0xC0 ∷ 0x41 ∷ 0xC2 ∷ 0x00 ∷ 0xE4 ∷ 0x80 ∷ 0xFE ∷ []) (
      refl,
      (
        [],
        [],
        0x82 ∷ 0x01 ∷ 0xFF ∷ [],
        alone lenient (at 17 (codes "b")) b base base (Some (ByteVector (0x01 ∷ 0xFF ∷ []))) []
            (0x82 ∷ 0x01 ∷ 0xFF ∷ []) b_encoded,
        refl,
        refl,
      ),
    ) legs

pub returns : goal.returns
unfolding reading Encodes
returns c = encoded vectors lenient start base (price (pos 98)) nested t15 15 (true ∷ []) (true ∷ []) (0xE0 ∷ []) (0x8F ∷ [])
    (0x85 ∷ 0x82 ∷ 0x01 ∷ 0xFF ∷ 0x83 ∷ 0xC0 ∷ 0x41 ∷ 0xC2 ∷ 0x00 ∷ 0xE4 ∷ 0x80 ∷ 0xFE ∷ []) refl refl
    (identified lenient start 15 (0x8F ∷ []) (a_fault identifier undefined (Some (U 15)) D5 refl) refl (integer_read _ _ _ _ refl (refl, refl, refl)))
    (more lenient (field (at 15 (codes "x")) x) from_group base base (price (pos 98)) (Some (one (U 5)))
    (present (group (only (ByteVector (0x01 ∷ 0xFF ∷ []))))
    (present (sequence (element (leg (pos 100)) (element (leg (pos 98)) no_elements))) no_slots)) [] (true ∷ []) (0x85 ∷ [])
    (0x82 ∷ 0x01 ∷ 0xFF ∷ 0x83 ∷ 0xC0 ∷ 0x41 ∷ 0xC2 ∷ 0x00 ∷ 0xE4 ∷ 0x80 ∷ 0xFE ∷ []) x_encoded groups)
    refl (refl, refl, refl) refl
