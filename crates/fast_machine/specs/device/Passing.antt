-- The cursor of a machine after its turns.
use Rattle.std.specs.Prelude.{◌≡◌, ℕ, ℤ, if◌then◌else◌, List, ◌∷◌, drop}
use Rattle.fast_wire.specs.meaning.Maps.{later_bits}
use Rattle.fast_tree.specs.meaning.Tree.{FieldData, identifier, uses_bit}
use Rattle.fast_dict.specs.meaning.Dictionary.{Dictionary}
use Rattle.fast_value.specs.meaning.Kinds.{ScalarData}
use Rattle.fast_value.specs.meaning.Limits.{Bounds}
use Rattle.std.specs.Prelude.{Option}
use Rattle.fast_stream.specs.meaning.Events.{GroupStart}
use Rattle.fast_stream.specs.meaning.Grammar.{Grammar, hand}
use Rattle.fast_stream.specs.meaning.Messages.{State, decimal_with}
use Rattle.fast_stream.specs.device.Continuations.{handed_then, mantissa_after_then, segment_then, body_then, sequence_from_then, message_behind_then}
use Rattle.fast_stream.specs.device.Frames.{open_group, resume, opened, elements_turn}
use Rattle.fast_cursor.specs.device.Cursors.{CursorData, bits_left}
use Rattle.fast_machine.specs.device.Positions.{Set, tree_in, body_in, frames_in, state_in}

-- The cursor is past the next instruction, and bits may have been used.
pub record IsPast (old new : CursorData) : Type 0 where
  pub same : new ≡ record old { left = drop 1 old.left; used = new.used; ends = new.ends }

-- the state after a field that a cursor is at
abbrev pub state_past : FieldData → Dictionary → ℕ → CursorData → State
state_past f d counted c = record {
  context = record { dictionary = d; counted = counted };
  bits = if uses_bit f then later_bits (bits_left c) else bits_left c;
}

-- The rest of the message after the exponent of the next instruction, a decimal by parts.
abbrev pub exponent_then : Set → Bounds → ℕ → Option ScalarData → FieldData → FieldData → Dictionary → ℕ → CursorData → Grammar Dictionary
exponent_then set l n v e m d counted c = mantissa_after_then l n m (resume l (frames_in set c.frames) (body_in set (drop 1 c.left)))
    (v, state_past e d counted c)

-- The rest of the message after its mantissa.
abbrev pub decimal_then : Set → Bounds → ℕ → ℤ → Option ScalarData → FieldData → Dictionary → ℕ → CursorData → Grammar Dictionary
decimal_then set l n x v m d counted c = handed_then n (resume l (frames_in set c.frames) (body_in set (drop 1 c.left))) (decimal_with x v)
    (state_past m d counted c)

-- The rest of the message after the length of the next instruction, a sequence.
abbrev pub length_then : Set → Bounds → ℕ → Option ScalarData → FieldData → List ℕ → Dictionary → ℕ → CursorData → Grammar Dictionary
length_then set l n v f body d counted c =
    sequence_from_then l n (segment_then (body_in set body) (body_then l (body_in set body)))
    (resume l (frames_in set c.frames) (body_in set (drop 1 c.left))) (v, state_past f d counted c)

-- The rest of the message from the next instruction on, a group that is present, after its bit is used, if it has one.
abbrev pub group_from : Set → Bounds → ℕ → List ℕ → Dictionary → ℕ → CursorData → Grammar Dictionary
group_from set l n body d counted c =
    hand (GroupStart n) (opened l (open_group (body_in set (drop 1 c.left)) (bits_left c) ∷ frames_in set c.frames) (body_in set body) (record {
      dictionary = d;
      counted = counted;
    }))

-- The rest of the message from the elements of a sequence on: n elements, after which this segment goes on.
abbrev pub elements_from : Set → Bounds → ℕ → List ℕ → Dictionary → ℕ → CursorData → Grammar Dictionary
elements_from set l n body d counted c =
    elements_turn l (frames_in set c.frames) n (body_in set body) (body_in set c.left) (state_in d counted c)

-- The rest of the message after the value of the next instruction, a field.
abbrev pub value_then : Set → Bounds → ℕ → Option ScalarData → FieldData → Dictionary → ℕ → CursorData → Grammar Dictionary
value_then set l n v f d counted c = handed_then n (resume l (frames_in set c.frames) (body_in set (drop 1 c.left))) v (state_past f d counted c)

-- The rest of the message after its identifier.
abbrev pub identified_then : Set → Bounds → Option ScalarData → Dictionary → CursorData → Grammar Dictionary
identified_then set l v d c = message_behind_then (tree_in set) l c.map (v, state_past identifier d 0 c)
