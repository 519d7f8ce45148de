-- The arm of decimals by parts, and the steps past an instruction of a number of bytes, if any.
use Rattle.std.specs.Prelude.{◌≡◌, ℕ, ◌<◌, ◌≤◌, Bool, true, if◌then◌else◌, length, take, drop, Option}
use Rattle.fast_wire.specs.meaning.Maps.{first_bit}
use Rattle.fast_value.specs.declared.settings.Limits.{Limits}
use Rattle.fast_value.specs.declared.kinds.Kind.TheVariants.{Int32, Int64}
use Rattle.fast_value.specs.meaning.Kinds.{ScalarData}
use Rattle.fast_value.specs.meaning.Limits.{bounds}
use Rattle.fast_tree.specs.declared.instructions.FieldInstruction.{FieldInstruction}
use Rattle.fast_tree.specs.meaning.Nodes.{field_data}
use Rattle.fast_tree.specs.meaning.Tree.{FieldData, uses_bit, Instruction, step}
use Rattle.fast_dict.specs.meaning.Slots.{slots_dictionary, slots_terms}
use Rattle.fast_stream.specs.device.GrammarReaders.{reader_of}
use Rattle.fast_units.specs.device.Settling.{Serves}
use Rattle.fast_units.specs.device.Taking.{Turns}
use Rattle.fast_cursor.specs.declared.place.Place.{Place}
use Rattle.fast_cursor.specs.device.Cursors.{CursorData, bits_left}
use Rattle.fast_cursor.specs.device.Places.{place_left, at_place, IsPlaceOf}
use Rattle.fast_machine.specs.declared.machine.Machine.{Machine}
use Rattle.fast_loop.specs.declared.spot.Spot.{Spot}
use Rattle.fast_machine.specs.device.Positions.{placed, Set, body_in, turning, IsAtParts}
use Rattle.fast_loop.specs.device.Arms.{IsAtSpot}
use Rattle.fast_machine.specs.device.Passing.{value_then}

-- the presence bit of a field, which is next at the position: set, if it has none
abbrev pub bit_at_place : CursorData → Place → FieldData → Bool
bit_at_place c p f = if uses_bit f then first_bit (bits_left (at_place c p)) else true

-- The next instruction is a decimal by these parts.
pub record IsAtDecimal (set : Set) (l : Limits) (m : Machine) (p : Place) (node : ℕ) (e f : FieldInstruction) : Type 0 where
  pub spot : IsAtSpot set l m p
  pub next : IsAtParts set (at_place m.cursor p) node (field_data e) (field_data f)
  pub exponent : Serves set.entries (slots_terms m.slots) (field_data e)
  pub mantissa : Serves set.entries (slots_terms m.slots) (field_data f)
  pub exponent_kind : e.kind ≡ Int32
  pub mantissa_kind : f.kind ≡ Int64

-- This number of bytes leads through the next instruction, and its value, if it has one, is to be emitted. Of its bits the one of this
-- field is still to be used, if that has one, at this position. The second machine has stored the value if the instruction does.
pub record IsLedTo (set : Set) (l : Limits) (m m' : Machine) (from : Spot) (p : Place) (node : ℕ) (f : FieldData)
    (value : Option ScalarData) (n : ℕ) : Type 0 where
  pub spot : IsAtSpot set l m from.place
  pub kept : m' ≡ record m { slots = m'.slots }
  pub terms : slots_terms m'.slots ≡ slots_terms m.slots
  pub some : 0 < length (place_left from.place)
  pub instruction : Instruction
  pub next : body_in set (place_left from.place) ≡ step instruction (body_in set (drop 1 (place_left from.place)))
  pub left : place_left p ≡ place_left from.place
  pub place : IsPlaceOf m.cursor p
  pub within : n ≤ length from.rest.bytes.now
  pub turns : Turns (turning set l (placed m from.place)) (take n from.rest.bytes.now)
      (reader_of l.strict (value_then set (bounds l) node value f (slots_dictionary m'.slots) m.counted (at_place m.cursor p)))
