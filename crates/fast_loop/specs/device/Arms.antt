-- The arms of the machine's loop: the position in the innermost segment, and the rest of the piece, are apart from the machine.
use Rattle.std.specs.Prelude.{◌≡◌, ℕ, ◌<◌, ◌≤◌, Bool, true, false, List, length, take, drop, slice_get, Option, Some, Result, Ok, Err}
use Rattle.fast_value.specs.declared.settings.Limits.{Limits}
use Rattle.fast_value.specs.meaning.Limits.{Bounds, bounds}
use Rattle.fast_value.specs.meaning.Kinds.{ScalarData}
use Rattle.fast_tree.specs.meaning.Tree.{FieldData, uses_bit}
use Rattle.fast_dict.specs.meaning.Dictionary.{previous_at, write_at}
use Rattle.fast_dict.specs.meaning.Operators.{Outcome, decide, nothing}
use Rattle.fast_dict.specs.meaning.Slots.{slots_dictionary, slots_terms}
use Rattle.fast_dict.specs.declared.slots.Slots.{Slots}
use Rattle.fast_stream.specs.meaning.Events.{EventData}
use Rattle.fast_stream.specs.meaning.Fields.{field_term}
use Rattle.fast_stream.specs.meaning.Grammar.{of_result}
use Rattle.fast_stream.specs.declared.faults.FaultCode.{FaultCode}
use Rattle.fast_stream.specs.declared.faults.FaultCode.TheVariants.{SinkStopped}
use Rattle.fast_stream.specs.device.Readers.{Done}
use Rattle.fast_stream.specs.device.GrammarReaders.{reader_of}
use Rattle.fast_items.specs.device.FieldsAs.{IsFieldAs, GivesWhole, reader_in}
use Rattle.fast_units.specs.device.Settling.{Serves}
use Rattle.fast_units.specs.device.Taking.{Turns}
use Rattle.fast_units.specs.device.UnitFronts.{IsSent}
use Rattle.fast_items.specs.declared.taken.TakenText.{TakenText}
use Rattle.fast_value.specs.declared.kinds.Kind.TheVariants.{Ascii}
use Rattle.fast_tree.specs.declared.operators.Operator.{Operator}
use Rattle.fast_tree.specs.declared.instructions.FieldInstruction.{FieldInstruction}
use Rattle.fast_tree.specs.declared.instructions.Node.{Node}
use Rattle.fast_tree.specs.declared.instructions.Shape.TheVariants as Shape
use Rattle.fast_tree.specs.meaning.Nodes.{field_data}
use Rattle.fast_program.specs.declared.ops.Op.{Op}
use Rattle.fast_program.specs.device.Codes.{Claim, IsClaimed}
use Rattle.fast_cursor.specs.device.Segments.{first_node}
use Rattle.fast_cursor.specs.device.Places.{place_left, at_place, IsPlaceOf}
use Rattle.fast_cursor.specs.declared.place.Place.{Place}
use Rattle.fast_machine.specs.declared.machine.Machine.{Machine}
use Rattle.fast_machine.specs.declared.machine.Turn.{Turn}
use Rattle.fast_machine.specs.declared.machine.Turn.TheVariants.{Silent, Handed, Waits}
use Rattle.fast_machine.specs.declared.machine.Waiting.TheVariants.{Field}
use Rattle.fast_loop.specs.declared.spot.Gone.{Gone}
use Rattle.fast_loop.specs.declared.spot.Spot.{Spot}
use Rattle.fast_loop.specs.declared.spot.Went.{Went}
use Rattle.fast_machine.specs.device.Passing.{group_from, length_then}
use Rattle.fast_machine.specs.device.Positions.{Set, placed, state_in, bit_of, IsAtField, IsAtSequence, CanTurn, turning}
use Rattle.fast_machine.specs.device.Steps.{IsStep}

-- The op that an arm is for: the next instruction is its node, for whose shape this claim holds.
pub record IsArmOp (set : Set) (p : Place) (op : Op) (claim : Claim) : Type 0 where
  pub below : op.node < length set.nodes
  pub first : first_node (place_left p) ≡ Some op.node
  pub is : (x : Node) → slice_get set.nodes op.node ≡ Some x → IsClaimed claim op.entry x.shape

-- The op's node, if it is a field of ASCII strings under the operator, optional or mandatory, is this string, or absent, complete in these
-- bytes.
abbrev pub IsOpText : Set → Op → Operator → Bool → ℕ → List ℕ → Slots → Slots → List ℕ → TakenText → Type 0
IsOpText set op operator optional room rest old new scratch r = (x : Node) (i : FieldInstruction) (strict : Bool) (b : Bounds)
    → slice_get set.nodes op.node ≡ Some x → x.shape ≡ Shape.Field i
    → b.max_text ≡ room → IsFieldAs (field_data i) Ascii optional operator op.entry → Serves (length (slots_dictionary old)) (slots_terms old) (field_data i)
    → GivesWhole (reader_in old strict b (field_data i)) (field_data i) rest (slots_dictionary old) (slots_dictionary new) scratch r.source r.from r.bytes

-- The machine is there between two units.
pub record IsAtSpot (set : Set) (l : Limits) (m : Machine) (p : Place) : Type 0 where
  pub waits : m.waiting ≡ Field
  pub place : IsPlaceOf m.cursor p
  pub can : CanTurn set l (placed m p)

-- A step from there on, which reads this number of bytes, and ends with this result.
pub record WentBy {S : Type 0} (takes stops : S → EventData → S → Type 0) (set : Set) (l : Limits) (m : Machine) (from : Spot) (s : S)
    (n : ℕ) (turn : Turn) (s' : S) (m' : Machine) (to : Spot) : Type 0 where
  pub rest : to.rest.bytes.now ≡ drop n from.rest.bytes.now
  pub waits : m'.waiting ≡ Field
  pub place : IsPlaceOf m'.cursor to.place
  pub step : IsStep takes stops set l (placed m from.place) from.rest.bytes.now s (record { bytes = n; turn = Ok turn }) s' (placed m' to.place)

-- The effect of an arm, by its result.
abbrev pub HasWent : {S : Type 0} → (S → EventData → S → Type 0) → (S → EventData → S → Type 0) → Set → Limits → Machine → Spot → S → Went
    → S → Machine → Spot → Type 0
HasWent takes stops set l m from s Went.Took s' m' to = (n : ℕ) × (0 < n) × WentBy takes stops set l m from s n Handed s' m' to
HasWent takes stops set l m from s Went.Handed s' m' to = WentBy takes stops set l m from s 0 Handed s' m' to
HasWent takes stops set l m from s Went.Silent s' m' to = WentBy takes stops set l m from s 0 Silent s' m' to
HasWent takes stops set l m from s Went.Declined s' m' to = (m' ≡ m) × (to ≡ from) × (s' ≡ s)
HasWent takes stops set l m from s Went.Stopped s' m' to =
    (n : ℕ) × (to.rest.bytes.now ≡ drop n from.rest.bytes.now) × IsPlaceOf m'.cursor to.place × IsStep takes stops set l (placed m from.place)
    from.rest.bytes.now s (record {
      bytes = n;
      turn = Err SinkStopped;
    }) s' (placed m' to.place)
HasWent takes stops set l m from s Went.Waits s' m' to =
    (n : ℕ) × (to.rest.bytes.now ≡ drop n from.rest.bytes.now) × IsPlaceOf m'.cursor to.place × IsStep takes stops set l (placed m from.place)
    from.rest.bytes.now s (record {
      bytes = n;
      turn = Ok Waits;
    }) s' (placed m' to.place)

-- The result of an arm after a step that reads n bytes, and goes on.
abbrev pub IsAnswer : Went → ℕ → Type 0
IsAnswer Went.Took n = 0 < n
IsAnswer Went.Handed n = n ≡ 0
IsAnswer went n = ⊥

-- the end of a turn that did not go on
abbrev pub ended : Result Unit FaultCode → Result Turn FaultCode
ended (Ok u) = Ok Waits
ended (Err c) = Err c

-- The effect of a step of the loop, by its result. At its end the machine itself is at the position.
abbrev pub HasGone : {S : Type 0} → (S → EventData → S → Type 0) → (S → EventData → S → Type 0) → Set → Limits → Machine → Spot → S → Gone
    → S → Machine → Spot → Type 0
HasGone takes stops set l m from s Gone.Took s' m' to = (n : ℕ) × (0 < n) × WentBy takes stops set l m from s n Handed s' m' to
HasGone takes stops set l m from s Gone.Handed s' m' to = WentBy takes stops set l m from s 0 Handed s' m' to
HasGone takes stops set l m from s Gone.Silent s' m' to = WentBy takes stops set l m from s 0 Silent s' m' to
HasGone takes stops set l m from s (Gone.Ended outcome) s' m' to =
    (n : ℕ) × (to.rest.bytes.now ≡ drop n from.rest.bytes.now) × IsStep takes stops set l (placed m from.place) from.rest.bytes.now s (record {
      bytes = n;
      turn = ended outcome;
    }) s' m'

-- The field at the next node is complete in this number of bytes, and has this value, or none: the second machine has stored the value if
-- the field does, and perhaps a string, and is otherwise the first.
pub record IsFieldTaken (set : Set) (l : Limits) (m m' : Machine) (from : Spot) (node : ℕ) (f : FieldData) (value : Option ScalarData) (n : ℕ) : Type 0 where
  pub spot : IsAtSpot set l m from.place
  pub kept : m' ≡ record m { slots = m'.slots; text = m'.text }
  pub terms : slots_terms m'.slots ≡ slots_terms m.slots
  pub room : m'.text.capacity ≡ m.text.capacity
  pub at : IsAtField set (at_place m.cursor from.place) node f
  pub sent : IsSent f (bit_of f (state_in (slots_dictionary m.slots) m.counted (at_place m.cursor from.place)))
  pub some : 0 < n
  pub within : n ≤ length from.rest.bytes.now
  pub outcome : Outcome
  pub turns : Turns (reader_of l.strict (field_term (bounds l) f (previous_at f.entry (slots_dictionary m.slots)) true))
      (take n from.rest.bytes.now) (Done outcome)
  pub is_value : outcome.value ≡ value
  pub next : slots_dictionary m'.slots ≡ write_at f.entry outcome.next (slots_dictionary m.slots)

-- The length of the sequence at the next node is complete in this number of bytes, uses no bit, and has this value, or none.
pub record IsLengthTaken (set : Set) (l : Limits) (m : Machine) (from : Spot) (node : ℕ) (f : FieldData) (body : List ℕ)
    (value : Option ScalarData) (n : ℕ) : Type 0 where
  pub spot : IsAtSpot set l m from.place
  pub at : IsAtSequence set (at_place m.cursor from.place) node f body
  pub no_bit : uses_bit f ≡ false
  pub some : 0 < n
  pub within : n ≤ length from.rest.bytes.now
  pub turns : Turns (turning set l (placed m from.place)) (take n from.rest.bytes.now)
      (reader_of l.strict (length_then set (bounds l) node value f body (slots_dictionary m.slots) m.counted
      (at_place m.cursor from.place)))

-- From the first spot to the second the bit of the next instruction is used, if it has one: a group that is present.
pub record IsGroupHere (set : Set) (l : Limits) (m : Machine) (from to : Spot) (node : ℕ) (body : List ℕ) : Type 0 where
  pub rest : to.rest.bytes.now ≡ from.rest.bytes.now
  pub left : place_left to.place ≡ place_left from.place
  pub begins : turning set l (placed m from.place) ≡ reader_of l.strict
      (group_from set (bounds l) node body (slots_dictionary m.slots) m.counted (at_place m.cursor to.place))

-- Nothing is sent of the field at the next node, and it has this value, or none.
pub record IsFieldUnsent (set : Set) (l : Limits) (m m' : Machine) (p : Place) (node : ℕ) (f : FieldData) (bit : Bool)
    (value : Option ScalarData) : Type 0 where
  pub spot : IsAtSpot set l m p
  pub kept : m' ≡ record m { slots = m'.slots }
  pub terms : slots_terms m'.slots ≡ slots_terms m.slots
  pub at : IsAtField set (at_place m.cursor p) node f
  pub is_bit : bit ≡ bit_of f (state_in (slots_dictionary m.slots) m.counted (at_place m.cursor p))
  pub unsent : field_term (bounds l) f (previous_at f.entry (slots_dictionary m.slots)) bit ≡ of_result
      (decide f (previous_at f.entry (slots_dictionary m.slots)) bit nothing)
  pub outcome : Outcome
  pub decided : decide f (previous_at f.entry (slots_dictionary m.slots)) bit nothing ≡ Ok outcome
  pub is_value : outcome.value ≡ value
  pub next : slots_dictionary m'.slots ≡ write_at f.entry outcome.next (slots_dictionary m.slots)

-- the end of the turn in which an arm began a message
abbrev pub begun_by : Went → Result Turn FaultCode
begun_by Went.Took = Ok Handed
begun_by went = Err SinkStopped
