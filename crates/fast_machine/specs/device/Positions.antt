-- The position of a machine in a stream, by its state.
use Rattle.std.specs.Prelude.{◌≡◌, ◌⊎◌, ℕ, suc, ◌+◌, ◌<◌, ◌≤◌, Bool, true, false, nat_eq, if◌then◌else◌, List, [], ◌∷◌, length, drop, map}
use Rattle.std.specs.Prelude.{slice_get, ℤ, Option, Some, None, IfSome, Result, Ok, Err}
use Rattle.fast_wire.specs.meaning.Entities.{HaveNoStop, IsEntity}
use Rattle.fast_wire.specs.meaning.Maps.{map_limit, bits, first_bit}
use Rattle.fast_value.specs.declared.settings.Limits.{Limits}
use Rattle.fast_value.specs.meaning.Limits.{Bounds, bounds}
use Rattle.fast_tree.specs.declared.instructions.Node.{Node}
use Rattle.fast_tree.specs.declared.instructions.Template.{Template}
use Rattle.fast_tree.specs.meaning.Numbers.{AreBelow, numbers_of}
use Rattle.fast_tree.specs.meaning.Sizes.{body_depth, set_depth}
use Rattle.fast_tree.specs.meaning.Tree.{Label, FieldData, identifier, uses_bit, field, parts, group, sequence, Body, step, bits_of, Tree}
use Rattle.fast_template.specs.declared.sets.Templates.{Templates}
use Rattle.fast_template.specs.device.Programs.{program_of}
use Rattle.fast_template.specs.meaning.Flat.{field_data, instructions_from, template_data, templates_of, nodes_of}
use Rattle.fast_dict.specs.meaning.Dictionary.{Dictionary, fresh}
use Rattle.fast_dict.specs.meaning.Slots.{slots_dictionary, slots_terms}
use Rattle.fast_stream.specs.meaning.Events.{EventData}
use Rattle.fast_machine.specs.device.Moving.{Moves}
use Rattle.fast_stream.specs.meaning.Grammar.{Grammar, presence_map, narrow, ◌>>=◌}
use Rattle.fast_stream.specs.meaning.Messages.{State, begin, field_in, decimal_with}
use Rattle.fast_stream.specs.device.Readers.{Reader, Done, bind}
use Rattle.fast_stream.specs.device.GrammarReaders.{settles_reader, judged_map, reader_of}
use Rattle.fast_stream.specs.device.Continuations.{handed_then, message_behind_then, message_then}
use Rattle.fast_stream.specs.device.Frames.{Frame, open_group, open_element, resume}
use Rattle.fast_stream.specs.device.Machine.{after_bytes}
use Rattle.fast_program.specs.declared.ops.Op.{Op}
use Rattle.fast_program.specs.declared.starts.Start.{Start}
use Rattle.fast_program.specs.device.Starts.{IsStartOf}
use Rattle.fast_cursor.specs.device.Runs.{run_at}
use Rattle.fast_cursor.specs.device.Cursors.{ElementsData, FrameData, CursorData, bits_behind, bits_left, resting}
use Rattle.fast_cursor.specs.declared.place.Place.{Place}
use Rattle.fast_cursor.specs.device.Places.{at_place}
use Rattle.fast_machine.specs.device.Serving.{ServesNodes}
use Rattle.fast_tree.specs.meaning.Nodes.{body_among}
use Rattle.fast_units.specs.device.TextDecisions.{first_reader}
use Rattle.fast_units.specs.device.UnitFronts.{IsSent}
use Rattle.fast_fields.specs.declared.carry.Carry.{Carry}
use Rattle.fast_fields.specs.device.Carries.{IsCarried}
use Rattle.fast_machine.specs.declared.machine.Machine.{Machine}
use Rattle.fast_stream.specs.declared.faults.FaultCode.{FaultCode}
use Rattle.fast_machine.specs.declared.machine.Turn.{Turn}
use Rattle.fast_machine.specs.declared.machine.Turn.TheVariants.{Silent, Handed, Waits}
use Rattle.fast_machine.specs.declared.machine.Waiting.{Waiting}
use Rattle.fast_machine.specs.declared.machine.Waiting.TheVariants.{Map, Identifier, SegmentMap, Field, Mantissa}

-- A template set as its templates, its nodes, its program and the number of its entries.
pub record Set : Type 0 where
  pub templates : List Template
  pub nodes : List Node
  pub program : List Op
  pub entries : ℕ

-- the tree of a set
abbrev pub tree_in : Set → Tree
tree_in set = record { templates = map (template_data (instructions_from 0 set.nodes)) set.templates; entries = set.entries }

-- the set of a checked set of the Rust type
abbrev pub set_of : Templates → Set
set_of t = record { templates = templates_of t; nodes = nodes_of t; program = program_of t; entries = t.entries }

-- the body of nodes of a set
abbrev pub body_in : Set → List ℕ → Body
body_in set ns = body_among set.nodes ns

-- the nodes of the run that begins at an index of a set's program
abbrev pub run_in : Set → ℕ → List ℕ
run_in set start = run_at set.program start

-- The run that begins at an index is the body of the node.
abbrev pub IsBodyOf : Set → ℕ → ℕ → Type 0
IsBodyOf set node start = (x : Node) → slice_get set.nodes node ≡ Some x → run_in set start ≡ numbers_of x.shape

-- an open segment, by the elements of a sequence that follow
abbrev pub frame_by : Set → FrameData → Option ElementsData → Frame
frame_by set f None = open_group (body_in set f.after) (bits_behind f.map f.used)
frame_by set f (Some e) = open_element e.more (body_in set e.body) (body_in set f.after) (bits_behind f.map f.used)

-- open segments
abbrev pub frames_in : Set → List FrameData → List Frame
frames_in set [] = []
frames_in set (f ∷ fs) = frame_by set f f.elements ∷ frames_in set fs

-- the state in a segment
abbrev pub state_in : Dictionary → ℕ → CursorData → State
state_in d counted c = record { context = record { dictionary = d; counted = counted }; bits = bits_left c }

-- the rest of the message from the next instruction on
abbrev pub going_on : Set → Bounds → Dictionary → ℕ → CursorData → Grammar Dictionary
going_on set l d counted c = resume l (frames_in set c.frames) (body_in set c.left) (state_in d counted c)

-- the bit of a field: set, if it uses none
abbrev pub bit_of : FieldData → State → Bool
bit_of f s = if uses_bit f then first_bit s.bits else true

-- the rest of the message from the mantissa of the next decimal on
abbrev pub mantissa_then : Bounds → List Frame → Body → State → ℤ → Grammar Dictionary
mantissa_then l fs (step (parts at e m) is) s x = field_in l m s >>= (λ r. handed_then at.node (resume l fs is) (decimal_with x r.0) r.1)
mantissa_then l fs body s x = resume l fs body s

-- the rest of the message after a complete map
abbrev pub behind_map : Set → Bounds → Dictionary → List ℕ → Grammar Dictionary
behind_map set l d m = field_in l identifier (begin d (bits m)) >>= message_behind_then (tree_in set) l m

-- the rest of the message from the map of a segment on
abbrev pub segment_behind : Set → Bounds → Dictionary → ℕ → CursorData → ℕ → Grammar Dictionary
segment_behind set l d counted c width =
    presence_map (λ m. narrow width m (resume l (frames_in set c.frames) (body_in set c.left) (record {
      context = record { dictionary = d; counted = counted };
      bits = bits m;
    })))

-- the rest of the message, from the partial unit on
abbrev pub term_at : Waiting → Set → Bounds → Machine → Grammar Dictionary
term_at Map set l m = message_then (tree_in set) l (slots_dictionary m.slots)
term_at Identifier set l m = behind_map set l (slots_dictionary m.slots) m.cursor.map
term_at (SegmentMap width) set l m = segment_behind set l (slots_dictionary m.slots) m.counted m.cursor width
term_at Field set l m = going_on set l (slots_dictionary m.slots) m.counted m.cursor
term_at (Mantissa x) set l m = mantissa_then l (frames_in set m.cursor.frames) (body_in set m.cursor.left)
    (state_in (slots_dictionary m.slots) m.counted m.cursor) x

-- the bytes of the partial unit that have been read
abbrev pub front_at : Waiting → Machine → List ℕ
front_at Map m = m.cursor.map
front_at Identifier m = m.carry.bytes.text
front_at (SegmentMap width) m = m.cursor.map
front_at Field m = m.carry.bytes.text
front_at (Mantissa x) m = m.carry.bytes.text

-- the reader of a message whose map begins with these bytes; without any no message has begun
abbrev pub map_reader : Set → Limits → Dictionary → List ℕ → Reader Dictionary
map_reader set l d [] = Done d
map_reader set l d (b ∷ w) = after_bytes (reader_of l.strict (message_then (tree_in set) (bounds l) d)) (b ∷ w)

-- the reader of a message at its complete map
abbrev pub mapped_reader : Set → Limits → Dictionary → List ℕ → Reader Dictionary
mapped_reader set l d w = bind (settles_reader (judged_map l.strict w)) (λ m. reader_of l.strict (behind_map set (bounds l) d m))

-- the reader of a machine, after the bytes of a unit that have been read
abbrev pub unit_reader : Waiting → Set → Limits → Machine → Reader Dictionary
unit_reader w set l m = after_bytes (reader_of l.strict (term_at w set (bounds l) m)) (front_at w m)

-- the reader of a machine, by the unit that it waits for
abbrev pub meaning_at : Waiting → Set → Limits → Machine → Reader Dictionary
meaning_at Map set l m = map_reader set l (slots_dictionary m.slots) m.cursor.map
meaning_at Identifier set l m = unit_reader Identifier set l m
meaning_at (SegmentMap width) set l m = unit_reader (SegmentMap width) set l m
meaning_at Field set l m = unit_reader Field set l m
meaning_at (Mantissa x) set l m = unit_reader (Mantissa x) set l m

-- the reader of a machine
abbrev pub meaning : Set → Limits → Machine → Reader Dictionary
meaning set l m = meaning_at m.waiting set l m

-- A segment has no map, or its map is complete.
abbrev pub IsMapWhole : List ℕ → Type 0
IsMapWhole map = (map ≡ []) ⊎ IsEntity map

-- The elements of a sequence that follow: the nodes are of the set, nest no deeper than there are frames, and use these bits.
abbrev pub AreElementsFit : Set → ℕ → ℕ → Option ElementsData → Type 0
AreElementsFit set depth level None = Unit {0}
AreElementsFit set depth level (Some e) = AreBelow (length set.nodes) e.body × (suc level + body_depth (body_in set e.body) ≤ depth)
    × (e.width ≡ bits_of (body_in set e.body))

-- An open segment, with this number of segments around it: its nodes are of the set, and nest no deeper than there are frames.
pub record IsFrameFit (set : Set) (depth level : ℕ) (f : FrameData) : Type 0 where
  pub below : AreBelow (length set.nodes) f.after
  pub nested : level + body_depth (body_in set f.after) ≤ depth
  pub mapped : IsMapWhole f.map
  pub elements : AreElementsFit set depth level f.elements

-- all frames are of the set
abbrev pub AreFramesFit : Set → ℕ → List FrameData → Type 0
AreFramesFit set depth [] = Unit {0}
AreFramesFit set depth (f ∷ fs) = IsFrameFit set depth (length fs) f × AreFramesFit set depth fs

-- The cursor is in messages of the set.
pub record IsPlaced (set : Set) (c : CursorData) : Type 0 where
  pub below : AreBelow (length set.nodes) c.left
  pub nested : length c.frames + body_depth (body_in set c.left) ≤ c.depth
  pub frames : AreFramesFit set c.depth c.frames

-- The start is that of the set's template with its number, which has an identifier.
abbrev pub IsStartIn : Set → Start → Type 0
IsStartIn set s = (t : Template) × (slice_get set.templates s.number ≡ Some t) × IsStartOf set.program s t × (id : ℕ) × (t.id ≡ Some id)

-- The parts with which a machine is made, and which it keeps.
pub record IsSupplied (set : Set) (l : Limits) (m : Machine) : Type 0 where
  pub entries : (slots_terms m.slots).entries ≡ set.entries
  pub serves : ServesNodes set.entries (slots_terms m.slots) set.nodes
  pub some_entry : 1 ≤ set.entries
  pub max_text : (slots_terms m.slots).max_text ≡ l.max_text
  pub least_text : 16 ≤ l.max_text
  pub carry_room : m.carry.bytes.capacity ≡ 22 + l.max_text
  pub text_room : m.text.capacity ≡ l.max_text
  pub depth : m.cursor.depth ≡ set_depth (tree_in set)
  pub program : m.cursor.ops ≡ set.program
  pub identifier : field_data m.identifier ≡ identifier
  pub counted : m.counted ≤ l.max_total
  pub latest : IfSome m.latest (λ s. IsStartIn set s.now)

-- The next instruction begins with a field, of which these bytes are carried.
abbrev pub BeginsWithField : Limits → Body → State → Carry → Type 0
BeginsWithField l (step (field at f) is) s c = IsSent f (bit_of f s) × IsCarried l (first_reader l f s.context.dictionary) c
BeginsWithField l (step (parts at e m) is) s c = IsSent e (bit_of e s) × IsCarried l (first_reader l e s.context.dictionary) c
BeginsWithField l (step (sequence at f body) is) s c = IsSent f (bit_of f s) × IsCarried l (first_reader l f s.context.dictionary) c
BeginsWithField l body s c = ⊥

-- The next instruction is a decimal by parts, whose mantissa is in the stream, and of which these bytes are carried.
abbrev pub GoesOnWithMantissa : Limits → Body → State → Carry → Type 0
GoesOnWithMantissa l (step (parts at e m) is) s c = IsSent m (bit_of m s) × IsCarried l (first_reader l m s.context.dictionary) c
GoesOnWithMantissa l body s c = ⊥

-- The machine can read the unit that it waits for.
abbrev pub CanTake : Waiting → Set → Limits → Machine → Type 0
CanTake Map set l m = HaveNoStop m.cursor.map × (length m.cursor.map < map_limit) × (m.cursor ≡ record (resting m.cursor) { map = m.cursor.map })
CanTake Identifier set l m = IsEntity m.cursor.map × (first_bit (bits m.cursor.map) ≡ true) × (m.cursor ≡ record (resting m.cursor) { map = m.cursor.map })
    × IsCarried l (first_reader l identifier (slots_dictionary m.slots)) m.carry
CanTake (SegmentMap width) set l m = HaveNoStop m.cursor.map × (length m.cursor.map < map_limit) × (m.cursor.used ≡ 0) × IsPlaced set m.cursor
    × (width ≡ bits_of (body_in set m.cursor.left))
CanTake Field set l m = IsPlaced set m.cursor × IsMapWhole m.cursor.map
    × BeginsWithField l (body_in set m.cursor.left) (state_in (slots_dictionary m.slots) m.counted m.cursor) m.carry
CanTake (Mantissa x) set l m = IsPlaced set m.cursor × IsMapWhole m.cursor.map
    × GoesOnWithMantissa l (body_in set m.cursor.left) (state_in (slots_dictionary m.slots) m.counted m.cursor) m.carry

-- The machine can go on.
pub record IsReady (set : Set) (l : Limits) (m : Machine) : Type 0 where
  pub supplied : IsSupplied set l m
  pub takes : CanTake m.waiting set l m

-- The next instruction is a field; the next definitions are for the other instructions.
abbrev pub IsAtField : Set → CursorData → ℕ → FieldData → Type 0
IsAtField set c n f = (at : Label) × (at.node ≡ n) × (0 < length c.left) × (body_in set c.left ≡ step (field at f) (body_in set (drop 1 c.left)))

abbrev pub IsAtParts : Set → CursorData → ℕ → FieldData → FieldData → Type 0
IsAtParts set c n e m = (at : Label) × (at.node ≡ n) × (0 < length c.left) × (body_in set c.left ≡ step (parts at e m) (body_in set (drop 1 c.left)))

abbrev pub IsAtGroup : Set → CursorData → ℕ → Bool → List ℕ → Type 0
IsAtGroup set c n optional body = (at : Label) × (at.node ≡ n) × (0 < length c.left)
    × (body_in set c.left ≡ step (group at optional (body_in set body)) (body_in set (drop 1 c.left)))

abbrev pub IsAtSequence : Set → CursorData → ℕ → FieldData → List ℕ → Type 0
IsAtSequence set c n f body = (at : Label) × (at.node ≡ n) × (0 < length c.left)
    × (body_in set c.left ≡ step (sequence at f (body_in set body)) (body_in set (drop 1 c.left)))

-- The machine is between two units, and the next step may need no byte.
pub record CanTurn (set : Set) (l : Limits) (m : Machine) : Type 0 where
  pub supplied : IsSupplied set l m
  pub placed : IsPlaced set m.cursor
  pub mapped : IsMapWhole m.cursor.map

-- the reader of a machine between two units
abbrev pub turning : Set → Limits → Machine → Reader Dictionary
turning set l m = reader_of l.strict (going_on set (bounds l) (slots_dictionary m.slots) m.counted m.cursor)

-- A machine goes on after a turn: it can make the next one, or read the unit that it waits for, or it is at an end.
abbrev pub GoesOn : Set → Limits → Machine → Result Turn FaultCode → Type 0
GoesOn set l m (Ok Silent) = CanTurn set l m
GoesOn set l m (Ok Handed) = CanTurn set l m
GoesOn set l m (Ok Waits) = IsReady set l m
GoesOn set l m (Err c) = Unit {0}

-- A complete turn: from the reader before it to the reader after it.
pub record IsTurn {S : Type 0} (takes stops : S → EventData → S → Type 0) (set : Set) (l : Limits) (r : Reader Dictionary) (s : S)
    (result : Result Turn FaultCode) (s' : S) (m : Machine) : Type 0 where
  pub moves : Moves takes stops r s result s' (turning set l m) (meaning set l m)
  pub supplied : IsSupplied set l m
  pub goes_on : GoesOn set l m result

-- The map of a message is complete, and nothing has been read after it.
pub record IsBehindMap (set : Set) (l : Limits) (m : Machine) : Type 0 where
  pub supplied : IsSupplied set l m
  pub map : IsEntity m.cursor.map
  pub outermost : m.cursor ≡ record (resting m.cursor) { map = m.cursor.map }

-- the reader of a segment at its complete map
abbrev pub segment_reader : Set → Limits → Machine → ℕ → Reader Dictionary
segment_reader set l m width = bind (settles_reader (judged_map l.strict m.cursor.map))
    (λ w. reader_of l.strict (narrow width w (going_on set (bounds l) (slots_dictionary m.slots) m.counted (record m.cursor { map = w }))))

-- No message has begun.
abbrev pub is_idle_at : Waiting → List ℕ → Bool
is_idle_at Map map = nat_eq (length map) 0
is_idle_at waiting map = false

abbrev pub is_idle : Machine → Bool
is_idle m = is_idle_at m.waiting m.cursor.map

-- Nothing has been read.
pub record IsFresh (set : Set) (m : Machine) : Type 0 where
  pub waiting : m.waiting ≡ Map
  pub cursor : m.cursor ≡ resting m.cursor
  pub dictionary : slots_dictionary m.slots ≡ fresh set.entries
  pub turns : m.turns.count ≡ 0

-- the machine, at the position
abbrev pub placed : Machine → Place → Machine
placed m p = record m { cursor = at_place m.cursor p }
