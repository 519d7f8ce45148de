-- What holds of a machine behind a turn: at the unit that it waits for, and past an instruction.
use Rattle.std.proofs.Common.{refl, sym, ap, ◌∙◌, subst, arith}
use Rattle.std.specs.Prelude.{◌≡◌, ◌≢◌, ℕ, suc, ◌<◌, ◌≤◌, Bool, true, false, List, [], ◌∷◌, drop, length, ℤ, Option, Some, None, option_map}
use Rattle.std.specs.Prelude.{Result, Ok, Err, OnOk, if◌then◌else◌}
use Rattle.std.proofs.Math.Nat.{le-max_right}
use Rattle.fast_wire.specs.meaning.Maps.{first_bit, later_bits}
use Rattle.fast_value.specs.declared.settings.Limits.{Limits}
use Rattle.fast_value.specs.declared.codes.Code.{Code}
use Rattle.fast_value.specs.declared.codes.Code.TheVariants.{R1}
use Rattle.fast_value.specs.meaning.Kinds.{ScalarData, integer_of, exponent_range}
use Rattle.fast_value.specs.meaning.Limits.{Bounds, bounds}
use Rattle.fast_tree.specs.declared.operators.Operator.TheVariants.{Constant}
use Rattle.fast_tree.specs.meaning.Numbers.{AreBelow}
use Rattle.fast_tree.specs.meaning.Sizes.{body_depth}
use Rattle.fast_tree.specs.meaning.Tree.{FieldData, Body, uses_bit}
use Rattle.fast_dict.specs.meaning.Dictionary.{Dictionary, PreviousData, previous_at}
use Rattle.fast_dict.specs.meaning.Operators.{nothing, decide, ranged}
use Rattle.fast_dict.specs.meaning.Stores.{Terms}
use Rattle.fast_dict.specs.declared.slots.Slots.{Slots}
use Rattle.fast_dict.specs.meaning.Slots.{slots_dictionary, slots_terms, slots_sized}
use Rattle.fast_stream.specs.declared.faults.FaultCode.{FaultCode}
use Rattle.fast_stream.specs.declared.faults.FaultCode.TheVariants as Why
use Rattle.fast_machine.specs.declared.machine.Machine.{Machine}
use Rattle.fast_machine.specs.declared.machine.Turn.{Turn}
use Rattle.fast_machine.specs.declared.machine.Turn.TheVariants.{Silent, Handed, Waits as TurnWaits}
use Rattle.fast_machine.specs.declared.machine.Waiting.{Waiting}
use Rattle.fast_machine.specs.declared.machine.Waiting.TheVariants.{Field, Mantissa}
use Rattle.fast_stream.specs.meaning.Events.{EventData}
use Rattle.fast_stream.specs.meaning.Fields.{field_term}
use Rattle.fast_stream.specs.meaning.Grammar.{Grammar, ◌>>=◌, of_result}
use Rattle.fast_stream.specs.meaning.Messages.{State, Found, field_in, decimal_with}
use Rattle.fast_stream.specs.device.Continuations.{handed_then, mantissa_after_then, instruction_then, body_then}
use Rattle.fast_stream.specs.device.Frames.{resume}
use Rattle.fast_units.specs.device.Deciding.{IsDecided}
use Rattle.fast_units.specs.declared.source.ValueSource.{ValueSource}
use Rattle.fast_fields.specs.declared.carry.Carry.{Carry}
use Rattle.fast_fields.specs.device.Carries.{IsCarried}
use Rattle.fast_stream.specs.device.Readers.{Reader, Stop}
use Rattle.fast_stream.specs.device.Machine.{after_bytes}
use Rattle.fast_stream.specs.device.GrammarReaders.{reader_of}
use Rattle.fast_units.specs.device.Taking.{Waits}
use Rattle.fast_machine.specs.device.Moving.{Moves}
use Rattle.fast_units.specs.device.Settling.{Serves, value_at}
use Rattle.fast_units.specs.device.TextDecisions.{first_reader}
use Rattle.fast_units.specs.device.UnitFronts.{IsSent}
use Rattle.fast_cursor.specs.device.Cursors.{CursorData, resting, bits_left, bits_behind}
use Rattle.fast_machine.specs.device.Passing.{IsPast, state_past, exponent_then}
use Rattle.fast_machine.specs.device.Positions.{Set, body_in, IsPlaced, IsSupplied, IsReady, CanTurn, CanTake, IsTurn, GoesOn, turning}
use Rattle.fast_machine.specs.device.Positions.{meaning, meaning_at, state_in, frames_in, bit_of, term_at, mantissa_then, BeginsWithField}
use Rattle.fast_machine.specs.device.Positions.{GoesOnWithMantissa, IsAtField, IsAtParts}
use Rattle.fast_stream.proofs.streams.Frames.{at_field}
use Rattle.fast_machine.proofs.fields.SentFields.{field_sent_waits, field_unsent, field_at_fault}
use Rattle.fast_units.proofs.Turning.{result_done}
use Rattle.fast_machine.proofs.steps.Moves.{moves_waits, moves_fault, moves_as}

-- A machine keeps what it was made with.
pub record IsLike (m m' : Machine) : Type 0 where
  pub terms : slots_terms m'.slots ≡ slots_terms m.slots
  pub carry : m'.carry.bytes.capacity ≡ m.carry.bytes.capacity
  pub text : m'.text.capacity ≡ m.text.capacity
  pub identifier : m'.identifier ≡ m.identifier
  pub rests : resting m'.cursor ≡ resting m.cursor
  pub latest : m'.latest ≡ m.latest

-- It has then all that it needs.
pub supplied_like : (set : Set) (l : Limits) (m m' : Machine) → IsSupplied set l m → IsLike m m' → m'.counted ≤ l.max_total → IsSupplied set l m'
supplied_like set l m m' h i counted = record {
  entries = ap (λ t. t.entries) i.terms ∙ h.entries;
  serves = rw i.terms h.serves;
  some_entry = h.some_entry;
  max_text = ap (λ t. t.max_text) i.terms ∙ h.max_text;
  least_text = h.least_text;
  carry_room = i.carry ∙ h.carry_room;
  text_room = i.text ∙ h.text_room;
  depth = ap (λ (c : CursorData). c.depth) i.rests ∙ h.depth;
  program = ap (λ (c : CursorData). c.ops) i.rests ∙ h.program;
  identifier = rw i.identifier h.identifier;
  counted = counted;
  latest = rw i.latest h.latest;
}

-- The dictionary has the entries of the set.
pub entries_here : (set : Set) (l : Limits) (m : Machine) → IsSupplied set l m → length (slots_dictionary m.slots) ≡ set.entries
entries_here set l m h = slots_sized m.slots ∙ h.entries

-- What serves a field of the set serves it by the dictionary's own length.
pub serves_here : (set : Set) (l : Limits) (m : Machine) (f : FieldData) → IsSupplied set l m → Serves set.entries (slots_terms m.slots) f
    → Serves (length (slots_dictionary m.slots)) (slots_terms m.slots) f
serves_here set l m f h i = subst (λ n. Serves n (slots_terms m.slots) f) (sym (entries_here set l m h)) i

-- A field's entry is one of the dictionary.
pub entry_here : (set : Set) (l : Limits) (m : Machine) (f : FieldData) → IsSupplied set l m → Serves set.entries (slots_terms m.slots) f
    → (e : ℕ) → f.entry ≡ Some e → e < length (slots_dictionary m.slots)
entry_here set l m f h i = (serves_here set l m f h i).within

-- The numbers behind the first one are below the limit as well.
pub below_behind : (limit : ℕ) (ns : List ℕ) → AreBelow limit ns → AreBelow limit (drop 1 ns)
below_behind limit [] h = h
below_behind limit (n ∷ ns) h = λ k below. h (suc k) (omega (arith, below))

-- What is left behind an instruction nests no deeper.
pub nested_behind : (set : Set) (ns : List ℕ) → body_depth (body_in set (drop 1 ns)) ≤ body_depth (body_in set ns)
nested_behind set [] = omega arith
nested_behind set (n ∷ ns) = le-max_right _ (body_depth (body_in set ns))

-- Past an instruction the cursor is placed as well.
pub placed_past : (set : Set) (c c' : CursorData) → IsPlaced set c → IsPast c c' → IsPlaced set c'
placed_past set c c' h i = rw i.same (record {
  below = below_behind (length set.nodes) c.left h.below;
  nested = let less = nested_behind set c.left in let all = h.nested in omega (arith, less, all);
  frames = h.frames;
})

-- Behind a turn that leaves the map and takes no byte the machine can take the next one.
pub can_turn_past : (set : Set) (l : Limits) (m m' : Machine) → CanTurn set l m → IsLike m m' → m'.counted ≤ l.max_total
    → IsPast m.cursor m'.cursor → CanTurn set l m'
can_turn_past set l m m' h i counted past = record {
  supplied = supplied_like set l m m' h.supplied i counted;
  placed = placed_past set m.cursor m'.cursor h.placed past;
  mapped = rw past.same h.mapped;
}

-- The machine goes on, where its turn is no end.
pub goes_on_past : (set : Set) (l : Limits) (m m' : Machine) (result : Result Turn FaultCode) → CanTurn set l m → IsLike m m'
    → m'.counted ≤ l.max_total
    → OnOk result (IsPast m.cursor m'.cursor) → result ≢ Ok TurnWaits → GoesOn set l m' result
goes_on_past set l m m' (Ok Silent) h i counted past on = can_turn_past set l m m' h i counted past
goes_on_past set l m m' (Ok Handed) h i counted past on = can_turn_past set l m m' h i counted past
goes_on_past set l m m' (Ok TurnWaits) h i counted past on = absurd (on refl)
goes_on_past set l m m' (Err c) h i counted past on = tt

module _ {S : Type 0} (takes stops : S → EventData → S → Type 0) (set : Set) (l : Limits) where
  -- A turn at whose end the machine waits, and has the same to read.
  pub turn_waits : (r : Reader Dictionary) (s : S) (m' : Machine) → r ≡ meaning set l m' → Waits r → IsReady set l m'
      → IsTurn takes stops set l r s (Ok TurnWaits) s m'
  turn_waits r s m' e h ready = record {
    moves = moves_waits takes stops (turning set l m') s e h;
    supplied = ready.supplied;
    goes_on = ready;
  }

  -- A turn at whose end the reader stops.
  pub turn_fault : (r : Reader Dictionary) (s : S) (c : Code) (m' : Machine) → r ≡ Stop c → IsSupplied set l m'
      → IsTurn takes stops set l r s (Err (Why.Stream c)) s m'
  turn_fault r s c m' e supplied = record {
    moves = moves_fault takes stops (turning set l m') (meaning set l m') s e;
    supplied = supplied;
    goes_on = tt;
  }

  -- A turn past the next instruction.
  pub turn_past : (r p : Reader Dictionary) (s : S) (result : Result Turn FaultCode) (s' : S) (m m' : Machine) → r ≡ p
      → Moves takes stops p s result s' (turning set l m') (meaning set l m') → CanTurn set l m → IsLike m m' → m'.counted ≤ l.max_total
      → OnOk result (IsPast m.cursor m'.cursor) → result ≢ Ok TurnWaits → IsTurn takes stops set l r s result s' m'
  turn_past r p s result s' m m' e moves h i counted past on = record {
    moves = moves_as takes stops (turning set l m') (meaning set l m') s result s' e moves;
    supplied = supplied_like set l m m' h.supplied i counted;
    goes_on = goes_on_past set l m m' result h i counted past on;
  }

-- A machine that waits for a field, none of whose bytes is there, has all of the next instruction to read.
pub meaning_field : (set : Set) (l : Limits) (m : Machine) → m.waiting ≡ Field → m.carry.bytes.text ≡ [] → meaning set l m ≡ turning set l m
meaning_field set l m e i = ap (λ w. meaning_at w set l m) e ∙ ap (λ front. after_bytes (turning set l m) front) i

-- So has one that waits for a mantissa, from there on.
pub meaning_mantissa : (set : Set) (l : Limits) (m : Machine) (x : ℤ) → m.waiting ≡ Mantissa x → m.carry.bytes.text ≡ []
    → meaning set l m ≡ reader_of l.strict (mantissa_then (bounds l) (frames_in set m.cursor.frames) (body_in set m.cursor.left)
    (state_in (slots_dictionary m.slots) m.counted m.cursor) x)
meaning_mantissa set l m x e i = ap (λ w. meaning_at w set l m) e
    ∙ ap (λ front. after_bytes (reader_of l.strict (term_at (Mantissa x) set (bounds l) m)) front) i

-- A machine with no byte of an integer in hand is ready, if it can take the unit that it waits for.
pub ready_at : (set : Set) (l : Limits) (m : Machine) (w : Waiting) → IsSupplied set l m → m.waiting ≡ w → CanTake w set l m → IsReady set l m
ready_at set l m w supplied e h = record {
  supplied = supplied;
  takes = subst (λ (x : Waiting). CanTake x set l m) (sym e) h;
}

-- the state of a machine
abbrev pub state_of : Machine → State
state_of m = state_in (slots_dictionary m.slots) m.counted m.cursor

-- what is read behind the next instruction
abbrev pub behind : Set → Limits → Machine → State → Grammar Dictionary
behind set l m = resume (bounds l) (frames_in set m.cursor.frames) (body_in set (drop 1 m.cursor.left))

-- what is to be read, where the next instruction is a field, and where it is a decimal by parts
pub field_next : (set : Set) (l : Limits) (m : Machine) (n : ℕ) (f : FieldData) → IsAtField set m.cursor n f
    → turning set l m ≡ reader_of l.strict (field_in (bounds l) f (state_of m) >>= (λ r. handed_then n (behind set l m) r.0 r.1))
field_next set l m n f (at, number, some, e) =
    ap (λ b. reader_of l.strict (resume (bounds l) (frames_in set m.cursor.frames) b (state_of m))) e
    ∙ ap (reader_of l.strict) (at_field (bounds l) (frames_in set m.cursor.frames) at f (body_in set (drop 1 m.cursor.left)) (state_of m))
    ∙ ap (λ k. reader_of l.strict (field_in (bounds l) f (state_of m) >>= (λ r. handed_then k (behind set l m) r.0 r.1))) number

pub parts_next : (set : Set) (l : Limits) (m : Machine) (n : ℕ) (e f : FieldData) → IsAtParts set m.cursor n e f
    → turning set l m ≡ reader_of l.strict (field_in (bounds l) e (state_of m) >>= mantissa_after_then (bounds l) n f (behind set l m))
unfolding resume body_then instruction_then
parts_next set l m n e f (at, number, some, i) =
    ap (λ b. reader_of l.strict (resume (bounds l) (frames_in set m.cursor.frames) b (state_of m))) i
    ∙ ap (λ k. reader_of l.strict (field_in (bounds l) e (state_of m) >>= mantissa_after_then (bounds l) k f (behind set l m))) number

-- what is read of a decimal by parts from its mantissa on
abbrev pub mantissa_from : Set → Limits → Machine → ℤ → Reader Dictionary
mantissa_from set l m x = reader_of l.strict (mantissa_then (bounds l) (frames_in set m.cursor.frames) (body_in set m.cursor.left) (state_of m) x)

-- The mantissa of a decimal by parts is next.
pub mantissa_next : (set : Set) (l : Limits) (m : Machine) (n : ℕ) (e f : FieldData) (x : ℤ) → IsAtParts set m.cursor n e f
    → mantissa_from set l m x ≡ reader_of l.strict (field_in (bounds l) f (state_of m) >>= (λ r. handed_then n (behind set l m) (decimal_with x r.0) r.1))
mantissa_next set l m n e f x (at, number, some, i) =
    ap (λ b. reader_of l.strict (mantissa_then (bounds l) (frames_in set m.cursor.frames) b (state_of m) x)) i
    ∙ ap (λ k. reader_of l.strict (field_in (bounds l) f (state_of m) >>= (λ r. handed_then k (behind set l m) (decimal_with x r.0) r.1))) number

-- A machine that has used the bit of a field stands behind it.
pub state_used : (m m' : Machine) (f : FieldData) → bits_left m'.cursor
    ≡ (if uses_bit f then later_bits (bits_left m.cursor) else bits_left m.cursor) → m' ≡ record m {
      cursor = record m.cursor { used = m'.cursor.used; ends = m'.cursor.ends };
    }
    → state_of m' ≡ state_past f (slots_dictionary m.slots) m.counted m.cursor
state_used m m' f bits same =
    ap (λ (x : Machine). record { context = record { dictionary = slots_dictionary x.slots; counted = x.counted }; bits = bits_left m'.cursor }) same
    ∙ ap (λ b. record { context = record { dictionary = slots_dictionary m.slots; counted = m.counted }; bits = b }) bits

-- It is at the same instruction.
pub parts_used : (set : Set) (m m' : Machine) (n : ℕ) (e f : FieldData) → IsAtParts set m.cursor n e f → m' ≡ record m {
  cursor = record m.cursor { used = m'.cursor.used; ends = m'.cursor.ends };
} → IsAtParts set m'.cursor n e f
parts_used set m m' n e f h same = subst (λ (x : Machine). IsAtParts set x.cursor n e f) (sym same) h

-- An exponent in the range is followed by the mantissa.
mantissa_behind : (s : Bool) (l : Bounds) (n : ℕ) (f : FieldData) (k : State → Grammar Dictionary) (v : Option ScalarData) (st : State)
    (x z : ℤ) → option_map integer_of v ≡ Some x → ranged exponent_range R1 x ≡ Ok z
    → reader_of s (mantissa_after_then l n f k (v, st)) ≡ reader_of s (field_in l f st >>= (λ r. handed_then n k (decimal_with z r.0) r.1))
mantissa_behind s l n f k None st x z e i = absurd (cc e)
mantissa_behind s l n f k (Some w) st x z e i =
    let same : integer_of w ≡ x = cc e in
    result_done s (ranged exponent_range R1 (integer_of w)) (λ y. field_in l f st >>= (λ r. handed_then n k (decimal_with y r.0) r.1))
    (ap (ranged exponent_range R1) same ∙ i)

pub exponent_there : (set : Set) (l : Limits) (m m' : Machine) (n : ℕ) (e f : FieldData) (v : Option ScalarData) (x z : ℤ)
    → bits_left m'.cursor ≡ (if uses_bit e then later_bits (bits_left m.cursor) else bits_left m.cursor) → m' ≡ record m {
      cursor = record m.cursor { used = m'.cursor.used; ends = m'.cursor.ends };
    }
    → IsAtParts set m.cursor n e f → option_map integer_of v ≡ Some x → ranged exponent_range R1 x ≡ Ok z
    → reader_of l.strict (exponent_then set (bounds l) n v e f (slots_dictionary m.slots) m.counted m.cursor) ≡ mantissa_from set l m' z
exponent_there set l m m' n e f v x z bits same next known inside =
    ap (λ st. reader_of l.strict (mantissa_after_then (bounds l) n f (behind set l m) (v, st))) (sym (state_used m m' e bits same))
    ∙ ap (λ k. reader_of l.strict (mantissa_after_then (bounds l) n f k (v, state_of m'))) (sym (ap (behind set l) same))
    ∙ mantissa_behind l.strict (bounds l) n f (behind set l m') v (state_of m') x z known inside
    ∙ sym (mantissa_next set l m' n e f z (parts_used set m m' n e f next same))

-- An exponent outside its range ends the message.
pub exponent_wrong : (set : Set) (l : Limits) (m : Machine) (n : ℕ) (e f : FieldData) (v : Option ScalarData) (x : ℤ) (c : Code)
    → option_map integer_of v ≡ Some x → ranged exponent_range R1 x ≡ Err c
    → reader_of l.strict (exponent_then set (bounds l) n v e f (slots_dictionary m.slots) m.counted m.cursor) ≡ Stop c
exponent_wrong set l m n e f None x c known wrong = absurd (cc known)
exponent_wrong set l m n e f (Some w) x c known wrong =
    let same : integer_of w ≡ x = cc known in
    rw (same, wrong) refl

-- Without an exponent there is no mantissa.
pub exponent_absent : (set : Set) (l : Limits) (m : Machine) (n : ℕ) (e f : FieldData) (v : Option ScalarData) → option_map integer_of v ≡ None
    → reader_of l.strict (exponent_then set (bounds l) n v e f (slots_dictionary m.slots) m.counted m.cursor) ≡ reader_of l.strict
    (behind set l m (state_past e (slots_dictionary m.slots) m.counted m.cursor))
exponent_absent set l m n e f None h = refl
exponent_absent set l m n e f (Some w) h = absurd (cc h)

-- A term that is the same for the next bit as for a set one is so for the presence bit, which is set where none is used.
with_bit : {A : Type 0} (uses bit : Bool) (term : Bool → A) → term bit ≡ term true → term (if uses then bit else true) ≡ term true
with_bit true bit term e = e
with_bit false bit term e = refl

-- A field that stands in the stream by the next bit.
pub sent_next : (f : FieldData) (bit : Bool) (st : State) → bit ≡ first_bit st.bits → f.operator ≢ Constant
    → ((l : Bounds) (p : PreviousData) → field_term l f p bit ≡ field_term l f p true) → IsSent f (bit_of f st)
sent_next f bit st e varies sent = record {
  varies = varies;
  as_sent = λ l p. with_bit (uses_bit f) (first_bit st.bits) (field_term l f p) (ap (field_term l f p) (sym e) ∙ sent l p);
}

-- A field that stands in the stream at a machine.
pub sent_here : (f : FieldData) (bit : Bool) (st : State) → bit ≡ bit_of f st → f.operator ≢ Constant
    → ((l : Bounds) (p : PreviousData) → field_term l f p bit ≡ field_term l f p true) → IsSent f (bit_of f st)
sent_here f bit st e varies sent = record { varies = varies; as_sent = λ l p. ap (field_term l f p) (sym e) ∙ sent l p }

-- Nothing is sent of a field, and its value stands at a source: what is read behind it.
pub field_known : {A : Type 0} (s : Bool) (l : Bounds) (f : FieldData) (bit : Bool) (old new : Dictionary) (counted : ℕ) (c : CursorData)
    (k : Found → Grammar A) (source : ValueSource) (scratch piece : List ℕ)
    → bit ≡ bit_of f (state_in old counted c)
    → field_term l f (previous_at f.entry old) bit ≡ of_result (decide f (previous_at f.entry old) bit nothing)
    → IsDecided (decide f (previous_at f.entry old) bit nothing) f old new (Ok source)
    → reader_of s (field_in l f (state_in old counted c) >>= k) ≡ reader_of s (k (value_at source f new scratch piece, state_past f new counted c))
field_known s l f bit old new counted c k source scratch piece e unsent (o, decided, stands) =
    let st : State = state_in old counted c in
    let p = previous_at f.entry old in
    let settled = stands scratch piece in
    let same : bit_of f st ≡ bit = sym e in
    field_unsent s l f st k o
    (subst (λ (b : Bool). field_term l f p b ≡ of_result (decide f p b nothing)) e unsent)
    (subst (λ (b : Bool). decide f p b nothing ≡ Ok o) e decided)
    ∙ ap (λ r. reader_of s (k r)) (λ i. (
      settled.value i,
      record {
        context = record { dictionary = sym settled.dictionary i; counted = counted };
        bits = if uses_bit f then later_bits (bits_left c) else bits_left c;
      },
    ))

-- Nothing is sent of a field, and a fault is decided.
pub field_wrong : {A : Type 0} (s : Bool) (l : Bounds) (f : FieldData) (bit : Bool) (st : State) (k : Found → Grammar A) (c : Code)
    → bit ≡ bit_of f st
    → field_term l f (previous_at f.entry st.context.dictionary) bit ≡ of_result (decide f (previous_at f.entry st.context.dictionary) bit nothing)
    → decide f (previous_at f.entry st.context.dictionary) bit nothing ≡ Err c
    → reader_of s (field_in l f st >>= k) ≡ Stop c
field_wrong s l f bit st k c e unsent decided =
    let p = previous_at f.entry st.context.dictionary in
    field_at_fault s l f st k c
    (subst (λ (b : Bool). field_term l f p b ≡ of_result (decide f p b nothing)) e unsent)
    (subst (λ (b : Bool). decide f p b nothing ≡ Err c) e decided)

-- A machine that waits, with other bytes carried, has all that it had.
pub can_turn_waits : (set : Set) (l : Limits) (m : Machine) (w : Waiting) (c : Carry) → CanTurn set l m → c.bytes.capacity ≡ m.carry.bytes.capacity
    → CanTurn set l (record m {
      waiting = w;
      carry = c;
    })
can_turn_waits set l m w c h room = record {
  supplied = supplied_like set l m (record m {
    waiting = w;
    carry = c;
  }) h.supplied (record { terms = refl; carry = room; text = refl; identifier = refl; rests = refl; latest = refl }) h.supplied.counted;
  placed = h.placed;
  mapped = h.mapped;
}

-- So has one with other values in the slots.
pub can_turn_slots : (set : Set) (l : Limits) (m : Machine) (slots : Slots) → CanTurn set l m → slots_terms slots ≡ slots_terms m.slots
    → CanTurn set l (record m { slots = slots })
can_turn_slots set l m slots h terms = record {
  supplied = supplied_like set l m (record m { slots = slots }) h.supplied
      (record { terms = terms; carry = refl; text = refl; identifier = refl; rests = refl; latest = refl }) h.supplied.counted;
  placed = h.placed;
  mapped = h.mapped;
}

-- So has one that has used a bit.
pub used_by : (set : Set) (l : Limits) (m : Machine) (u v : ℕ) → CanTurn set l m → CanTurn set l (record m { cursor = record m.cursor { used = u; ends = v } })
used_by set l m u v h = record {
  supplied = supplied_like set l m (record m {
    cursor = record m.cursor { used = u; ends = v };
  }) h.supplied (record { terms = refl; carry = refl; text = refl; identifier = refl; rests = refl; latest = refl }) h.supplied.counted;
  placed = record { below = h.placed.below; nested = h.placed.nested; frames = h.placed.frames };
  mapped = h.mapped;
}

pub can_turn_used : (set : Set) (l : Limits) (m m' : Machine) → CanTurn set l m → m' ≡ record m {
  cursor = record m.cursor { used = m'.cursor.used; ends = m'.cursor.ends };
} → CanTurn set l m'
can_turn_used set l m m' h same = subst (λ (x : Machine). CanTurn set l x) (sym same) (used_by set l m m'.cursor.used m'.cursor.ends h)

-- Other values in the slots serve a field as well.
pub serves_known : (set : Set) (m : Machine) (slots : Slots) (f : FieldData) → slots_terms slots ≡ slots_terms m.slots
    → Serves set.entries (slots_terms m.slots) f → Serves set.entries (slots_terms slots) f
serves_known set m slots f terms serves = subst (λ (t : Terms). Serves set.entries t f) (sym terms) serves

-- A field's entry is one of the dictionary, whatever the slots then hold.
pub entry_known : (set : Set) (l : Limits) (m : Machine) (slots : Slots) (f : FieldData) → CanTurn set l m
    → slots_terms slots ≡ slots_terms m.slots → Serves set.entries (slots_terms m.slots) f → (e : ℕ) → f.entry ≡ Some e
    → e < length (slots_dictionary slots)
entry_known set l m slots f h terms serves =
    entry_here set l (record m { slots = slots }) f (can_turn_slots set l m slots h terms).supplied (serves_known set m slots f terms serves)

-- A machine whose cursor alone has moved keeps what it was made with.
pub like_moved : (m m' : Machine) → m' ≡ record m { cursor = m'.cursor } → resting m'.cursor ≡ resting m.cursor → IsLike m m'
like_moved m m' same rests = record {
  terms = ap (λ x. slots_terms x.slots) same;
  carry = ap (λ x. x.carry.bytes.capacity) same;
  text = ap (λ x. x.text.capacity) same;
  identifier = ap (λ x. x.identifier) same;
  rests = rests;
  latest = ap (λ x. x.latest) same;
}

module _ {S : Type 0} (takes stops : S → EventData → S → Type 0) (set : Set) (l : Limits) where
  -- A turn that moves the cursor past the next instruction.
  pub turn_moved : (r p : Reader Dictionary) (s : S) (result : Result Turn FaultCode) (s' : S) (m m' : Machine) → r ≡ p
      → Moves takes stops p s result s' (turning set l m') (meaning set l m') → CanTurn set l m → m' ≡ record m { cursor = m'.cursor }
      → resting m'.cursor ≡ resting m.cursor
      → OnOk result (IsPast m.cursor m'.cursor) → result ≢ Ok TurnWaits → IsTurn takes stops set l r s result s' m'
  turn_moved r p s result s' m m' e moves h same rests past on =
      turn_past takes stops set l r p s result s' m m' e moves h (like_moved m m' same rests)
      (rw (ap (λ x. x.counted) same) h.supplied.counted) past on

  -- The machine waits for a field, with which the next instruction begins.
  pub turn_field : (s : S) (m : Machine) → CanTurn set l m → m.waiting ≡ Field → m.carry.bytes.text ≡ []
      → BeginsWithField l (body_in set m.cursor.left) (state_of m) m.carry → Waits (turning set l m)
      → IsTurn takes stops set l (turning set l m) s (Ok TurnWaits) s m
  turn_field s m h waiting none begins waits = turn_waits takes stops set l (turning set l m) s m
      (sym (meaning_field set l m waiting none)) waits (ready_at set l m Field h.supplied waiting (h.placed, h.mapped, begins))

  -- The machine waits for a mantissa.
  pub turn_mantissa : (s : S) (m : Machine) (x : ℤ) (r : Reader Dictionary) → CanTurn set l m → m.waiting ≡ Mantissa x
      → m.carry.bytes.text ≡ [] → GoesOnWithMantissa l (body_in set m.cursor.left) (state_of m) m.carry
      → r ≡ reader_of l.strict (mantissa_then (bounds l) (frames_in set m.cursor.frames) (body_in set m.cursor.left) (state_of m) x)
      → Waits r → IsTurn takes stops set l r s (Ok TurnWaits) s m
  turn_mantissa s m x r h waiting none begins e waits = turn_waits takes stops set l r s m
      (e ∙ sym (meaning_mantissa set l m x waiting none)) waits
      (ready_at set l m (Mantissa x) h.supplied waiting (h.placed, h.mapped, begins))

  -- The machine begins to wait for a field, with which the next instruction begins.
  pub field_begins : (s : S) (m m' : Machine) → CanTurn set l m → m' ≡ record m { waiting = Field; carry = m'.carry }
      → m'.carry.bytes.capacity ≡ m.carry.bytes.capacity → m'.carry.bytes.text ≡ []
      → BeginsWithField l (body_in set m.cursor.left) (state_of m) m'.carry → Waits (turning set l m)
      → IsTurn takes stops set l (turning set l m) s (Ok TurnWaits) s m'
  field_begins s m m' h same room none begins waits =
      subst (λ (x : Machine). IsTurn takes stops set l (turning set l m) s (Ok TurnWaits) s x) (sym same)
      (turn_field s (record m { waiting = Field; carry = m'.carry }) (can_turn_waits set l m Field m'.carry h room) refl none begins waits)

  -- A field is next that stands in the stream.
  pub field_waits : (s : S) (m m' : Machine) (n : ℕ) (f : FieldData) → CanTurn set l m → IsAtField set m.cursor n f → IsSent f (bit_of f (state_of m))
      → m' ≡ record m { waiting = Field; carry = m'.carry } → m'.carry.bytes.capacity ≡ m.carry.bytes.capacity → m'.carry.bytes.text ≡ []
      → IsCarried l (first_reader l f (slots_dictionary m.slots)) m'.carry → IsTurn takes stops set l (turning set l m) s (Ok TurnWaits) s m'
  field_waits s m m' n f h next sent same room none carried =
      field_begins s m m' h same room none (subst (λ (b : Body). BeginsWithField l b (state_of m) m'.carry) (sym next.3) (sent, carried))
      (subst Waits (sym (field_next set l m n f next)) (field_sent_waits l.strict (bounds l) f (state_of m)
      (λ r. handed_then n (behind set l m) r.0 r.1) sent))

  -- The mantissa of a decimal by parts stands in the stream: the machine waits for it.
  pub mantissa_waits : (s : S) (m : Machine) (n : ℕ) (e f : FieldData) (x y : ℤ) (c : Carry) → y ≡ x → CanTurn set l m → IsAtParts set m.cursor n e f
      → IsSent f (bit_of f (state_of m)) → c.bytes.capacity ≡ m.carry.bytes.capacity → c.bytes.text ≡ []
      → IsCarried l (first_reader l f (slots_dictionary m.slots)) c
      → IsTurn takes stops set l (mantissa_from set l m x) s (Ok TurnWaits) s (record m { waiting = Mantissa y; carry = c })
  mantissa_waits s m n e f x y c same h next sent room none carried =
      turn_mantissa s (record m { waiting = Mantissa y; carry = c }) y (mantissa_from set l m x) (can_turn_waits set l m (Mantissa y) c h room) refl none
      (subst (λ (b : Body). GoesOnWithMantissa l b (state_of m) c) (sym next.3) (sent, carried)) (ap (mantissa_from set l m) (sym same))
      (subst Waits (sym (mantissa_next set l m n e f x next))
      (field_sent_waits l.strict (bounds l) f (state_of m) (λ r. handed_then n (behind set l m) (decimal_with x r.0) r.1) sent))

  -- A decimal by parts is next, whose exponent stands in the stream: the machine waits for it.
  pub exponent_waits : (s : S) (m m' : Machine) (n : ℕ) (e f : FieldData) → CanTurn set l m → IsAtParts set m.cursor n e f → IsSent e (bit_of e (state_of m))
      → m' ≡ record m { waiting = Field; carry = m'.carry } → m'.carry.bytes.capacity ≡ m.carry.bytes.capacity → m'.carry.bytes.text ≡ []
      → IsCarried l (first_reader l e (slots_dictionary m.slots)) m'.carry → IsTurn takes stops set l (turning set l m) s (Ok TurnWaits) s m'
  exponent_waits s m m' n e f h next sent same room none carried =
      field_begins s m m' h same room none (subst (λ (b : Body). BeginsWithField l b (state_of m) m'.carry) (sym next.3) (sent, carried))
      (subst Waits (sym (parts_next set l m n e f next)) (field_sent_waits l.strict (bounds l) e (state_of m)
      (mantissa_after_then (bounds l) n f (behind set l m)) sent))

  -- The same turn by another name of what is to be read.
  pub turn_as : (r r' : Reader Dictionary) (s : S) (result : Result Turn FaultCode) (s' : S) (m' : Machine) → r ≡ r'
      → IsTurn takes stops set l r' s result s' m' → IsTurn takes stops set l r s result s' m'
  turn_as r r' s result s' m' e h = subst (λ (q : Reader Dictionary). IsTurn takes stops set l q s result s' m') (sym e) h

  -- Nothing is handed over, and the cursor is past the next instruction.
  silent_by : (s : S) (m : Machine) (u v : ℕ) (f : FieldData) (r : Reader Dictionary) → CanTurn set l m
      → bits_behind m.cursor.map u ≡ (if uses_bit f then later_bits (bits_left m.cursor) else bits_left m.cursor)
      → r ≡ reader_of l.strict (behind set l m (state_past f (slots_dictionary m.slots) m.counted m.cursor))
      → IsTurn takes stops set l r s (Ok Silent) s (record m { cursor = record m.cursor { left = drop 1 m.cursor.left; used = u; ends = v } })
  silent_by s m u v f r h bits e =
      let m' : Machine = record m { cursor = record m.cursor { left = drop 1 m.cursor.left; used = u; ends = v } } in
      turn_moved r r s (Ok Silent) s m m' refl (
        e ∙ ap (λ b. reader_of l.strict (behind set l m (record {
          context = record { dictionary = slots_dictionary m.slots; counted = m.counted };
          bits = b;
        }))) (sym bits),
        refl,
      ) h refl refl (record { same = refl }) (λ i. absurd (cc i))

  -- The same, first by the bit and then by the instruction.
  pub turn_silent : (s : S) (m m1 : Machine) (c : CursorData) (f : FieldData) (r : Reader Dictionary) → CanTurn set l m
      → bits_left m1.cursor ≡ (if uses_bit f then later_bits (bits_left m.cursor) else bits_left m.cursor) → m1 ≡ record m {
        cursor = record m.cursor { used = m1.cursor.used; ends = m1.cursor.ends };
      } → c ≡ record m1.cursor { left = drop 1 m1.cursor.left }
      → r ≡ reader_of l.strict (behind set l m (state_past f (slots_dictionary m.slots) m.counted m.cursor))
      → IsTurn takes stops set l r s (Ok Silent) s (record m1 { cursor = c })
  turn_silent s m m1 c f r h bits same moved e =
      let all : record m1 { cursor = c } ≡ record m { cursor = record m.cursor { left = drop 1 m.cursor.left; used = m1.cursor.used; ends = m1.cursor.ends } } =
      ap (λ (x : CursorData). record m1 { cursor = x }) moved
      ∙ ap (λ (x : Machine). record x { cursor = record x.cursor { left = drop 1 x.cursor.left } }) same in
      subst (λ (x : Machine). IsTurn takes stops set l r s (Ok Silent) s x) (sym all)
      (silent_by s m m1.cursor.used m1.cursor.ends f r h (sym (ap (λ (x : Machine). bits_left x.cursor) same) ∙ bits) e)

-- A machine whose cursor alone has moved is still supplied.
pub supplied_moved : (set : Set) (l : Limits) (m a : Machine) → IsSupplied set l m → a ≡ record m { cursor = a.cursor }
    → resting a.cursor ≡ resting m.cursor → IsSupplied set l a
supplied_moved set l m a h same depth = supplied_like set l m a h (like_moved m a same depth)
    (subst (λ (x : Machine). x.counted ≤ l.max_total) (sym same) h.counted)

-- It goes on, where its turn is no end.
pub goes_on_moved : (set : Set) (l : Limits) (m a : Machine) (result : Result Turn FaultCode) → CanTurn set l m
    → a ≡ record m { cursor = a.cursor } → resting a.cursor ≡ resting m.cursor
    → OnOk result (IsPast m.cursor a.cursor) → result ≢ Ok TurnWaits → GoesOn set l a result
goes_on_moved set l m a result h same depth past on =
    goes_on_past set l m a result h (like_moved m a same depth)
    (subst (λ (x : Machine). x.counted ≤ l.max_total) (sym same) h.supplied.counted) past on
