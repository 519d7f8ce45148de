-- A machine that takes a field: the next instruction, both parts of a decimal, and the length of a sequence.
use Rattle.std.proofs.Common.{refl, sym, ap, ◌∙◌, subst, arith}
use Rattle.std.proofs.lemmas.List.{drop-take}
use Rattle.std.specs.Prelude.{◌≡◌, ℕ, ◌-◌, ◌<◌, ◌≤◌, List, [], ◌++◌, length, take, drop, ℤ, Option, Some, Result, Ok, Err}
use Rattle.fast_value.specs.declared.codes.Code.{Code}
use Rattle.fast_value.specs.declared.kinds.Kind.{Kind}
use Rattle.fast_value.specs.declared.kinds.Kind.TheVariants.{UInt32, Int32, UInt64, Int64, Decimal, Ascii, Unicode, Bytes}
use Rattle.fast_value.specs.declared.settings.Limits.{Limits}
use Rattle.fast_value.specs.meaning.Kinds.{ScalarData, AsciiText, UnicodeText, ByteVector, value_of_text}
use Rattle.fast_value.specs.meaning.Limits.{Bounds, bounds}
use Rattle.fast_tree.specs.meaning.Tree.{FieldData, Body}
use Rattle.fast_dict.specs.meaning.Dictionary.{Dictionary}
use Rattle.fast_dict.specs.meaning.Operators.{Outcome}
use Rattle.fast_dict.specs.meaning.Slots.{slots_dictionary, slots_terms}
use Rattle.fast_dict.specs.declared.slots.Slots.{Slots}
use Rattle.fast_stream.specs.meaning.Events.{EventData}
use Rattle.fast_stream.specs.device.Readers.{Reader, bind}
use Rattle.fast_stream.specs.meaning.Grammar.{Grammar, ◌>>=◌}
use Rattle.fast_stream.specs.device.GrammarReaders.{reader_of}
use Rattle.fast_stream.specs.meaning.Messages.{State, Found, found, field_in, decimal_with}
use Rattle.fast_stream.specs.device.Continuations.{handed_then, mantissa_after_then, sequence_from_then, segment_then, body_then}
use Rattle.fast_stream.specs.device.Frames.{resume}
use Rattle.fast_stream.specs.device.Machine.{after_bytes}
use Rattle.fast_units.specs.device.Taking.{Turns, Stays}
use Rattle.fast_machine.specs.device.Handing.{IsTaken}
use Rattle.fast_units.specs.device.Settling.{IsSettled, value_at}
use Rattle.fast_units.specs.device.Scratches.{Held}
use Rattle.fast_units.specs.device.TextDecisions.{first_reader}
use Rattle.fast_units.specs.device.UnitFronts.{IsSent}
use Rattle.fast_fields.specs.declared.carry.Carry.{Carry}
use Rattle.fast_fields.specs.declared.reading.WholeField.{WholeField}
use Rattle.fast_fields.specs.device.Carries.{IsCarried, IsCarriedUnit}
use Rattle.fast_machine.specs.device.Passing.{state_past}
use Rattle.fast_machine.specs.device.Positions.{Set, tree_in, body_in, frames_in, state_in, bit_of, mantissa_then, meaning_at, meaning}
use Rattle.fast_machine.specs.device.Positions.{turning, IsSupplied, IsReady, IsAtField, IsAtParts, IsAtSequence, IsTurn, CanTurn, CanTake}
use Rattle.fast_machine.specs.device.Positions.{BeginsWithField, GoesOnWithMantissa}
use Rattle.fast_stream.specs.declared.faults.FaultCode.{FaultCode}
use Rattle.fast_stream.specs.declared.faults.FaultCode.TheVariants as Why
use Rattle.fast_units.specs.declared.source.ValueSource.{ValueSource}
use Rattle.fast_units.specs.declared.source.ValueSource.TheVariants as From
use Rattle.fast_units.specs.declared.progress.Progress.TheVariants.{Whole, Wrong}
use Rattle.fast_machine.specs.declared.machine.Machine.{Machine}
use Rattle.fast_machine.specs.declared.machine.Waiting.{Waiting}
use Rattle.fast_machine.specs.declared.machine.Waiting.TheVariants.{Field, Mantissa}
use Rattle.fast_machine.proofs.fields.SentFields.{field_sent}
use Rattle.fast_units.proofs.Turning.{turns_as, turns_done, turns_stop, stays_on, stays_as}
use Rattle.fast_machine.specs.device.UnitTaken.{IsTakenTo}
use Rattle.fast_machine.specs.declared.machine.Turn.{Turn}
use Rattle.fast_machine.proofs.machines.UnitTaken.{taken_to}
use Rattle.fast_machine.proofs.units.Takes.{taken_fault, taken_stays}
use Rattle.fast_machine.proofs.steps.FieldTurns.{state_of, behind, mantissa_from, supplied_like, field_next}

-- the bytes between two places
pub bytes_between : (a b : ℕ) (w : List ℕ) → a ≤ b → take (b - a) (drop a w) ≡ drop a (take b w)
bytes_between a b w within = sym (drop-take a (b - a) w) ∙ ap (λ k. drop a (take k w)) (omega (arith, within))

-- What sees of a value only its integer sees no bytes of a text.
pub by_source : {X : Type 0} (g : Option ScalarData → X) → ((kind : Kind) (piece : List ℕ) → g (Some (value_of_text kind piece)) ≡ g (Some (value_of_text kind
    [])))
    → (source : ValueSource) (f : FieldData) (d : Dictionary) (scratch piece : List ℕ)
    → g (value_at source f d scratch piece) ≡ g (value_at source f d scratch [])
by_source g blind From.Absent f d scratch piece = refl
by_source g blind (From.Unsigned n) f d scratch piece = refl
by_source g blind (From.Signed n) f d scratch piece = refl
by_source g blind (From.Decimal e m) f d scratch piece = refl
by_source g blind From.Entry f d scratch piece = refl
by_source g blind From.Initial f d scratch piece = refl
by_source g blind From.Scratch f d scratch piece = refl
by_source g blind From.Piece f d scratch piece = blind f.kind piece

-- what sees no bytes of a text of any form
pub by_kind : {X : Type 0} (g : ScalarData → X) → ((w : List ℕ) → g (AsciiText w) ≡ g (AsciiText []))
    → ((w : List ℕ) → g (UnicodeText w) ≡ g (UnicodeText [])) → ((w : List ℕ) → g (ByteVector w) ≡ g (ByteVector []))
    → (kind : Kind) (piece : List ℕ) → g (value_of_text kind piece) ≡ g (value_of_text kind [])
by_kind g ascii unicode bytes UInt32 piece = ascii piece
by_kind g ascii unicode bytes Int32 piece = ascii piece
by_kind g ascii unicode bytes UInt64 piece = ascii piece
by_kind g ascii unicode bytes Int64 piece = ascii piece
by_kind g ascii unicode bytes Decimal piece = ascii piece
by_kind g ascii unicode bytes Ascii piece = ascii piece
by_kind g ascii unicode bytes Unicode piece = unicode piece
by_kind g ascii unicode bytes Bytes piece = bytes piece

-- what is read behind a field sees only the integer of its value
abbrev pub SeesInteger : (Found → Grammar Dictionary) → Type 0
SeesInteger k = (s : State) (kind : Kind) (piece : List ℕ) → k (Some (value_of_text kind piece), s) ≡ k (Some (value_of_text kind []), s)

pub exponent_sees : (l : Bounds) (n : ℕ) (f : FieldData) (k : State → Grammar Dictionary) → SeesInteger (mantissa_after_then l n f k)
exponent_sees l n f k s = by_kind (λ v. mantissa_after_then l n f k (Some v, s)) (λ w. refl) (λ w. refl) (λ w. refl)

pub mantissa_sees : (n : ℕ) (x : ℤ) (k : State → Grammar Dictionary) → SeesInteger (λ r. handed_then n k (decimal_with x r.0) r.1)
mantissa_sees n x k s = by_kind (λ v. handed_then n k (decimal_with x (Some v)) s) (λ w. refl) (λ w. refl) (λ w. refl)

pub length_sees : (l : Bounds) (n : ℕ) (body : Body) (k : State → Grammar Dictionary)
    → SeesInteger (sequence_from_then l n (segment_then body (body_then l body)) k)
length_sees l n body k s =
    by_kind (λ v. sequence_from_then l n (segment_then body (body_then l body)) k (Some v, s)) (λ w. refl) (λ w. refl) (λ w. refl)

-- what is read behind the next instruction, a field
abbrev pub behind_field : Set → Limits → Machine → FieldData → ℕ → Outcome → Grammar Dictionary
behind_field set l m f n o = handed_then n (behind set l m) (found f (state_of m) o).0 (found f (state_of m) o).1

-- A field that is in the stream, in front of what follows it.
pub field_here : (set : Set) (l : Limits) (m : Machine) (f : FieldData) (n : ℕ) → IsSent f (bit_of f (state_of m)) → IsAtField set m.cursor n f
    → turning set l m ≡ bind (first_reader l f (slots_dictionary m.slots)) (λ o. reader_of l.strict (behind_field set l m f n o))
field_here set l m f n sent at =
    field_next set l m n f at ∙ field_sent l.strict (bounds l) f (state_of m) (λ r. handed_then n (behind set l m) r.0 r.1) sent

-- From this reader on a field is read, of which some bytes are there, and then what follows it.
module _ {S : Type 0} (takes stops : S → EventData → S → Type 0) (set : Set) (l : Limits) (m : Machine) (f : FieldData)
    (k : Found → Grammar Dictionary) (r from : Reader Dictionary) (front rest : List ℕ)
    (sent : IsSent f (bit_of f (state_of m))) (next : r ≡ reader_of l.strict (field_in (bounds l) f (state_of m) >>= k))
    (is : from ≡ after_bytes r front) where
  -- the field
  abbrev unit : Reader Outcome
  unit = first_reader l f (slots_dictionary m.slots)

  here : r ≡ bind unit (λ o. reader_of l.strict (k (found f (state_of m) o)))
  here = next ∙ field_sent l.strict (bounds l) f (state_of m) k sent

  taken_as : (s : S) (b : ℕ) (o : Result Unit FaultCode) (s' : S) (to : Reader Dictionary)
      → IsTaken takes stops (tree_in set) l (after_bytes r front) rest s b o s' to
      → IsTaken takes stops (tree_in set) l from rest s b o s' to
  taken_as s b o s' to h = subst (λ (q : Reader Dictionary). IsTaken takes stops (tree_in set) l q rest s b o s' to) (sym is) h

  settled_as : (o : Outcome) (source : ValueSource) (new : Dictionary) (scratch piece : List ℕ)
      → IsSettled o f source (slots_dictionary m.slots) new scratch piece
      → k (found f (state_of m) o) ≡ k (value_at source f new scratch piece, state_past f new m.counted m.cursor)
  settled_as o source new scratch piece h = ap k (λ i. (
    h.value i,
    record {
      context = record { dictionary = sym h.dictionary i; counted = m.counted };
      bits = (state_past f new m.counted m.cursor).bits;
    },
  ))

  -- what follows the field, by the source of its value
  abbrev then_read : Slots → List ℕ → ValueSource → List ℕ → Reader Dictionary
  then_read s scratch source piece = reader_of l.strict (k (
    value_at source f (slots_dictionary s) scratch piece,
    state_past f (slots_dictionary s) m.counted m.cursor,
  ))

  -- The field is whole, and a turn is taken of what it decides.
  pub field_whole : (s : Slots) (scratch : List ℕ) (x : WholeField) (b : ℕ)
      → IsCarriedUnit unit f front rest (slots_dictionary m.slots) (slots_dictionary s) scratch (Whole x b)
      → (q : S) (o : Result Turn FaultCode) (q' : S) (a : Machine)
      → IsTurn takes stops set l (then_read s scratch x.source (drop x.from (front ++ take b rest))) q o q' a
      → IsTakenTo takes stops set l from rest q b o q' a
  field_whole s scratch x b (some, within, inside, size, gives) q o q' a turn =
      let piece = drop x.from (front ++ take b rest) in
      let turns : Turns r (front ++ take b rest) (then_read s scratch x.source piece) =
      turns_as here (sym (ap (reader_of l.strict) (settled_as gives.outcome x.source (slots_dictionary s) scratch piece gives.settled)))
      (turns_done (λ x. reader_of l.strict (k (found f (state_of m) x))) gives.turns) in
      subst (λ (p : Reader Dictionary). IsTakenTo takes stops set l p rest q b o q' a) (sym is)
      (taken_to takes stops set l r front rest b _ q o q' a some within turns turn)

  -- The same of an integer, which is in no bytes.
  pub integer_whole : SeesInteger k → (s : Slots) (scratch : List ℕ) (x : WholeField) (b : ℕ)
      → IsCarriedUnit unit f front rest (slots_dictionary m.slots) (slots_dictionary s) scratch (Whole x b)
      → (q : S) (o : Result Turn FaultCode) (q' : S) (a : Machine) → IsTurn takes stops set l (then_read s scratch x.source []) q o q' a
      → IsTakenTo takes stops set l from rest q b o q' a
  integer_whole sees s scratch x b h q o q' a turn =
      field_whole s scratch x b h q o q' a (subst (λ (p : Reader Dictionary). IsTurn takes stops set l p q o q' a)
      (sym (ap (reader_of l.strict) (by_source (λ v. k (v, state_past f (slots_dictionary s) m.counted m.cursor))
      (sees (state_past f (slots_dictionary s) m.counted m.cursor)) x.source f (slots_dictionary s) scratch (drop x.from (front ++ take b rest))))) turn)

  -- It is wrong.
  pub field_wrong : (new : Dictionary) (scratch : List ℕ) (c : Code) (b : ℕ)
      → IsCarriedUnit unit f front rest (slots_dictionary m.slots) new scratch (Wrong c b) → (q : S) (to : Reader Dictionary)
      → IsTaken takes stops (tree_in set) l from rest q b (Err (Why.Stream c)) q to
  field_wrong new scratch c b (some, within, turns) q to =
      taken_as q b (Err (Why.Stream c)) q to (taken_fault takes stops (tree_in set) l r front rest b c q to some within
      (turns_as here refl (turns_stop (λ x. reader_of l.strict (k (found f (state_of m) x))) turns)))

  -- It is cut.
  pub field_cut : (a : Machine) (c : Carry) → meaning set l a ≡ after_bytes r c.bytes.text → c.bytes.text ≡ front ++ rest
      → 0 < length rest → Stays unit (front ++ rest) → (q : S)
      → IsTaken takes stops (tree_in set) l from rest q (length rest) (Ok tt) q (meaning set l a)
  field_cut a c after held some stays q =
      taken_as q (length rest) (Ok tt) q (meaning set l a)
      (subst (λ (p : Reader Dictionary). IsTaken takes stops (tree_in set) l (after_bytes r front) rest q (length rest)
      (Ok tt) q p) (sym (after ∙ ap (after_bytes r) held))
      (taken_stays takes stops (tree_in set) l r front rest q some
      (stays_as here (stays_on (λ x. reader_of l.strict (k (found f (state_of m) x))) stays))))

-- What a machine has to read that waits for the field of an instruction, and for a mantissa.
pub meaning_first : (set : Set) (l : Limits) (m : Machine) → m.waiting ≡ Field → meaning set l m ≡ after_bytes (turning set l m) m.carry.bytes.text
meaning_first set l m e = ap (λ w. meaning_at w set l m) e

pub meaning_second : (set : Set) (l : Limits) (m : Machine) (x : ℤ) → m.waiting ≡ Mantissa x
    → meaning set l m ≡ after_bytes (mantissa_from set l m x) m.carry.bytes.text
meaning_second set l m x e = ap (λ w. meaning_at w set l m) e

-- the machine with other values, other bytes carried, and another text
abbrev pub with_field : Machine → Slots → Carry → Held → Machine
with_field m s c t = record m { slots = s; carry = c; text = t }

-- It is still supplied.
pub still_supplied : (set : Set) (l : Limits) (m : Machine) (s : Slots) (c : Carry) (t : Held) → slots_terms s ≡ slots_terms m.slots
    → c.bytes.capacity ≡ m.carry.bytes.capacity → t.capacity ≡ m.text.capacity → IsSupplied set l m → IsSupplied set l (with_field m s c t)
still_supplied set l m s c t terms carry text h =
    supplied_like set l m (with_field m s c t) h (record {
      terms = terms;
      carry = carry;
      text = text;
      identifier = refl;
      rests = refl;
      latest = refl;
    }) h.counted

module _ (set : Set) (l : Limits) (m : Machine) (s : Slots) (c : Carry) (t : Held) where
  -- With more bytes carried it has the same to read.
  pub first_cut : m.waiting ≡ Field → slots_dictionary s ≡ slots_dictionary m.slots
      → meaning set l (with_field m s c t) ≡ after_bytes (turning set l m) c.bytes.text
  first_cut is same = ap (λ w. meaning_at w set l (with_field m s c t)) is
      ∙ ap (λ (d : Dictionary). after_bytes (reader_of l.strict
      (resume (bounds l) (frames_in set m.cursor.frames) (body_in set m.cursor.left) (state_in d m.counted m.cursor))) c.bytes.text) same

  pub second_cut : (x : ℤ) → m.waiting ≡ Mantissa x → slots_dictionary s ≡ slots_dictionary m.slots
      → meaning set l (with_field m s c t) ≡ after_bytes (mantissa_from set l m x) c.bytes.text
  second_cut x is same = ap (λ w. meaning_at w set l (with_field m s c t)) is
      ∙ ap (λ (d : Dictionary). after_bytes (reader_of l.strict
      (mantissa_then (bounds l) (frames_in set m.cursor.frames) (body_in set m.cursor.left) (state_in d m.counted m.cursor) x))
      c.bytes.text) same

  module _ (ready : IsReady set l m) (terms : slots_terms s ≡ slots_terms m.slots) (room : c.bytes.capacity ≡ m.carry.bytes.capacity)
      (text : t.capacity ≡ m.text.capacity) where
    pub field_supplied : IsSupplied set l (with_field m s c t)
    field_supplied = still_supplied set l m s c t terms room text ready.supplied

    -- It is ready for more of the field that begins the next instruction.
    pub first_ready : m.waiting ≡ Field → slots_dictionary s ≡ slots_dictionary m.slots
        → BeginsWithField l (body_in set m.cursor.left) (state_of m) c → IsReady set l (with_field m s c t)
    first_ready is same begins =
        let can = subst (λ (w : Waiting). CanTake w set l m) is ready.takes in
        record {
          supplied = field_supplied;
          takes = subst (λ (w : Waiting). CanTake w set l (with_field m s c t)) (sym is)
              (can.0, can.1, subst (λ (d : Dictionary). BeginsWithField l (body_in set m.cursor.left) (state_in d m.counted m.cursor) c) (sym same) begins);
        }

    pub second_ready : (x : ℤ) → m.waiting ≡ Mantissa x → slots_dictionary s ≡ slots_dictionary m.slots
        → GoesOnWithMantissa l (body_in set m.cursor.left) (state_of m) c → IsReady set l (with_field m s c t)
    second_ready x is same begins =
        let can = subst (λ (w : Waiting). CanTake w set l m) is ready.takes in
        record {
          supplied = field_supplied;
          takes = subst (λ (w : Waiting). CanTake w set l (with_field m s c t)) (sym is)
              (can.0, can.1, subst (λ (d : Dictionary). GoesOnWithMantissa l (body_in set m.cursor.left) (state_in d m.counted m.cursor) c) (sym same) begins);
        }

    -- It can turn, once the field is whole.
    pub first_turn : m.waiting ≡ Field → CanTurn set l (with_field m s c t)
    first_turn is = let can = subst (λ (w : Waiting). CanTake w set l m) is ready.takes in record {
      supplied = field_supplied;
      placed = can.0;
      mapped = can.1;
    }

    pub second_turn : (x : ℤ) → m.waiting ≡ Mantissa x → CanTurn set l (with_field m s c t)
    second_turn x is = let can = subst (λ (w : Waiting). CanTake w set l m) is ready.takes in record {
      supplied = field_supplied;
      placed = can.0;
      mapped = can.1;
    }

-- The field, the exponent, the length and the mantissa stand in the stream, and these bytes of them are carried.
module _ (set : Set) (l : Limits) (m : Machine) (n : ℕ) (ready : IsReady set l m) where
  begins : m.waiting ≡ Field → BeginsWithField l (body_in set m.cursor.left) (state_of m) m.carry
  begins is = (subst (λ (w : Waiting). CanTake w set l m) is ready.takes).2

  pub field_begun : (f : FieldData) → m.waiting ≡ Field → IsAtField set m.cursor n f
      → IsSent f (bit_of f (state_of m)) × IsCarried l (first_reader l f (slots_dictionary m.slots)) m.carry
  field_begun f is (at, num, some, body) = subst (λ (b : Body). BeginsWithField l b (state_of m) m.carry) body (begins is)

  pub exponent_begun : (x f : FieldData) → m.waiting ≡ Field → IsAtParts set m.cursor n x f
      → IsSent x (bit_of x (state_of m)) × IsCarried l (first_reader l x (slots_dictionary m.slots)) m.carry
  exponent_begun x f is (at, num, some, body) = subst (λ (b : Body). BeginsWithField l b (state_of m) m.carry) body (begins is)

  pub length_begun : (f : FieldData) (inside : List ℕ) → m.waiting ≡ Field → IsAtSequence set m.cursor n f inside
      → IsSent f (bit_of f (state_of m)) × IsCarried l (first_reader l f (slots_dictionary m.slots)) m.carry
  length_begun f inside is (at, num, some, body) = subst (λ (b : Body). BeginsWithField l b (state_of m) m.carry) body (begins is)

  pub mantissa_begun : (x f : FieldData) (y : ℤ) → m.waiting ≡ Mantissa y → IsAtParts set m.cursor n x f
      → IsSent f (bit_of f (state_of m)) × IsCarried l (first_reader l f (slots_dictionary m.slots)) m.carry
  mantissa_begun x f y is (at, num, some, body) =
      subst (λ (b : Body). GoesOnWithMantissa l b (state_of m) m.carry) body (subst (λ (w : Waiting). CanTake w set l m) is ready.takes).2

  -- With more bytes of them it is so too.
  pub field_on : (f : FieldData) (c : Carry) → IsAtField set m.cursor n f → IsSent f (bit_of f (state_of m))
      → IsCarried l (first_reader l f (slots_dictionary m.slots)) c → BeginsWithField l (body_in set m.cursor.left) (state_of m) c
  field_on f c (at, num, some, body) sent carried = subst (λ (b : Body). BeginsWithField l b (state_of m) c) (sym body) (sent, carried)

  pub exponent_on : (x f : FieldData) (c : Carry) → IsAtParts set m.cursor n x f → IsSent x (bit_of x (state_of m))
      → IsCarried l (first_reader l x (slots_dictionary m.slots)) c → BeginsWithField l (body_in set m.cursor.left) (state_of m) c
  exponent_on x f c (at, num, some, body) sent carried = subst (λ (b : Body). BeginsWithField l b (state_of m) c) (sym body) (sent, carried)

  pub length_on : (f : FieldData) (inside : List ℕ) (c : Carry) → IsAtSequence set m.cursor n f inside → IsSent f (bit_of f (state_of m))
      → IsCarried l (first_reader l f (slots_dictionary m.slots)) c → BeginsWithField l (body_in set m.cursor.left) (state_of m) c
  length_on f inside c (at, num, some, body) sent carried = subst (λ (b : Body). BeginsWithField l b (state_of m) c) (sym body) (sent, carried)

  pub mantissa_on : (x f : FieldData) (c : Carry) → IsAtParts set m.cursor n x f → IsSent f (bit_of f (state_of m))
      → IsCarried l (first_reader l f (slots_dictionary m.slots)) c → GoesOnWithMantissa l (body_in set m.cursor.left) (state_of m) c
  mantissa_on x f c (at, num, some, body) sent carried = subst (λ (b : Body). GoesOnWithMantissa l b (state_of m) c) (sym body) (sent, carried)
