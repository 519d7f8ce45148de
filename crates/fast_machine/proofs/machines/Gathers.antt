-- A machine that keeps bytes of a unit which goes on behind them is ready for more.
use Rattle.std.proofs.Common.{refl, sym, ap, ◌∙◌, subst, arith}
use Rattle.std.specs.Prelude.{◌≡◌, ◌≢◌, ℕ, ◌+◌, ◌<◌, ◌≤◌, List, ◌++◌, length, Result, Ok}
use Rattle.fast_value.specs.declared.settings.Limits.{Limits}
use Rattle.fast_value.specs.meaning.Limits.{bounds}
use Rattle.fast_tree.specs.meaning.Tree.{field, parts, group, sequence, identifier, Body, end, step}
use Rattle.fast_dict.specs.meaning.Operators.{Outcome}
use Rattle.fast_dict.specs.meaning.Dictionary.{Dictionary}
use Rattle.fast_dict.specs.meaning.Slots.{slots_dictionary}
use Rattle.fast_stream.specs.meaning.Events.{EventData}
use Rattle.fast_stream.specs.meaning.Messages.{State}
use Rattle.fast_stream.specs.declared.faults.FaultCode.{FaultCode}
use Rattle.fast_stream.specs.device.Readers.{Reader}
use Rattle.fast_stream.specs.device.GrammarReaders.{reader_of}
use Rattle.fast_stream.specs.device.Machine.{after_bytes}
use Rattle.fast_units.specs.device.Taking.{Stays}
use Rattle.fast_units.specs.device.TextDecisions.{first_reader}
use Rattle.fast_fields.specs.declared.carry.Carry.{Carry}
use Rattle.fast_fields.specs.device.Carries.{IsCarried}
use Rattle.fast_machine.specs.declared.machine.Machine.{Machine}
use Rattle.fast_machine.specs.declared.machine.Turn.{Turn}
use Rattle.fast_machine.specs.declared.machine.Waiting.{Waiting}
use Rattle.fast_machine.specs.declared.machine.Waiting.TheVariants.{Map, Identifier, SegmentMap, Field, Mantissa}
use Rattle.fast_machine.specs.device.Gathered.{IsGatheredBy}
use Rattle.fast_machine.specs.device.Handing.{IsTaken}
use Rattle.fast_machine.specs.device.Positions.{Set, tree_in, body_in, state_in, term_at, front_at, meaning_at, meaning, BeginsWithField}
use Rattle.fast_machine.specs.device.Positions.{GoesOnWithMantissa, CanTake, IsReady}
use Rattle.fast_machine.specs.device.TurnsLeft.{Way, HasTurnsAt, HasTurnsWaiting, HasTurnsBehind, turns_begun_at}
use Rattle.fast_machine.specs.device.UnitTaken.{IsTakenTo}
use Rattle.fast_machine.proofs.units.Takes.{taken_stays}
use Rattle.fast_machine.proofs.units.Takings.{taken_as}
use Rattle.fast_machine.proofs.units.Waitings.{waits_at}
use Rattle.fast_machine.proofs.steps.TurnCounts.{more_behind}
use Rattle.fast_machine.proofs.machines.UnitTaken.{cut_to}
use Rattle.fast_machine.proofs.machines.FieldTakes.{still_supplied}

-- What is carried of the field of a machine that waits for one may be more.
field_grown : (l : Limits) (body : Body) (s : State) (c a : Carry) → ((r : Reader Outcome) → IsCarried l r c → IsCarried l r a)
    → BeginsWithField l body s c → BeginsWithField l body s a
field_grown l end s c a more h = absurd h
field_grown l (step (field at f) is) s c a more h = (h.0, more (first_reader l f s.context.dictionary) h.1)
field_grown l (step (parts at e m) is) s c a more h = (h.0, more (first_reader l e s.context.dictionary) h.1)
field_grown l (step (group at optional body) is) s c a more h = absurd h
field_grown l (step (sequence at f body) is) s c a more h = (h.0, more (first_reader l f s.context.dictionary) h.1)

mantissa_grown : (l : Limits) (body : Body) (s : State) (c a : Carry) → ((r : Reader Outcome) → IsCarried l r c → IsCarried l r a)
    → GoesOnWithMantissa l body s c → GoesOnWithMantissa l body s a
mantissa_grown l end s c a more h = absurd h
mantissa_grown l (step (field at f) is) s c a more h = absurd h
mantissa_grown l (step (parts at e m) is) s c a more h = (h.0, more (first_reader l m s.context.dictionary) h.1)
mantissa_grown l (step (group at optional body) is) s c a more h = absurd h
mantissa_grown l (step (sequence at f body) is) s c a more h = absurd h

-- There is room for what is missing.
field_room : (l : Limits) (body : Body) (s : State) (c : Carry) → BeginsWithField l body s c → length c.bytes.text + c.missing.bytes ≤ 22 + l.max_text
field_room l end s c h = absurd h
field_room l (step (field at f) is) s c h = h.1.1
field_room l (step (parts at e m) is) s c h = h.1.1
field_room l (step (group at optional body) is) s c h = absurd h
field_room l (step (sequence at f body) is) s c h = h.1.1

mantissa_room : (l : Limits) (body : Body) (s : State) (c : Carry) → GoesOnWithMantissa l body s c → length c.bytes.text + c.missing.bytes ≤ 22 + l.max_text
mantissa_room l end s c h = absurd h
mantissa_room l (step (field at f) is) s c h = absurd h
mantissa_room l (step (parts at e m) is) s c h = h.1.1
mantissa_room l (step (group at optional body) is) s c h = absurd h
mantissa_room l (step (sequence at f body) is) s c h = absurd h

-- the machine waits for a field of which bytes may be carried
abbrev pub Carries : Waiting → Type 0
Carries Map = ⊥
Carries Identifier = Unit {0}
Carries (SegmentMap width) = ⊥
Carries Field = Unit {0}
Carries (Mantissa x) = Unit {0}

module _ (set : Set) (l : Limits) (m : Machine) (ready : IsReady set l m) where
  room_at : (w : Waiting) → Carries w → CanTake w set l m → length m.carry.bytes.text + m.carry.missing.bytes ≤ m.carry.bytes.capacity
  room_at Map of h = absurd of
  room_at Identifier of h = let fits = h.3.1 in let room = ready.supplied.carry_room in omega (arith, fits, room)
  room_at (SegmentMap width) of h = absurd of
  room_at Field of h = let fits = field_room l (body_in set m.cursor.left) (state_in (slots_dictionary m.slots) m.counted m.cursor) m.carry h.2 in
      let room = ready.supplied.carry_room in omega (arith, fits, room)
  room_at (Mantissa x) of h = let fits = mantissa_room l (body_in set m.cursor.left) (state_in (slots_dictionary m.slots) m.counted m.cursor) m.carry h.2 in
      let room = ready.supplied.carry_room in omega (arith, fits, room)

  pub carry_fits : (w : Waiting) → m.waiting ≡ w → Carries w → length m.carry.bytes.text + m.carry.missing.bytes ≤ m.carry.bytes.capacity
  carry_fits w is of = room_at w of (subst (λ (v : Waiting). CanTake v set l m) is ready.takes)

  grown_at : (w : Waiting) → Carries w → (a : Carry) → ((r : Reader Outcome) → IsCarried l r m.carry → IsCarried l r a)
      → CanTake w set l m → CanTake w set l (record m { carry = a })
  grown_at Map of a more h = absurd of
  grown_at Identifier of a more h = (h.0, h.1, h.2, more (first_reader l identifier (slots_dictionary m.slots)) h.3)
  grown_at (SegmentMap width) of a more h = absurd of
  grown_at Field of a more h =
      (h.0, h.1, field_grown l (body_in set m.cursor.left) (state_in (slots_dictionary m.slots) m.counted m.cursor) m.carry a more h.2)
  grown_at (Mantissa x) of a more h =
      (h.0, h.1, mantissa_grown l (body_in set m.cursor.left) (state_in (slots_dictionary m.slots) m.counted m.cursor) m.carry a more h.2)

  inside_of : (w : Waiting) → Carries w → w ≢ Map
  inside_of Map of e = of
  inside_of Identifier of e = absurd (cc e)
  inside_of (SegmentMap width) of e = absurd (cc e)
  inside_of Field of e = absurd (cc e)
  inside_of (Mantissa x) of e = absurd (cc e)

  front_of : (w : Waiting) → Carries w → (a : Carry) (rest : List ℕ) → a.bytes.text ≡ m.carry.bytes.text ++ rest
      → front_at w (record m { carry = a }) ≡ front_at w m ++ rest
  front_of Map of a rest e = absurd of
  front_of Identifier of a rest e = e
  front_of (SegmentMap width) of a rest e = absurd of
  front_of Field of a rest e = e
  front_of (Mantissa x) of a rest e = e

  -- More of the field is carried.
  pub carry_gathered : (w : Waiting) → m.waiting ≡ w → Carries w → (a : Carry) (rest : List ℕ) → a.bytes.capacity ≡ m.carry.bytes.capacity
      → a.bytes.text ≡ m.carry.bytes.text ++ rest → ((r : Reader Outcome) → IsCarried l r m.carry → IsCarried l r a)
      → IsGatheredBy set l m (record m { carry = a }) rest
  carry_gathered w is of a rest room front more = record {
    inside = λ i. inside_of w of (sym is ∙ i);
    ready = record {
      supplied = still_supplied set l m m.slots a m.text refl room refl ready.supplied;
      takes = subst (λ (v : Waiting). CanTake v set l (record m { carry = a })) (sym is)
          (grown_at w of a more (subst (λ (v : Waiting). CanTake v set l m) is ready.takes));
    };
    front = subst (λ (v : Waiting). front_at v (record m { carry = a }) ≡ front_at v m ++ rest) (sym is) (front_of w of a rest front);
    same = refl;
  }

-- What takes bytes so has taken a unit that is cut.
pub gathered_to : {S : Type 0} (takes stops : S → EventData → S → Type 0) (set : Set) (l : Limits) (m a : Machine) (rest : List ℕ)
    → IsGatheredBy set l m a rest → 0 < length rest → (s : S) (bytes : ℕ) (turn : Result Turn FaultCode)
    → bytes ≡ length rest → turn ≡ Ok Turn.Waits → IsTakenTo takes stops set l (meaning set l m) rest s bytes turn s a
gathered_to takes stops set l m a rest h some s bytes turn size is =
    cut_to takes stops set l (meaning set l m) rest s a size is h.ready (cut_by m.waiting refl)
  where
    -- the machine behind the bytes
    b : Machine
    b = record m { carry = a.carry }

    ready : IsReady set l b
    ready = subst (IsReady set l) h.same h.ready

    front : front_at m.waiting b ≡ front_at m.waiting m ++ rest
    front = subst (λ (x : Machine). front_at m.waiting x ≡ front_at m.waiting m ++ rest) h.same h.front

    by_reader : (w : Waiting) → m.waiting ≡ w → (r : Reader Dictionary) → meaning_at w set l m ≡ after_bytes r (front_at w m)
        → meaning_at w set l b ≡ after_bytes r (front_at w b) → Stays r (front_at w b)
        → IsTaken takes stops (tree_in set) l (meaning set l m) rest s (length rest) (Ok tt) s (meaning set l a)
    by_reader w is r before after stays =
        let here : front_at w b ≡ front_at w m ++ rest = subst (λ (v : Waiting). front_at v b ≡ front_at v m ++ rest) is front in
        taken_as takes stops (tree_in set) l rest s (length rest) (Ok tt) s (ap (λ (v : Waiting). meaning_at v set l m) is ∙ before)
        (ap (meaning set l) h.same ∙ ap (λ (v : Waiting). meaning_at v set l b) is ∙ after ∙ ap (after_bytes r) here)
        (taken_stays takes stops (tree_in set) l r (front_at w m) rest s some (subst (Stays r) here stays))

    stays_at : (w : Waiting) → w ≢ Map → m.waiting ≡ w → Stays (reader_of l.strict (term_at w set (bounds l) b)) (front_at w b)
    stays_at w inside is = waits_at set l b w inside (subst (λ (v : Waiting). CanTake v set l b) is ready.takes)

    cut_by : (w : Waiting) → m.waiting ≡ w → IsTaken takes stops (tree_in set) l (meaning set l m) rest s (length rest) (Ok tt) s (meaning set l a)
    cut_by Map is = absurd (h.inside is)
    cut_by Identifier is = by_reader Identifier is _ refl refl (stays_at Identifier (λ e. cc e) is)
    cut_by (SegmentMap width) is = by_reader (SegmentMap width) is _ refl refl (stays_at (SegmentMap width) (λ e. cc e) is)
    cut_by Field is = by_reader Field is _ refl refl (stays_at Field (λ e. cc e) is)
    cut_by (Mantissa x) is = by_reader (Mantissa x) is _ refl refl (stays_at (Mantissa x) (λ e. cc e) is)

-- The turns are what they were.
pub gathered_turns : (way : Way) (set : Set) (l : Limits) (n k : ℕ) (m a : Machine) (rest : List ℕ) → IsGatheredBy set l m a rest → n ≤ k
    → HasTurnsWaiting way set l n m → HasTurnsWaiting way set l k a
gathered_turns way set l n k m a rest h more i =
    subst (HasTurnsWaiting way set l k) (sym h.same) (more_behind (Ok Turn.Waits) way set l n k (record m { carry = a.carry }) more (same_at m.waiting i))
  where
    same_at : (w : Waiting) → HasTurnsAt w way set l n m → HasTurnsAt w way set l n (record m { carry = a.carry })
    same_at Map h = h
    same_at Identifier h = h
    same_at (SegmentMap width) h = h
    same_at Field h = h
    same_at (Mantissa x) h = h

-- So they are behind the unit that is cut, whatever that may pay for.
pub gathered_behind : (way : Way) (set : Set) (l : Limits) (n : ℕ) (m a : Machine) (rest : List ℕ) (turn : Result Turn FaultCode)
    → IsGatheredBy set l m a rest → turn ≡ Ok Turn.Waits → HasTurnsWaiting way set l n m
    → HasTurnsBehind turn way set l (1 + n + turns_begun_at m.waiting m.cursor.map way (tree_in set) l) a
gathered_behind way set l n m a rest turn h is i =
    let more : n ≤ 1 + n + turns_begun_at m.waiting m.cursor.map way (tree_in set) l = omega arith in
    subst (λ (t : Result Turn FaultCode). HasTurnsBehind t way set l (1 + n + turns_begun_at m.waiting m.cursor.map way (tree_in set) l) a)
    (sym is) (gathered_turns way set l n (1 + n + turns_begun_at m.waiting m.cursor.map way (tree_in set) l) m a rest h more i)
