-- A machine that waits for a unit waits, whatever bytes of the unit have come.
use Rattle.std.proofs.Common.{refl, ap, ◌∙◌, subst, arith}
use Rattle.std.specs.Prelude.{◌≡◌, ◌≢◌, true, List, [], ℤ}
use Rattle.std.proofs.lemmas.List.{append-nil}
use Rattle.fast_wire.specs.meaning.Maps.{bits}
use Rattle.fast_value.specs.declared.settings.Limits.{Limits}
use Rattle.fast_value.specs.meaning.Limits.{bounds}
use Rattle.fast_tree.specs.meaning.Tree.{FieldData, field, parts, group, sequence, identifier, Body, end, step}
use Rattle.fast_dict.specs.meaning.Dictionary.{Dictionary}
use Rattle.fast_dict.specs.meaning.Operators.{Outcome}
use Rattle.fast_dict.specs.meaning.Slots.{slots_dictionary}
use Rattle.fast_stream.specs.meaning.Fields.{field_term}
use Rattle.fast_stream.specs.meaning.Grammar.{Grammar, narrow, ◌>>=◌}
use Rattle.fast_stream.specs.meaning.Messages.{State, Found, begin, field_in, found, decimal_with}
use Rattle.fast_stream.specs.device.Readers.{Reader, bind}
use Rattle.fast_stream.specs.device.GrammarReaders.{reader_of}
use Rattle.fast_stream.specs.device.Continuations.{handed_then, message_behind_then}
use Rattle.fast_stream.specs.device.Frames.{Frame, resume}
use Rattle.fast_units.specs.device.Taking.{Waits, Stays}
use Rattle.fast_units.specs.device.TextDecisions.{first_reader}
use Rattle.fast_units.specs.device.UnitFronts.{IsSent}
use Rattle.fast_fields.specs.declared.carry.Carry.{Carry}
use Rattle.fast_fields.specs.device.Carries.{IsCarried}
use Rattle.fast_machine.specs.device.Positions.{Set, tree_in, body_in, frames_in, state_in, bit_of, mantissa_then, term_at}
use Rattle.fast_machine.specs.device.Positions.{front_at, unit_reader, meaning, meaning_at, BeginsWithField, GoesOnWithMantissa, CanTake, IsReady}
use Rattle.fast_machine.specs.declared.machine.Machine.{Machine}
use Rattle.fast_machine.specs.declared.machine.Waiting.{Waiting}
use Rattle.fast_machine.specs.declared.machine.Waiting.TheVariants.{Map, Identifier, SegmentMap, Field, Mantissa}
use Rattle.fast_stream.proofs.streams.Frames.{at_field, at_parts, at_sequence, mantissa_turn, sequence_turn}
use Rattle.fast_machine.proofs.fields.SentFields.{before, field_then, field_sent}
use Rattle.fast_units.proofs.Turning.{stays_on, stays_as}
use Rattle.fast_units.proofs.OpenUnits.{map_open}

-- The bytes that are carried lead the reader to where it waits.
pub carried_stays : (l : Limits) (r : Reader Outcome) (c : Carry) → IsCarried l r c → Stays r c.bytes.text
carried_stays l r c h = subst (Stays r) (append-nil c.bytes.text) (h.0.1 [] (λ stops i d below. absurd (omega (arith, below))) h.0.0)

-- A field, in front of what follows it.
carried_field : {A : Type 0} (l : Limits) (f : FieldData) (st : State) (k : Found → Grammar A) (c : Carry) → IsSent f (bit_of f st)
    → IsCarried l (first_reader l f st.context.dictionary) c → Stays (reader_of l.strict (field_in (bounds l) f st >>= k)) c.bytes.text
carried_field l f st k c sent h = stays_as (field_sent l.strict (bounds l) f st k sent)
    (stays_on (λ o. reader_of l.strict (k (found f st o))) (carried_stays l (first_reader l f st.context.dictionary) c h))

module _ (l : Limits) (fs : List Frame) (st : State) (c : Carry) where
  by_field : (body : Body) → BeginsWithField l body st c → Stays (reader_of l.strict (resume (bounds l) fs body st)) c.bytes.text
  by_field end h = absurd h
  by_field (step (field at f) is) h = stays_as (ap (reader_of l.strict) (at_field (bounds l) fs at f is st))
      (carried_field l f st (λ r. handed_then at.node (resume (bounds l) fs is) r.0 r.1) c h.0 h.1)
  by_field (step (parts at e m) is) h = stays_as (ap (reader_of l.strict) (at_parts (bounds l) fs at e m is st))
      (carried_field l e st (mantissa_turn (bounds l) fs at.node m is) c h.0 h.1)
  by_field (step (group at optional inner) is) h = absurd h
  by_field (step (sequence at f inner) is) h = stays_as (ap (reader_of l.strict) (at_sequence (bounds l) fs at f inner is st))
      (carried_field l f st (sequence_turn (bounds l) fs at.node inner is) c h.0 h.1)

  by_mantissa : (body : Body) (x : ℤ) → GoesOnWithMantissa l body st c → Stays (reader_of l.strict (mantissa_then (bounds l) fs body st x)) c.bytes.text
  by_mantissa end x h = absurd h
  by_mantissa (step (field at f) is) x h = absurd h
  by_mantissa (step (parts at e m) is) x h =
      carried_field l m st (λ r. handed_then at.node (resume (bounds l) fs is) (decimal_with x r.0) r.1) c h.0 h.1
  by_mantissa (step (group at optional inner) is) x h = absurd h
  by_mantissa (step (sequence at f inner) is) x h = absurd h

module _ (set : Set) (l : Limits) (m : Machine) where
  abbrev st : State
  st = state_in (slots_dictionary m.slots) m.counted m.cursor

  abbrev fs : List Frame
  fs = frames_in set m.cursor.frames

  identifier_waits : CanTake Identifier set l m → Stays (reader_of l.strict (term_at Identifier set (bounds l) m)) m.carry.bytes.text
  identifier_waits h =
      let d : Dictionary = slots_dictionary m.slots in
      let at : State = begin d (bits m.cursor.map) in
      let k = message_behind_then (tree_in set) (bounds l) m.cursor.map in
      let sent : bit_of identifier at ≡ true = h.1 in
      stays_as (field_then l.strict (bounds l) identifier at k
      ∙ ap (λ b. bind (reader_of l.strict (field_term (bounds l) identifier (before identifier at) b))
      (λ o. reader_of l.strict (k (found identifier at o)))) sent)
      (stays_on (λ o. reader_of l.strict (k (found identifier at o))) (carried_stays l (first_reader l identifier d) m.carry h.3))

  -- By the unit that it waits for.
  pub waits_at : (w : Waiting) → w ≢ Map → CanTake w set l m → Stays (reader_of l.strict (term_at w set (bounds l) m)) (front_at w m)
  waits_at Map h c = absurd (h refl)
  waits_at Identifier h c = identifier_waits c
  waits_at (SegmentMap width) h c = map_open l.strict (λ w. narrow width w (resume (bounds l) fs (body_in set m.cursor.left) (record {
    context = record { dictionary = slots_dictionary m.slots; counted = m.counted };
    bits = bits w;
  }))) m.cursor.map c.0 c.1
  waits_at Field h c = by_field l fs st m.carry (body_in set m.cursor.left) c.2
  waits_at (Mantissa x) h c = by_mantissa l fs st m.carry (body_in set m.cursor.left) x c.2

  unit_waits : IsReady set l m → (w : Waiting) → w ≢ Map → m.waiting ≡ w → Waits (unit_reader w set l m)
  unit_waits ready w h e = (waits_at w h (subst (λ (u : Waiting). CanTake u set l m) e ready.takes)).waits

  by_waiting : IsReady set l m → (w : Waiting) → w ≢ Map → m.waiting ≡ w → Waits (meaning_at w set l m)
  by_waiting ready Map h e = absurd (h refl)
  by_waiting ready Identifier h e = unit_waits ready Identifier h e
  by_waiting ready (SegmentMap width) h e = unit_waits ready (SegmentMap width) h e
  by_waiting ready Field h e = unit_waits ready Field h e
  by_waiting ready (Mantissa x) h e = unit_waits ready (Mantissa x) h e

  -- A machine inside a message waits.
  pub machine_waits : IsReady set l m → m.waiting ≢ Map → Waits (meaning set l m)
  machine_waits ready h = by_waiting ready m.waiting h refl
