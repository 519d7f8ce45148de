-- A field of which nothing is sent is a step of the machine.
use Rattle.std.proofs.Common.{refl, sym, ap, ◌∙◌, subst}
use Rattle.std.specs.Prelude.{◌≡◌, ◌≢◌, ℕ, ◌+◌, Bool, List, drop, Option, Result, Ok, Err, OnOk, if◌then◌else◌}
use Rattle.fast_wire.specs.meaning.Maps.{later_bits}
use Rattle.fast_value.specs.meaning.Kinds.{ScalarData}
use Rattle.fast_value.specs.meaning.Limits.{bounds}
use Rattle.fast_value.specs.declared.settings.Limits.{Limits}
use Rattle.fast_tree.specs.meaning.Tree.{FieldData, uses_bit}
use Rattle.fast_dict.specs.declared.slots.Slots.{Slots}
use Rattle.fast_dict.specs.meaning.Dictionary.{Dictionary, previous_at}
use Rattle.fast_dict.specs.meaning.Operators.{decide, nothing}
use Rattle.fast_dict.specs.meaning.Slots.{slots_dictionary}
use Rattle.fast_stream.specs.meaning.Events.{EventData}
use Rattle.fast_stream.specs.meaning.Fields.{field_term}
use Rattle.fast_stream.specs.meaning.Messages.{Found}
use Rattle.fast_stream.specs.meaning.Grammar.{of_result}
use Rattle.fast_stream.specs.declared.faults.FaultCode.{FaultCode}
use Rattle.fast_stream.specs.declared.faults.FaultCode.TheVariants.{SinkStopped}
use Rattle.fast_stream.specs.device.Continuations.{handed_then}
use Rattle.fast_stream.specs.device.GrammarReaders.{reader_of}
use Rattle.fast_stream.specs.device.Readers.{Reader}
use Rattle.fast_cursor.specs.declared.place.Place.{Place}
use Rattle.fast_cursor.specs.device.Cursors.{CursorData, bits_left}
use Rattle.fast_cursor.specs.device.Places.{at_place, IsPlaceOf}
use Rattle.fast_machine.specs.declared.machine.Machine.{Machine}
use Rattle.fast_machine.specs.declared.machine.Turn.{Turn}
use Rattle.fast_machine.specs.declared.machine.Turn.TheVariants.{Silent, Waits}
use Rattle.fast_loop.specs.declared.spot.Spot.{Spot}
use Rattle.fast_machine.specs.declared.turns.Turns.{Turns}
use Rattle.fast_machine.specs.device.Positions.{placed, Set, going_on, CanTurn, turning, meaning}
use Rattle.fast_loop.specs.device.Arms.{WentBy, IsFieldUnsent}
use Rattle.fast_machine.specs.device.Moving.{Moves}
use Rattle.fast_machine.specs.device.Passing.{IsPast, value_then}
use Rattle.fast_machine.specs.device.Steps.{IsStep}
use Rattle.fast_machine.proofs.fields.SentFields.{field_unsent}
use Rattle.fast_machine.proofs.steps.FieldTurns.{state_of, behind, field_next, supplied_like, turn_moved}
use Rattle.fast_machine.proofs.steps.TurnCounts.{finished, one_turn}
use Rattle.fast_machine.proofs.streams.Running.{turn_step}

module _ {S : Type 0} (takes stops : S → EventData → S → Type 0) (set : Set) (l : Limits) where
  past_left : (c c' : CursorData) (result : Result Turn FaultCode) → OnOk result (IsPast c c') → result ≡ Ok Silent → c'.left ≡ drop 1 c.left
  past_left c c' (Ok t) past e = ap (λ (x : CursorData). x.left) past.same
  past_left c c' (Err x) past e = absurd (cc e)

  module _ (m : Machine) (slots : Slots) (t : Turns) (p q : Place) (node : ℕ) (f : FieldData) (bit : Bool) (value : Option ScalarData)
      (h : IsFieldUnsent set l m (record m { slots = slots }) p node f bit value) (counts : t.count ≡ m.turns.count + 1) where
    abbrev before : Machine
    before = placed m p

    abbrev keeping : Machine
    keeping = record before { slots = slots; turns = t }

    abbrev after : Machine
    after = placed (record m { slots = slots; turns = t }) q

    can_keep : CanTurn set l keeping
    can_keep = record {
      supplied = supplied_like set l before keeping h.spot.can.supplied (record {
        terms = h.terms;
        carry = refl;
        text = refl;
        identifier = refl;
        rests = refl;
        latest = refl;
      }) h.spot.can.supplied.counted;
      placed = h.spot.can.placed;
      mapped = h.spot.can.mapped;
    }

    -- what is to be read behind the field
    abbrev read_on : Reader Dictionary
    read_on = reader_of l.strict (value_then set (bounds l) node value f (slots_dictionary slots) m.counted (at_place m.cursor p))

    known : turning set l before ≡ read_on
    known =
        let prior = previous_at f.entry (slots_dictionary m.slots) in
        let st = state_of before in
        field_next set l before node f h.at
        ∙ field_unsent l.strict (bounds l) f st (λ r. handed_then node (behind set l before) r.0 r.1) h.outcome
        (subst (λ (b : Bool). field_term (bounds l) f prior b ≡ of_result (decide f prior b nothing)) h.is_bit h.unsent)
        (subst (λ (b : Bool). decide f prior b nothing ≡ Ok h.outcome) h.is_bit h.decided)
        ∙ ap (λ (r : Found). reader_of l.strict (handed_then node (behind set l before) r.0 r.1))
        (λ i. (
          h.is_value i,
          record {
            context = record { dictionary = sym h.next i; counted = m.counted };
            bits = if uses_bit f then later_bits (bits_left before.cursor) else bits_left before.cursor;
          },
        ))

    -- The turn past it.
    pub unsent_step : (rest : List ℕ) (s : S) (result : Result Turn FaultCode) (s' : S)
        → Moves takes stops read_on s result s' (turning set l after) (meaning set l after)
        → OnOk result (IsPast (at_place m.cursor p) (at_place m.cursor q)) → result ≢ Ok Waits
        → IsStep takes stops set l before rest s (record { bytes = 0; turn = result }) s' after
    unsent_step rest s result s' moves past on =
        turn_step takes stops set l before rest s result s' after
        (turn_moved takes stops set l (turning set l before) read_on s result s' keeping after known moves can_keep refl refl past on)
        (λ e. (h.at.2, past_left before.cursor after.cursor result past e))
        (λ way k c. finished way set l k keeping after _ result h.at.3 refl past on
        (one_turn way set l k m.turns.count t.count m.counted before.cursor counts c))

module _ {S : Type 0} (takes stops : S → EventData → S → Type 0) (set : Set) (l : Limits) (m m1 : Machine) (t : Turns) (from : Spot)
    (p : Place) (node : ℕ) (f : FieldData) (bit : Bool) (value : Option ScalarData)
    (h : IsFieldUnsent set l m m1 from.place node f bit value) (counts : t.count ≡ m.turns.count + 1) (place : IsPlaceOf m.cursor p) where
  abbrev kept : Machine
  kept = record m { slots = m1.slots }

  unsent_kept : IsFieldUnsent set l m kept from.place node f bit value
  unsent_kept = subst (λ (x : Machine). IsFieldUnsent set l m x from.place node f bit value) h.kept h

  -- what the turn moves
  abbrev MovesOn : S → Result Turn FaultCode → S → Type 0
  MovesOn s result s' = (waits : Reader Dictionary) → Moves takes stops
      (reader_of l.strict (value_then set (bounds l) node value f (slots_dictionary m1.slots) m.counted (at_place m.cursor from.place)))
      s result s' (reader_of l.strict (going_on set (bounds l) (slots_dictionary m1.slots) m.counted (at_place m.cursor p))) waits

  went_step : (s : S) (result : Result Turn FaultCode) (s' : S) → MovesOn s result s'
      → OnOk result (IsPast (at_place m.cursor from.place) (at_place m.cursor p)) → result ≢ Ok Waits
      → IsStep takes stops set l (placed m from.place) from.rest.bytes.now s (record { bytes = 0; turn = result }) s' (placed (record kept { turns = t }) p)
  went_step s result s' moves past on =
      unsent_step takes stops set l m m1.slots t from.place p node f bit value unsent_kept counts from.rest.bytes.now s result s'
      (moves (meaning set l (placed (record kept { turns = t }) p))) past on

  -- The arm went past the field.
  pub unsent_went : (to : Spot) (s : S) (turn : Turn) (s' : S) → to.rest.bytes.now ≡ from.rest.bytes.now → to.place ≡ p → MovesOn s (Ok turn) s'
      → IsPast (at_place m.cursor from.place) (at_place m.cursor p) → turn ≢ Waits
      → WentBy takes stops set l m from s 0 turn s' (record m1 { turns = t }) to
  unsent_went to s turn s' rest same moves past on = subst
      (λ (x : Machine). WentBy takes stops set l m from s 0 turn s' (record x { turns = t }) to) (sym h.kept) (record {
        rest = rest;
        waits = h.spot.waits;
        place = subst (λ (x : Place). IsPlaceOf m.cursor x) (sym same) place;
        step = subst (λ (x : Place). IsStep takes stops set l (placed m from.place) from.rest.bytes.now s (record {
          bytes = 0;
          turn = Ok turn;
        }) s' (placed (record kept { turns = t }) x)) (sym same)
            (went_step s (Ok turn) s' moves past (λ e. on (cc e)));
      })

  -- The sink stopped at its value.
  pub unsent_stopped : (s s' : S) → MovesOn s (Err SinkStopped) s'
      → (k : ℕ) × (from.rest.bytes.now ≡ drop k from.rest.bytes.now) × IsPlaceOf m1.cursor p × IsStep takes stops set l (placed m from.place)
      from.rest.bytes.now s (record {
        bytes = k;
        turn = Err SinkStopped;
      }) s' (placed (record m1 { turns = t }) p)
  unsent_stopped s s' moves =
      subst (λ (x : Machine). (k : ℕ) × (from.rest.bytes.now ≡ drop k from.rest.bytes.now) × IsPlaceOf x.cursor p
      × IsStep takes stops set l (placed m from.place) from.rest.bytes.now s (record {
        bytes = k;
        turn = Err SinkStopped;
      }) s' (placed (record x { turns = t }) p))
      (sym h.kept)
      (0, refl, place, went_step s (Err SinkStopped) s' moves tt (λ e. cc e))
