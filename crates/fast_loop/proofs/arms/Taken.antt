-- A field that stands whole in the piece is a step of the machine.
use Rattle.std.proofs.Common.{refl, sym, ap, ◌∙◌, subst, arith}
use Rattle.std.specs.Prelude.{◌≡◌, ◌≢◌, ℕ, ◌+◌, ◌*◌, ◌<◌, ◌≤◌, List, [], length, take, drop, Option, Result, Ok, Err, OnOk}
use Rattle.std.proofs.lemmas.List.{length-take-le}
use Rattle.fast_value.specs.meaning.Kinds.{ScalarData}
use Rattle.fast_value.specs.meaning.Limits.{bounds}
use Rattle.fast_value.specs.declared.settings.Limits.{Limits}
use Rattle.fast_tree.specs.meaning.Tree.{FieldData}
use Rattle.fast_dict.specs.declared.slots.Slots.{Slots}
use Rattle.fast_dict.specs.meaning.Dictionary.{Dictionary, write_at}
use Rattle.fast_dict.specs.meaning.Slots.{slots_dictionary}
use Rattle.fast_stream.specs.meaning.Events.{EventData}
use Rattle.fast_stream.specs.declared.faults.FaultCode.{FaultCode}
use Rattle.fast_stream.specs.declared.faults.FaultCode.TheVariants.{SinkStopped}
use Rattle.fast_stream.specs.device.Continuations.{handed_then}
use Rattle.fast_stream.specs.device.Frames.{resume}
use Rattle.fast_stream.specs.device.GrammarReaders.{reader_of}
use Rattle.fast_stream.specs.device.Readers.{Reader}
use Rattle.fast_units.proofs.Turning.{turns_as, turns_done}
use Rattle.fast_units.specs.declared.scratch.Scratch.{Scratch}
use Rattle.fast_units.specs.device.Taking.{Turns as TurnsTo}
use Rattle.fast_cursor.specs.declared.place.Place.{Place}
use Rattle.fast_cursor.specs.device.Places.{at_place, IsPlaceOf}
use Rattle.fast_machine.specs.declared.machine.Machine.{Machine}
use Rattle.fast_machine.specs.declared.machine.Turn.{Turn}
use Rattle.fast_machine.specs.declared.machine.Turn.TheVariants.{Silent, Handed, Waits}
use Rattle.fast_loop.specs.declared.spot.Spot.{Spot}
use Rattle.fast_machine.specs.declared.turns.Turns.{Turns}
use Rattle.fast_machine.specs.device.Positions.{placed, Set, tree_in, body_in, frames_in, going_on, CanTurn, IsTurn, turning, meaning}
use Rattle.fast_loop.specs.device.Arms.{HasWent, IsFieldTaken}
use Rattle.fast_loop.specs.declared.spot.Went.TheVariants as Went
use Rattle.fast_machine.specs.device.Moving.{Moves}
use Rattle.fast_machine.specs.device.Passing.{IsPast, state_past, value_then}
use Rattle.fast_machine.specs.device.Steps.{IsStep}
use Rattle.fast_machine.specs.device.TurnsLeft.{Way, most_by, HasTurns, HasTurnsBehind}
use Rattle.fast_machine.proofs.machines.FieldTakes.{field_here, behind_field}
use Rattle.fast_machine.proofs.machines.UnitTaken.{taken_to}
use Rattle.fast_machine.proofs.steps.FieldTurns.{supplied_like, goes_on_moved, supplied_moved}
use Rattle.fast_machine.proofs.steps.TurnCounts.{finished, one_turn, more_behind}
use Rattle.fast_machine.proofs.streams.Running.{unit_runs}
use Rattle.fast_machine.proofs.units.Hanging.{hands_waits}
use Rattle.fast_machine.proofs.units.Takes.{waits_first}

module _ {S : Type 0} (takes stops : S → EventData → S → Type 0) (set : Set) (l : Limits) where
  -- Bytes that a machine between two units has to read, and a turn behind them.
  pub bytes_step : (m m' : Machine) (rest : List ℕ) (s : S) (n : ℕ) (q : Reader Dictionary) (result : Result Turn FaultCode) (s' : S) → 0 < n → n ≤ length rest
      → TurnsTo (turning set l m) (take n rest) q → IsTurn takes stops set l q s result s' m'
      → ((way : Way) (k : ℕ) → HasTurns way set l 0 k m → HasTurnsBehind result way set l k m')
      → IsStep takes stops set l m rest s (record { bytes = n; turn = result }) s' m'
  bytes_step m m' rest s n q result s' some within h turn turns =
      let len : length (take n rest) ≡ n = length-take-le n rest within in
      record {
        within = within;
        runs = unit_runs takes stops set l m (turning set l m) s s rest n result s' m'
            (hands_waits takes stops (turning set l m) s (waits_first (turning set l m) (take n rest) (omega (arith, len, some)) h.quiet))
            (taken_to takes stops set l (turning set l m) [] rest n q s result s' m' some within h turn);
        supplied = turn.supplied;
        goes_on = turn.goes_on;
        silent = λ none e. absurd (omega (arith, some, none));
        handed = λ none e. absurd (omega (arith, some, none));
        turns = λ way k c. more_behind result way set l k (k + n * (1 + most_by way (tree_in set) l)) m' (omega arith) (turns way k c);
      }

  -- Where bytes were taken it makes no difference whether something was handed over.
  pub took_handed : (m m' : Machine) (rest : List ℕ) (s : S) (n : ℕ) (turn : Turn) (s' : S) → 0 < n → turn ≢ Waits
      → IsStep takes stops set l m rest s (record {
        bytes = n;
        turn = Ok turn;
      }) s' m' → IsStep takes stops set l m rest s (record { bytes = n; turn = Ok Handed }) s' m'
  took_handed m m' rest s n Silent s' some on h = record {
    within = h.within;
    runs = h.runs;
    supplied = h.supplied;
    goes_on = h.goes_on;
    silent = λ none e. absurd (omega (arith, some, none));
    handed = λ none e. absurd (omega (arith, some, none));
    turns = h.turns;
  }
  took_handed m m' rest s n Handed s' some on h = h
  took_handed m m' rest s n Waits s' some on h = absurd (on refl)

  module _ (m : Machine) (slots : Slots) (text : Scratch) (t : Turns) (from : Spot) (p : Place) (node : ℕ) (f : FieldData)
      (value : Option ScalarData) (n : ℕ) (h : IsFieldTaken set l m (record m {
        slots = slots;
        text = text;
      }) from node f value n) (counts : t.count ≡ m.turns.count + 1) where
    -- the machine before the field, with what the field keeps, and behind it
    abbrev before : Machine
    before = placed m from.place

    abbrev keeping : Machine
    keeping = record before { slots = slots; text = text; turns = t }

    abbrev behind : Machine
    behind = placed (record m { slots = slots; text = text; turns = t }) p

    can_keep : CanTurn set l keeping
    can_keep = record {
      supplied = supplied_like set l before keeping h.spot.can.supplied (record {
        terms = h.terms;
        carry = refl;
        text = h.room;
        identifier = refl;
        rests = refl;
        latest = refl;
      }) h.spot.can.supplied.counted;
      placed = h.spot.can.placed;
      mapped = h.spot.can.mapped;
    }

    -- what is to be read behind the bytes
    abbrev read_on : Reader Dictionary
    read_on = reader_of l.strict (value_then set (bounds l) node value f (slots_dictionary slots) m.counted (at_place m.cursor from.place))

    settled : behind_field set l before f node h.outcome ≡ value_then set (bounds l) node value f
        (slots_dictionary slots) m.counted (at_place m.cursor from.place)
    settled =
        let on = resume (bounds l) (frames_in set m.cursor.frames) (body_in set (drop 1 before.cursor.left)) in
        ap (λ (v : Option ScalarData). handed_then node on v
        (state_past f (write_at f.entry h.outcome.next (slots_dictionary m.slots)) m.counted before.cursor)) h.is_value
        ∙ ap (λ (d : Dictionary). handed_then node on value (state_past f d m.counted before.cursor)) (sym h.next)

    field_turns : TurnsTo (turning set l before) (take n from.rest.bytes.now) read_on
    field_turns =
        turns_as (field_here set l before f node h.sent h.at) (sym (ap (reader_of l.strict) settled))
        (turns_done (λ o. reader_of l.strict (behind_field set l before f node o)) h.turns)

    -- What a turn behind the field moves makes a step of both.
    pub taken_step : (s : S) (result : Result Turn FaultCode) (s' : S) → Moves takes stops read_on s result s' (turning set l behind) (meaning set l behind)
        → OnOk result (IsPast (at_place m.cursor from.place) (at_place m.cursor p)) → result ≢ Ok Waits
        → IsStep takes stops set l before from.rest.bytes.now s (record { bytes = n; turn = result }) s' behind
    taken_step s result s' moves past on =
        bytes_step before behind from.rest.bytes.now s n read_on result s' h.some h.within field_turns
        (record {
          moves = moves;
          supplied = supplied_moved set l keeping behind can_keep.supplied refl refl;
          goes_on = goes_on_moved set l keeping behind result can_keep refl refl past on;
        })
        (λ way k c. finished way set l k keeping behind _ result h.at.3 refl past on
        (one_turn way set l k m.turns.count t.count m.counted before.cursor counts c))

module _ {S : Type 0} (takes stops : S → EventData → S → Type 0) (set : Set) (l : Limits) (m m1 : Machine) (t : Turns) (from : Spot)
    (p : Place) (node : ℕ) (f : FieldData) (value : Option ScalarData) (n : ℕ)
    (h : IsFieldTaken set l m m1 from node f value n) (counts : t.count ≡ m.turns.count + 1) (place : IsPlaceOf m.cursor p) where
  -- the machine with what the field keeps
  abbrev kept : Machine
  kept = record m { slots = m1.slots; text = m1.text }

  taken_kept : IsFieldTaken set l m kept from node f value n
  taken_kept = subst (λ (x : Machine). IsFieldTaken set l m x from node f value n) h.kept h

  -- what a turn behind the field moves
  abbrev MovesOn : S → Result Turn FaultCode → S → Type 0
  MovesOn s result s' = (waits : Reader Dictionary) → Moves takes stops
      (reader_of l.strict (value_then set (bounds l) node value f (slots_dictionary m1.slots) m.counted (at_place m.cursor from.place)))
      s result s' (reader_of l.strict (going_on set (bounds l) (slots_dictionary m1.slots) m.counted (at_place m.cursor p))) waits

  -- The field, and the turn behind it.
  went_step : (s : S) (result : Result Turn FaultCode) (s' : S) → MovesOn s result s'
      → OnOk result (IsPast (at_place m.cursor from.place) (at_place m.cursor p)) → result ≢ Ok Waits
      → IsStep takes stops set l (placed m from.place) from.rest.bytes.now s (record { bytes = n; turn = result }) s' (placed (record kept { turns = t }) p)
  went_step s result s' moves past on =
      taken_step takes stops set l m m1.slots m1.text t from p node f value n taken_kept counts s result s'
      (moves (meaning set l (placed (record kept { turns = t }) p))) past on

  -- The arm took the field.
  pub taken_went : (to : Spot) (s : S) (turn : Turn) (s' : S) → to.rest.bytes.now ≡ drop n from.rest.bytes.now → to.place ≡ p → MovesOn s (Ok turn) s'
      → IsPast (at_place m.cursor from.place) (at_place m.cursor p) → turn ≢ Waits
      → HasWent takes stops set l m from s Went.Took s' (record m1 { turns = t }) to
  taken_went to s turn s' rest same moves past on = subst
      (λ (x : Machine). HasWent takes stops set l m from s Went.Took s' (record x { turns = t }) to) (sym h.kept) (
        n,
        h.some,
        record {
          rest = rest;
          waits = h.spot.waits;
          place = subst (λ (x : Place). IsPlaceOf m.cursor x) (sym same) place;
          step = subst (λ (x : Place). IsStep takes stops set l (placed m from.place) from.rest.bytes.now s (record {
            bytes = n;
            turn = Ok Handed;
          }) s' (placed (record kept { turns = t }) x)) (sym same)
              (took_handed takes stops set l (placed m from.place) (placed (record kept { turns = t }) p) from.rest.bytes.now s n turn s' h.some on
              (went_step s (Ok turn) s' moves past (λ e. on (cc e))));
        },
      )

  -- The sink stopped at its value.
  pub taken_stopped : (w : List ℕ) (s s' : S) → w ≡ drop n from.rest.bytes.now → MovesOn s (Err SinkStopped) s'
      → (k : ℕ) × (w ≡ drop k from.rest.bytes.now) × IsPlaceOf m1.cursor p × IsStep takes stops set l (placed m from.place) from.rest.bytes.now s (record {
        bytes = k;
        turn = Err SinkStopped;
      }) s' (placed (record m1 { turns = t }) p)
  taken_stopped w s s' rest moves =
      subst (λ (x : Machine). (k : ℕ) × (w ≡ drop k from.rest.bytes.now) × IsPlaceOf x.cursor p
      × IsStep takes stops set l (placed m from.place) from.rest.bytes.now s (record {
        bytes = k;
        turn = Err SinkStopped;
      }) s' (placed (record x { turns = t }) p))
      (sym h.kept)
      (n, rest, place, went_step s (Err SinkStopped) s' moves tt (λ e. cc e))
