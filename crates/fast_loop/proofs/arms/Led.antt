-- What leads past the next instruction, by the bytes that it takes, if any, is a step of the machine.
use Rattle.std.proofs.Common.{refl, sym, ap, ◌∙◌, subst, inl, inr}
use Rattle.std.specs.Prelude.{◌≡◌, ◌≢◌, ◌⊎◌, ℕ, ◌+◌, ◌<◌, List, drop, take, Option, Result, Ok, Err, OnOk}
use Rattle.fast_value.specs.meaning.Kinds.{ScalarData}
use Rattle.fast_value.specs.meaning.Limits.{bounds}
use Rattle.fast_value.specs.declared.settings.Limits.{Limits}
use Rattle.fast_tree.specs.meaning.Tree.{FieldData}
use Rattle.fast_dict.specs.meaning.Dictionary.{Dictionary}
use Rattle.fast_dict.specs.meaning.Slots.{slots_dictionary}
use Rattle.fast_stream.specs.meaning.Events.{EventData}
use Rattle.fast_stream.specs.declared.faults.FaultCode.{FaultCode}
use Rattle.fast_stream.specs.declared.faults.FaultCode.TheVariants.{SinkStopped}
use Rattle.fast_stream.specs.device.GrammarReaders.{reader_of}
use Rattle.fast_stream.specs.device.Readers.{Reader}
use Rattle.fast_units.specs.device.Taking.{Turns as TurnsTo}
use Rattle.fast_cursor.specs.declared.place.Place.{Place}
use Rattle.fast_cursor.specs.device.Cursors.{CursorData}
use Rattle.fast_cursor.specs.device.Places.{at_place, IsPlaceOf}
use Rattle.fast_machine.specs.declared.machine.Machine.{Machine}
use Rattle.fast_machine.specs.declared.machine.Turn.{Turn}
use Rattle.fast_machine.specs.declared.machine.Turn.TheVariants.{Silent, Handed, Waits}
use Rattle.fast_loop.specs.declared.spot.Spot.{Spot}
use Rattle.fast_loop.specs.declared.spot.Went.TheVariants as Went
use Rattle.fast_machine.specs.declared.turns.Turns.{Turns}
use Rattle.fast_machine.specs.device.Positions.{placed, Set, going_on, CanTurn, turning, meaning}
use Rattle.fast_loop.specs.device.Arms.{WentBy, HasWent}
use Rattle.fast_machine.specs.device.Moving.{Moves}
use Rattle.fast_loop.specs.device.Parts.{IsLedTo}
use Rattle.fast_machine.specs.device.Passing.{IsPast, value_then}
use Rattle.fast_machine.specs.device.Steps.{IsStep}
use Rattle.fast_loop.proofs.arms.Taken.{bytes_step, took_handed}
use Rattle.fast_machine.proofs.steps.FieldTurns.{goes_on_moved, supplied_moved}
use Rattle.fast_machine.proofs.steps.FieldTurns.{supplied_like, turn_moved}
use Rattle.fast_machine.proofs.steps.TurnCounts.{finished, one_turn}
use Rattle.fast_machine.proofs.streams.Running.{turn_step}

-- A silent turn leaves what is behind the instruction.
past_left : (c c' : CursorData) (result : Result Turn FaultCode) → OnOk result (IsPast c c') → result ≡ Ok Silent → c'.left ≡ drop 1 c.left
past_left c c' (Ok t) past e = ap (λ (x : CursorData). x.left) past.same
past_left c c' (Err x) past e = absurd (cc e)

module _ {S : Type 0} (takes stops : S → EventData → S → Type 0) (set : Set) (l : Limits) (m m1 : Machine) (t : Turns) (from : Spot)
    (p q : Place) (node : ℕ) (f : FieldData) (value : Option ScalarData) (n : ℕ)
    (h : IsLedTo set l m m1 from p node f value n) (counts : t.count ≡ m.turns.count + 1) (place : IsPlaceOf m.cursor q) where
  -- the machine before the instruction, with what this keeps, and behind it
  abbrev before : Machine
  before = placed m from.place

  abbrev kept : Machine
  kept = record m { slots = m1.slots }

  abbrev keeping : Machine
  keeping = record before { slots = m1.slots; turns = t }

  abbrev after : Machine
  after = placed (record kept { turns = t }) q

  can_keep : CanTurn set l keeping
  can_keep = record {
    supplied = supplied_like set l before keeping h.spot.can.supplied (record {
      terms = h.terms;
      carry = refl;
      text = refl;
      identifier = refl;
      rests = refl;
      latest = refl;
    }) h.spot.can.supplied.counted;
    placed = h.spot.can.placed;
    mapped = h.spot.can.mapped;
  }

  -- what is to be read behind the bytes
  abbrev read_on : Reader Dictionary
  read_on = reader_of l.strict (value_then set (bounds l) node value f (slots_dictionary m1.slots) m.counted (at_place m.cursor p))

  -- what a turn behind them moves
  abbrev MovesOn : S → Result Turn FaultCode → S → Type 0
  MovesOn s result s' = (waits : Reader Dictionary) → Moves takes stops read_on s result s'
      (reader_of l.strict (going_on set (bounds l) (slots_dictionary m1.slots) m.counted (at_place m.cursor q))) waits

  known : n ≡ 0 → turning set l before ≡ read_on
  known none = (subst (λ (k : ℕ). TurnsTo (turning set l before) (take k from.rest.bytes.now) read_on) none h.turns).becomes

  past_from : (result : Result Turn FaultCode) → OnOk result (IsPast (at_place m.cursor p) (at_place m.cursor q))
      → OnOk result (IsPast before.cursor after.cursor)
  past_from (Ok turn) past = record {
    same = ap (λ (ns : List ℕ). record after.cursor { left = ns })
        (ap (λ (c : CursorData). c.left) past.same ∙ ap (drop 1) h.left);
  }
  past_from (Err c) past = tt

  led_step : (s : S) (result : Result Turn FaultCode) (s' : S) → MovesOn s result s'
      → OnOk result (IsPast (at_place m.cursor p) (at_place m.cursor q)) → result ≢ Ok Waits → (n ≡ 0) ⊎ (0 < n)
      → IsStep takes stops set l before from.rest.bytes.now s (record { bytes = n; turn = result }) s' after
  led_step s result s' moves past on (inl none) =
      subst (λ (k : ℕ). IsStep takes stops set l before from.rest.bytes.now s (record { bytes = k; turn = result }) s' after) (sym none)
      (turn_step takes stops set l before from.rest.bytes.now s result s' after
      (turn_moved takes stops set l (turning set l before) read_on s result s' keeping after (known none)
      (moves (meaning set l after)) can_keep refl refl (past_from result past) on)
      (λ e. (h.some, past_left before.cursor after.cursor result (past_from result past) e))
      (λ way k c. finished way set l k keeping after h.instruction result h.next refl (past_from result past) on
      (one_turn way set l k m.turns.count t.count m.counted before.cursor counts c)))
  led_step s result s' moves past on (inr some) =
      bytes_step takes stops set l before after from.rest.bytes.now s n read_on result s' some h.within h.turns
      (record {
        moves = moves (meaning set l after);
        supplied = supplied_moved set l keeping after can_keep.supplied refl refl;
        goes_on = goes_on_moved set l keeping after result can_keep refl refl (past_from result past) on;
      })
      (λ way k c. finished way set l k keeping after h.instruction result h.next refl (past_from result past) on
      (one_turn way set l k m.turns.count t.count m.counted before.cursor counts c))

  module _ (to : Spot) (s : S) (turn : Turn) (s' : S) (rest : to.rest.bytes.now ≡ drop n from.rest.bytes.now) (same : to.place ≡ q)
      (moves : MovesOn s (Ok turn) s') (past : IsPast (at_place m.cursor p) (at_place m.cursor q)) (on : turn ≢ Waits) where
    -- Past it without a byte.
    pub led_went : n ≡ 0 → WentBy takes stops set l m from s 0 turn s' (record m1 { turns = t }) to
    led_went none = subst (λ (x : Machine). WentBy takes stops set l m from s 0 turn s' (record x { turns = t }) to) (sym h.kept) (record {
      rest = rest ∙ ap (λ (k : ℕ). drop k from.rest.bytes.now) none;
      waits = h.spot.waits;
      place = subst (λ (x : Place). IsPlaceOf m.cursor x) (sym same) place;
      step = subst (λ (x : Place). IsStep takes stops set l before from.rest.bytes.now s (record {
        bytes = 0;
        turn = Ok turn;
      }) s' (placed (record kept { turns = t }) x)) (sym same)
          (subst (λ (k : ℕ). IsStep takes stops set l before from.rest.bytes.now s (record {
            bytes = k;
            turn = Ok turn;
          }) s' after) none (led_step s (Ok turn) s' moves past (λ e. on (cc e)) (inl none)));
    })

    -- Past it by its bytes.
    pub led_took : 0 < n → HasWent takes stops set l m from s Went.Took s' (record m1 { turns = t }) to
    led_took some = subst (λ (x : Machine). HasWent takes stops set l m from s Went.Took s' (record x { turns = t }) to) (sym h.kept) (
      n,
      some,
      record {
        rest = rest;
        waits = h.spot.waits;
        place = subst (λ (x : Place). IsPlaceOf m.cursor x) (sym same) place;
        step = subst (λ (x : Place). IsStep takes stops set l before from.rest.bytes.now s (record {
          bytes = n;
          turn = Ok Handed;
        }) s' (placed (record kept { turns = t }) x)) (sym same)
            (took_handed takes stops set l before after from.rest.bytes.now s n turn s' some on
            (led_step s (Ok turn) s' moves past (λ e. on (cc e)) (inr some)));
      },
    )

  -- The sink stopped at its value.
  pub led_stopped : (w : List ℕ) (s s' : S) → w ≡ drop n from.rest.bytes.now → MovesOn s (Err SinkStopped) s' → (n ≡ 0) ⊎ (0 < n)
      → (k : ℕ) × (w ≡ drop k from.rest.bytes.now) × IsPlaceOf m1.cursor q × IsStep takes stops set l before from.rest.bytes.now s (record {
        bytes = k;
        turn = Err SinkStopped;
      }) s' (placed (record m1 { turns = t }) q)
  led_stopped w s s' rest moves some =
      subst (λ (x : Machine). (k : ℕ) × (w ≡ drop k from.rest.bytes.now) × IsPlaceOf x.cursor q × IsStep takes stops set l before from.rest.bytes.now
      s (record {
        bytes = k;
        turn = Err SinkStopped;
      }) s' (placed (record x { turns = t }) q))
      (sym h.kept)
      (n, rest, place, led_step s (Err SinkStopped) s' moves tt (λ e. cc e) some)
