-- What a machine takes of a unit, and the turn behind it.
use Rattle.std.proofs.Common.{refl, sym, ap, ◌∙◌, subst, arith}
use Rattle.std.specs.Prelude.{◌≡◌, ℕ, ◌<◌, ◌≤◌, List, ◌++◌, length, take, Result, Ok, Err}
use Rattle.std.proofs.lemmas.List.{length-take-le}
use Rattle.fast_wire.specs.meaning.Entities.{IsEntity}
use Rattle.fast_value.specs.declared.codes.Code.{Code}
use Rattle.fast_value.specs.declared.settings.Limits.{Limits}
use Rattle.fast_dict.specs.meaning.Dictionary.{Dictionary}
use Rattle.fast_stream.specs.declared.faults.FaultCode.{FaultCode}
use Rattle.fast_stream.specs.meaning.Events.{EventData}
use Rattle.fast_value.specs.meaning.Limits.{bounds}
use Rattle.fast_stream.specs.device.GrammarReaders.{reader_of}
use Rattle.fast_stream.specs.device.Continuations.{message_then}
use Rattle.fast_stream.specs.device.Readers.{Reader, Done}
use Rattle.fast_stream.specs.device.Machine.{after_bytes}
use Rattle.fast_machine.specs.device.Handing.{due, IsTaken}
use Rattle.fast_units.specs.device.Taking.{Waits, Quiet, Turns}
use Rattle.fast_machine.specs.device.UnitTaken.{IsTakenTo}
use Rattle.fast_machine.specs.device.Positions.{Set, tree_in, CanTake, CanTurn, GoesOn, IsReady, IsSupplied, IsTurn, meaning}
use Rattle.fast_machine.specs.device.TurnsLeft.{Way, HasTurns, HasTurnsBehind}
use Rattle.fast_machine.specs.declared.machine.Machine.{Machine}
use Rattle.fast_machine.specs.declared.machine.Waiting.{Waiting}
use Rattle.fast_machine.specs.declared.machine.Waiting.TheVariants.{Field}
use Rattle.fast_machine.specs.declared.machine.Turn.{Turn}
use Rattle.fast_machine.specs.declared.machine.Turn.TheVariants.{Silent, Handed, Waits as TurnWaits}
use Rattle.fast_machine.proofs.units.Takes.{quiet_behind, waits_first}
use Rattle.fast_machine.proofs.units.InHand.{entity_then, open_in_entity, whole_gives, takes_quietly}
use Rattle.fast_machine.proofs.units.Takings.{after-append, due-waits}
use Rattle.fast_units.proofs.Turning.{after_run}

module _ {S : Type 0} (takes stops : S → EventData → S → Type 0) (set : Set) (l : Limits) where
  -- Some bytes lead the reader to another one, of which a turn is taken.
  pub taken_to : (r : Reader Dictionary) (front rest : List ℕ) (n : ℕ) (q : Reader Dictionary) (s : S) (result : Result Turn FaultCode)
      (s' : S) (m : Machine) → 0 < n → n ≤ length rest
      → Turns r (front ++ take n rest) q → IsTurn takes stops set l q s result s' m → IsTakenTo takes stops set l (after_bytes r front) rest s n result s' m
  taken_to r front rest n q s result s' m some within h i =
      let len : length (take n rest) ≡ n = length-take-le n rest within in
      let quiet : Quiet (after_bytes r front) (take n rest) = quiet_behind r front (take n rest) h.quiet in
      let w : Waits (after_bytes r front) = waits_first (after_bytes r front) (take n rest) (omega (arith, len, some)) quiet in
      let same : due (tree_in set) l (after_bytes r front) ≡ after_bytes r front = due-waits (tree_in set) l (after_bytes r front) w in
      record {
        some = some;
        within = within;
        quiet = subst (λ (p : Reader Dictionary). Quiet p (take n rest)) (sym same) quiet;
        turn = subst (λ (p : Reader Dictionary). IsTurn takes stops set l p s result s' m)
            (sym (ap (λ (p : Reader Dictionary). after_bytes p (take n rest)) same ∙ sym (after_run r front (take n rest)) ∙ h.becomes)) i;
      }

  -- The same where no message is begun.
  pub begun_to : (from : Reader Dictionary) (d : Dictionary) (rest : List ℕ) (n : ℕ) (q : Reader Dictionary) (s : S)
      (result : Result Turn FaultCode) (s' : S) (m : Machine) → from ≡ Done d → 0 < n → n ≤ length rest
      → Turns (reader_of l.strict (message_then (tree_in set) (bounds l) d)) (take n rest) q → IsTurn takes stops set l q s result s' m
      → IsTakenTo takes stops set l from rest s n result s' m
  begun_to from d rest n q s result s' m is some within h i = rw is (record {
    some = some;
    within = within;
    quiet = h.quiet;
    turn = subst (λ (p : Reader Dictionary). IsTurn takes stops set l p s result s' m) (sym h.becomes) i;
  })

  -- The same of an entity, of which a front is in hand.
  pub whole_to : (c : Code) (room : ℕ) (k : List ℕ → Reader Dictionary) (from : Reader Dictionary) (front rest : List ℕ) (n : ℕ) (s : S)
      (result : Result Turn FaultCode) (s' : S) (m : Machine)
      → due (tree_in set) l from ≡ after_bytes (entity_then c room k) front → 0 < n → n ≤ length rest → IsEntity (front ++ take n rest)
      → length (front ++ take n rest) ≤ room
      → IsTurn takes stops set l (k (front ++ take n rest)) s result s' m → IsTakenTo takes stops set l from rest s n result s' m
  whole_to c room k from front rest n s result s' m here some within entity short h = record {
    some = some;
    within = within;
    quiet = subst (λ (p : Reader Dictionary). Quiet p (take n rest)) (sym here)
        (takes_quietly c room k front (take n rest) (open_in_entity front (take n rest) entity) short);
    turn = subst (λ (p : Reader Dictionary). IsTurn takes stops set l p s result s' m)
        (sym (ap (λ (p : Reader Dictionary). after_bytes p (take n rest)) here
        ∙ sym (after-append (entity_then c room k) front (take n rest)) ∙ whole_gives c room k (front ++ take n rest) entity short)) h;
  }

  -- A unit that is cut ends as a turn that waits.
  pub cut_to : (from : Reader Dictionary) (rest : List ℕ) (s : S) (m : Machine) {n b : ℕ} {turn : Result Turn FaultCode} → b ≡ n
      → turn ≡ Ok TurnWaits → IsReady set l m
      → IsTaken takes stops (tree_in set) l from rest s n (Ok tt) s (meaning set l m) → IsTakenTo takes stops set l from rest s b turn s m
  cut_to from rest s m {n} {b} {turn} e i ready h =
      subst (λ (k : ℕ). IsTakenTo takes stops set l from rest s k turn s m) (sym e)
      (subst (λ (t : Result Turn FaultCode). IsTakenTo takes stops set l from rest s n t s m) (sym i) (record {
        some = h.some;
        within = h.within;
        quiet = h.quiet;
        turn = record { moves = h.hands; supplied = ready.supplied; goes_on = ready };
      }))

  -- A wrong one ends at its fault.
  pub wrong_to : (from : Reader Dictionary) (rest : List ℕ) (s : S) (m : Machine) {n b : ℕ} {turn : Result Turn FaultCode} (c : FaultCode)
      → b ≡ n → turn ≡ Err c → IsSupplied set l m
      → ((q : Reader Dictionary) → IsTaken takes stops (tree_in set) l from rest s n (Err c) s q) → IsTakenTo takes stops set l from rest s b turn s m
  wrong_to from rest s m {n} {b} {turn} c e i supplied h =
      subst (λ (k : ℕ). IsTakenTo takes stops set l from rest s k turn s m) (sym e)
      (subst (λ (t : Result Turn FaultCode). IsTakenTo takes stops set l from rest s n t s m) (sym i) (record {
        some = (h (meaning set l m)).some;
        within = (h (meaning set l m)).within;
        quiet = (h (meaning set l m)).quiet;
        turn = record { moves = λ q. (h q).hands; supplied = supplied; goes_on = tt };
      }))

-- A machine that waits for the first integer of a field, none of whose bytes has come, stands between two units.
pub can_take_field : (set : Set) (l : Limits) (m : Machine) → m.waiting ≡ Field → IsReady set l m → CanTake Field set l m
can_take_field set l m waits ready = subst (λ (w : Waiting). CanTake w set l m) waits ready.takes

-- Behind a turn that goes on the machine is between two units.
pub can_turn_on : (set : Set) (l : Limits) (m : Machine) (turn : Turn) → (turn ≡ TurnWaits → ⊥) → GoesOn set l m (Ok turn) → CanTurn set l m
can_turn_on set l m Silent on h = h
can_turn_on set l m Handed on h = h
can_turn_on set l m TurnWaits on h = absurd (on refl)

-- It has the turns that are left there.
pub has_turns_on : (set : Set) (l : Limits) (m : Machine) (way : Way) (n : ℕ) (turn : Turn) → (turn ≡ TurnWaits → ⊥)
    → HasTurnsBehind (Ok turn) way set l n m → HasTurns way set l 0 n m
has_turns_on set l m way n Silent on h = h
has_turns_on set l m way n Handed on h = h
has_turns_on set l m way n TurnWaits on h = absurd (on refl)
