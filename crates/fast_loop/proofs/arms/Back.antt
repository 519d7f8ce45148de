-- From a step of the machine that stands where its place is to what an arm did.
use Rattle.std.proofs.Common.{refl, sym, ap, ◌∙◌, subst, arith}
use Rattle.std.specs.Prelude.{◌≡◌, ◌≢◌, ℕ, zero, suc, ◌+◌, ◌<◌, List, drop, Result, Ok, Err}
use Rattle.std.proofs.lemmas.List.{drop-drop}
use Rattle.fast_value.specs.declared.settings.Limits.{Limits}
use Rattle.fast_stream.specs.meaning.Events.{EventData}
use Rattle.fast_stream.specs.declared.faults.FaultCode.{FaultCode}
use Rattle.fast_stream.specs.declared.faults.FaultCode.TheVariants.{SinkStopped}
use Rattle.fast_cursor.specs.device.Cursors.{CursorData}
use Rattle.fast_cursor.specs.device.MapTaking.{IsMapTaken}
use Rattle.fast_cursor.specs.device.Places.{at_place, IsPlaceOf}
use Rattle.fast_cursor.specs.declared.pending.MapFront.TheVariants.{Whole}
use Rattle.fast_machine.specs.declared.machine.Machine.{Machine}
use Rattle.fast_machine.specs.declared.machine.Turn.{Turn}
use Rattle.fast_machine.specs.declared.machine.Turn.TheVariants.{Silent, Handed, Waits}
use Rattle.fast_machine.specs.declared.machine.Waiting.{Waiting}
use Rattle.fast_machine.specs.declared.machine.Waiting.TheVariants.{Field, SegmentMap}
use Rattle.fast_loop.specs.declared.spot.Spot.{Spot}
use Rattle.fast_loop.specs.declared.spot.Went.{Went}
use Rattle.fast_machine.specs.declared.turns.Turns.{Turns}
use Rattle.fast_machine.specs.device.Positions.{placed, Set, CanTurn, turning}
use Rattle.fast_loop.specs.device.Arms.{WentBy, HasWent}
use Rattle.fast_machine.specs.device.FitMaps.{IsFitMap}
use Rattle.fast_machine.specs.device.Opening.{opened_turn, awaiting}
use Rattle.fast_machine.specs.device.Steps.{IsStep}
use Rattle.fast_machine.specs.device.TurnsLeft.{HasTurns}
use Rattle.fast_loop.proofs.arms.Taken.{took_handed}
use Rattle.fast_machine.proofs.machines.OpenMaps.{map_read, map_turns, map_counted}
use Rattle.fast_machine.proofs.machines.UnitTaken.{taken_to}
use Rattle.fast_machine.proofs.streams.Running.{step_unit, step_waits}

-- The spot stands where the machine does, so many bytes behind another.
pub record StandsAt (m : Machine) (from to : Spot) (n : ℕ) : Type 0 where
  pub at : at_place m.cursor to.place ≡ m.cursor
  pub place : IsPlaceOf m.cursor to.place
  pub rest : to.rest.bytes.now ≡ drop n from.rest.bytes.now

-- bytes behind bytes
pub further : (from mid to : List ℕ) (n k : ℕ) → mid ≡ drop n from → to ≡ drop k mid → to ≡ drop (n + k) from
further from mid to n k is behind = behind ∙ ap (drop k) is ∙ drop-drop k n from

module _ {S : Type 0} (takes stops : S → EventData → S → Type 0) (set : Set) (l : Limits) (m : Machine) (from : Spot) (s : S) where
  -- a step to the machine's own place
  placed_step : (m' : Machine) (to : Spot) (n : ℕ) (result : Result Turn FaultCode) (s' : S) → StandsAt m' from to n
      → IsStep takes stops set l (placed m from.place) from.rest.bytes.now s (record {
        bytes = n;
        turn = result;
      }) s' m' → IsStep takes stops set l (placed m from.place) from.rest.bytes.now s (record { bytes = n; turn = result }) s' (placed m' to.place)
  placed_step m' to n result s' h step = subst (λ (c : CursorData). IsStep takes stops set l (placed m from.place) from.rest.bytes.now s (record {
    bytes = n;
    turn = result;
  }) s' (record m' { cursor = c })) (sym h.at) step

  pub went_by : (m' : Machine) (to : Spot) (n : ℕ) (turn : Turn) (s' : S) → StandsAt m' from to n → m'.waiting ≡ Field
      → IsStep takes stops set l (placed m from.place) from.rest.bytes.now s (record {
        bytes = n;
        turn = Ok turn;
      }) s' m' → WentBy takes stops set l m from s n turn s' m' to
  went_by m' to n turn s' h waits step = record {
    rest = h.rest;
    waits = waits;
    place = h.place;
    step = placed_step m' to n (Ok turn) s' h step;
  }

  -- It took bytes.
  pub went_took : (m' : Machine) (to : Spot) (n : ℕ) (turn : Turn) (s' : S) → StandsAt m' from to n → m'.waiting ≡ Field → 0 < n → turn ≢ Waits
      → IsStep takes stops set l (placed m from.place) from.rest.bytes.now s (record {
        bytes = n;
        turn = Ok turn;
      }) s' m' → HasWent takes stops set l m from s Went.Took s' m' to
  went_took m' to n turn s' h waits some on step =
      (n, some, went_by m' to n Handed s' h waits (took_handed takes stops set l (placed m from.place) m' from.rest.bytes.now s n turn s' some on step))

  -- The sink stopped.
  pub went_stopped : (m' : Machine) (to : Spot) (n : ℕ) (code : FaultCode) (s' : S) → StandsAt m' from to n → code ≡ SinkStopped
      → IsStep takes stops set l (placed m from.place) from.rest.bytes.now s (record {
        bytes = n;
        turn = Err code;
      }) s' m' → HasWent takes stops set l m from s Went.Stopped s' m' to
  went_stopped m' to n code s' h stopped step = (
    n,
    h.rest,
    h.place,
    subst (λ (c : FaultCode). IsStep takes stops set l (placed m from.place) from.rest.bytes.now s (record {
      bytes = n;
      turn = Err c;
    }) s' (placed m' to.place)) stopped (placed_step m' to n (Err code) s' h step),
  )

-- The map of the segment that began, so many bytes.
pub mapped_step : {S : Type 0} (takes stops : S → EventData → S → Type 0) (set : Set) (l : Limits) (m a : Machine) (rest : List ℕ)
    (s mid : S) (n width k : ℕ) (c : CursorData) (t : Turns) → a.waiting ≡ Field → 0 < width
    → IsMapTaken a.cursor.map (drop n rest) c.map (Whole k) → IsFitMap l.strict width c.map → c ≡ record a.cursor { map = c.map } → t.count ≡ a.turns.count + 1
    → IsStep takes stops set l m rest s (record { bytes = n; turn = Ok (opened_turn width) }) mid (awaiting width a)
    → IsStep takes stops set l m rest s (record { bytes = n + k; turn = Ok Silent }) mid (record a { cursor = c; turns = t })
mapped_step takes stops set l m a rest s mid n zero k c t waits some taken fit same count step = absurd (omega (arith, some))
mapped_step takes stops set l m a rest s mid n (suc w) k c t waits some taken fit same count step =
    let b : Machine = record a { waiting = SegmentMap (suc w) } in
    let width : ℕ = suc w in
    let b' : Machine = record b { cursor = c; turns = t } in
    let can : CanTurn set l b' = map_turns set l b width c t (drop n rest) k refl step.goes_on taken fit same in
    step_waits takes stops set l m rest s (n + k) (Ok Silent) mid b' (record a {
      cursor = c;
      turns = t;
    }) Field (ap (λ (w : Waiting). record a { waiting = w; cursor = c; turns = t }) waits) (λ e. cc e)
    (step_unit takes stops set l m b rest s mid n (record { bytes = k; turn = Ok Silent }) mid b' step
    (taken_to takes stops set l _ b.cursor.map (drop n rest) k (turning set l b') mid (Ok Silent) mid b' taken.0 taken.1
    (map_read set l b width c t (drop n rest) k refl step.goes_on taken fit same)
    (record { moves = (refl, refl); supplied = can.supplied; goes_on = can }))
    (λ way j h.
    let sum : 1 + j ≡ 1 + j + 0 = omega arith in
    subst (λ x. HasTurns way set l 0 x b') sum (map_counted set l b width c t (drop n rest) k refl step.goes_on taken fit same way j count h)))
