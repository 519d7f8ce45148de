-- What an arm did at the end of a message.
use Rattle.std.proofs.Common.{refl, sym, ap, subst, arith, inl, inr}
use Rattle.std.specs.Prelude.{◌≡◌, ◌≢◌, ◌⊎◌, ℕ, ◌+◌, ◌<◌, ◌≤◌, [], take, drop, slice_get, Some, Ok}
use Rattle.fast_value.specs.declared.settings.Limits.{Limits}
use Rattle.fast_value.specs.meaning.Limits.{bounds}
use Rattle.fast_tree.specs.declared.instructions.Template.{Template}
use Rattle.fast_dict.specs.meaning.Dictionary.{Dictionary}
use Rattle.fast_dict.specs.meaning.Slots.{slots_dictionary}
use Rattle.fast_stream.specs.meaning.Events.{EventData, MessageEnd}
use Rattle.fast_stream.specs.device.GrammarReaders.{reader_of}
use Rattle.fast_cursor.specs.device.Cursors.{CursorData}
use Rattle.fast_cursor.specs.device.Places.{IsPlaceOf}
use Rattle.fast_machine.specs.declared.machine.Machine.{Machine}
use Rattle.fast_machine.specs.declared.machine.Turn.TheVariants.{Waits}
use Rattle.fast_machine.specs.declared.machine.Waiting.{Waiting}
use Rattle.fast_machine.specs.declared.machine.Waiting.TheVariants.{Map, Field}
use Rattle.fast_loop.specs.declared.spot.Spot.{Spot}
use Rattle.fast_loop.specs.declared.spot.Went.{Went}
use Rattle.fast_machine.specs.device.Positions.{placed, Set, tree_in, CanTurn, IsTurn, meaning}
use Rattle.fast_loop.specs.device.Arms.{HasWent, begun_by}
use Rattle.fast_machine.specs.device.Starts.{message_from, IsMessageAhead}
use Rattle.fast_machine.specs.device.Steps.{IsStep}
use Rattle.fast_machine.specs.device.TurnsLeft.{Way, most_by, HasTurnsBehind}
use Rattle.fast_machine.specs.device.UnitTaken.{IsTakenTo}
use Rattle.fast_loop.proofs.arms.Ends.{placed_turn, ended, ended_turns, message_begun}
use Rattle.fast_machine.proofs.machines.UnitTaken.{begun_to}

-- the answer by which a message began, or its start stopped the sink
abbrev pub IsStart : Went → Type 0
IsStart went = (went ≡ Went.Took) ⊎ (went ≡ Went.Stopped)

-- A turn that began a message does not wait.
pub begun_on : (went : Went) → IsStart went → begun_by went ≢ Ok Waits
begun_on Went.Took is e = cc e
begun_on Went.Stopped is e = cc e
begun_on Went.Handed is e = cc e
begun_on Went.Silent is e = cc e
begun_on Went.Declined is e = cc e
begun_on Went.Waits is e = cc e

module _ {S : Type 0} (takes stops : S → EventData → S → Type 0) (set : Set) (l : Limits) (m a : Machine) (from : Spot)
    (same : a ≡ record (placed m from.place) { turns = a.turns }) (counts : a.turns.count ≡ m.turns.count + 1)
    (can : CanTurn set l a) (end : a.cursor.left ≡ []) (outermost : a.cursor.frames ≡ []) (s mid : S) (taken : takes s MessageEnd mid) where
  -- the cursor before the next message
  abbrev cleared : CursorData
  cleared = record a.cursor { map = []; used = 0; ends = 8 }

  -- No message begins yet.
  pub none_went : (went : Went) (m' : Machine) (to : Spot) → went ≡ Went.Waits → to.rest.bytes.now ≡ from.rest.bytes.now → IsPlaceOf m'.cursor to.place
      → placed m' to.place ≡ record a {
        waiting = Map;
        cursor = record a.cursor { map = []; used = 0; ends = 8 };
      } → HasWent takes stops set l m from s went mid m' to
  none_went went m' to waits rest place is =
      let step = placed_turn takes stops set l m a from same counts s (Ok Waits) mid (record a { waiting = Map; cursor = cleared }) (λ e. cc e)
      (ended takes stops set l m a from same counts cleared can end outermost refl s mid taken)
      (ended_turns takes stops set l m a from same counts cleared can end outermost refl) in
      subst (λ (w : Went). HasWent takes stops set l m from s w mid m' to) (sym waits) (
        0,
        rest,
        place,
        subst (λ (x : Machine). IsStep takes stops set l (placed m from.place) from.rest.bytes.now s (record {
          bytes = 0;
          turn = Ok Waits;
        }) mid x) (sym is) step,
      )

  -- by the answer
  as_went : (went : Went) (n : ℕ) (s' : S) (m' : Machine) (to : Spot) → IsStart went → 0 < n → to.rest.bytes.now ≡ drop n from.rest.bytes.now
      → m'.waiting ≡ Field → IsPlaceOf m'.cursor to.place
      → IsStep takes stops set l (placed m from.place) from.rest.bytes.now s (record {
        bytes = n;
        turn = begun_by went;
      }) s' (placed m' to.place) → HasWent takes stops set l m from s went s' m' to
  as_went Went.Took n s' m' to is some rest waits place step = (n, some, record { rest = rest; waits = waits; place = place; step = step })
  as_went Went.Stopped n s' m' to is some rest waits place step = (n, rest, place, step)
  as_went Went.Handed n s' m' to (inl e) some rest waits place step = absurd (cc e)
  as_went Went.Handed n s' m' to (inr e) some rest waits place step = absurd (cc e)
  as_went Went.Silent n s' m' to (inl e) some rest waits place step = absurd (cc e)
  as_went Went.Silent n s' m' to (inr e) some rest waits place step = absurd (cc e)
  as_went Went.Declined n s' m' to (inl e) some rest waits place step = absurd (cc e)
  as_went Went.Declined n s' m' to (inr e) some rest waits place step = absurd (cc e)
  as_went Went.Waits n s' m' to (inl e) some rest waits place step = absurd (cc e)
  as_went Went.Waits n s' m' to (inr e) some rest waits place step = absurd (cc e)

  -- A message begins.
  pub start_went : (number n : ℕ) (d : Dictionary) (went : Went) (s' : S) (m' : Machine) (to : Spot)
      → IsMessageAhead set l (slots_dictionary a.slots) d from.rest.bytes.now number n → IsStart went
      → to.rest.bytes.now ≡ drop n from.rest.bytes.now → m'.waiting ≡ Field → IsPlaceOf m'.cursor to.place
      → ((t : Template) → slice_get set.templates number ≡ Some t
      → IsTurn takes stops set l (reader_of l.strict (message_from set (bounds l) number t d (take 1 from.rest.bytes.now))) mid
      (begun_by went) s' (placed m' to.place))
      → ((way : Way) (k : ℕ) → a.turns.count + most_by way (tree_in set) l ≤ k → HasTurnsBehind (begun_by went) way set l (1 + k) (placed m' to.place))
      → HasWent takes stops set l m from s went s' m' to
  start_went number n d went s' m' to ahead is rest waits place turn turns =
      let x : Machine = placed m' to.place in
      let waiting : Machine = record a { waiting = Map; cursor = cleared } in
      let unit : IsTakenTo takes stops set l (meaning set l waiting) from.rest.bytes.now mid n (begun_by went) s' x =
      begun_to takes stops set l (meaning set l waiting) (slots_dictionary a.slots) from.rest.bytes.now n
      (reader_of l.strict (message_from set (bounds l) number ahead.template d (take 1 from.rest.bytes.now))) mid (begun_by went) s' x
      refl ahead.some ahead.within ahead.turns (turn ahead.template ahead.found) in
      as_went went n s' m' to is ahead.some rest waits place
      (message_begun takes stops set l m a from same counts cleared can end outermost refl s mid (record { bytes = n; turn = begun_by went }) s' x x taken unit
      (λ way k h. paid way k (turns way (k + most_by way (tree_in set) l) (omega (arith, h))))
      (begun_on went is) (ap (λ (w : Waiting). record x { waiting = w }) waits))
    where
      paid : (way : Way) (k : ℕ) → HasTurnsBehind (begun_by went) way set l (1 + (k + most_by way (tree_in set) l)) (placed m' to.place)
          → HasTurnsBehind (begun_by went) way set l (1 + k + most_by way (tree_in set) l) (placed m' to.place)
      paid way k h = let e : 1 + (k + most_by way (tree_in set) l) ≡ 1 + k + most_by way (tree_in set) l = omega arith in
          subst (λ n. HasTurnsBehind (begun_by went) way set l n (placed m' to.place)) e h
