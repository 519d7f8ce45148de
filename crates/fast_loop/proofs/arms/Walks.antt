-- Steps of the machine's loop, one after the other.
use Rattle.std.proofs.Common.{refl, sym, ap, ◌∙◌, subst, arith}
use Rattle.std.specs.Prelude.{◌≡◌, ◌≢◌, ℕ, ◌-◌, ◌≤◌, List, length, drop, Result, Ok, Err}
use Rattle.std.proofs.lemmas.List.{take_rest, length-drop}
use Rattle.fast_value.specs.declared.settings.Limits.{Limits}
use Rattle.fast_stream.specs.meaning.Events.{EventData}
use Rattle.fast_stream.specs.declared.faults.FaultCode.{FaultCode}
use Rattle.fast_cursor.specs.declared.place.Place.{Place}
use Rattle.fast_cursor.specs.device.Cursors.{CursorData}
use Rattle.fast_cursor.specs.device.Places.{at_place, IsPlaceOf}
use Rattle.fast_machine.specs.declared.machine.Machine.{Machine}
use Rattle.fast_machine.specs.declared.machine.Turn.{Turn}
use Rattle.fast_machine.specs.declared.machine.Turn.TheVariants.{Waits}
use Rattle.fast_machine.specs.declared.taking.UnitTaken.{UnitTaken}
use Rattle.fast_loop.specs.declared.spot.Spot.{Spot}
use Rattle.fast_loop.specs.declared.spot.Went.{Went}
use Rattle.fast_machine.specs.device.Positions.{placed, Set}
use Rattle.fast_loop.specs.device.Arms.{IsAtSpot, WentBy, HasWent, ended}
use Rattle.fast_machine.specs.device.Steps.{IsStep}
use Rattle.fast_machine.proofs.streams.Running.{IsSoFar, so_far_step, so_far_end}

module _ {S : Type 0} (takes stops : S → EventData → S → Type 0) (set : Set) (l : Limits) (m : Machine) (from : Spot) (s : S) where
  -- The same under other names.
  pub went_as : {went went' : Went} {s' s'' : S} {m' m'' : Machine} {to to' : Spot} → m'' ≡ m' → s'' ≡ s' → to' ≡ to → went' ≡ went
      → HasWent takes stops set l m from s went s' m' to → HasWent takes stops set l m from s went' s'' m'' to'
  went_as {went} {went'} {s'} {s''} {m'} {m''} {to} {to'} e f g i h =
      subst (λ (x : Machine). HasWent takes stops set l m from s went' s'' x to') (sym e)
      (subst (λ (x : S). HasWent takes stops set l m from s went' x m' to') (sym f)
      (subst (λ (x : Spot). HasWent takes stops set l m from s went' s' m' x) (sym g)
      (subst (λ (x : Went). HasWent takes stops set l m from s x s' m' to) (sym i) h)))

  -- The place is one of the machine's.
  pub went_place : (went : Went) (s' : S) (m' : Machine) (to : Spot) → IsPlaceOf m.cursor from.place
      → HasWent takes stops set l m from s went s' m' to → IsPlaceOf m'.cursor to.place
  went_place Went.Took s' m' to place (n, some, w) = w.place
  went_place Went.Handed s' m' to place w = w.place
  went_place Went.Silent s' m' to place w = w.place
  went_place Went.Declined s' m' to place (e, f, g) = subst (λ (x : Machine). IsPlaceOf x.cursor to.place) (sym e)
      (subst (λ (x : Spot). IsPlaceOf m.cursor x.place) (sym f) place)
  went_place Went.Stopped s' m' to place w = w.2
  went_place Went.Waits s' m' to place w = w.2

  -- Where the arm declined the machine stands where it stood.
  pub went_nowhere : (went : Went) (s' : S) (m' : Machine) (to : Spot) → IsAtSpot set l m from.place
      → HasWent takes stops set l m from s went s' m' to → went ≡ Went.Declined → IsAtSpot set l m' to.place
  went_nowhere went s' m' to spot h e = by (subst (λ (x : Went). HasWent takes stops set l m from s x s' m' to) e h)
    where
      by : HasWent takes stops set l m from s Went.Declined s' m' to → IsAtSpot set l m' to.place
      by (e, f, g) = subst (λ (x : Machine). IsAtSpot set l x to.place) (sym e) (subst (λ (x : Spot). IsAtSpot set l m x.place) (sym f) spot)

  -- A step in the general way, whose machine stands at its own place.
  pub step_at : (cur : CursorData) (n : ℕ) (turn : Result Turn FaultCode) (q : UnitTaken) (s' : S) (b : Machine) (p : Place)
      → cur ≡ at_place m.cursor from.place → q.bytes ≡ n → q.turn ≡ turn → at_place b.cursor p ≡ b.cursor
      → IsStep takes stops set l (record m { cursor = cur }) from.rest.bytes.now s q s' b
      → IsStep takes stops set l (placed m from.place) from.rest.bytes.now s (record { bytes = n; turn = turn }) s' (placed b p)
  step_at cur n turn q s' b p e f g h step =
      subst (λ (x : CursorData). IsStep takes stops set l (placed m from.place) from.rest.bytes.now s (record {
        bytes = n;
        turn = turn;
      }) s' (record b { cursor = x })) (sym h)
      (subst (λ (x : CursorData). IsStep takes stops set l (record m { cursor = x }) from.rest.bytes.now s (record { bytes = n; turn = turn }) s' b) e
      (subst (λ (x : Result Turn FaultCode). IsStep takes stops set l (record m { cursor = cur }) from.rest.bytes.now s (record { bytes = n; turn = x }) s' b) g
      (subst (λ (k : ℕ). IsStep takes stops set l (record m { cursor = cur }) from.rest.bytes.now s (record { bytes = k; turn = q.turn }) s' b) f step)))

module _ {S : Type 0} {takes stops : S → EventData → S → Type 0} {set : Set} {l : Limits} {m : Machine} {from : Spot} {s : S}
    {n : ℕ} {turn : Turn} {s' : S} {m' : Machine} {to : Spot} (w : WentBy takes stops set l m from s n turn s' m' to) where
  -- So many bytes less are left.
  pub went_left : length to.rest.bytes.now ≡ length from.rest.bytes.now - n
  went_left = ap length w.rest ∙ length-drop n from.rest.bytes.now

  pub went_within : {j k : ℕ} → length from.rest.bytes.now ≤ j → j ≤ k → length to.rest.bytes.now ≤ k
  went_within before more = let left = went_left in omega (arith, left, before, more)

  -- A step more.
  pub went_far : {m0 : Machine} {piece : List ℕ} {s0 : S} → turn ≢ Waits
      → IsSoFar takes stops set l m0 piece s0 from.rest.bytes.now s (placed m from.place)
      → IsSoFar takes stops set l m0 piece s0 to.rest.bytes.now s' (placed m' to.place)
  went_far {m0} {piece} {s0} on far =
      subst (λ (x : List ℕ). IsSoFar takes stops set l m0 piece s0 x s' (placed m' to.place)) (take_rest from.rest.bytes.now n ∙ sym w.rest)
      (so_far_step takes stops set l m0 piece s0 from.rest.bytes.now s (placed m from.place) (record {
        bytes = n;
        turn = Ok turn;
      }) turn s' (placed m' to.place) refl on far w.step)

-- The last step.
pub gone_end : {S : Type 0} {takes stops : S → EventData → S → Type 0} {set : Set} {l : Limits} {m0 m m' : Machine} {s0 s s' : S}
    {piece from : List ℕ} (n : ℕ) (outcome : Result Unit FaultCode) (w : List ℕ) → w ≡ drop n from
    → IsStep takes stops set l m from s (record { bytes = n; turn = ended outcome }) s' m' → IsSoFar takes stops set l m0 piece s0 from s m
    → IsStep takes stops set l m0 piece s0 (record { bytes = length piece - length w; turn = ended outcome }) s' m'
gone_end {S} {takes} {stops} {set} {l} {m0} {m} {m'} {s0} {s} {s'} {piece} {from} n outcome w rest step far =
    subst (λ (x : List ℕ). IsStep takes stops set l m0 piece s0 (record {
      bytes = length piece - length x;
      turn = ended outcome;
    }) s' m') (take_rest from n ∙ sym rest)
    (so_far_end takes stops set l m0 piece s0 from s m (record {
      bytes = n;
      turn = ended outcome;
    }) (ended outcome) s' m' refl (by outcome) far step)
  where
    by : (o : Result Unit FaultCode) (t : Turn) → ended o ≡ Ok t → t ≡ Waits
    by (Ok u) t e = sym (cc e)
    by (Err c) t e = absurd (cc e)
