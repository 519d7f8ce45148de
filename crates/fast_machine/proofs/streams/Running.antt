-- Steps of a machine, one after the other.
use Rattle.std.proofs.Common.{refl, sym, ap, ◌∙◌, subst, arith, append_assoc, append-nil}
use Rattle.std.specs.Prelude.{◌≡◌, ℕ, ◌+◌, ◌*◌, ◌-◌, ◌<◌, ◌≤◌, List, [], ◌++◌, length, take, drop, Result, Ok, Err, OnOk}
use Rattle.std.proofs.lemmas.List.{length-take-le, take_rest, length-drop, drop-drop}
use Rattle.std.proofs.Math.Seq.{take-add}
use Rattle.fast_value.specs.declared.settings.Limits.{Limits}
use Rattle.fast_dict.specs.meaning.Dictionary.{Dictionary}
use Rattle.fast_stream.specs.meaning.Events.{EventData}
use Rattle.fast_stream.specs.declared.faults.FaultCode.{FaultCode}
use Rattle.fast_stream.specs.device.Readers.{Reader}
use Rattle.fast_stream.specs.device.Machine.{after_bytes}
use Rattle.fast_machine.specs.declared.machine.Machine.{Machine}
use Rattle.fast_machine.specs.declared.machine.Turn.{Turn}
use Rattle.fast_machine.specs.declared.machine.Turn.TheVariants.{Silent, Handed, Waits as TurnWaits}
use Rattle.fast_machine.specs.device.Handing.{Hands, due, waiting_at, Fed}
use Rattle.fast_machine.specs.device.Moving.{Moves, Onward}
use Rattle.fast_machine.specs.declared.machine.Waiting.{Waiting}
use Rattle.fast_machine.specs.declared.taking.UnitTaken.{UnitTaken}
use Rattle.fast_machine.specs.device.TurnsLeft.{Way, most_by, HasTurns, HasTurnsWaiting, HasTurnsBehind, HasTurnsAfter, turns_begun_at}
use Rattle.fast_machine.specs.device.Positions.{Set, tree_in, CanTurn, GoesOn, IsReady, IsTurn, turning, meaning}
use Rattle.fast_machine.specs.device.UnitTaken.{IsTakenTo}
use Rattle.fast_machine.specs.device.Steps.{FedBehind, Runs, IsStep, IsCountedBy}
use Rattle.fast_machine.proofs.steps.Moves.{hands_turned, fewer_due}
use Rattle.fast_machine.proofs.steps.TurnCounts.{more_behind, unit_covers}
use Rattle.fast_machine.proofs.steps.FieldTurns.{supplied_like, can_turn_waits}
use Rattle.fast_machine.proofs.machines.UnitTaken.{can_turn_on, has_turns_on}
use Rattle.std.proofs.Math.Nat.{add-mul}
use Rattle.fast_machine.proofs.streams.Feeding.{by_list, fed_both}

-- What holds of a turn at whose end the machine waits, or stands at an end, is told of how it ended.
told_end : (P : Result Turn FaultCode → Type 0) (Q : Result Unit FaultCode → Type 0) (turn : Result Turn FaultCode) (o : Result Unit FaultCode)
    → ((t : Turn) → turn ≡ Ok t → t ≡ TurnWaits) → ((t : Turn) → turn ≡ Ok t → o ≡ Ok tt) → ((c : FaultCode) → turn ≡ Err c → o ≡ Err c)
    → (P (Ok TurnWaits) → Q (Ok tt)) → ((c : FaultCode) → P (Err c) → Q (Err c)) → P turn → Q o
told_end P Q (Ok Silent) o ends ok err waits fault h = let never : Silent ≡ TurnWaits = ends Silent refl in absurd (cc never)
told_end P Q (Ok Handed) o ends ok err waits fault h = let never : Handed ≡ TurnWaits = ends Handed refl in absurd (cc never)
told_end P Q (Ok TurnWaits) o ends ok err waits fault h = rw (ok TurnWaits refl) (waits h)
told_end P Q (Err c) o ends ok err waits fault h = rw (err c refl) (fault c h)

-- The turns that are left behind such a turn.
after_end : (set : Set) (l : Limits) (m : Machine) (turn : Result Turn FaultCode) (o : Result Unit FaultCode) (way : Way) (n : ℕ)
    → ((t : Turn) → turn ≡ Ok t → t ≡ TurnWaits)
    → ((t : Turn) → turn ≡ Ok t → o ≡ Ok tt) → ((c : FaultCode) → turn ≡ Err c → o ≡ Err c) → HasTurnsBehind turn way set l n m → HasTurnsAfter o way set l n m
after_end set l m turn o way n ends ok err h =
    told_end (λ t. HasTurnsBehind t way set l n m) (λ q. HasTurnsAfter q way set l n m) turn o ends ok err (λ k. k) (λ c k. k) h

-- A machine that waits is ready.
pub ready_end : (set : Set) (l : Limits) (m : Machine) (turn : Result Turn FaultCode) (o : Result Unit FaultCode) → ((t : Turn) → turn ≡ Ok t → t ≡ TurnWaits)
    → ((t : Turn) → turn ≡ Ok t → o ≡ Ok tt) → ((c : FaultCode) → turn ≡ Err c → o ≡ Err c) → GoesOn set l m turn → OnOk o (IsReady set l m)
ready_end set l m turn o ends ok err h = told_end (GoesOn set l m) (λ q. OnOk q (IsReady set l m)) turn o ends ok err (λ k. k) (λ c k. tt) h

module _ {S : Type 0} (takes stops : S → EventData → S → Type 0) (set : Set) (l : Limits) where
  -- What is due is handed over, and no byte is taken.
  pub hands_fed : (r : Reader Dictionary) (s : S) (o : Result Unit FaultCode) (s' : S) (to : Reader Dictionary)
      → Hands takes stops r s o s' to → FedBehind takes stops (tree_in set) l r s [] o s' to
  hands_fed r s o s' to h p v from some quiet on =
      subst (λ (w : List ℕ). Fed takes stops (tree_in set) l (waiting_at p) w from o s' (waiting_at to)) (sym (append-nil v))
      (by_list (tree_in set) l takes stops p v from o s' to some quiet (on o s' to h))

  -- The same, and then the machine goes on.
  pub onward_fed : (r r' : Reader Dictionary) (s s' : S) (u : List ℕ) (o : Result Unit FaultCode) (t : S) (to : Reader Dictionary)
      → Onward takes stops r s r' s'
      → FedBehind takes stops (tree_in set) l r' s' u o t to → FedBehind takes stops (tree_in set) l r s u o t to
  onward_fed r r' s s' u o t to h fed p v from some quiet on = fed p v from some quiet (λ x y q k. on x y q (h x y q k))

  -- A turn that goes on.
  turn_onward : (r on waits : Reader Dictionary) (s : S) (turn : Turn) (s' : S) → (turn ≡ TurnWaits → ⊥)
      → Moves takes stops r s (Ok turn) s' on waits → Onward takes stops r s on s'
  turn_onward r on waits s turn s' go h o t q k = hands_turned takes stops r on waits s turn s' o t q go h k

  -- A turn without a byte.
  pub turn_runs : (m : Machine) (s : S) (result : Result Turn FaultCode) (s' : S) (m' : Machine)
      → Moves takes stops (turning set l m) s result s' (turning set l m') (meaning set l m') → Runs takes stops set l m s [] result s' m'
  turn_runs m s (Ok Silent) s' m' h = λ u o t to fed.
      onward_fed (turning set l m) (turning set l m') s s' u o t to
      (turn_onward (turning set l m) (turning set l m') (meaning set l m') s Silent s' (λ e. absurd (cc e)) h) fed
  turn_runs m s (Ok Handed) s' m' h = λ u o t to fed.
      onward_fed (turning set l m) (turning set l m') s s' u o t to
      (turn_onward (turning set l m) (turning set l m') (meaning set l m') s Handed s' (λ e. absurd (cc e)) h) fed
  turn_runs m s (Ok TurnWaits) s' m' h = hands_fed (turning set l m) s (Ok tt) s' (meaning set l m') h
  turn_runs m s (Err c) s' m' h = λ to. hands_fed (turning set l m) s (Err c) s' to (h to)

  -- Bytes that are fed behind others, at whose end the machine waits.
  both_fed : (r q : Reader Dictionary) (s mid : S) (u w : List ℕ) (o : Result Unit FaultCode) (s' : S) (to : Reader Dictionary)
      → FedBehind takes stops (tree_in set) l r s u (Ok tt) mid q
      → Fed takes stops (tree_in set) l (waiting_at q) w mid o s' (waiting_at to) → FedBehind takes stops (tree_in set) l r s (u ++ w) o s' to
  both_fed r q s mid u w o s' to h fed p v from some quiet on =
      subst (λ (x : List ℕ). Fed takes stops (tree_in set) l (waiting_at p) x from o s' (waiting_at to)) (append_assoc v u w)
      (fed_both (tree_in set) l takes stops (waiting_at p) (waiting_at q) (waiting_at to) (v ++ u) w from mid s' o (h p v from some quiet on) fed)

  -- A unit, behind bytes at whose end this reader waits for it.
  unit_behind : (m : Machine) (p : Reader Dictionary) (s mid : S) (v rest : List ℕ) (n : ℕ) (result : Result Turn FaultCode) (s' : S)
      (m' : Machine) → FedBehind takes stops (tree_in set) l (turning set l m) s v (Ok tt) mid p
      → IsTakenTo takes stops set l p rest mid n result s' m' → Runs takes stops set l m s (v ++ take n rest) result s' m'
  unit_behind m p s mid v rest n result s' m' h taken = by result taken.turn.moves
    where
      size : 0 < length (take n rest)
      size = let len = length-take-le n rest taken.within in let some = taken.some in omega (arith, len, some)

      gone : Reader Dictionary
      gone = after_bytes (due (tree_in set) l p) (take n rest)

      more : (turn : Turn) → (turn ≡ TurnWaits → ⊥) → Moves takes stops gone mid (Ok turn) s' (turning set l m') (meaning set l m')
          → (u : List ℕ) (o : Result Unit FaultCode) (t : S) (to : Reader Dictionary) → FedBehind takes stops (tree_in set) l (turning set l m') s' u o t to
          → FedBehind takes stops (tree_in set) l (turning set l m) s ((v ++ take n rest) ++ u) o t to
      more turn go moves u o t to fed =
          subst (λ (x : List ℕ). FedBehind takes stops (tree_in set) l (turning set l m) s x o t to) (sym (append_assoc v (take n rest) u))
          (both_fed (turning set l m) p s mid v (take n rest ++ u) o t to h
          (fed p (take n rest) mid size taken.quiet (turn_onward gone (turning set l m') (meaning set l m') mid turn s' go moves)))

      by : (result : Result Turn FaultCode) → Moves takes stops gone mid result s' (turning set l m') (meaning set l m')
          → Runs takes stops set l m s (v ++ take n rest) result s' m'
      by (Ok Silent) moves = more Silent (λ e. absurd (cc e)) moves
      by (Ok Handed) moves = more Handed (λ e. absurd (cc e)) moves
      by (Ok TurnWaits) moves =
          both_fed (turning set l m) p s mid v (take n rest) (Ok tt) s' (meaning set l m') h
          (by_list (tree_in set) l takes stops p (take n rest) mid (Ok tt) s' (meaning set l m') size taken.quiet moves)
      by (Err c) moves = λ to.
          both_fed (turning set l m) p s mid v (take n rest) (Err c) s' to h
          (by_list (tree_in set) l takes stops p (take n rest) mid (Err c) s' to size taken.quiet (moves to))

  -- A unit, behind a turn at whose end this reader waits for it.
  pub unit_runs : (m : Machine) (p : Reader Dictionary) (s mid : S) (rest : List ℕ) (n : ℕ) (result : Result Turn FaultCode) (s' : S)
      (m' : Machine) → Hands takes stops (turning set l m) s (Ok tt) mid p
      → IsTakenTo takes stops set l p rest mid n result s' m' → Runs takes stops set l m s (take n rest) result s' m'
  unit_runs m p s mid rest n result s' m' h taken = unit_behind m p s mid [] rest n result s' m' (hands_fed (turning set l m) s (Ok tt) mid p h) taken

  -- Steps behind others.
  pub runs_both : (m b : Machine) (s mid : S) (v w : List ℕ) (result : Result Turn FaultCode) (s' : S) (m' : Machine)
      → Runs takes stops set l m s v (Ok Silent) mid b → Runs takes stops set l b mid w result s' m'
      → Runs takes stops set l m s (v ++ w) result s' m'
  runs_both m b s mid v w (Ok Silent) s' m' h i = λ u o t to fed.
      subst (λ (x : List ℕ). FedBehind takes stops (tree_in set) l (turning set l m) s x o t to) (sym (append_assoc v w u)) (h (w ++ u) o t to (i u o t to fed))
  runs_both m b s mid v w (Ok Handed) s' m' h i = λ u o t to fed.
      subst (λ (x : List ℕ). FedBehind takes stops (tree_in set) l (turning set l m) s x o t to) (sym (append_assoc v w u)) (h (w ++ u) o t to (i u o t to fed))
  runs_both m b s mid v w (Ok TurnWaits) s' m' h i = h w (Ok tt) s' (meaning set l m') i
  runs_both m b s mid v w (Err c) s' m' h i = λ to. h w (Err c) s' to (i to)

  -- A turn without a byte is a step.
  pub turn_step : (m : Machine) (rest : List ℕ) (s : S) (turn : Result Turn FaultCode) (s' : S) (m' : Machine)
      → IsTurn takes stops set l (turning set l m) s turn s' m'
      → (turn ≡ Ok Silent → (0 < length m.cursor.left) × (m'.cursor.left ≡ drop 1 m.cursor.left))
      → ((way : Way) (n : ℕ) → HasTurns way set l 0 n m → HasTurnsBehind turn way set l n m')
      → IsStep takes stops set l m rest s (record { bytes = 0; turn = turn }) s' m'
  turn_step m rest s turn s' m' h past turns = record {
    within = omega arith;
    runs = turn_runs m s turn s' m' h.moves;
    supplied = h.supplied;
    goes_on = h.goes_on;
    silent = λ none e.
        let moves : Moves takes stops (turning set l m) s (Ok Silent) s' (turning set l m') (meaning set l m') =
        subst (λ (t : Result Turn FaultCode). Moves takes stops (turning set l m) s t s' (turning set l m') (meaning set l m')) e
        h.moves in
        let (some, left) = past e in (
          sym moves.0,
          subst (λ (ns : List ℕ). length ns < length m.cursor.left) (sym left)
              (let less = length-drop 1 m.cursor.left in omega (arith, less, some)),
        );
    handed = λ none e. fewer_due takes stops (turning set l m) (turning set l m') (meaning set l m') s s'
        (subst (λ (t : Result Turn FaultCode). Moves takes stops (turning set l m) s t s' (turning set l m') (meaning set l m')) e h.moves);
    turns = λ way n k. more_behind turn way set l n (n + 0 * (1 + most_by way (tree_in set) l)) m' (omega arith) (turns way n k);
  }

  -- A unit, behind a turn at whose end the machine waits for it, is a step.
  pub unit_step : (m b : Machine) (rest : List ℕ) (s mid : S) (q : UnitTaken) (s' : S) (m' : Machine)
      → Hands takes stops (turning set l m) s (Ok tt) mid (meaning set l b)
      → IsTakenTo takes stops set l (meaning set l b) rest mid q.bytes q.turn s' m'
      → ((way : Way) (n : ℕ) → HasTurns way set l 0 n m → HasTurnsBehind q.turn way set l
      (1 + n + turns_begun_at b.waiting b.cursor.map way (tree_in set) l) m')
      → IsStep takes stops set l m rest s q s' m'
  unit_step m b rest s mid q s' m' h taken turns = record {
    within = taken.within;
    runs = unit_runs m (meaning set l b) s mid rest q.bytes q.turn s' m' h taken;
    supplied = taken.turn.supplied;
    goes_on = taken.turn.goes_on;
    silent = λ none e. absurd (let some = taken.some in omega (arith, some, none));
    handed = λ none e. absurd (let some = taken.some in omega (arith, some, none));
    turns = λ way n k. more_behind q.turn way set l (1 + n + turns_begun_at b.waiting b.cursor.map way (tree_in set) l)
        (n + q.bytes * (1 + most_by way (tree_in set) l)) m' (unit_covers way set l n q.bytes b taken.some) (turns way n k);
  }

  -- A unit, behind a step at whose end the machine waits for it: both are a step.
  pub step_unit : (m b : Machine) (rest : List ℕ) (s mid : S) (n : ℕ) (q : UnitTaken) (s' : S) (m' : Machine) → IsStep takes stops set l m rest s (record {
    bytes = n;
    turn = Ok TurnWaits;
  }) mid b
      → IsTakenTo takes stops set l (meaning set l b) (drop n rest) mid q.bytes q.turn s' m'
      → ((way : Way) (k : ℕ) → HasTurnsWaiting way set l k b
      → HasTurnsBehind q.turn way set l (1 + k + turns_begun_at b.waiting b.cursor.map way (tree_in set) l) m')
      → IsStep takes stops set l m rest s (record { bytes = n + q.bytes; turn = q.turn }) s' m'
  step_unit m b rest s mid n q s' m' step taken turns =
      let inside = step.within in
      let fits = taken.within in
      let left = length-drop n rest in
      let some = taken.some in
      record {
        within = omega (arith, inside, fits, left);
        runs = subst (λ (w : List ℕ). Runs takes stops set l m s w q.turn s' m') (sym (take-add n q.bytes rest))
            (unit_behind m (meaning set l b) s mid (take n rest) (drop n rest) q.bytes q.turn s' m' step.runs taken);
        supplied = taken.turn.supplied;
        goes_on = taken.turn.goes_on;
        silent = λ none e. absurd (omega (arith, some, none));
        handed = λ none e. absurd (omega (arith, some, none));
        turns = λ way k h.
            let w : ℕ = 1 + most_by way (tree_in set) l in
            let sum : k + n * w + q.bytes * w ≡ k + (n + q.bytes) * w = rw (add-mul n q.bytes w) (omega arith) in
            subst (λ x. HasTurnsBehind q.turn way set l x m') sum
            (more_behind q.turn way set l (1 + (k + n * w) + turns_begun_at b.waiting b.cursor.map way (tree_in set) l)
            (k + n * w + q.bytes * w) m' (unit_covers way set l (k + n * w) q.bytes b taken.some)
            (turns way (k + n * w) (step.turns way k h)));
      }

  -- Behind a step at whose end it does not wait, a machine may have been told another unit to wait for.
  pub step_waits : (m : Machine) (rest : List ℕ) (s : S) (bytes : ℕ) (turn : Result Turn FaultCode) (s' : S) (b m' : Machine) (w : Waiting)
      → m' ≡ record b { waiting = w } → (turn ≡ Ok TurnWaits → ⊥)
      → IsStep takes stops set l m rest s (record {
        bytes = bytes;
        turn = turn;
      }) s' b → IsStep takes stops set l m rest s (record { bytes = bytes; turn = turn }) s' m'
  step_waits m rest s bytes turn s' b m' w same on h = rw same (by turn on h)
    where
      a : Machine
      a = record b { waiting = w }

      by : (turn : Result Turn FaultCode) → (turn ≡ Ok TurnWaits → ⊥) → IsStep takes stops set l m rest s (record {
        bytes = bytes;
        turn = turn;
      }) s' b → IsStep takes stops set l m rest s (record { bytes = bytes; turn = turn }) s' a
      by (Ok Silent) on h = record {
        within = h.within;
        runs = h.runs;
        supplied = (can_turn_waits set l b w b.carry h.goes_on refl).supplied;
        goes_on = can_turn_waits set l b w b.carry h.goes_on refl;
        silent = h.silent;
        handed = h.handed;
        turns = h.turns;
      }
      by (Ok Handed) on h = record {
        within = h.within;
        runs = h.runs;
        supplied = (can_turn_waits set l b w b.carry h.goes_on refl).supplied;
        goes_on = can_turn_waits set l b w b.carry h.goes_on refl;
        silent = h.silent;
        handed = h.handed;
        turns = h.turns;
      }
      by (Ok TurnWaits) on h = absurd (on refl)
      by (Err c) on h = record {
        within = h.within;
        runs = h.runs;
        supplied = supplied_like set l b a h.supplied (record {
          terms = refl;
          carry = refl;
          text = refl;
          identifier = refl;
          rests = refl;
          latest = refl;
        }) h.supplied.counted;
        goes_on = tt;
        silent = h.silent;
        handed = h.handed;
        turns = h.turns;
      }

  -- A machine between two units has taken steps up to here, where some of the piece is left.
  pub record IsSoFar (m : Machine) (piece : List ℕ) (s : S) (rest : List ℕ) (s' : S) (m' : Machine) : Type 0 where
    pub within : length rest ≤ length piece
    pub is : rest ≡ drop (length piece - length rest) piece
    pub runs : Runs takes stops set l m s (take (length piece - length rest) piece) (Ok Silent) s' m'
    pub turn : CanTurn set l m'
    pub turns : (way : Way) (n : ℕ) → HasTurns way set l 0 n m → HasTurns way set l 0 (n + (length piece - length rest) * (1 + most_by way (tree_in set) l)) m'

  -- what is left behind a step
  left_behind : (piece rest : List ℕ) (n : ℕ) → length rest ≤ length piece → rest ≡ drop (length piece - length rest) piece → n ≤ length rest
      → (length (take (length rest - n) (drop n rest)) ≡ length rest - n)
      × (take (length rest - n) (drop n rest) ≡ drop (length piece - (length rest - n)) piece)
      × (take (length piece - length rest) piece ++ take n rest ≡ take (length piece - (length rest - n)) piece)
  left_behind piece rest n within is inside =
      let k : ℕ = length piece - length rest in
      let all : length piece - (length rest - n) ≡ k + n = omega (arith, within, inside) in
      let cut : take (length rest - n) (drop n rest) ≡ drop n rest = take_rest rest n in (
        ap length cut ∙ length-drop n rest,
        cut ∙ ap (drop n) is ∙ drop-drop n k piece ∙ ap (λ x. drop x piece) (sym all),
        ap (λ w. take k piece ++ take n w) is ∙ sym (take-add k n piece) ∙ ap (λ x. take x piece) (sym all),
      )

  -- a step more
  pub so_far_step : (m : Machine) (piece : List ℕ) (s : S) (rest : List ℕ) (mid : S) (b : Machine) (q : UnitTaken) (turn : Turn) (s' : S)
      (m' : Machine) → q.turn ≡ Ok turn → (turn ≡ TurnWaits → ⊥)
      → IsSoFar m piece s rest mid b → IsStep takes stops set l b rest mid q s' m' → IsSoFar m piece s (take (length rest - q.bytes) (drop q.bytes rest)) s' m'
  so_far_step m piece s rest mid b q turn s' m' is_turn on h step =
      let (size, is, joined) = left_behind piece rest q.bytes h.within h.is step.within in
      let k : ℕ = length piece - length rest in
      let inside = step.within in
      let within = h.within in
      let all : length piece - length (take (length rest - q.bytes) (drop q.bytes rest)) ≡ k + q.bytes = omega (arith, size, within, inside) in
      let runs : Runs takes stops set l m s (take k piece ++ take q.bytes rest) (Ok turn) s' m' =
      runs_both m b s mid (take k piece) (take q.bytes rest) (Ok turn) s' m' h.runs
      (subst (λ (t : Result Turn FaultCode). Runs takes stops set l b mid (take q.bytes rest) t s' m') is_turn step.runs) in
      record {
        within = omega (arith, size, within);
        is = is ∙ ap (λ x. drop (length piece - x) piece) (sym size);
        runs = subst (λ (w : List ℕ). Runs takes stops set l m s w (Ok Silent) s' m')
            (joined ∙ ap (λ x. take (length piece - x) piece) (sym size))
            (runs_on m s (take k piece ++ take q.bytes rest) turn s' m' on runs);
        turn = can_turn_on set l m' turn on (subst (λ (t : Result Turn FaultCode). GoesOn set l m' t) is_turn step.goes_on);
        turns = λ way n c.
            let w : ℕ = 1 + most_by way (tree_in set) l in
            let sum : n + k * w + q.bytes * w ≡ n + (length piece - length (take (length rest - q.bytes) (drop q.bytes rest))) * w =
            rw all (rw (add-mul k q.bytes w) (omega arith)) in
            subst (λ x. HasTurns way set l 0 x m') sum (has_turns_on set l m' way (n + k * w + q.bytes * w) turn on
            (subst (λ (t : Result Turn FaultCode). HasTurnsBehind t way set l (n + k * w + q.bytes * w) m') is_turn
            (step.turns way (n + k * w) (h.turns way n c))));
      }
    where
      runs_on : (m : Machine) (s : S) (w : List ℕ) (turn : Turn) (s' : S) (m' : Machine) → (turn ≡ TurnWaits → ⊥)
          → Runs takes stops set l m s w (Ok turn) s' m' → Runs takes stops set l m s w (Ok Silent) s' m'
      runs_on m s w Silent s' m' on h = h
      runs_on m s w Handed s' m' on h = h
      runs_on m s w TurnWaits s' m' on h = absurd (on refl)

  -- the last one
  pub so_far_end : (m : Machine) (piece : List ℕ) (s : S) (rest : List ℕ) (mid : S) (b : Machine) (q : UnitTaken)
      (turn : Result Turn FaultCode) (s' : S) (m' : Machine) → q.turn ≡ turn → ((t : Turn) → turn ≡ Ok t → t ≡ TurnWaits)
      → IsSoFar m piece s rest mid b → IsStep takes stops set l b rest mid q s' m'
      → IsStep takes stops set l m piece s (record { bytes = length piece - length (take (length rest - q.bytes) (drop q.bytes rest)); turn = turn }) s' m'
  so_far_end m piece s rest mid b q turn s' m' is_turn ends h step =
      let (size, is, joined) = left_behind piece rest q.bytes h.within h.is step.within in
      let k : ℕ = length piece - length rest in
      let inside = step.within in
      let within = h.within in
      let left : ℕ = length (take (length rest - q.bytes) (drop q.bytes rest)) in
      let all : length piece - left ≡ k + q.bytes = omega (arith, size, within, inside) in
      record {
        within = omega (arith, size);
        runs = subst (λ (w : List ℕ). Runs takes stops set l m s w turn s' m') (joined ∙ ap (λ x. take (length piece - x) piece) (sym size))
            (runs_both m b s mid (take k piece) (take q.bytes rest) turn s' m' h.runs
            (subst (λ (t : Result Turn FaultCode). Runs takes stops set l b mid (take q.bytes rest) t s' m') is_turn step.runs));
        supplied = step.supplied;
        goes_on = subst (λ (t : Result Turn FaultCode). GoesOn set l m' t) is_turn step.goes_on;
        silent = λ none e. absurd (never_silent (ends Silent e));
        handed = λ none e. absurd (never_handed (ends Handed e));
        turns = λ way n c.
            let w : ℕ = 1 + most_by way (tree_in set) l in
            let sum : n + k * w + q.bytes * w ≡ n + (length piece - left) * w = rw all (rw (add-mul k q.bytes w) (omega arith)) in
            subst (λ x. HasTurnsBehind turn way set l x m') sum
            (subst (λ (t : Result Turn FaultCode). HasTurnsBehind t way set l (n + k * w + q.bytes * w) m') is_turn
            (step.turns way (n + k * w) (h.turns way n c)));
      }
    where
      never_silent : Silent ≡ TurnWaits → ⊥
      never_silent e = cc e

      never_handed : Handed ≡ TurnWaits → ⊥
      never_handed e = cc e

  -- Steps behind a unit: what was fed.
  pub unit_and_steps : (m b : Machine) (rest : List ℕ) (s mid : S) (n : ℕ) (turn : Turn) (q : UnitTaken) (o : Result Unit FaultCode)
      (s' : S) (m' : Machine) → (turn ≡ TurnWaits → ⊥)
      → IsTakenTo takes stops set l (meaning set l m) rest s n (Ok turn) mid b → IsStep takes stops set l b (take (length rest - n) (drop n rest)) mid q s' m'
      → ((t : Turn) → q.turn ≡ Ok t → t ≡ TurnWaits) → ((t : Turn) → q.turn ≡ Ok t → o ≡ Ok tt) → ((c : FaultCode) → q.turn ≡ Err c → o ≡ Err c)
      → Fed takes stops (tree_in set) l (waiting_at (meaning set l m)) (take (n + q.bytes) rest) s o s' (waiting_at (meaning set l m'))
  unit_and_steps m b rest s mid n turn q o s' m' on taken step ends ok err =
      subst (λ (w : List ℕ). Fed takes stops (tree_in set) l (waiting_at (meaning set l m)) w s o s' (waiting_at (meaning set l m')))
      (ap (λ w. take n rest ++ take q.bytes w) (take_rest rest n) ∙ sym (take-add n q.bytes rest))
      (told_end (λ r. Runs takes stops set l b mid (take q.bytes rest1) r s' m')
      (λ r. Fed takes stops (tree_in set) l (waiting_at (meaning set l m)) (take n rest ++ take q.bytes rest1) s r s' (waiting_at (meaning set l m')))
      q.turn o ends ok err (λ runs. runs (meaning set l m) (take n rest) s size taken.quiet onward)
      (λ c runs. runs (meaning set l m') (meaning set l m) (take n rest) s size taken.quiet onward) step.runs)
    where
      rest1 : List ℕ
      rest1 = take (length rest - n) (drop n rest)

      size : 0 < length (take n rest)
      size = let len = length-take-le n rest taken.within in let some = taken.some in omega (arith, len, some)

      gone : Reader Dictionary
      gone = after_bytes (due (tree_in set) l (meaning set l m)) (take n rest)

      onward : Onward takes stops gone s (turning set l b) mid
      onward = turn_onward gone (turning set l b) (meaning set l b) s turn mid on taken.turn.moves

  -- A unit alone: what was fed.
  pub unit_alone : (m : Machine) (rest : List ℕ) (s : S) (n : ℕ) (turn : Result Turn FaultCode) (o : Result Unit FaultCode) (s' : S)
      (m' : Machine) → ((t : Turn) → turn ≡ Ok t → t ≡ TurnWaits)
      → ((t : Turn) → turn ≡ Ok t → o ≡ Ok tt) → ((c : FaultCode) → turn ≡ Err c → o ≡ Err c)
      → IsTakenTo takes stops set l (meaning set l m) rest s n turn s' m'
      → Fed takes stops (tree_in set) l (waiting_at (meaning set l m)) (take n rest) s o s' (waiting_at (meaning set l m'))
  unit_alone m rest s n turn o s' m' ends ok err taken =
      told_end (λ r. Moves takes stops gone s r s' (turning set l m') (meaning set l m'))
      (λ r. Fed takes stops (tree_in set) l (waiting_at (meaning set l m)) (take n rest) s r s' (waiting_at (meaning set l m')))
      turn o ends ok err (fed (Ok tt) (meaning set l m')) (λ c moves. fed (Err c) (meaning set l m') (moves (meaning set l m'))) taken.turn.moves
    where
      size : 0 < length (take n rest)
      size = let len = length-take-le n rest taken.within in let some = taken.some in omega (arith, len, some)

      gone : Reader Dictionary
      gone = after_bytes (due (tree_in set) l (meaning set l m)) (take n rest)

      fed : (x : Result Unit FaultCode) (to : Reader Dictionary) → Hands takes stops gone s x s' to
          → Fed takes stops (tree_in set) l (waiting_at (meaning set l m)) (take n rest) s x s' (waiting_at to)
      fed x to h = by_list (tree_in set) l takes stops (meaning set l m) (take n rest) s x s' to size taken.quiet h

-- The turns of a unit and of steps behind it.
pub counted_both : (set : Set) (l : Limits) (m b m' : Machine) (n : ℕ) (turn : Turn) (q : UnitTaken) (o : Result Unit FaultCode)
    (way : Way) → 0 < n → (turn ≡ TurnWaits → ⊥)
    → ((k : ℕ) → HasTurnsWaiting way set l k m → HasTurnsBehind (Ok turn) way set l (1 + k + turns_begun_at m.waiting m.cursor.map way (tree_in set) l) b)
    → ((k : ℕ) → HasTurns way set l 0 k b → HasTurnsBehind q.turn way set l (k + q.bytes * (1 + most_by way (tree_in set) l)) m')
    → ((t : Turn) → q.turn ≡ Ok t → t ≡ TurnWaits) → ((t : Turn) → q.turn ≡ Ok t → o ≡ Ok tt) → ((c : FaultCode) → q.turn ≡ Err c → o ≡ Err c)
    → IsCountedBy o way set l (n + q.bytes) m m'
counted_both set l m b m' n turn q o way some on unit steps ends ok err = (
  q.bytes,
  omega (arith, some),
  λ k h. after_end set l m' q.turn o way (1 + k + turns_begun_at m.waiting m.cursor.map way
      (tree_in set) l + q.bytes * (1 + most_by way (tree_in set) l)) ends ok err
      (steps (1 + k + turns_begun_at m.waiting m.cursor.map way (tree_in set) l)
      (has_turns_on set l b way (1 + k + turns_begun_at m.waiting m.cursor.map way (tree_in set) l) turn on (unit k h))),
)

-- the same of a unit alone
pub counted_one : (set : Set) (l : Limits) (m m' : Machine) (n : ℕ) (turn : Result Turn FaultCode) (o : Result Unit FaultCode) (way : Way) → 0 < n
    → ((k : ℕ) → HasTurnsWaiting way set l k m → HasTurnsBehind turn way set l (1 + k + turns_begun_at m.waiting m.cursor.map way (tree_in set) l) m')
    → ((t : Turn) → turn ≡ Ok t → t ≡ TurnWaits) → ((t : Turn) → turn ≡ Ok t → o ≡ Ok tt) → ((c : FaultCode) → turn ≡ Err c → o ≡ Err c)
    → IsCountedBy o way set l n m m'
counted_one set l m m' n turn o way some unit ends ok err = (
  0,
  some,
  λ k h. after_end set l m' turn o way (1 + k + turns_begun_at m.waiting m.cursor.map way (tree_in set) l + 0 * (1 + most_by way (tree_in set) l)) ends ok err
      (more_behind turn way set l (1 + k + turns_begun_at m.waiting m.cursor.map way (tree_in set) l)
      (1 + k + turns_begun_at m.waiting m.cursor.map way (tree_in set) l + 0 * (1 + most_by way (tree_in set) l)) m' (omega arith)
      (unit k h)),
)
