-- The steps of a machine between two units with bytes after those that led it there: each emits the events that are decided, reads a unit,
-- or both.
use Rattle.std.specs.Prelude.{◌≡◌, ℕ, ◌+◌, ◌*◌, ◌<◌, ◌≤◌, List, ◌++◌, length, take, Result, Ok, Err}
use Rattle.fast_value.specs.declared.settings.Limits.{Limits}
use Rattle.fast_tree.specs.meaning.Tree.{Tree}
use Rattle.fast_dict.specs.meaning.Dictionary.{Dictionary}
use Rattle.fast_stream.specs.meaning.Events.{EventData}
use Rattle.fast_stream.specs.declared.faults.FaultCode.{FaultCode}
use Rattle.fast_stream.specs.device.Readers.{Reader}
use Rattle.fast_stream.specs.device.Machine.{after_bytes}
use Rattle.fast_machine.specs.declared.machine.Machine.{Machine}
use Rattle.fast_machine.specs.declared.machine.Turn.{Turn}
use Rattle.fast_machine.specs.declared.machine.Turn.TheVariants.{Silent, Handed, Waits}
use Rattle.fast_machine.specs.declared.taking.UnitTaken.{UnitTaken}
use Rattle.fast_machine.specs.device.Handing.{due, Quiet, waiting_at, Fed}
use Rattle.fast_machine.specs.device.Moving.{events_due, Onward}
use Rattle.fast_machine.specs.device.Positions.{Set, tree_in, GoesOn, IsSupplied, turning, meaning}
use Rattle.fast_machine.specs.device.TurnsLeft.{Way, most_by, HasTurns, HasTurnsWaiting, HasTurnsBehind, HasTurnsAfter, turns_begun_at}

-- For each unit that led a reader here, with all events since: its bytes, followed by these, are fed with this result.
abbrev pub FedBehind : {S : Type 0} → (S → EventData → S → Type 0) → (S → EventData → S → Type 0) → Tree → Limits → Reader Dictionary → S
    → List ℕ → Result Unit FaultCode → S → Reader Dictionary → Type 0
FedBehind {S} takes stops t l r s w o s' to =
    (p : Reader Dictionary) (v : List ℕ) (from : S) → 0 < length v → Quiet (due t l p) v
    → Onward takes stops (after_bytes (due t l p) v) from r s → Fed takes stops t l (waiting_at p) (v ++ w) from o s' (waiting_at to)

-- The bytes lead a machine between two units on to another, to one that waits, or to an end.
abbrev pub Runs : {S : Type 0} → (S → EventData → S → Type 0) → (S → EventData → S → Type 0) → Set → Limits → Machine → S → List ℕ
    → Result Turn FaultCode → S → Machine → Type 0
Runs {S} takes stops set l m s w (Ok Silent) s' m' =
    (u : List ℕ) (o : Result Unit FaultCode) (t : S) (to : Reader Dictionary)
    → FedBehind takes stops (tree_in set) l (turning set l m') s' u o t to
    → FedBehind takes stops (tree_in set) l (turning set l m) s (w ++ u) o t to
Runs {S} takes stops set l m s w (Ok Handed) s' m' =
    (u : List ℕ) (o : Result Unit FaultCode) (t : S) (to : Reader Dictionary)
    → FedBehind takes stops (tree_in set) l (turning set l m') s' u o t to
    → FedBehind takes stops (tree_in set) l (turning set l m) s (w ++ u) o t to
Runs takes stops set l m s w (Ok Waits) s' m' = FedBehind takes stops (tree_in set) l (turning set l m) s w (Ok tt) s' (meaning set l m')
Runs takes stops set l m s w (Err c) s' m' = (to : Reader Dictionary) → FedBehind takes stops (tree_in set) l (turning set l m) s w (Err c) s' to

-- A machine between two units reads this number of bytes. Without a byte it goes on with fewer events to emit, or with fewer instructions
-- left. Each byte pays for a turn, and for those of a message that it begins.
pub record IsStep {S : Type 0} (takes stops : S → EventData → S → Type 0) (set : Set) (l : Limits) (m : Machine) (rest : List ℕ) (s : S)
    (q : UnitTaken) (s' : S) (m' : Machine) : Type 0 where
  pub within : q.bytes ≤ length rest
  pub runs : Runs takes stops set l m s (take q.bytes rest) q.turn s' m'
  pub supplied : IsSupplied set l m'
  pub goes_on : GoesOn set l m' q.turn
  pub silent : q.bytes ≡ 0 → q.turn ≡ Ok Silent → (turning set l m' ≡ turning set l m) × (length m'.cursor.left < length m.cursor.left)
  pub handed : q.bytes ≡ 0 → q.turn ≡ Ok Handed → events_due (turning set l m') < events_due (turning set l m)
  pub turns : (way : Way) (n : ℕ) → HasTurns way set l 0 n m → HasTurnsBehind q.turn way set l (n + q.bytes * (1 + most_by way (tree_in set) l)) m'

-- The turns of some bytes: the first of them pays for its unit, and the others, more than there are units, for theirs.
abbrev pub IsCountedBy : Result Unit FaultCode → Way → Set → Limits → ℕ → Machine → Machine → Type 0
IsCountedBy r way set l bytes m m' =
    (more : ℕ) × (more < bytes) × ((n : ℕ) → HasTurnsWaiting way set l n m
    → HasTurnsAfter r way set l (1 + n + turns_begun_at m.waiting m.cursor.map way
    (tree_in set) l + more * (1 + most_by way (tree_in set) l)) m')
