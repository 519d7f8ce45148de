-- Abbreviations for clauses on a machine: the unit that it reads, and the turns that are paid for.
use Rattle.std.specs.Prelude.{ℕ, ◌+◌, ◌≤◌, List, Result}
use Rattle.fast_value.specs.declared.settings.Limits.{Limits}
use Rattle.fast_tree.specs.meaning.Tree.{FieldData}
use Rattle.fast_dict.specs.meaning.Slots.{slots_terms}
use Rattle.fast_stream.specs.meaning.Events.{EventData}
use Rattle.fast_stream.specs.declared.faults.FaultCode.{FaultCode}
use Rattle.fast_units.specs.device.Settling.{Serves}
use Rattle.fast_machine.specs.declared.machine.Machine.{Machine}
use Rattle.fast_machine.specs.declared.machine.Turn.{Turn}
use Rattle.fast_machine.specs.declared.taking.UnitTaken.{UnitTaken}
use Rattle.fast_machine.specs.device.Positions.{Set, tree_in, meaning}
use Rattle.fast_machine.specs.device.UnitTaken.{IsTakenTo}
use Rattle.fast_machine.specs.device.TurnsLeft.{Way, most_by, HasTurns, HasTurnsBehind}

-- From the one machine to the other some of the bytes are read, of which only the last emits events, and a turn after them.
abbrev pub TakesUnit : {S : Type 0} → (S → EventData → S → Type 0) → (S → EventData → S → Type 0) → Set → Limits → Machine → List ℕ → S
    → UnitTaken → S → Machine → Type 0
TakesUnit takes stops set l m rest s q s' m' = IsTakenTo takes stops set l (meaning set l m) rest s q.bytes q.turn s' m'

-- The machine's dictionary serves the field.
abbrev pub IsServedBy : Set → Machine → FieldData → Type 0
IsServedBy set m f = Serves set.entries (slots_terms m.slots) f

-- For each bound on the elements: if the turns of the one machine, except for k of them, are within a number, so are those of the other,
-- after the turn.
abbrev pub PaysTurns : Set → Limits → ℕ → Machine → Result Turn FaultCode → Machine → Type 0
PaysTurns set l k m turn m' = (way : Way) (n : ℕ) → HasTurns way set l k n m → HasTurnsBehind turn way set l n m'

-- The turns of a message that begins are within a number, with all turns that it may have.
abbrev pub PaysMessage : Set → Limits → Machine → Result Turn FaultCode → Machine → Type 0
PaysMessage set l m turn m' = (way : Way) (n : ℕ) → m.turns.count + most_by way (tree_in set) l ≤ n → HasTurnsBehind turn way set l n m'
