-- What is so of an item that was written without a refusal.
use Rattle.std.specs.Prelude.{◌≡◌, ◌+◌, ℕ, Option, Some, None}
use Rattle.fast_value.specs.declared.settings.Limits.{Limits}
use Rattle.fast_value.specs.meaning.Messages.{ItemData, item_total}
use Rattle.fast_tree.specs.meaning.Tree.{Instruction}
use Rattle.fast_spelling.specs.meaning.Suiting.{Suits, IsWithinLimits}

-- An item that is there keeps to the limits, and its sequences leave this of the room.
abbrev pub Leaves : Limits → Option ItemData → ℕ → ℕ → Type 0
Leaves l None room left = left ≡ room
Leaves l (Some x) room left = IsWithinLimits l x × (left + item_total x ≡ room)

-- It suits its instruction, too.
abbrev pub IsAccepted : Limits → Instruction → Option ItemData → ℕ → ℕ → Type 0
IsAccepted l i x room left = Suits i x × Leaves l x room left
