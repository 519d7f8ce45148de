-- Messages as trees. A list of slots has one for each instruction of a segment, in order, and an absent one is empty. These are the data of
-- the Rust types Message and Item, without their memory.
use Rattle.std.specs.Prelude.{ℕ, suc, ◌+◌}
use Rattle.fast_value.specs.meaning.Kinds.{ScalarData}

mutual
  -- the contents of a slot: a value, a group or a sequence
  pub data ItemData : Type 0 where
    one : ScalarData → ItemData
    group : Slots → ItemData
    sequence : Elements → ItemData

  -- one slot for each instruction of a segment
  pub data Slots : Type 0 where
    no_slots : Slots
    absent : Slots → Slots
    present : ItemData → Slots → Slots

  -- the elements of a sequence
  pub data Elements : Type 0 where
    no_elements : Elements
    element : Slots → Elements → Elements

-- The template is named by its number, from 0.
pub record MessageData : Type 0 where
  pub template : ℕ
  pub slots : Slots

-- the elements of one sequence
abbrev pub count : Elements → ℕ
count no_elements = 0
count (element vs rest) = suc (count rest)

-- the elements of all sequences, nested ones included
abbrev mutual
  pub item_total : ItemData → ℕ
  item_total (one v) = 0
  item_total (group vs) = total vs
  item_total (sequence rows) = count rows + rows_total rows

  pub total : Slots → ℕ
  total no_slots = 0
  total (absent vs) = total vs
  total (present x vs) = item_total x + total vs

  pub rows_total : Elements → ℕ
  rows_total no_elements = 0
  rows_total (element vs rows) = total vs + rows_total rows
