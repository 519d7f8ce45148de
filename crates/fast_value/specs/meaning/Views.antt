-- The data of messages of the Rust types, without their memory.
use Rattle.std.specs.Prelude.{List, [], ◌∷◌, Option, Some, None}
use Rattle.std.specs.declared.vec.Vec.{Vec}
use Rattle.std.specs.declared.alloc.Global.{Global}
use Rattle.fast_value.specs.declared.messages.Item.{Item}
use Rattle.fast_value.specs.declared.messages.Item.TheOpen.{Item-F, One, Group, Sequence}
use Rattle.fast_value.specs.declared.messages.Item.TheFolds.{fold-Item}
use Rattle.fast_value.specs.declared.messages.Message.{Message}
use Rattle.fast_value.specs.meaning.Values.{value_data}
use Rattle.fast_value.specs.meaning.Messages.{ItemData, one, group, sequence, Slots, no_slots, absent, present, Elements, no_elements, element, MessageData}

-- the slots of these items
abbrev pub slots_of : List (Option ItemData) → Slots
slots_of [] = no_slots
slots_of (None ∷ xs) = absent (slots_of xs)
slots_of (Some x ∷ xs) = present x (slots_of xs)

-- the elements of these slots
abbrev pub elements_of : List (Vec (Option ItemData) Global) → Elements
elements_of [] = no_elements
elements_of (r ∷ rs) = element (slots_of r.items) (elements_of rs)

-- an item of the data of the items in it
abbrev pub item_step : Item-F ItemData → ItemData
item_step (One v) = one (value_data v)
item_step (Group xs) = group (slots_of xs.items)
item_step (Sequence rs) = sequence (elements_of rs.items)

-- the data of an item
abbrev pub item_data : Item → ItemData
item_data = fold-Item ItemData item_step

-- the data of slots
abbrev pub slots_data : List (Option Item) → Slots
slots_data [] = no_slots
slots_data (None ∷ xs) = absent (slots_data xs)
slots_data (Some x ∷ xs) = present (item_data x) (slots_data xs)

-- the data of the elements of a sequence
abbrev pub elements_data : List (Vec (Option Item) Global) → Elements
elements_data [] = no_elements
elements_data (r ∷ rs) = element (slots_data r.items) (elements_data rs)

-- the data of a message
abbrev pub message_data : Message → MessageData
message_data m = record { template = m.template; slots = slots_data m.items.items }
