-- What was read of a text: messages and their parts, by the lines of their events.
use Rattle.std.specs.Prelude.{◌≡◌, ℕ, ◌+◌, [], ◌∷◌, ◌++◌, Some}
use Rattle.fast_value.specs.meaning.Messages.{ItemData, Slots, Elements, count, MessageData}
use Rattle.fast_tree.specs.meaning.Tree.{Instruction, Body, Tree}
use Rattle.fast_stream.specs.meaning.Events.{SequenceEnd, element_events, item_events, body_events, events}
use Rattle.fast_spelling.specs.meaning.Suiting.{AreRight, Suits, SuitsBody, SuitsTemplate}
use Rattle.fast_messages.specs.declared.cursors.Cursor.{Cursor}
use Rattle.fast_messages.specs.declared.endings.Ending.{Ending}
use Rattle.fast_messages.specs.device.Cursors.{IsSaid}
use Rattle.fast_messages.specs.device.Naming.{end_event}

-- slots that suit a body, and the line that ends them
pub record IsBodyRead (t : Tree) (body : Body) (ending : Ending) (vs : Slots) (c next : Cursor) : Type 0 where
  pub suits : SuitsBody body vs
  pub said : IsSaid t (body_events body vs ++ end_event ending ∷ []) c next

-- an item that suits an instruction
pub record IsItemRead (t : Tree) (i : Instruction) (x : ItemData) (c next : Cursor) : Type 0 where
  pub suits : Suits i (Some x)
  pub said : IsSaid t (item_events i x) c next

-- so many elements that suit a body, and the line that ends the sequence
pub record AreRowsRead (t : Tree) (body : Body) (n : ℕ) (rows : Elements) (c next : Cursor) : Type 0 where
  pub right : AreRight (SuitsBody body) rows
  pub counted : count rows ≡ n
  pub said : IsSaid t (element_events (body_events body) rows ++ SequenceEnd ∷ []) c next

-- a message that suits its template
pub record IsMessageRead (t : Tree) (m : MessageData) (c next : Cursor) : Type 0 where
  pub suits : SuitsTemplate t m
  pub said : IsSaid t (events t m) c next
