-- How far the slots of a body, or the elements of a sequence, are read.
use Rattle.std.specs.Prelude.{◌≡◌, ℕ, ◌+◌, ◌≤◌, List, [], ◌∷◌, ◌++◌, All, flat_map, Option, Some, None}
use Rattle.std.specs.declared.vec.Vec.{Vec}
use Rattle.std.specs.declared.alloc.Global.{Global}
use Rattle.fast_value.specs.declared.messages.Item.{Item}
use Rattle.fast_value.specs.meaning.Messages.{Slots, absent, present, MessageData}
use Rattle.fast_value.specs.meaning.Views.{item_data, elements_data}
use Rattle.fast_tree.specs.meaning.Tree.{Body, Tree}
use Rattle.fast_stream.specs.meaning.Events.{EventData, element_events, body_events, events}
use Rattle.fast_lines.specs.meaning.Lines.{lines}
use Rattle.fast_spelling.specs.meaning.Suiting.{AreRight, SuitsBody, SuitsTemplate}
use Rattle.fast_messages.specs.declared.cursors.Cursor.{Cursor}
use Rattle.fast_messages.specs.device.Cursors.{ahead, end_number, IsSaid}
use Rattle.fast_messages.specs.meaning.Reading.{closed, feeds}
use Rattle.fast_messages.specs.meaning.Unsaid.{IsPlainBody, IsLeft}

-- slots, and others behind them
abbrev pub followed : List (Option Item) → Slots → Slots
followed [] vs = vs
followed (None ∷ xs) vs = absent (followed xs vs)
followed (Some x ∷ xs) vs = present (item_data x) (followed xs vs)

-- Of a whole body these slots are read, and this rest is left: what suits the rest suits the whole behind them, its events stand behind
-- those that were read, and nothing else can be due.
pub record IsReadTo (t : Tree) (whole : Body) (slots : List (Option Item)) (rest : Body) (c next : Cursor) : Type 0 where
  pub read : List EventData
  pub said : IsSaid t read c next
  pub suits : (vs : Slots) → SuitsBody rest vs → SuitsBody whole (followed slots vs)
  pub says : (vs : Slots) → body_events whole (followed slots vs) ≡ read ++ body_events rest vs
  pub plain : IsPlainBody t whole → IsPlainBody t rest
  pub left : IsPlainBody t whole → IsLeft t whole rest c next

-- The elements that are read suit the body.
pub record AreReadTo (t : Tree) (body : Body) (rows : List (Vec (Option Item) Global)) (c next : Cursor) : Type 0 where
  pub right : AreRight (SuitsBody body) (elements_data rows)
  pub said : IsSaid t (element_events (body_events body) (elements_data rows)) c next

-- These messages are read, and the rest of the text is ahead.
pub record AreMessagesRead (t : Tree) (text : List ℕ) (ms : List MessageData) (c : Cursor) : Type 0 where
  pub suit : All (SuitsTemplate t) ms
  pub text_is : closed text ≡ lines t (flat_map (events t) ms) ++ ahead c
  pub from : 1 ≤ c.number
  pub to : end_number c ≤ feeds (closed text) + 1
