-- What stands in no text ahead, where a line is at fault.
use Rattle.std.specs.Prelude.{◌≡◌, List, ◌∷◌, All}
use Rattle.fast_tree.specs.meaning.Tree.{Tree}
use Rattle.fast_stream.specs.meaning.Events.{EventData}
use Rattle.fast_lines.specs.meaning.Lines.{lines}
use Rattle.fast_messages.specs.declared.cursors.Cursor.{Cursor}
use Rattle.fast_messages.specs.device.Cursors.{ahead}
use Rattle.fast_messages.specs.meaning.Lined.{IsLined, IsShown}

-- The text ahead is the lines of these events, whose values can be read back.
pub record IsDue (t : Tree) (es : List EventData) (c : Cursor) : Type 0 where
  pub lined : All (IsLined t) es
  pub shown : All IsShown es
  pub text : ahead c ≡ lines t es

-- no events have the line ahead and what follows it
abbrev pub HasNoNext : Cursor → Type 0
HasNoNext c = (t : Tree) (e : EventData) (es : List EventData) → ¬ (IsDue t (e ∷ es) c)
