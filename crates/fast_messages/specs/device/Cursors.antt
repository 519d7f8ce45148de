-- Places in a text, and what was read between two of them.
use Rattle.std.specs.Prelude.{◌≡◌, ℕ, ◌+◌, ◌≤◌, List, ◌∷◌, ◌++◌, Some, option_map}
use Rattle.fast_tree.specs.meaning.Tree.{Tree}
use Rattle.fast_stream.specs.meaning.Events.{EventData}
use Rattle.fast_lines.specs.meaning.Forms.{LineData, line_data, text_of_line}
use Rattle.fast_lines.specs.meaning.Lines.{lines}
use Rattle.fast_messages.specs.declared.cursors.Cursor.{Cursor}
use Rattle.fast_messages.specs.declared.faults.TextFault.{TextFault}
use Rattle.fast_messages.specs.declared.faults.TextFault.TheVariants.{BadLine, Memory}
use Rattle.fast_messages.specs.device.Ahead.{text_from}
use Rattle.fast_messages.specs.meaning.Reading.{feeds}

-- the text from the line ahead on, with an LF behind its last line
abbrev pub ahead : Cursor → List ℕ
ahead c = text_from c.line c.rest.now

-- the number of the line behind the last
abbrev pub end_number : Cursor → ℕ
end_number c = c.number + feeds (ahead c)

-- The next place is behind the line ahead.
pub record Advances (c next : Cursor) : Type 0 where
  pub line : LineData
  pub was : option_map line_data c.line ≡ Some line
  pub text : ahead c ≡ text_of_line line ++ 0x0A ∷ ahead next
  pub from : c.number ≤ next.number
  pub to : end_number next ≤ end_number c

-- Between the two places stand the lines of the events.
pub record IsSaid (t : Tree) (es : List EventData) (c next : Cursor) : Type 0 where
  pub text : ahead c ≡ lines t es ++ ahead next
  pub from : c.number ≤ next.number
  pub to : end_number next ≤ end_number c

-- A line at fault is the line ahead or a later one, or the one behind the last.
abbrev pub IsNear : Cursor → TextFault → Type 0
IsNear c (BadLine line kind) = (c.number ≤ line) × (line ≤ end_number c)
IsNear c Memory = Unit {0}
