-- Texts of lines, and the messages that they stand for.
use Rattle.std.specs.Prelude.{◌≡◌, ℕ, nat_eq, if◌then◌else◌, List, [], ◌∷◌, All, flat_map, ◌+◌, ◌≤◌}
use Rattle.fast_value.specs.meaning.Messages.{MessageData}
use Rattle.fast_tree.specs.meaning.Tree.{Tree}
use Rattle.fast_stream.specs.meaning.Events.{events}
use Rattle.fast_lines.specs.meaning.Lines.{lines}
use Rattle.fast_spelling.specs.meaning.Suiting.{SuitsTemplate}
use Rattle.fast_messages.specs.declared.faults.TextFault.{TextFault}
use Rattle.fast_messages.specs.declared.faults.TextFault.TheVariants.{BadLine, Memory}

-- the text with an LF behind its last line, where that has none
abbrev pub closed : List ℕ → List ℕ
closed [] = []
closed (c ∷ []) = if nat_eq c 0x0A then c ∷ [] else c ∷ 0x0A ∷ []
closed (c ∷ d ∷ cs) = c ∷ closed (d ∷ cs)

-- The messages suit their templates, and their events have the lines of the text.
pub record Says (t : Tree) (text : List ℕ) (ms : List MessageData) : Type 0 where
  pub suit : All (SuitsTemplate t) ms
  pub same : closed text ≡ lines t (flat_map (events t) ms)

-- how many lines end in a text
abbrev pub feeds : List ℕ → ℕ
feeds [] = 0
feeds (c ∷ cs) = (if nat_eq c 0x0A then 1 else 0) + feeds cs

-- what is so of a fault that is one of a line
abbrev pub OnBadLine : Type 0 → TextFault → Type 0
OnBadLine A (BadLine line kind) = A
OnBadLine A Memory = Unit {0}

-- A line at fault is one of the text, or the one behind its last.
abbrev pub IsLineOf : List ℕ → TextFault → Type 0
IsLineOf text (BadLine line kind) = (1 ≤ line) × (line ≤ feeds (closed text) + 1)
IsLineOf text Memory = Unit {0}
