-- What stands at the front of a line, or is a whole line, made once.
use Rattle.std.specs.Prelude.{◌≡◌, ℕ, ◌<◌, ◌≤◌, List, [], ◌∷◌, ◌++◌, Some, length, take, slice_get, codes}
use Rattle.fast_tree.specs.meaning.Tree.{Tree}
use Rattle.fast_lines.specs.meaning.Lines.{node, template_name}
use Rattle.fast_text.specs.declared.front.Front.{Front}

-- what stands before the value of a field
abbrev pub field_front : Tree → ℕ → List ℕ
field_front t n = codes "field " ++ node t n ++ codes " "

-- the line of the start of a message, with its LF
abbrev pub message_front : Tree → ℕ → List ℕ
message_front t n = (codes "message " ++ template_name t n) ++ 0x0A ∷ []

-- the front has the text of the number, if it is made
pub record IsFront (text : ℕ → List ℕ) (n : ℕ) (f : Front) : Type 0 where
  pub short : f.len ≤ length f.cells
  pub made : 0 < f.len → take f.len f.cells ≡ text n

-- the fronts of the first numbers
pub record AreFronts (text : ℕ → List ℕ) (fs : List Front) : Type 0 where
  pub each : (n : ℕ) (f : Front) → slice_get fs n ≡ Some f → IsFront text n f
