-- The rows of a stream with its bytes.
use Rattle.std.specs.Prelude.{ℕ, ◌+◌, true, List, [], ◌∷◌, ◌++◌, length, flat_map}
use Rattle.fast_tree.specs.meaning.Tree.{Tree}
use Rattle.fast_rows.specs.declared.notes.Note.{Note}
use Rattle.fast_rows.specs.meaning.Columns.{cells, columns}
use Rattle.fast_rows.specs.meaning.Notes.{note_text}

-- A row has bytes of the stream, and after them a line of show, without its LF; or a note, which show does not write; or nothing, if the
-- bytes belong to the text above.
pub data Row : Type 0 where
  Line : List ℕ → List ℕ → Row
  Aside : List ℕ → Note → Row
  More : List ℕ → Row

-- the bytes of a row
abbrev pub row_bytes : Row → List ℕ
row_bytes (Line bytes text) = bytes
row_bytes (Aside bytes note) = bytes
row_bytes (More bytes) = bytes

-- the line of show of a row, with its LF, if it has one
abbrev pub row_line : Row → List ℕ
row_line (Line bytes text) = text ++ 0x0A ∷ []
row_line (Aside bytes note) = []
row_line (More bytes) = []

-- what is written of a row whose first byte has this offset
abbrev pub row_text : Tree → ℕ → Row → List ℕ
row_text t at (Line bytes text) = columns at bytes ++ text ++ 0x0A ∷ []
row_text t at (Aside bytes note) = columns at bytes ++ note_text t bytes note ++ 0x0A ∷ []
row_text t at (More bytes) = cells at bytes ++ 0x0A ∷ []

-- What is written of rows, each at the offset after the bytes before.
abbrev pub rows_text : Tree → ℕ → List Row → List ℕ
rows_text t at [] = []
rows_text t at (row ∷ rows) = row_text t at row ++ rows_text t (at + length (row_bytes row)) rows

-- the bytes of rows, one after the other
abbrev pub bytes_in : List Row → List ℕ
bytes_in rows = flat_map row_bytes rows

-- the lines of show in rows, one after the other
abbrev pub lines_in : List Row → List ℕ
lines_in rows = flat_map row_line rows
