-- What a row says that is no line of show.
use Rattle.std.specs.Prelude.{ℕ, ◌/◌, ◌%◌, ◌+◌, List, [], ◌∷◌, ◌++◌, flat_map, codes}
use Rattle.fast_tree.specs.meaning.Tree.{Tree}
use Rattle.fast_lines.specs.meaning.Lines.{node}
use Rattle.fast_rows.specs.declared.notes.Word.{Word}
use Rattle.fast_rows.specs.declared.notes.Word.TheVariants.{Field, Group, Sequence}
use Rattle.fast_rows.specs.declared.notes.Part.{Part}
use Rattle.fast_rows.specs.declared.notes.Part.TheVariants.{Map, TemplateId, Instruction, End}
use Rattle.fast_rows.specs.declared.notes.Note.{Note}
use Rattle.fast_rows.specs.declared.notes.Note.TheVariants.{Bits, Absent, Waiting}

-- the bit of a byte with this weight, as a digit
abbrev pub bit : ℕ → ℕ → ℕ
bit byte weight = 0x30 + byte / weight % 2

-- The seven bits of a byte of a presence map that are not its stop bit, after a space.
abbrev pub bits : ℕ → List ℕ
bits c = 0x20 ∷ bit c 64 ∷ bit c 32 ∷ bit c 16 ∷ bit c 8 ∷ bit c 4 ∷ bit c 2 ∷ bit c 1 ∷ []

-- the word before a node
abbrev pub word : Word → List ℕ
word Field = codes "field "
word Group = codes "group "
word Sequence = codes "sequence "

-- a node's word, number and name
abbrev pub named : Tree → Word → ℕ → List ℕ
named t w n = word w ++ node t n

-- what is waited for
abbrev pub part_text : Tree → Part → List ℕ
part_text t Map = codes "a presence map"
part_text t TemplateId = codes "the template identifier"
part_text t (Instruction w n) = named t w n
part_text t End = codes "the end of the message"

-- The text of a note on a row with these bytes.
abbrev pub note_text : Tree → List ℕ → Note → List ℕ
note_text t bytes Bits = codes "map bits" ++ flat_map bits bytes
note_text t bytes (Absent w n) = named t w n ++ codes " absent"
note_text t bytes (Waiting part) = codes "waiting for " ++ part_text t part
