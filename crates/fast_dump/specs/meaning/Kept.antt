-- The bytes that are kept for a row.
use Rattle.std.specs.Prelude.{ℕ, ◌+◌, List, take}
use Rattle.fast_dump.specs.declared.kept_bytes.KeptBytes.{KeptBytes}

-- the bytes
abbrev pub kept : KeptBytes → List ℕ
kept k = take k.len k.cells.items

-- the offset of the first of them
abbrev pub place : KeptBytes → ℕ
place k = k.at

-- the offset after them
abbrev pub end : KeptBytes → ℕ
end k = k.at + k.len
