-- What is kept before it is written.
use Rattle.std.specs.Prelude.{ℕ, List, take}
use Rattle.fast_text.specs.declared.room.Room.{Room}

-- what is kept
abbrev pub kept_in : Room → List ℕ
kept_in r = take r.len r.cells
