-- Presence maps that a piece may split: some of their bytes are in the cells, and the others are in the piece.
use Rattle.std.specs.Prelude.{◌≡◌, ℕ, ◌+◌, ◌<◌, ◌≤◌, List, ◌++◌, length, take}
use Rattle.fast_wire.specs.meaning.Entities.{HaveNoStop, IsEntity}
use Rattle.fast_wire.specs.meaning.Maps.{map_limit}
use Rattle.fast_cursor.specs.declared.pending.MapFront.{MapFront}
use Rattle.fast_cursor.specs.declared.pending.MapFront.TheVariants as Map

-- The bytes in the cells and those after them, of which some complete the map, or make it too long, or all of them are in the cells, and
-- the map is split.
abbrev pub IsNextMap : ℕ → List ℕ → List ℕ → List ℕ → MapFront → Type 0
IsNextMap len cells rest after (Map.Whole n) = (0 < n) × (n ≤ length rest) × (len + n ≤ map_limit)
    × (take (len + n) after ≡ take len cells ++ take n rest) × IsEntity (take len cells ++ take n rest)
IsNextMap len cells rest after (Map.TooLong n) = (0 < n) × (n ≤ length rest) × (len + n ≡ map_limit) × HaveNoStop (take len cells ++ take n rest)
IsNextMap len cells rest after Map.Cut = (len + length rest < map_limit) × (take (len + length rest) after ≡ take len cells ++ rest)
    × HaveNoStop (take len cells ++ rest)
