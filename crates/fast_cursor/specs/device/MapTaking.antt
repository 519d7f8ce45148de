-- A presence map that goes on with the bytes of a piece.
use Rattle.std.specs.Prelude.{◌≡◌, ℕ, ◌+◌, ◌<◌, ◌≤◌, List, ◌++◌, length, take}
use Rattle.fast_wire.specs.meaning.Entities.{HaveNoStop, IsEntity}
use Rattle.fast_wire.specs.meaning.Maps.{map_limit}
use Rattle.fast_cursor.specs.declared.pending.MapFront.{MapFront}
use Rattle.fast_cursor.specs.declared.pending.MapFront.TheVariants.{Whole, TooLong, Cut}

-- The buffered bytes and those of the piece: some of the latter complete the map, or make it too long, or all of them are buffered, and the
-- map is split.
abbrev pub IsMapTaken : List ℕ → List ℕ → List ℕ → MapFront → Type 0
IsMapTaken front rest after (Whole n) = (0 < n) × (n ≤ length rest) × (length (front ++ take n rest) ≤ map_limit)
    × IsEntity (front ++ take n rest) × (after ≡ front ++ take n rest)
IsMapTaken front rest after (TooLong n) = (0 < n) × (n ≤ length rest) × (length front + n ≡ map_limit) × HaveNoStop (front ++ take n rest)
IsMapTaken front rest after Cut = (length (front ++ rest) < map_limit) × HaveNoStop (front ++ rest) × (after ≡ front ++ rest)
