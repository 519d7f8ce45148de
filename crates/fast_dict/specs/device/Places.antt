-- Slots of one size, one after the other.
use Rattle.std.specs.Prelude.{ℕ, ◌+◌, Bool, true, false, List, [], ◌∷◌, Option, Some, None}

-- The offsets of slots of one size, one for each entry that can hold a string.
abbrev pub places_from : ℕ → ℕ → List Bool → List (Option ℕ)
places_from size start [] = []
places_from size start (true ∷ ts) = Some start ∷ places_from size (start + size) ts
places_from size start (false ∷ ts) = None ∷ places_from size start ts
