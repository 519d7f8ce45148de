-- The keys of a table, as members and as the strings of its map.
use Rattle.std.proofs.Common.{◌≡◌, Bool, true, ◌&&◌, List, [], ◌∷◌, String, Global, string_bytes, refl, ap, ℕ}
use Rattle.std.specs.Map.{keys_of}
use Rattle.toml.specs.View.{members_view}
use Rattle.toml.proofs.Views.{Entry}
use Rattle.fast_notation.specs.device.Reading.{is_one_of, has_only}

-- no string but these
abbrev pub only_strings : List (List ℕ) → List (String Global) → Bool
only_strings keys [] = true
only_strings keys (s ∷ ss) = is_one_of keys (string_bytes s) && only_strings keys ss

-- the keys of the members are those of the map
pub has_only-strings : (keys : List (List ℕ)) (es : List Entry) → has_only keys (members_view es) ≡ only_strings keys (keys_of es)
has_only-strings keys [] = refl
has_only-strings keys (e ∷ es) = ap (λ b. is_one_of keys (string_bytes e.0) && b) (has_only-strings keys es)
