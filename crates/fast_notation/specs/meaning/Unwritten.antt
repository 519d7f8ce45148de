-- The fault of a file that writes no template set.
use Rattle.std.specs.Prelude.{◌≡◌, ℕ, ◌<◌, ◌≤◌, ◌^◌, codes, Option, Some, None}
use Rattle.toml.specs.Data.{array, table, Items, no_items, item, Members, no_members, member, get_item}
use Rattle.fast_notation.specs.declared.codes.StaticCode.{StaticCode}
use Rattle.fast_notation.specs.declared.codes.StaticCode.TheVariants.{S1, Memory}
use Rattle.fast_tree.specs.meaning.AsWritten.{DeclaredTemplate}
use Rattle.fast_notation.specs.meaning.Notation.{WritesTemplate}
use Rattle.fast_notation.specs.device.Reading.{items_count}

-- each item is a table
abbrev pub AreTables : Items → Type 0
AreTables no_items = Unit {0}
AreTables (item d xs) = (ms : Members) × (d ≡ table ms) × AreTables xs

-- The document is an array of 1 to 4,294,967,295 tables under the one key `template`.
abbrev pub HasTables : Members → Items → Type 0
HasTables document xs = (document ≡ member (codes "template") (array xs) no_members) × AreTables xs × (1 ≤ items_count xs) × (items_count xs < 2 ^ 32)

-- The fault of a file that `toml` reads as a document, or does not read, and the template at which it is.
abbrev pub IsUnwritten : Option Members → StaticCode → Option ℕ → Type 0
IsUnwritten read S1 None = (document : Members) (xs : Items) → read ≡ Some document → ¬ (HasTables document xs)
IsUnwritten read S1 (Some k) = (document ms : Members) × (xs : Items) × (read ≡ Some document) × HasTables document xs
    × (get_item k xs ≡ Some (table ms)) × ((t : DeclaredTemplate) → ¬ (WritesTemplate ms t))
IsUnwritten read Memory None = Unit {0}
IsUnwritten read code template = ⊥
