-- The table of a template set that is not read, and its fault.
use Rattle.std.specs.Prelude.{◌≡◌, ℕ, Option, Some, None}
use Rattle.toml.specs.Data.{Data, Items, get_item}
use Rattle.fast_notation.specs.declared.codes.StaticCode.{StaticCode}
use Rattle.fast_notation.specs.declared.codes.StaticCode.TheVariants.{S1, Memory}
use Rattle.fast_notation.specs.device.Reading.{template_in}

-- the item of this number is no template's table
abbrev pub IsUnread : Items → StaticCode → Option ℕ → Type 0
IsUnread xs S1 (Some k) = (d : Data) × (get_item k xs ≡ Some d) × (template_in d ≡ None)
IsUnread xs Memory None = Unit {0}
IsUnread xs code template = ⊥
