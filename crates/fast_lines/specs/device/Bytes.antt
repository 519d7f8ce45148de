-- The characters of hexadecimal digits in lower case.
use Rattle.std.specs.Prelude.{◌⊎◌, ℕ, ◌<◌}

-- the character is no upper case letter
abbrev pub IsNotUpper : ℕ → Type 0
IsNotUpper c = (c < 0x41) ⊎ (0x5A < c)
