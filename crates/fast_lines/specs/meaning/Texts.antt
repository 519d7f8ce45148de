-- The bytes of a text between quotes.
use Rattle.std.specs.Prelude.{◌≡◌, ◌≢◌, ◌⊎◌, ℕ, ◌<◌, ◌≤◌}

-- the byte stands behind a backslash
abbrev pub IsMarked : ℕ → Type 0
IsMarked c = (c ≡ 0x22) ⊎ (c ≡ 0x5C)

-- the byte is written in hexadecimal
abbrev pub IsControl : ℕ → Type 0
IsControl c = (c < 0x20) ⊎ (c ≡ 0x7F)

-- the byte stands as itself
abbrev pub IsPlain : ℕ → Type 0
IsPlain c = (0x20 ≤ c) × (c ≢ 0x7F) × (c ≢ 0x22) × (c ≢ 0x5C)
