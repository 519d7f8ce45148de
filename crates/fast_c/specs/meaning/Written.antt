-- What a call writes into a buffer that may be too small.
use Rattle.std.specs.Prelude.{◌≡◌, ℕ, List, ◌++◌, length, take, drop}

-- the buffer, with the front of a text as far as it has room, and the rest as it was
abbrev pub with_front : List ℕ → List ℕ → List ℕ
with_front text out = take (length out) text ++ drop (length text) out

-- The front of the text is written, and the length of all of it is told.
pub record IsWritten (text old new : List ℕ) (told : ℕ) : Type 0 where
  pub length_is : told ≡ length text
  pub written : new ≡ with_front text old
