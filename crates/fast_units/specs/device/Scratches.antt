-- The contents of a scratch.
use Rattle.std.specs.Prelude.{ℕ, List}

-- the bytes that have been read, and the most that there may be
pub record Held : Type 0 where
  pub text : List ℕ
  pub capacity : ℕ
