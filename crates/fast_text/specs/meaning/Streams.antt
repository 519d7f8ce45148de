-- What a read takes of what is left, and what a write adds to what was written before.
use Rattle.std.specs.Prelude.{◌≡◌, ℕ, List, ◌++◌, Option}
use Rattle.std.specs.Io.KnownBytes.{Consumes, Appends as KnownAppends}

-- The text was read, where it was known what is left.
pub record Reads (old new : Option (List ℕ)) (text : List ℕ) : Type 0 where
  pub before : Consumes old new text

-- The text was added, where it was known what is written.
pub record Appends (old new : Option (List ℕ)) (text : List ℕ) : Type 0 where
  pub after : KnownAppends old new text

-- A front of the text was added.
pub record AppendsFront (old new : Option (List ℕ)) (text : List ℕ) : Type 0 where
  pub front : List ℕ
  pub rest : List ℕ
  pub is : text ≡ front ++ rest
  pub added : Appends old new front
