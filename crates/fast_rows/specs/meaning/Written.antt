-- What becomes of a text or of rows that are written.
use Rattle.std.specs.Prelude.{◌≡◌, ℕ, Bool, IsTrue, List, Option, Result, OnOk, OnErr}
use Rattle.fast_tree.specs.meaning.Tree.{Tree}
use Rattle.fast_text.specs.declared.streams.Failed.{Failed}
use Rattle.fast_text.specs.meaning.Streams.{Appends, AppendsFront}
use Rattle.fast_rows.specs.meaning.Rows.{Row, rows_text, bytes_in, lines_in}

-- The text was added to what the target held, or a front of it was and the target has failed.
pub record IsWritten (held holds : Option (List ℕ)) (had_failed has_failed : Bool) (text : List ℕ) (r : Result (Unit {0}) Failed) : Type 0 where
  pub whole : OnOk r (Appends held holds text × (has_failed ≡ had_failed))
  pub part : OnErr r (AppendsFront held holds text × IsTrue has_failed)

-- Rows with these bytes and these lines of show were written so, from this offset on.
pub record AreWritten (t : Tree) (at : ℕ) (bytes lines : List ℕ) (held holds : Option (List ℕ)) (had_failed has_failed : Bool)
    (r : Result (Unit {0}) Failed) : Type 0 where
  pub rows : List Row
  pub bytes_are : bytes_in rows ≡ bytes
  pub lines_are : lines_in rows ≡ lines
  pub written : IsWritten held holds had_failed has_failed (rows_text t at rows) r
