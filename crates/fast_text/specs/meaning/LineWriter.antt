-- What a writer of lines has put.
use Rattle.std.specs.Prelude.{◌≡◌, ◌⊎◌, ℕ, Bool, true, false, IsTrue, List, [], ◌++◌, Option, Result, Ok, OnOk, OnErr, is_ok}
use Rattle.std.specs.Borrow.{MutBor}
use Rattle.fast_text.specs.declared.streams.Failed.{Failed}
use Rattle.fast_text.specs.declared.line_writer.LineWriter.{LineWriter}
use Rattle.fast_text.specs.meaning.Room.{kept_in}
use Rattle.fast_text.specs.meaning.Streams.{Appends, AppendsFront}

-- Where a writer is: what its target holds, whether the target has failed, what is kept, and whether the writer still writes.
pub record Point : Type 0 where
  pub written : Option (List ℕ)
  pub failed : Bool
  pub kept : List ℕ
  pub is_writing : Bool

-- A text was put since the target held what it did at the beginning: it was written but for what is kept; or a front of it was
-- written, and the target failed.
pub record HasPut (begun : Option (List ℕ)) (had_failed : Bool) (text : List ℕ) (p : Point) : Type 0 where
  pub how :
      (p.is_writing ≡ true) × ((front : List ℕ) × (text ≡ front ++ p.kept) × Appends begun p.written front) × (p.failed ≡ had_failed)
      ⊎ (p.is_writing ≡ false) × AppendsFront begun p.written text × IsTrue p.failed

-- The text was put behind whatever was put before.
abbrev pub Puts : Point → List ℕ → Point → Type 0
Puts p text q = (begun : Option (List ℕ)) (had_failed : Bool) (before : List ℕ) → HasPut begun had_failed before p → HasPut begun had_failed (before ++ text) q

-- where a writer is
abbrev pub point_of : {T : Type 0} → (T → Option (List ℕ)) → (T → Bool) → LineWriter T → Point
point_of written failed s = record { written = written s.target.now; failed = failed s.target.now; kept = kept_in s.kept.now; is_writing = is_ok s.outcome }

-- The writer puts a text for the same target, from where it stood.
pub record Writes {T : Type 0} (written : T → Option (List ℕ)) (failed : T → Bool) (old : LineWriter T) (text : List ℕ) (new : LineWriter T) : Type 0 where
  pub same_target : new.target.ghost_name ≡ old.target.ghost_name
  pub same_room : new.kept.ghost_name ≡ old.kept.ghost_name
  pub puts : Puts (point_of written failed old) text (point_of written failed new)

-- nothing is kept, and nothing has failed
pub record IsFresh {T : Type 0} (s : LineWriter T) : Type 0 where
  pub empty : kept_in s.kept.now ≡ []
  pub is_open : s.outcome ≡ Ok tt

-- the writer begins at the target as it is
pub record Begins {T R : Type 0} (target : MutBor T) (room : MutBor R) (s : LineWriter T) : Type 0 where
  pub same_target : s.target.ghost_name ≡ target.ghost_name
  pub same_room : s.kept.ghost_name ≡ room.ghost_name
  pub as_it_is : s.target.now ≡ target.now
  pub fresh : IsFresh s

-- What was put is written; or a front of it, and the target failed.
pub record Finishes {T : Type 0} (written : T → Option (List ℕ)) (failed : T → Bool) (old new : LineWriter T) (r : Result (Unit {0}) Failed) : Type 0 where
  pub same_target : new.target.ghost_name ≡ old.target.ghost_name
  pub same_room : new.kept.ghost_name ≡ old.kept.ghost_name
  pub whole : OnOk r ((begun : Option (List ℕ)) (had_failed : Bool) (text : List ℕ) → HasPut begun had_failed text (point_of written failed old)
      → Appends begun (written new.target.now) text × (failed new.target.now ≡ had_failed))
  pub part : OnErr r ((begun : Option (List ℕ)) (had_failed : Bool) (text : List ℕ) → HasPut begun had_failed text (point_of written failed old)
      → AppendsFront begun (written new.target.now) text × IsTrue (failed new.target.now))
