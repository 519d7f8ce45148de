-- What an output of lines does to its target.
use Rattle.std.specs.Prelude.{◌≡◌, ℕ, Bool, IsTrue, List, [], ◌∷◌, ◌++◌, Option}
use Rattle.std.specs.Borrow.{Bor}
use Rattle.fast_tree.specs.meaning.Tree.{Tree}
use Rattle.fast_template.specs.meaning.Flat.{tree_of}
use Rattle.fast_stream.specs.declared.faults.Fault.{Fault}
use Rattle.fast_stream.specs.meaning.Events.{EventData}
use Rattle.fast_lines.specs.meaning.Lines.{line_of}
use Rattle.fast_text.specs.meaning.Fronts.{set_of}
use Rattle.fast_text.specs.meaning.Streams.{Appends, AppendsFront}
use Rattle.fast_command.specs.meaning.Closing.{fault_line, truncated_line}
use Rattle.fast_run.specs.declared.outputs.Lines.{Lines}

-- the tree whose names an output writes
abbrev pub tree_at : {T : Type 0} → Lines T → Tree
tree_at s = tree_of (set_of s.fronts.now).now

-- the line of an event, with its LF
abbrev pub whole_line : {T : Type 0} → Lines T → EventData → List ℕ
whole_line s e = line_of (tree_at s) e ++ 0x0A ∷ []

-- A text was written, with the same names.
pub record Writes {T : Type 0} (written : T → Option (List ℕ)) (failed : T → Bool) (old : Lines T) (text : List ℕ) (new : Lines T) : Type 0 where
  pub names : tree_at new ≡ tree_at old
  pub added : Appends (written old.target) (written new.target) text
  pub as_before : failed new.target ≡ failed old.target

-- the line of an event was written
abbrev pub WritesLine : {T : Type 0} → (T → Option (List ℕ)) → (T → Bool) → Lines T → EventData → Lines T → Type 0
WritesLine written failed old e new = Writes written failed old (whole_line old e) new

-- A front of the line of an event was written, and the target has failed.
pub record FailsInLine {T : Type 0} (written : T → Option (List ℕ)) (failed : T → Bool) (old : Lines T) (e : EventData) (new : Lines T) : Type 0 where
  pub names : tree_at new ≡ tree_at old
  pub front : AppendsFront (written old.target) (written new.target) (whole_line old e)
  pub has_failed : IsTrue (failed new.target)

-- all that was written before is written out
abbrev pub Flushes : {T : Type 0} → (T → Option (List ℕ)) → (T → Bool) → Lines T → Lines T → Type 0
Flushes written failed old new = Writes written failed old [] new

-- the line of a fault was written
abbrev pub WritesFault : {T : Type 0} → (T → Option (List ℕ)) → (T → Bool) → Lines T → Fault → Lines T → Type 0
WritesFault written failed old f new = Writes written failed old (fault_line f.code f.place) new

-- the line of an end inside a message was written
abbrev pub WritesCut : {T : Type 0} → (T → Option (List ℕ)) → (T → Bool) → Lines T → ℕ → Lines T → Type 0
WritesCut written failed old n new = Writes written failed old (truncated_line n) new
