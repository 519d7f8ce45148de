-- What a sink of lines does to its target.
use Rattle.std.specs.Prelude.{◌≡◌, ℕ, Bool, IsTrue, List, [], ◌∷◌, ◌++◌, Option}
use Rattle.std.specs.Borrow.{Bor, MutBor}
use Rattle.fast_template.specs.declared.sets.Templates.{Templates}
use Rattle.fast_template.specs.meaning.Flat.{tree_of}
use Rattle.fast_stream.specs.meaning.Events.{EventData}
use Rattle.fast_text.specs.declared.line_sink.LineSink.{LineSink}
use Rattle.fast_lines.specs.meaning.Lines.{line_of}
use Rattle.fast_lines.specs.meaning.Values.{HoldsBytes}
use Rattle.fast_text.specs.meaning.Streams.{Appends, AppendsFront}

-- the sink writes to the target, with the names of the set
pub record IsOver {T : Type 0} (templates : Bor Templates) (target : MutBor T) (s : LineSink T) : Type 0 where
  pub set : s.templates.now ≡ templates.now
  pub same_target : s.target.ghost_name ≡ target.ghost_name
  pub as_it_is : s.target.now ≡ target.now

-- the line of an event, with its LF
abbrev pub whole_line : {T : Type 0} → LineSink T → EventData → List ℕ
whole_line s e = line_of (tree_of s.templates.now) e ++ 0x0A ∷ []

-- The line was written to the same target. The event is one of the Rust type.
pub record TakesLine {T : Type 0} (written : T → Option (List ℕ)) (failed : T → Bool) (old : LineSink T) (e : EventData) (new : LineSink T) : Type 0 where
  pub set : new.templates.now ≡ old.templates.now
  pub same_target : new.target.ghost_name ≡ old.target.ghost_name
  pub line : Appends (written old.target.now) (written new.target.now) (whole_line old e)
  pub holds : HoldsBytes e
  pub as_before : failed new.target.now ≡ failed old.target.now

-- A front of the line was written to the same target, which has failed.
pub record StopsInLine {T : Type 0} (written : T → Option (List ℕ)) (failed : T → Bool) (old : LineSink T) (e : EventData) (new : LineSink T) : Type 0 where
  pub set : new.templates.now ≡ old.templates.now
  pub same_target : new.target.ghost_name ≡ old.target.ghost_name
  pub front : AppendsFront (written old.target.now) (written new.target.now) (whole_line old e)
  pub has_failed : IsTrue (failed new.target.now)
