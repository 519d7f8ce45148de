-- What a page has written.
use Rattle.std.specs.Prelude.{◌≡◌, ℕ, Bool, List, [], ◌∷◌, ◌++◌, length, Option, Result, Ok, Err}
use Rattle.fast_tree.specs.meaning.Tree.{Tree}
use Rattle.fast_template.specs.meaning.Flat.{tree_of}
use Rattle.fast_stream.specs.meaning.Events.{EventData}
use Rattle.fast_lines.specs.meaning.Lines.{line_of}
use Rattle.fast_lines.specs.meaning.Values.{HoldsBytes}
use Rattle.fast_text.specs.declared.streams.Failed.{Failed}
use Rattle.fast_text.specs.meaning.Fronts.{set_of}
use Rattle.fast_rows.specs.meaning.Written.{AreWritten}
use Rattle.fast_dump.specs.declared.page.Page.{Page}
use Rattle.fast_dump.specs.meaning.Kept.{kept, place}

-- The target held something before. Since then rows with these lines of show were written. Their bytes, and then those that are kept, are
-- these.
pub record IsPage {T : Type 0} (written : T → Option (List ℕ)) (failed : T → Bool) (held : Option (List ℕ)) (had_failed : Bool) (t : Tree)
    (p : Page T) (b ls : List ℕ) : Type 0 where
  pub names : tree_of p.templates.now ≡ t
  pub front_names : tree_of (set_of p.fronts.now).now ≡ t
  pub before : List ℕ
  pub rows : AreWritten t 0 before ls held (written p.target) had_failed (failed p.target) (Ok tt)
  pub bytes_are : before ++ kept p.kept ≡ b
  pub place_is : place p.kept ≡ length before

-- Of such rows a front was written, and the target has failed. Their bytes are the first of these.
pub record IsTorn {T : Type 0} (written : T → Option (List ℕ)) (failed : T → Bool) (held : Option (List ℕ)) (had_failed : Bool) (t : Tree)
    (p : Page T) (b ls : List ℕ) : Type 0 where
  pub before : List ℕ
  pub rest : List ℕ
  pub why : Failed
  pub rows : AreWritten t 0 before ls held (written p.target) had_failed (failed p.target) (Err why)
  pub bytes_are : before ++ rest ≡ b

-- the one at success, the other at a failure
abbrev pub IsLeft : {T : Type 0} → (T → Option (List ℕ)) → (T → Bool) → Option (List ℕ) → Bool → Tree → Page T → List ℕ → List ℕ
    → Result (Unit {0}) Failed → Type 0
IsLeft written failed held had_failed t p b ls (Ok u) = IsPage written failed held had_failed t p b ls
IsLeft written failed held had_failed t p b ls (Err e) = IsTorn written failed held had_failed t p b ls

-- The bytes of a page become more by these.
abbrev pub Gains : {T : Type 0} → (T → Option (List ℕ)) → (T → Bool) → Page T → List ℕ → Page T → Result (Unit {0}) Failed → Type 0
Gains written failed old more new r = (held : Option (List ℕ)) (had_failed : Bool) (t : Tree) (b ls : List ℕ)
    → IsPage written failed held had_failed t old b ls → IsLeft written failed held had_failed t new (b ++ more) ls r

-- The bytes and the lines stay the same.
abbrev pub Keeps : {T : Type 0} → (T → Option (List ℕ)) → (T → Bool) → Page T → Page T → Result (Unit {0}) Failed → Type 0
Keeps written failed old new r = (held : Option (List ℕ)) (had_failed : Bool) (t : Tree) (b ls : List ℕ)
    → IsPage written failed held had_failed t old b ls → IsLeft written failed held had_failed t new b ls r

-- The lines become more by that of an event.
abbrev pub Shows : {T : Type 0} → (T → Option (List ℕ)) → (T → Bool) → Page T → EventData → Page T → Result (Unit {0}) Failed → Type 0
Shows written failed old e new r = (held : Option (List ℕ)) (had_failed : Bool) (t : Tree) (b ls : List ℕ)
    → IsPage written failed held had_failed t old b ls → IsLeft written failed held had_failed t new b (ls ++ (line_of t e ++ 0x0A ∷ [])) r

-- The row of an event is written, or a front of it.
abbrev pub TakesRow : {T : Type 0} → (T → Option (List ℕ)) → (T → Bool) → Page T → EventData → Page T → Type 0
TakesRow written failed old e new = Shows written failed old e new (Ok tt) × HoldsBytes e

abbrev pub StopsInRow : {T : Type 0} → (T → Option (List ℕ)) → (T → Bool) → Page T → EventData → Page T → Type 0
StopsInRow written failed old e new = (held : Option (List ℕ)) (had_failed : Bool) (t : Tree) (b ls : List ℕ)
    → IsPage written failed held had_failed t old b ls → IsTorn written failed held had_failed t new b (ls ++ (line_of t e ++ 0x0A ∷ []))

-- All rows were written, and one without bytes that closes the stream, or a front of them.
abbrev pub Closes : {T : Type 0} → (T → Option (List ℕ)) → (T → Bool) → Page T → List ℕ → Page T → Result (Unit {0}) Failed → Type 0
Closes written failed old line new r = (held : Option (List ℕ)) (had_failed : Bool) (t : Tree) (b ls : List ℕ)
    → IsPage written failed held had_failed t old b ls → AreWritten t 0 b (ls ++ line) held (written new.target) had_failed
    (failed new.target) r
