-- From the rows that are written to what a page has written.
use Rattle.std.proofs.Common.{◌≡◌, ◌∙◌, ℕ, ◌+◌, Bool, List, [], ◌∷◌, ◌++◌, Option, Result, Ok, Err, OnOk, OnErr, ap, sym, refl, length}
use Rattle.std.proofs.Common.{length-append, append-nil, append_assoc, zero-add}
use Rattle.std.specs.Prelude.{IsTrue}
use Rattle.fast_tree.specs.meaning.Tree.{Tree}
use Rattle.fast_template.specs.meaning.Flat.{tree_of}
use Rattle.fast_stream.specs.meaning.Events.{EventData}
use Rattle.fast_lines.specs.meaning.Lines.{line_of}
use Rattle.fast_text.specs.declared.streams.Failed.{Failed}
use Rattle.fast_text.specs.meaning.Fronts.{set_of}
use Rattle.fast_rows.specs.meaning.Rows.{Line, rows_text}
use Rattle.fast_rows.specs.meaning.Written.{AreWritten}
use Rattle.fast_rows.proofs.InRows.{are_both, are_cut}
use Rattle.fast_rows.proofs.Texts.{is_both, is_same}
use Rattle.fast_text.specs.meaning.Streams.{Appends}
use Rattle.fast_dump.specs.declared.page.Page.{Page}
use Rattle.fast_dump.specs.meaning.Kept.{kept, place}
use Rattle.fast_dump.specs.meaning.Pages.{IsPage, IsTorn, Keeps}

-- Rows with all bytes that were kept were written after those of the page.
page_rows : {T : Type 0} (written : T → Option (List ℕ)) (failed : T → Bool) (held : Option (List ℕ)) (had : Bool) (t t0 : Tree)
    (old : Page T) (target : T) (b ls more at_bytes : List ℕ) (at : ℕ) (r : Result (Unit {0}) Failed)
    → (h : IsPage written failed held had t old b ls) → t0 ≡ t → at ≡ place old.kept → at_bytes ≡ kept old.kept
    → AreWritten t0 at at_bytes more (written old.target) (written target) (failed old.target) (failed target) r
    → AreWritten t 0 (h.before ++ kept old.kept) (ls ++ more) held (written target) had (failed target) r
page_rows written failed held had t t0 old target b ls more at_bytes at r h names there same rows =
    let moved : AreWritten t at (kept old.kept) more (written old.target) (written target) (failed old.target) (failed target) r = rw (← names, ← same) rows in
    are_both t 0 at h.before (kept old.kept) ls more held (written old.target) (written target) had (failed old.target)
    (failed target) r h.rows (there ∙ h.place_is ∙ sym (zero-add (length h.before))) moved

-- they are complete
pub page_more : {T : Type 0} (written : T → Option (List ℕ)) (failed : T → Bool) (held : Option (List ℕ)) (had : Bool) (t t0 : Tree)
    (old new : Page T) (b ls more at_bytes : List ℕ) (at : ℕ)
    → IsPage written failed held had t old b ls → t0 ≡ t → at ≡ place old.kept → at_bytes ≡ kept old.kept
    → AreWritten t0 at at_bytes more (written old.target) (written new.target) (failed old.target) (failed new.target) (Ok tt)
    → kept new.kept ≡ [] → place new.kept ≡ place old.kept + length (kept old.kept) → new.templates ≡ old.templates
    → new.fronts ≡ old.fronts → IsPage written failed held had t new b (ls ++ more)
page_more written failed held had t t0 old new b ls more at_bytes at h names there same rows none ends set fronts = record {
  names = ap (λ m. tree_of m.now) set ∙ h.names;
  front_names = ap (λ f. tree_of (set_of f.now).now) fronts ∙ h.front_names;
  before = h.before ++ kept old.kept;
  rows = page_rows written failed held had t t0 old new.target b ls more at_bytes at (Ok tt) h names there same rows;
  bytes_are = ap (λ (xs : List ℕ). (h.before ++ kept old.kept) ++ xs) none ∙ append-nil (h.before ++ kept old.kept) ∙ h.bytes_are;
  place_is = ends ∙ ap (λ (n : ℕ). n + length (kept old.kept)) h.place_is ∙ sym (length-append h.before (kept old.kept));
}

-- a front of them was written
pub page_torn : {T : Type 0} (written : T → Option (List ℕ)) (failed : T → Bool) (held : Option (List ℕ)) (had : Bool) (t t0 : Tree)
    (old new : Page T) (b ls more at_bytes : List ℕ) (at : ℕ) (e : Failed)
    → IsPage written failed held had t old b ls → t0 ≡ t → at ≡ place old.kept → at_bytes ≡ kept old.kept
    → AreWritten t0 at at_bytes more (written old.target) (written new.target) (failed old.target) (failed new.target) (Err e)
    → IsTorn written failed held had t new b (ls ++ more)
page_torn written failed held had t t0 old new b ls more at_bytes at e h names there same rows = record {
  before = h.before ++ kept old.kept;
  rest = [];
  why = e;
  rows = page_rows written failed held had t t0 old new.target b ls more at_bytes at (Err e) h names there same rows;
  bytes_are = append-nil (h.before ++ kept old.kept) ∙ h.bytes_are;
}

-- rows without lines
pub page_aside : {T : Type 0} (written : T → Option (List ℕ)) (failed : T → Bool) (held : Option (List ℕ)) (had : Bool) (t t0 : Tree)
    (old new : Page T) (b ls at_bytes : List ℕ) (at : ℕ)
    → IsPage written failed held had t old b ls → t0 ≡ t → at ≡ place old.kept → at_bytes ≡ kept old.kept
    → AreWritten t0 at at_bytes [] (written old.target) (written new.target) (failed old.target) (failed new.target) (Ok tt)
    → kept new.kept ≡ [] → place new.kept ≡ place old.kept + length (kept old.kept) → new.templates ≡ old.templates
    → new.fronts ≡ old.fronts → IsPage written failed held had t new b ls
page_aside written failed held had t t0 old new b ls at_bytes at h names there same rows none ends set fronts =
    rw (sym (append-nil ls)) (page_more written failed held had t t0 old new b ls [] at_bytes at h names there same rows none ends set fronts)

pub torn_aside : {T : Type 0} (written : T → Option (List ℕ)) (failed : T → Bool) (held : Option (List ℕ)) (had : Bool) (t t0 : Tree)
    (old new : Page T) (b ls at_bytes : List ℕ) (at : ℕ) (e : Failed)
    → IsPage written failed held had t old b ls → t0 ≡ t → at ≡ place old.kept → at_bytes ≡ kept old.kept
    → AreWritten t0 at at_bytes [] (written old.target) (written new.target) (failed old.target) (failed new.target) (Err e)
    → IsTorn written failed held had t new b ls
torn_aside written failed held had t t0 old new b ls at_bytes at e h names there same rows =
    rw (sym (append-nil ls)) (page_torn written failed held had t t0 old new b ls [] at_bytes at e h names there same rows)

-- A front of rows is a front of them with the row of a line after them.
pub torn_more : {T : Type 0} (written : T → Option (List ℕ)) (failed : T → Bool) (held : Option (List ℕ)) (had : Bool) (t : Tree)
    (p : Page T) (b ls text : List ℕ)
    → IsTorn written failed held had t p b ls → IsTorn written failed held had t p b (ls ++ (text ++ 0x0A ∷ []))
torn_more written failed held had t p b ls text h = record {
  before = h.before;
  rest = h.rest;
  why = h.why;
  rows = rw (sym (append-nil h.before)) (are_cut t 0 h.before [] ls (text ++ 0x0A ∷ []) held (written p.target) had (failed p.target) h.why
      (Line [] text ∷ []) h.rows refl (append-nil (text ++ 0x0A ∷ [])));
  bytes_are = h.bytes_are;
}

-- the same target and bytes
pub page_same : {T : Type 0} (written : T → Option (List ℕ)) (failed : T → Bool) (held : Option (List ℕ)) (had : Bool) (t : Tree)
    (old new : Page T) (b ls : List ℕ)
    → IsPage written failed held had t old b ls → new.target ≡ old.target → new.kept ≡ old.kept → new.templates ≡ old.templates
    → new.fronts ≡ old.fronts → IsPage written failed held had t new b ls
page_same written failed held had t old new b ls h target bytes set fronts = record {
  names = ap (λ m. tree_of m.now) set ∙ h.names;
  front_names = ap (λ f. tree_of (set_of f.now).now) fronts ∙ h.front_names;
  before = h.before;
  rows = rw target h.rows;
  bytes_are = ap (λ k. h.before ++ kept k) bytes ∙ h.bytes_are;
  place_is = ap place bytes ∙ h.place_is;
}

-- one byte more is kept
pub page_gains : {T : Type 0} (written : T → Option (List ℕ)) (failed : T → Bool) (held : Option (List ℕ)) (had : Bool) (t : Tree)
    (old new : Page T) (b ls more : List ℕ)
    → IsPage written failed held had t old b ls → new.target ≡ old.target → kept new.kept ≡ kept old.kept ++ more
    → place new.kept ≡ place old.kept → new.templates ≡ old.templates → new.fronts ≡ old.fronts
    → IsPage written failed held had t new (b ++ more) ls
page_gains written failed held had t old new b ls more h target bytes there set fronts = record {
  names = ap (λ m. tree_of m.now) set ∙ h.names;
  front_names = ap (λ f. tree_of (set_of f.now).now) fronts ∙ h.front_names;
  before = h.before;
  rows = rw target h.rows;
  bytes_are = ap (λ (xs : List ℕ). h.before ++ xs) bytes ∙ sym (append_assoc h.before (kept old.kept) more) ∙ ap (λ (xs : List ℕ). xs ++ more) h.bytes_are;
  place_is = there ∙ h.place_is;
}

-- A front of rows with these bytes is one with more bytes.
pub torn_gains : {T : Type 0} (written : T → Option (List ℕ)) (failed : T → Bool) (held : Option (List ℕ)) (had : Bool) (t : Tree)
    (p : Page T) (b ls more : List ℕ)
    → IsTorn written failed held had t p b ls → IsTorn written failed held had t p (b ++ more) ls
torn_gains written failed held had t p b ls more h = record {
  before = h.before;
  rest = h.rest ++ more;
  why = h.why;
  rows = h.rows;
  bytes_are = sym (append_assoc h.before h.rest more) ∙ ap (λ (xs : List ℕ). xs ++ more) h.bytes_are;
}

-- the rows of an event, in the names of a set
pub page_line : {T : Type 0} (written : T → Option (List ℕ)) (failed : T → Bool) (held : Option (List ℕ)) (had : Bool) (t t0 : Tree)
    (old new : Page T) (b ls at_bytes : List ℕ) (at : ℕ) (e : EventData)
    → IsPage written failed held had t old b ls → t0 ≡ t → at ≡ place old.kept → at_bytes ≡ kept old.kept
    → AreWritten t0 at at_bytes (line_of t0 e ++ 0x0A ∷ []) (written old.target) (written new.target) (failed old.target) (failed new.target) (Ok tt)
    → kept new.kept ≡ [] → place new.kept ≡ place old.kept + length (kept old.kept) → new.templates ≡ old.templates
    → new.fronts ≡ old.fronts → IsPage written failed held had t new b (ls ++ (line_of t e ++ 0x0A ∷ []))
page_line written failed held had t t0 old new b ls at_bytes at e h names there same rows none ends set fronts =
    rw (← names) (page_more written failed held had t0 t0 old new b ls (line_of t0 e ++ 0x0A ∷ []) at_bytes at
    (rw names h) refl there same rows none ends set fronts)

pub torn_line : {T : Type 0} (written : T → Option (List ℕ)) (failed : T → Bool) (held : Option (List ℕ)) (had : Bool) (t t0 : Tree)
    (old new : Page T) (b ls at_bytes : List ℕ) (at : ℕ) (why : Failed) (e : EventData)
    → IsPage written failed held had t old b ls → t0 ≡ t → at ≡ place old.kept → at_bytes ≡ kept old.kept
    → AreWritten t0 at at_bytes (line_of t0 e ++ 0x0A ∷ []) (written old.target) (written new.target) (failed old.target)
    (failed new.target) (Err why) → IsTorn written failed held had t new b (ls ++ (line_of t e ++ 0x0A ∷ []))
torn_line written failed held had t t0 old new b ls at_bytes at why e h names there same rows =
    rw (← names) (page_torn written failed held had t0 t0 old new b ls (line_of t0 e ++ 0x0A ∷ []) at_bytes at why (rw names h) refl there same rows)

-- nothing more is written
pub page_stays : {T : Type 0} (written : T → Option (List ℕ)) (failed : T → Bool) (held : Option (List ℕ)) (had : Bool) (t : Tree)
    (old new : Page T) (b ls : List ℕ)
    → IsPage written failed held had t old b ls → Appends (written old.target) (written new.target) []
    → failed new.target ≡ failed old.target → new.kept ≡ old.kept → new.templates ≡ old.templates → new.fronts ≡ old.fronts
    → IsPage written failed held had t new b ls
page_stays written failed held had t old new b ls h none same bytes set fronts = record {
  names = ap (λ m. tree_of m.now) set ∙ h.names;
  front_names = ap (λ f. tree_of (set_of f.now).now) fronts ∙ h.front_names;
  before = h.before;
  rows = record {
    rows = h.rows.rows;
    bytes_are = h.rows.bytes_are;
    lines_are = h.rows.lines_are;
    written = is_same (append-nil (rows_text t 0 h.rows.rows))
        (is_both held (written old.target) (written new.target) had (failed old.target) (failed new.target) (rows_text t 0 h.rows.rows) []
        (Ok tt) h.rows.written (record {
          whole = (none, same);
          part = tt;
        }));
  };
  bytes_are = ap (λ k. h.before ++ kept k) bytes ∙ h.bytes_are;
  place_is = ap place bytes ∙ h.place_is;
}

-- so it is after a flush, or the target has failed
pub flush_keeps : {T : Type 0} (written : T → Option (List ℕ)) (failed : T → Bool) (old new : Page T) (r : Result (Unit {0}) Failed)
    → Appends (written old.target) (written new.target) [] → OnOk r (failed new.target ≡ failed old.target)
    → OnErr r (IsTrue (failed new.target)) → new.kept ≡ old.kept → new.templates ≡ old.templates → new.fronts ≡ old.fronts
    → Keeps written failed old new r
flush_keeps written failed old new (Ok x) none same fails bytes set fronts =
    λ held had t b ls h. page_stays written failed held had t old new b ls h none same bytes set fronts
flush_keeps written failed old new (Err e) none same fails bytes set fronts = λ held had t b ls h. record {
  before = h.before;
  rest = kept old.kept;
  why = e;
  rows = record {
    rows = h.rows.rows;
    bytes_are = h.rows.bytes_are;
    lines_are = h.rows.lines_are;
    written = is_same (append-nil (rows_text t 0 h.rows.rows))
        (is_both held (written old.target) (written new.target) had (failed old.target) (failed new.target) (rows_text t 0 h.rows.rows) []
        (Err e) h.rows.written (record {
          whole = tt;
          part = (record { front = []; rest = []; is = refl; added = none }, fails);
        }));
  };
  bytes_are = h.bytes_are;
}
