-- All rows of a page, and the row that closes a stream.
use Rattle.std.proofs.Common.{◌≡◌, ◌∙◌, ℕ, ◌≤◌, Bool, List, [], ◌∷◌, ◌++◌, Option, Result, Ok, Err, OnOk, OnErr, ap, sym, refl, subst}
use Rattle.std.proofs.Common.{length, length-append, append-nil, append_assoc, zero-add, arith}
use Rattle.std.specs.Prelude.{IsTrue, codes, decimal}
use Rattle.std.proofs.lemmas.List.{length-take-le}
use Rattle.fast_tree.specs.meaning.Tree.{Tree}
use Rattle.fast_stream.specs.declared.faults.FaultCode.{FaultCode}
use Rattle.fast_stream.specs.meaning.FaultCodes.{code_text}
use Rattle.fast_text.specs.declared.streams.Failed.{Failed}
use Rattle.fast_text.specs.meaning.Streams.{Appends, AppendsFront}
use Rattle.fast_text.proofs.Writing.{appends_both}
use Rattle.fast_rows.specs.meaning.Rows.{Line, More}
use Rattle.fast_rows.specs.meaning.Columns.{columns}
use Rattle.fast_rows.specs.meaning.Written.{IsWritten, AreWritten}
use Rattle.fast_rows.proofs.Texts.{is_both, is_same, is_cut}
use Rattle.fast_rows.proofs.InRows.{are_both, are_cut, line_row}
use Rattle.fast_command.specs.meaning.Closing.{fault_line, truncated_line}
use Rattle.fast_dump.specs.declared.page.Page.{Page}
use Rattle.fast_dump.specs.meaning.Kept.{kept, place, end}
use Rattle.fast_dump.specs.meaning.Pages.{IsPage, IsTorn}

-- ---- rows

-- those of a page on which no bytes are left
pub page_whole : {T : Type 0} (written : T → Option (List ℕ)) (failed : T → Bool) (held : Option (List ℕ)) (had : Bool) (t : Tree) (p : Page T) (b ls : List ℕ)
    → IsPage written failed held had t p b ls → kept p.kept ≡ [] → AreWritten t 0 b ls held (written p.target) had (failed p.target) (Ok tt)
page_whole written failed held had t p b ls h none =
    let all : h.before ≡ b = sym (append-nil h.before) ∙ ap (λ (xs : List ℕ). h.before ++ xs) (sym none) ∙ h.bytes_are in
    subst (λ (xs : List ℕ). AreWritten t 0 xs ls held (written p.target) had (failed p.target) (Ok tt)) all h.rows

-- a front of rows, as one of rows with all bytes
pub torn_rows : {T : Type 0} (written : T → Option (List ℕ)) (failed : T → Bool) (held : Option (List ℕ)) (had : Bool) (t : Tree) (p : Page T) (b ls : List ℕ)
    → (h : IsTorn written failed held had t p b ls) → AreWritten t 0 b ls held (written p.target) had (failed p.target) (Err h.why)
torn_rows written failed held had t p b ls h =
    let cut = are_cut t 0 h.before h.rest ls [] held (written p.target) had (failed p.target) h.why (More h.rest ∷ []) h.rows (append-nil h.rest) refl in
    subst (λ (xs : List ℕ). AreWritten t 0 xs ls held (written p.target) had (failed p.target) (Err h.why)) h.bytes_are
    (subst (λ (xs : List ℕ). AreWritten t 0 (h.before ++ h.rest) xs held (written p.target) had (failed p.target) (Err h.why)) (append-nil ls) cut)

-- a row without bytes, which closes the stream
pub rows_closed : (t : Tree) (b ls text : List ℕ) (held mid last : Option (List ℕ)) (had mid_had has : Bool) (r : Result (Unit {0}) Failed)
    → AreWritten t 0 b ls held mid had mid_had (Ok tt) → IsWritten mid last mid_had has (columns (length b) [] ++ (text ++ 0x0A ∷ [])) r
    → AreWritten t 0 b (ls ++ (text ++ 0x0A ∷ [])) held last had has r
rows_closed t b ls text held mid last had mid_had has r rows line =
    subst (λ (xs : List ℕ). AreWritten t 0 xs (ls ++ (text ++ 0x0A ∷ [])) held last had has r) (append-nil b)
    (are_both t 0 (length b) b [] ls (text ++ 0x0A ∷ []) held mid last had mid_had has r rows (sym (zero-add (length b)))
    (line_row t (length b) [] text mid last mid_had has r line))

-- a front of rows, and the row that closes the stream
pub rows_cut : (t : Tree) (b ls text : List ℕ) (held last : Option (List ℕ)) (had has : Bool) (why : Failed)
    → AreWritten t 0 b ls held last had has (Err why) → AreWritten t 0 b (ls ++ (text ++ 0x0A ∷ [])) held last had has (Err why)
rows_cut t b ls text held last had has why rows =
    subst (λ (xs : List ℕ). AreWritten t 0 xs (ls ++ (text ++ 0x0A ∷ [])) held last had has (Err why)) (append-nil b)
    (are_cut t 0 b [] ls (text ++ 0x0A ∷ []) held last had has why (Line [] text ∷ []) rows refl (append-nil (text ++ 0x0A ∷ [])))

-- rows after a flush
pub rows_flushed : (t : Tree) (b ls : List ℕ) (held mid last : Option (List ℕ)) (had mid_had has : Bool) (r : Result (Unit {0}) Failed)
    → Appends mid last [] → has ≡ mid_had → AreWritten t 0 b ls held mid had mid_had r → AreWritten t 0 b ls held last had has r
rows_flushed t b ls held mid last had mid_had has (Ok tt) none same rows = record {
  rows = rows.rows;
  bytes_are = rows.bytes_are;
  lines_are = rows.lines_are;
  written = is_same (append-nil _) (is_both held mid last had mid_had has _ [] (Ok tt) rows.written (record { whole = (none, same); part = tt }));
}
rows_flushed t b ls held mid last had mid_had has (Err e) none same rows =
    let part = rows.written.part.0 in
    record {
      rows = rows.rows;
      bytes_are = rows.bytes_are;
      lines_are = rows.lines_are;
      written = record {
        whole = tt;
        part = (record { front = part.front; rest = part.rest; is = part.is; added = added part.front part.added }, rw same rows.written.part.1);
      };
    }
  where
    added : (front : List ℕ) → Appends held mid front → Appends held last front
    added front h = subst (Appends held last) (append-nil front) (appends_both held mid last front [] h none)

-- after a flush that failed
pub rows_unflushed : (t : Tree) (b ls : List ℕ) (held mid last : Option (List ℕ)) (had mid_had has : Bool) (r : Result (Unit {0}) Failed) (why : Failed)
    → Appends mid last [] → IsTrue has → AreWritten t 0 b ls held mid had mid_had r → AreWritten t 0 b ls held last had has (Err why)
rows_unflushed t b ls held mid last had mid_had has (Ok tt) why none failed rows = record {
  rows = rows.rows;
  bytes_are = rows.bytes_are;
  lines_are = rows.lines_are;
  written = is_same (append-nil _) (is_both held mid last had mid_had has _ [] (Err why) rows.written (record {
    whole = tt;
    part = (record { front = []; rest = []; is = refl; added = none }, failed);
  }));
}
rows_unflushed t b ls held mid last had mid_had has (Err e) why none failed rows =
    let part = rows.written.part.0 in
    record {
      rows = rows.rows;
      bytes_are = rows.bytes_are;
      lines_are = rows.lines_are;
      written = record {
        whole = tt;
        part = (record { front = part.front; rest = part.rest; is = part.is; added = added part.front part.added }, failed);
      };
    }
  where
    added : (front : List ℕ) → Appends held mid front → Appends held last front
    added front h = subst (Appends held last) (append-nil front) (appends_both held mid last front [] h none)

-- ---- the row that closes a stream

-- the texts of these rows, without their LF
pub fault_text : (code : FaultCode) (n : ℕ) → (text : List ℕ) × (fault_line code n ≡ text ++ 0x0A ∷ [])
fault_text code n = (
  codes "fault " ++ code_text code ++ codes " at " ++ decimal n,
  regroup (codes "fault ") (code_text code) (codes " at ") (decimal n) (0x0A ∷ []),
)
  where
    regroup : (a b c d e : List ℕ) → a ++ b ++ c ++ d ++ e ≡ (a ++ b ++ c ++ d) ++ e
    regroup a b c d e = simp append_assoc

pub truncated_text : (n : ℕ) → (text : List ℕ) × (truncated_line n ≡ text ++ 0x0A ∷ [])
truncated_text n = (codes "truncated at " ++ decimal n, sym (append_assoc (codes "truncated at ") (decimal n) (0x0A ∷ [])))

-- the same with another error
any_error : (t : Tree) (b ls : List ℕ) (held last : Option (List ℕ)) (had has : Bool) (why e : Failed)
    → AreWritten t 0 b ls held last had has (Err why) → AreWritten t 0 b ls held last had has (Err e)
any_error t b ls held last had has why e rows = record {
  rows = rows.rows;
  bytes_are = rows.bytes_are;
  lines_are = rows.lines_are;
  written = record { whole = tt; part = rows.written.part };
}

-- the offset of a page after its bytes
place_of : {T : Type 0} (written : T → Option (List ℕ)) (failed : T → Bool) (held : Option (List ℕ)) (had : Bool) (t : Tree) (p : Page T) (b ls : List ℕ)
    → IsPage written failed held had t p b ls → kept p.kept ≡ [] → place p.kept ≡ length b
place_of written failed held had t p b ls h none =
    h.place_is ∙ ap length (sym (append-nil h.before) ∙ ap (λ (xs : List ℕ). h.before ++ xs) (sym none) ∙ h.bytes_are)

-- the rest of the rows is torn
pub closes_rest : {T : Type 0} (written : T → Option (List ℕ)) (failed : T → Bool) (held : Option (List ℕ)) (had : Bool) (t : Tree)
    (p : Page T) (b ls line : List ℕ) (e : Failed)
    → (text : List ℕ) × (line ≡ text ++ 0x0A ∷ []) → IsTorn written failed held had t p b ls
    → AreWritten t 0 b (ls ++ line) held (written p.target) had (failed p.target) (Err e)
closes_rest written failed held had t p b ls line e it torn =
    let cut = rows_cut t b ls it.0 held (written p.target) had (failed p.target) torn.why (torn_rows written failed held had t p b ls torn) in
    rw it.1 (any_error t b (ls ++ (it.0 ++ 0x0A ∷ [])) held (written p.target) had (failed p.target) torn.why e cut)

-- the columns of the row are torn
pub closes_columns : {T : Type 0} (written : T → Option (List ℕ)) (failed : T → Bool) (held : Option (List ℕ)) (had : Bool) (t : Tree)
    (p : Page T) (last : T) (b ls line : List ℕ) (at : ℕ) (e : Failed)
    → (text : List ℕ) × (line ≡ text ++ 0x0A ∷ []) → IsPage written failed held had t p b ls → kept p.kept ≡ [] → at ≡ place p.kept
    → IsWritten (written p.target) (written last) (failed p.target) (failed last) (columns at []) (Err e)
    → AreWritten t 0 b (ls ++ line) held (written last) had (failed last) (Err e)
closes_columns written failed held had t p last b ls line at e it page none there torn =
    let rows = page_whole written failed held had t p b ls page none in
    let row = is_cut (written p.target) (written last) (failed p.target) (failed last) (columns at []) (it.0 ++ 0x0A ∷ []) e torn in
    rw it.1 (rows_closed t b ls it.0 held (written p.target) (written last) had (failed p.target) (failed last) (Err e) rows
    (rw (sym (there ∙ place_of written failed held had t p b ls page none)) row))

-- the row is written, or torn
pub closes_line : {T : Type 0} (written : T → Option (List ℕ)) (failed : T → Bool) (held : Option (List ℕ)) (had : Bool) (t : Tree)
    (p : Page T) (mid last : T) (b ls line : List ℕ) (at : ℕ) (r : Result (Unit {0}) Failed)
    → (text : List ℕ) × (line ≡ text ++ 0x0A ∷ []) → IsPage written failed held had t p b ls → kept p.kept ≡ [] → at ≡ place p.kept
    → IsWritten (written p.target) (written mid) (failed p.target) (failed mid) (columns at []) (Ok tt)
    → OnOk r (Appends (written mid) (written last) line) → OnErr r (AppendsFront (written mid) (written last) line)
    → OnErr r (IsTrue (failed last)) → OnOk r (failed last ≡ failed mid)
    → AreWritten t 0 b (ls ++ line) held (written last) had (failed last) r
closes_line written failed held had t p mid last b ls line at r it page none there columns_are whole part fails stays =
    let rows = page_whole written failed held had t p b ls page none in
    let row = is_both (written p.target) (written mid) (written last) (failed p.target) (failed mid) (failed last)
    (columns at []) line r columns_are (both r whole part fails stays) in
    rw it.1 (rows_closed t b ls it.0 held (written p.target) (written last) had (failed p.target) (failed last) r rows
    (rw (sym (there ∙ place_of written failed held had t p b ls page none), ← it.1) row))
  where
    both : (r : Result (Unit {0}) Failed) → OnOk r (Appends (written mid) (written last) line)
        → OnErr r (AppendsFront (written mid) (written last) line) → OnErr r (IsTrue (failed last)) → OnOk r (failed last ≡ failed mid)
        → IsWritten (written mid) (written last) (failed mid) (failed last) line r
    both (Ok u) whole part fails stays = record { whole = (whole, stays); part = tt }
    both (Err e) whole part fails stays = record { whole = tt; part = (part, fails) }

-- ---- offsets

-- the offset after the bytes of a page
pub end_of : {T : Type 0} (written : T → Option (List ℕ)) (failed : T → Bool) (held : Option (List ℕ)) (had : Bool) (t : Tree) (p : Page T) (b ls : List ℕ)
    → IsPage written failed held had t p b ls → p.kept.len ≤ length p.kept.cells.items → end p.kept ≡ length b
end_of written failed held had t p b ls h within =
    let all = ap length h.bytes_are in
    let both = length-append h.before (kept p.kept) in
    let few = length-take-le p.kept.len p.kept.cells.items within in
    let at = h.place_is in
    omega arith
