-- Rows that are written one after the other.
use Rattle.std.proofs.Common.{◌≡◌, ◌∙◌, ℕ, ◌+◌, Bool, List, [], ◌∷◌, ◌++◌, Option, Result, Ok, Err, ap, sym, refl, length, length-append}
use Rattle.std.proofs.Common.{flat_map, append-nil, append_assoc, add_assoc, add-zero, arith}
use Rattle.std.proofs.lemmas.Grind.{flat_map-append}
use Rattle.fast_tree.specs.meaning.Tree.{Tree}
use Rattle.fast_text.specs.declared.streams.Failed.{Failed}
use Rattle.fast_rows.specs.meaning.Columns.{columns, cells}
use Rattle.fast_rows.specs.meaning.Rows.{Row, Line, Aside, More, row_bytes, row_line, row_text, rows_text, bytes_in, lines_in}
use Rattle.fast_rows.specs.meaning.Written.{IsWritten, AreWritten}
use Rattle.fast_text.specs.declared.line_writer.LineWriter.{LineWriter}
use Rattle.fast_text.specs.meaning.LineWriter.{Writes}
use Rattle.fast_text.proofs.Writing.{writes_both, writes_same}
use Rattle.fast_rows.proofs.Texts.{is_none, is_both, is_cut, is_same}

-- rows, and rows after them
pub rows_append : (t : Tree) (at : ℕ) (xs ys : List Row) → rows_text t at (xs ++ ys) ≡ rows_text t at xs ++ rows_text t (at + length (bytes_in xs)) ys
rows_append t at [] ys = ap (λ (n : ℕ). rows_text t n ys) (sym (add-zero at))
rows_append t at (x ∷ xs) ys =
    let here = at + length (row_bytes x) in
    let there : here + length (bytes_in xs) ≡ at + length (bytes_in (x ∷ xs)) = add_assoc at (length (row_bytes x)) (length (bytes_in xs))
    ∙ ap (λ (n : ℕ). at + n) (sym (length-append (row_bytes x) (bytes_in xs))) in
    ap (λ (ts : List ℕ). row_text t at x ++ ts) (rows_append t here xs ys ∙ ap (λ (n : ℕ). rows_text t here xs ++ rows_text t n ys) there)
    ∙ sym (append_assoc (row_text t at x) (rows_text t here xs) (rows_text t (at + length (bytes_in (x ∷ xs))) ys))

-- no rows
pub are_none : (t : Tree) (at : ℕ) (held : Option (List ℕ)) (failed : Bool) → AreWritten t at [] [] held held failed failed (Ok tt)
are_none t at held failed = record { rows = []; bytes_are = refl; lines_are = refl; written = is_none held failed }

-- rows, and then more
pub are_both : (t : Tree) (at there : ℕ) (bs cs ks ls : List ℕ) (held mid new : Option (List ℕ)) (had mid_had has : Bool) (r : Result (Unit {0}) Failed)
    → AreWritten t at bs ks held mid had mid_had (Ok tt) → there ≡ at + length bs → AreWritten t there cs ls mid new mid_had has r
    → AreWritten t at (bs ++ cs) (ks ++ ls) held new had has r
are_both t at there bs cs ks ls held mid new had mid_had has r first place second =
    let xs = first.rows in
    let ys = second.rows in
    let next : there ≡ at + length (bytes_in xs) = place ∙ ap (λ (zs : List ℕ). at + length zs) (sym first.bytes_are) in
    record {
      rows = xs ++ ys;
      bytes_are = flat_map-append row_bytes xs ys ∙ ap (λ (zs : List ℕ). zs ++ bytes_in ys) first.bytes_are ∙ ap (λ (zs : List ℕ). bs ++ zs) second.bytes_are;
      lines_are = flat_map-append row_line xs ys ∙ ap (λ (zs : List ℕ). zs ++ lines_in ys) first.lines_are ∙ ap (λ (zs : List ℕ). ks ++ zs) second.lines_are;
      written = is_same (ap (λ (n : ℕ). rows_text t at xs ++ rows_text t n ys) next ∙ sym (rows_append t at xs ys))
          (is_both held mid new had mid_had has (rows_text t at xs) (rows_text t there ys) r first.written second.written);
    }

-- Rows of which a front was written, with rows after them.
pub are_cut : (t : Tree) (at : ℕ) (bs cs ks ls : List ℕ) (held new : Option (List ℕ)) (had has : Bool) (e : Failed) (ys : List Row)
    → AreWritten t at bs ks held new had has (Err e) → bytes_in ys ≡ cs → lines_in ys ≡ ls → AreWritten t at (bs ++ cs) (ks ++ ls) held new had has (Err e)
are_cut t at bs cs ks ls held new had has e ys h bytes lines =
    let xs = h.rows in
    record {
      rows = xs ++ ys;
      bytes_are = flat_map-append row_bytes xs ys ∙ ap (λ (zs : List ℕ). zs ++ bytes_in ys) h.bytes_are ∙ ap (λ (zs : List ℕ). bs ++ zs) bytes;
      lines_are = flat_map-append row_line xs ys ∙ ap (λ (zs : List ℕ). zs ++ lines_in ys) h.lines_are ∙ ap (λ (zs : List ℕ). ks ++ zs) lines;
      written = is_same (sym (rows_append t at xs ys)) (is_cut held new had has (rows_text t at xs) (rows_text t (at + length (bytes_in xs)) ys) e h.written);
    }

-- the row of a line whose text was written, or a front of it
pub line_row : (t : Tree) (at : ℕ) (bs text : List ℕ) (held new : Option (List ℕ)) (had has : Bool) (r : Result (Unit {0}) Failed)
    → IsWritten held new had has (columns at bs ++ (text ++ 0x0A ∷ [])) r → AreWritten t at bs (text ++ 0x0A ∷ []) held new had has r
line_row t at bs text held new had has r h = record {
  rows = Line bs text ∷ [];
  bytes_are = append-nil bs;
  lines_are = append-nil (text ++ 0x0A ∷ []);
  written = is_same (sym (append_assoc (columns at bs) text (0x0A ∷ [])) ∙ sym (append-nil ((columns at bs ++ text) ++ 0x0A ∷ []))) h;
}

-- the rest of the bytes, as one row
pub rest_bytes : (bs : List ℕ) → bytes_in (More bs ∷ []) ≡ bs
rest_bytes bs = append-nil bs

-- A line with its columns, and then rows of bytes.
pub event_written : (t : Tree) (at there : ℕ) (bs cs text : List ℕ) (held h1 h2 new : Option (List ℕ)) (had f1 f2 has : Bool) (r : Result (Unit {0}) Failed)
    → IsWritten held h1 had f1 (columns at bs) (Ok tt) → IsWritten h1 h2 f1 f2 (text ++ 0x0A ∷ []) (Ok tt) → there ≡ at + length bs
    → AreWritten t there cs [] h2 new f2 has r
    → AreWritten t at (bs ++ cs) (text ++ 0x0A ∷ []) held new had has r
event_written t at there bs cs text held h1 h2 new had f1 f2 has r first second place third =
    let line = text ++ 0x0A ∷ [] in
    rw (sym (append-nil line)) (are_both t at there bs cs line [] held h2 new had f2 has r
    (line_row t at bs text held h2 had f2 (Ok tt) (is_both held h1 h2 had f1 f2 (columns at bs) line (Ok tt) first second)) place third)

-- A front of a line with its columns.
pub event_cut : (t : Tree) (at : ℕ) (bs cs text : List ℕ) (held new : Option (List ℕ)) (had has : Bool) (e : Failed)
    → IsWritten held new had has (columns at bs ++ (text ++ 0x0A ∷ [])) (Err e) → AreWritten t at (bs ++ cs) (text ++ 0x0A ∷ []) held new had has (Err e)
event_cut t at bs cs text held new had has e h =
    let line = text ++ 0x0A ∷ [] in
    rw (sym (append-nil line)) (are_cut t at bs cs line [] held new had has e (More cs ∷ [])
    (line_row t at bs text held new had has (Err e) h) (rest_bytes cs) refl)

-- one row of bytes more is put
pub more_row : {T : Type 0} {written : T → Option (List ℕ)} {failed : T → Bool} {s u v : LineWriter T} (t : Tree) (start at : ℕ)
    (rows : List Row) (row : List ℕ) → at ≡ start + length (bytes_in rows)
    → Writes written failed s (rows_text t start rows) u → Writes written failed u (cells at row ++ 0x0A ∷ []) v
    → Writes written failed s (rows_text t start (rows ++ More row ∷ [])) v
more_row t start at rows row place first second =
    let last = rows_append t start rows (More row ∷ []) in
    let there : rows_text t start rows ++ (cells at row ++ 0x0A ∷ []) ≡ rows_text t start (rows ++ More row ∷ []) =
    ap (λ (xs : List ℕ). rows_text t start rows ++ xs) (sym (append-nil (cells at row ++ 0x0A ∷ [])))
    ∙ ap (λ (n : ℕ). rows_text t start rows ++ rows_text t n (More row ∷ [])) place ∙ sym last
    in
    writes_same there (writes_both first second)

-- its bytes are those of the rest that were taken
pub more_bytes : (rows : List Row) (row others rest bytes : List ℕ) → row ++ others ≡ rest → bytes_in rows ++ rest ≡ bytes
    → bytes_in (rows ++ More row ∷ []) ++ others ≡ bytes
more_bytes rows row others rest bytes first all =
    ap (λ (xs : List ℕ). xs ++ others) (flat_map-append row_bytes rows (More row ∷ []) ∙ ap (λ (xs : List ℕ). bytes_in rows ++ xs) (append-nil row))
    ∙ append_assoc (bytes_in rows) row others ∙ ap (λ (xs : List ℕ). bytes_in rows ++ xs) first ∙ all

-- it has no line
pub more_lines : (rows : List Row) (row : List ℕ) → lines_in rows ≡ [] → lines_in (rows ++ More row ∷ []) ≡ []
more_lines rows row none = flat_map-append row_line rows (More row ∷ []) ∙ ap (λ (xs : List ℕ). xs ++ []) none

-- the place after it
pub more_place : (rows : List Row) (row : List ℕ) (start at : ℕ) → at ≡ start + length (bytes_in rows)
    → at + length row ≡ start + length (bytes_in (rows ++ More row ∷ []))
more_place rows row start at place =
    let all : length (bytes_in (rows ++ More row ∷ [])) ≡ length (bytes_in rows) + length row =
    ap (λ (xs : List ℕ). length xs) (flat_map-append row_bytes rows (More row ∷ [])
    ∙ ap (λ (xs : List ℕ). bytes_in rows ++ xs) (append-nil row)) ∙ length-append (bytes_in rows) row
    in
    omega (arith, all, place)

-- rows with their bytes and lines
pub are_of : (t : Tree) (at : ℕ) (bs ls : List ℕ) (held new : Option (List ℕ)) (had has : Bool) (r : Result (Unit {0}) Failed) (rows : List Row)
    → bytes_in rows ≡ bs → lines_in rows ≡ ls → IsWritten held new had has (rows_text t at rows) r → AreWritten t at bs ls held new had has r
are_of t at bs ls held new had has r rows bytes lines h = record { rows = rows; bytes_are = bytes; lines_are = lines; written = h }
