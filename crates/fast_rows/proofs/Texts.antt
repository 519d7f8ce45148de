-- The texts of elements, one after the other, and texts that are written by a writer of their own.
use Rattle.std.proofs.Common.{◌≡◌, ◌∙◌, ℕ, ◌+◌, ◌<◌, Bool, List, [], ◌∷◌, ◌++◌, Option, Result, Ok, Err, ap, sym, refl, length, take}
use Rattle.std.proofs.Common.{get_or, flat_map, append-nil, append_assoc}
use Rattle.std.proofs.lemmas.List.{take_more}
use Rattle.std.proofs.lemmas.Grind.{flat_map-append}
use Rattle.fast_text.specs.declared.streams.Failed.{Failed}
use Rattle.fast_text.specs.declared.line_writer.LineWriter.{LineWriter}
use Rattle.fast_text.specs.meaning.LineWriter.{Writes, IsFresh, Finishes}
use Rattle.fast_text.proofs.Writing.{writes_both, writes_same, writes_none, ended_whole, ended_short, appends_none, appends_both, front_of_second}
use Rattle.fast_text.specs.meaning.Streams.{Appends, AppendsFront}
use Rattle.fast_tree.specs.meaning.Tree.{Tree}
use Rattle.fast_template.specs.meaning.Flat.{tree_of}
use Rattle.fast_stream.specs.meaning.Events.{EventData}
use Rattle.fast_lines.specs.meaning.Lines.{line_of}
use Rattle.fast_text.specs.declared.line_sink.LineSink.{LineSink}
use Rattle.fast_text.specs.meaning.LineSink.{TakesLine, StopsInLine}
use Rattle.fast_rows.specs.meaning.Written.{IsWritten}

-- the text of one element more
each_more : {X : Type 0} (text : X → List ℕ) (xs : List X) (i : ℕ) (d : X) → i < length xs
    → flat_map text (take i xs) ++ text (get_or xs i d) ≡ flat_map text (take (i + 1) xs)
each_more text xs i d h =
    let x = get_or xs i d in
    sym (ap (flat_map text) (take_more xs i d h) ∙ flat_map-append text (take i xs) (x ∷ [])
    ∙ ap (λ (ys : List ℕ). flat_map text (take i xs) ++ ys) (append-nil (text x)))

-- of one element more the text is written
pub writes_each : {T : Type 0} {written : T → Option (List ℕ)} {failed : T → Bool} {s t u : LineWriter T} {X : Type 0} (text : X → List ℕ)
    (xs : List X) (i : ℕ) (d : X) → i < length xs
    → Writes written failed s (flat_map text (take i xs)) t → Writes written failed t (text (get_or xs i d)) u
    → Writes written failed s (flat_map text (take (i + 1) xs)) u
writes_each text xs i d h first second = writes_same (each_more text xs i d h) (writes_both first second)

-- from a writer that begins to one that has finished
pub is_written : {T : Type 0} {written : T → Option (List ℕ)} {failed : T → Bool} {s t u : LineWriter T} {text : List ℕ} (begun ended : T)
    (r : Result (Unit {0}) Failed)
    → s.target.now ≡ begun → ended ≡ u.target.now → IsFresh s → Writes written failed s text t → Finishes written failed t u r
    → IsWritten (written begun) (written ended) (failed begun) (failed ended) text r
is_written begun ended (Ok x) begins ends fresh h end = rw (← begins, ends) (record { whole = ended_whole fresh h end refl; part = tt })
is_written begun ended (Err e) begins ends fresh h end = rw (← begins, ends) (record { whole = tt; part = ended_short e fresh h end refl })

-- nothing is written
pub is_none : (held : Option (List ℕ)) (failed : Bool) → IsWritten held held failed failed [] (Ok tt)
is_none held failed = record { whole = (appends_none held, refl); part = tt }

-- one text and then another
pub is_both : (held mid new : Option (List ℕ)) (had mid_had has : Bool) (a b : List ℕ) (r : Result (Unit {0}) Failed)
    → IsWritten held mid had mid_had a (Ok tt) → IsWritten mid new mid_had has b r → IsWritten held new had has (a ++ b) r
is_both held mid new had mid_had has a b (Ok x) first second = record {
  whole = (appends_both held mid new a b first.whole.0 second.whole.0, second.whole.1 ∙ first.whole.1);
  part = tt;
}
is_both held mid new had mid_had has a b (Err e) first second = record {
  whole = tt;
  part = (front_of_second held mid new a b first.whole.0 second.part.0, second.part.1);
}

-- a front of a text is a front of the text with more after it
pub is_cut : (held new : Option (List ℕ)) (had has : Bool) (a b : List ℕ) (e : Failed) → IsWritten held new had has a (Err e)
    → IsWritten held new had has (a ++ b) (Err e)
is_cut held new had has a b e h =
    let f = h.part.0 in
    record {
      whole = tt;
      part = (
        record {
          front = f.front;
          rest = f.rest ++ b;
          is = ap (λ (xs : List ℕ). xs ++ b) f.is
              ∙ append_assoc f.front f.rest b;
          added = f.added;
        },
        h.part.1,
      );
    }

-- the same text
pub is_same : {held new : Option (List ℕ)} {had has : Bool} {a b : List ℕ} {r : Result (Unit {0}) Failed} → a ≡ b
    → IsWritten held new had has a r → IsWritten held new had has b r
is_same same h = rw (← same) h

-- a sink's line, which is written
pub line_written : {T : Type 0} {written : T → Option (List ℕ)} {failed : T → Bool} (begun ended : T) (s s' : LineSink T) (t : Tree) (e : EventData)
    → s.target.now ≡ begun → ended ≡ s'.target.now → tree_of s.templates.now ≡ t → TakesLine written failed s e s'
    → IsWritten (written begun) (written ended) (failed begun) (failed ended) (line_of t e ++ 0x0A ∷ []) (Ok tt)
line_written begun ended s s' t e begins ends names h = rw (← begins, ends, ← names) (record { whole = (h.line, h.as_before); part = tt })

-- a front of it
pub line_cut : {T : Type 0} {written : T → Option (List ℕ)} {failed : T → Bool} (begun ended : T) (s s' : LineSink T) (t : Tree) (e : EventData) (why : Failed)
    → s.target.now ≡ begun → ended ≡ s'.target.now → tree_of s.templates.now ≡ t → StopsInLine written failed s e s'
    → IsWritten (written begun) (written ended) (failed begun) (failed ended) (line_of t e ++ 0x0A ∷ []) (Err why)
line_cut begun ended s s' t e why begins ends names h = rw (← begins, ends, ← names) (record { whole = tt; part = (h.front, h.has_failed) })
