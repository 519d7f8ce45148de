-- The end of a run: its target is flushed, or no decoder was made.
use Rattle.std.proofs.Common.{◌≡◌, ◌⊎◌, ℕ, Bool, List, [], ◌++◌, Option, Some, None, Result, Ok, Err, ap, sym, refl, inl, inr, append-nil}
use Rattle.std.specs.Prelude.{IsTrue}
use Rattle.std.proofs.lemmas.List.Elements.{All-nil}
use Rattle.fast_value.specs.declared.settings.Limits.{Limits}
use Rattle.fast_tree.specs.meaning.Tree.{Tree}
use Rattle.fast_stream.specs.declared.faults.Fault.{Fault}
use Rattle.fast_stream.specs.declared.faults.MakeError.{MakeError}
use Rattle.fast_stream.specs.declared.faults.MakeError.TheVariants as Cause
use Rattle.fast_stream.specs.meaning.Events.{EventData}
use Rattle.fast_stream.specs.meaning.Streams.{End, between, inside, faulted, Stream}
use Rattle.fast_decoder.specs.meaning.Decoding.{HasRead, tree}
use Rattle.fast_lines.specs.meaning.Lines.{lines}
use Rattle.fast_lines.specs.meaning.Values.{HoldsBytes}
use Rattle.fast_text.specs.declared.streams.Failed.{Failed}
use Rattle.fast_text.specs.meaning.Streams.{Appends}
use Rattle.fast_rows.specs.meaning.Written.{AreWritten}
use Rattle.fast_rows.proofs.InRows.{are_none}
use Rattle.fast_command.specs.declared.faults.ShowEnd.{ShowEnd}
use Rattle.fast_command.specs.declared.faults.ShowEnd.TheVariants.{Good, Faulted, Truncated}
use Rattle.fast_command.specs.declared.faults.RunFault.{RunFault}
use Rattle.fast_command.specs.declared.faults.RunFault.TheVariants.{Read, Write, BadHex, Templates as Refused, Make, Text, Encode, Memory}
use Rattle.fast_command.specs.meaning.Closing.{fault_line, truncated_line, closing}
use Rattle.fast_command.specs.meaning.Showing.{refusal_of}
use Rattle.fast_command.proofs.Progressing.{no_fault_yet}
use Rattle.fast_dump.specs.declared.dump.Dump.{Dump}
use Rattle.fast_dump.specs.meaning.Kept.{place}
use Rattle.fast_dump.specs.meaning.Pages.{IsPage}
use Rattle.fast_dump.specs.meaning.Dumping.{IsAtFault, IsCut, IsSoFar, IsDumped}
use Rattle.fast_dump.specs.device.Progress.{Start, Progress, IsFinished}
use Rattle.fast_dump.proofs.Dumping.{closes_fault}
use Rattle.fast_dump.proofs.Closing.{rows_flushed, rows_unflushed}

-- all rows were written, and the target was flushed
dumped_flushed : (t : Tree) (l : Limits) (hex : Bool) (R : MakeError → Type 0) (M A B : Type 0) (held mid last : Option (List ℕ))
    (had mid_had has : Bool) (text : List ℕ) (r : Result ShowEnd RunFault)
    → Appends mid last [] → has ≡ mid_had → IsDumped t l hex (λ _. ⊥) ⊥ A B (λ b ls q. AreWritten t 0 b ls held mid had mid_had q) text r
    → IsDumped t l hex R M A B (λ b ls q. AreWritten t 0 b ls held last had has q) text r
dumped_flushed t l hex R M A B held mid last had mid_had has text r none same h = by r h
  where
    on : (b ls : List ℕ) (q : Result (Unit {0}) Failed) → AreWritten t 0 b ls held mid had mid_had q → AreWritten t 0 b ls held last had has q
    on b ls q rows = rows_flushed t b ls held mid last had mid_had has q none same rows

    so : (place : Option ℕ) → IsSoFar t l hex (λ b ls q. AreWritten t 0 b ls held mid had mid_had q) text place
        → IsSoFar t l hex (λ b ls q. AreWritten t 0 b ls held last had has q) text place
    so place h = record {
      bytes = h.bytes;
      events = h.events;
      end = h.end;
      stream = h.stream;
      good = h.good;
      rows = on h.bytes (lines t h.events) (Ok tt) h.rows;
    }

    cut : (b : List ℕ) → IsCut t l (λ b ls q. AreWritten t 0 b ls held mid had mid_had q) b → IsCut t l (λ b ls q. AreWritten t 0 b ls held last had has q) b
    cut b h = record {
      shown = h.shown;
      rest = h.rest;
      events = h.events;
      end = h.end;
      line = h.line;
      out = h.out;
      more = h.more;
      why = h.why;
      split = h.split;
      stream = h.stream;
      closes = h.closes;
      lines_are = h.lines_are;
      rows = on h.shown h.out (Err h.why) h.rows;
    }

    fault : (b : List ℕ) (f : Fault) → IsAtFault t l (λ b ls q. AreWritten t 0 b ls held mid had mid_had q) b f
        → IsAtFault t l (λ b ls q. AreWritten t 0 b ls held last had has q) b f
    fault b f h = record {
      shown = h.shown;
      rest = h.rest;
      events = h.events;
      code = h.code;
      split = h.split;
      stream = h.stream;
      holds = h.holds;
      code_is = h.code_is;
      rows = on h.shown (lines t h.events ++ fault_line f.code f.place) (Ok tt) h.rows;
    }

    by : (r : Result ShowEnd RunFault) → IsDumped t l hex (λ _. ⊥) ⊥ A B (λ b ls q. AreWritten t 0 b ls held mid had mid_had q) text r
        → IsDumped t l hex R M A B (λ b ls q. AreWritten t 0 b ls held last had has q) text r
    by (Ok Good) h = (h.0, h.1, h.2, on h.0 (lines t h.1) (Ok tt) h.3, h.4)
    by (Ok (Faulted f)) h = (h.0, h.1, h.2, fault h.1 f h.3)
    by (Ok (Truncated n)) h = (h.0, h.1, h.2, h.3, on h.0 (lines t h.1 ++ truncated_line n) (Ok tt) h.4, h.5)
    by (Err (BadHex n)) h = so (Some n) h
    by (Err Read) h = (h.0, so h.0 h.1, h.2)
    by (Err Write) h = (h.0, h.1, h.2, cut h.1 h.3)
    by (Err (Make cause)) h = absurd h.1
    by (Err Memory) h = absurd h.1
    by (Err (Refused fault)) h = elim h [ ]
    by (Err (Text line kind)) h = elim h [ ]
    by (Err (Encode message fault)) h = elim h [ ]

-- the target could not be flushed
dumped_unflushed : (t : Tree) (l : Limits) (hex : Bool) (R : MakeError → Type 0) (M A B : Type 0) (held mid last : Option (List ℕ))
    (had mid_had has : Bool) (text : List ℕ) (r : Result ShowEnd RunFault) (why : Failed)
    → Appends mid last [] → IsTrue has → IsDumped t l hex (λ _. ⊥) ⊥ A B (λ b ls q. AreWritten t 0 b ls held mid had mid_had q) text r
    → IsDumped t l hex R M A B (λ b ls q. AreWritten t 0 b ls held last had has q) text (Err Write)
dumped_unflushed t l hex R M A B held mid last had mid_had has text r why none failed h = by r h
  where
    W : List ℕ → List ℕ → Result (Unit {0}) Failed → Type 0
    W b ls q = AreWritten t 0 b ls held last had has q

    cut : (shown rest b : List ℕ) (es : List EventData) (e : End) (line out more : List ℕ) (q : Result (Unit {0}) Failed)
        → shown ++ rest ≡ b → Stream t l shown es e → (line ≡ []) ⊎ (line ≡ closing shown e) → lines t es ++ line ≡ out ++ more
        → AreWritten t 0 shown out held mid had mid_had q → IsCut t l (λ b ls q. AreWritten t 0 b ls held last had has q) b
    cut shown rest b es e line out more q split stream closes lines_are rows = record {
      shown = shown;
      rest = rest;
      events = es;
      end = e;
      line = line;
      out = out;
      more = more;
      why = why;
      split = split;
      stream = stream;
      closes = closes;
      lines_are = lines_are;
      rows = rows_unflushed t shown out held mid last had mid_had has q why none failed rows;
    }

    so : (place : Option ℕ) → (h : IsSoFar t l hex (λ b ls q. AreWritten t 0 b ls held mid had mid_had q) text place)
        → IsCut t l (λ b ls q. AreWritten t 0 b ls held last had has q) h.bytes
    so place h = cut h.bytes [] h.bytes h.events h.end [] (lines t h.events) [] (Ok tt) (append-nil h.bytes) h.stream.stream (inl refl) refl h.rows

    by : (r : Result ShowEnd RunFault) → IsDumped t l hex (λ _. ⊥) ⊥ A B (λ b ls q. AreWritten t 0 b ls held mid had mid_had q) text r
        → IsDumped t l hex R M A B (λ b ls q. AreWritten t 0 b ls held last had has q) text (Err Write)
    by (Ok Good) h = (None, h.0, h.2.bytes, cut h.0 [] h.0 h.1 between [] (lines t h.1) [] (Ok tt) (append-nil h.0) h.2.stream (inl refl) refl h.3)
    by (Ok (Faulted f)) h =
        let w = h.3 in
        let line = fault_line f.code f.place in (
          h.0,
          h.1,
          h.2,
          cut w.shown w.rest h.1 w.events (faulted w.code f.place) line (lines t w.events ++ line) []
              (Ok tt) w.split w.stream (inr (closes_fault f w.code w.shown w.code_is)) (sym (append-nil (lines t w.events ++ line))) w.rows,
        )
    by (Ok (Truncated n)) h =
        let line = truncated_line n in (
          None,
          h.0,
          h.2.bytes,
          cut h.0 [] h.0 h.1 inside line (lines t h.1 ++ line) [] (Ok tt) (append-nil h.0) h.2.stream
              (inr (ap truncated_line h.3)) (sym (append-nil (lines t h.1 ++ line))) h.4,
        )
    by (Err (BadHex n)) h = (Some n, h.bytes, h.stream.bytes, so (Some n) h)
    by (Err Read) h = (h.0, h.1.bytes, h.1.stream.bytes, so h.0 h.1)
    by (Err Write) h = let w = h.3 in (
      h.0,
      h.1,
      h.2,
      cut w.shown w.rest h.1 w.events w.end w.line w.out w.more
          (Err w.why) w.split w.stream w.closes w.lines_are w.rows,
    )
    by (Err (Make cause)) h = absurd h.1
    by (Err Memory) h = absurd h.1
    by (Err (Refused fault)) h = elim h [ ]
    by (Err (Text line kind)) h = elim h [ ]
    by (Err (Encode message fault)) h = elim h [ ]

-- the one or the other
pub finished : (t : Tree) (l : Limits) (hex : Bool) (R : MakeError → Type 0) (M A B : Type 0) (held mid last : Option (List ℕ))
    (had mid_had has : Bool) (text : List ℕ) (ending r : Result ShowEnd RunFault)
    → IsDumped t l hex (λ _. ⊥) ⊥ A B (λ b ls q. AreWritten t 0 b ls held mid had mid_had q) text ending
    → IsFinished mid last mid_had has ending r → IsDumped t l hex R M A B (λ b ls q. AreWritten t 0 b ls held last had has q) text r
finished t l hex R M A B held mid last had mid_had has text ending r h (none, inl w) =
    rw w.0 (dumped_flushed t l hex R M A B held mid last had mid_had has text ending none w.1 h)
finished t l hex R M A B held mid last had mid_had has text ending r h (none, inr w) =
    rw w.0 (dumped_unflushed t l hex R M A B held mid last had mid_had has text ending w.1 none w.2 h)

-- no decoder is made
pub not_made : (t : Tree) (l : Limits) (hex : Bool) (R : MakeError → Type 0) (A B : Type 0) (held : Option (List ℕ)) (had : Bool) (e : MakeError)
    → (e ≡ Cause.Memory) ⊎ R e → IsDumped t l hex R (Unit {0}) A B (λ b ls q. AreWritten t 0 b ls held held had had q) [] (Err (refusal_of e))
not_made t l hex R A B held had Cause.BadLimits (inl h) = absurd (cc)
not_made t l hex R A B held had Cause.BadLimits (inr h) = (refl, h, are_none t 0 held had)
not_made t l hex R A B held had Cause.InitialTooLong (inl h) = absurd (cc)
not_made t l hex R A B held had Cause.InitialTooLong (inr h) = (refl, h, are_none t 0 held had)
not_made t l hex R A B held had Cause.Memory h = (refl, tt, are_none t 0 held had)

-- a run that has not read anything
pub begun : {T : Type 0} (written : T → Option (List ℕ)) (failed : T → Bool) (first : Start) (t : Tree) (l : Limits) (s : Dump T)
    → tree s.decoder ≡ t → s.decoder.limits ≡ l → HasRead s.decoder [] []
    → IsPage written failed first.held first.had_failed t s.page [] [] → Progress written failed first t l s [] []
begun written failed first t l s set limits so page = record {
  set = set;
  limits = limits;
  so = so;
  holds = All-nil HoldsBytes;
  good = no_fault_yet s.decoder so;
  page = page;
}
