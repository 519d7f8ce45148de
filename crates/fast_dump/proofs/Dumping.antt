-- From pages to what a run has shown.
use Rattle.std.proofs.Common.{◌≡◌, ◌⊎◌, ◌∙◌, ℕ, ◌+◌, ◌<◌, ◌^◌, Bool, List, [], ◌∷◌, ◌++◌, Option, Some, None, Result, Ok, Err, ap, sym}
use Rattle.std.proofs.Common.{refl, subst, inl, inr, length, length-append, length-take, take, drop, get_or, append-nil, append_assoc}
use Rattle.std.proofs.Common.{arith}
use Rattle.std.specs.Prelude.{All}
use Rattle.std.proofs.lemmas.List.{take_more, take-append-drop}
use Rattle.std.proofs.lemmas.List.Elements.{All-nil, All-cons, All-append}
use Rattle.fast_value.specs.declared.settings.Limits.{Limits}
use Rattle.fast_value.specs.declared.codes.Code.{Code}
use Rattle.fast_tree.specs.meaning.Tree.{Tree}
use Rattle.fast_stream.specs.declared.faults.Fault.{Fault}
use Rattle.fast_stream.specs.declared.faults.FaultCode.{FaultCode}
use Rattle.fast_stream.specs.declared.faults.FaultCode.TheVariants as Why
use Rattle.fast_stream.specs.meaning.Events.{EventData}
use Rattle.fast_stream.specs.meaning.Sinks.{Takes}
use Rattle.fast_stream.specs.meaning.Streams.{faulted, Stream}
use Rattle.fast_decoder.specs.meaning.Decoding.{DecoderData, Carries, CarriesAt, SinkEnds, tree}
use Rattle.fast_lines.specs.meaning.Lines.{line_of, lines}
use Rattle.fast_lines.specs.meaning.Values.{HoldsBytes}
use Rattle.fast_text.specs.declared.streams.Failed.{Failed}
use Rattle.fast_command.specs.declared.faults.ShowEnd.{ShowEnd}
use Rattle.fast_command.specs.declared.faults.ShowEnd.TheVariants.{Good, Faulted, Truncated}
use Rattle.fast_command.specs.declared.faults.RunFault.{RunFault}
use Rattle.fast_command.specs.declared.faults.RunFault.TheVariants.{Read, Write, BadHex, Templates as Refused, Make, Text, Encode, Memory}
use Rattle.fast_command.specs.meaning.Closing.{fault_line, closing}
use Rattle.fast_command.proofs.Lined.{lines-append}
use Rattle.fast_command.proofs.Progressing.{EndsWell, ends_well, counts_all, ends_at_fault}
use Rattle.fast_dump.specs.declared.dump.Dump.{Dump}
use Rattle.fast_dump.specs.declared.page.Page.{Page}
use Rattle.fast_dump.specs.meaning.Pages.{IsPage, IsTorn, Keeps, Closes, TakesRow, StopsInRow}
use Rattle.fast_dump.specs.meaning.Dumping.{IsCut}
use Rattle.fast_dump.specs.device.Progress.{Start, Progress, Rows, EndsIn, ClosesAt}
use Rattle.fast_dump.proofs.Closing.{torn_rows}

-- ---- events that a page takes

-- it has their lines
pub page_takes : {T : Type 0} (written : T → Option (List ℕ)) (failed : T → Bool) (held : Option (List ℕ)) (had : Bool) (t : Tree)
    (es : List EventData) (p p' : Page T) (b ls : List ℕ)
    → Takes (TakesRow written failed) p es p' → IsPage written failed held had t p b ls → IsPage written failed held had t p' b (ls ++ lines t es)
page_takes written failed held had t [] p p' b ls h page = rw h (subst (λ (xs : List ℕ). IsPage written failed held had t p b xs) (sym (append-nil ls)) page)
page_takes written failed held had t (e ∷ es) p p' b ls h page =
    let line = line_of t e ++ 0x0A ∷ [] in
    let one = h.1.0 held had t b ls page in
    subst (λ (xs : List ℕ). IsPage written failed held had t p' b xs) (append_assoc ls line (lines t es))
    (page_takes written failed held had t es h.0 p' b (ls ++ line) h.2 one)

-- they hold bytes
pub takes_bytes : {T : Type 0} (written : T → Option (List ℕ)) (failed : T → Bool) (es : List EventData) (p p' : Page T)
    → Takes (TakesRow written failed) p es p' → All HoldsBytes es
takes_bytes written failed [] p p' h = All-nil HoldsBytes
takes_bytes written failed (e ∷ es) p p' h = All-cons HoldsBytes e es h.1.1 (takes_bytes written failed es h.0 p' h.2)

-- ---- a byte

-- how the stream ends after what a run has read
pub stream_of : {T : Type 0} (written : T → Option (List ℕ)) (failed : T → Bool) (first : Start) (t : Tree) (l : Limits) (s : Dump T)
    (b : List ℕ) (es : List EventData) → Progress written failed first t l s b es → EndsWell t l s.decoder b es
stream_of written failed first t l s b es p = ends_well t l s.decoder b es p.set p.limits p.so p.good

-- no row is written of a byte
pub cut_keep : {T : Type 0} (written : T → Option (List ℕ)) (failed : T → Bool) (first : Start) (t : Tree) (l : Limits) (s : Dump T)
    (p' : Page T) (b more : List ℕ) (es : List EventData)
    → Progress written failed first t l s b es → IsTorn written failed first.held first.had_failed t p' b (lines t es)
    → IsCut t l (Rows written failed first t p'.target) (b ++ more)
cut_keep written failed first t l s p' b more es p torn =
    let e = stream_of written failed first t l s b es p in
    record {
      shown = b;
      rest = more;
      events = es;
      end = e.end;
      line = [];
      out = lines t es;
      more = [];
      why = torn.why;
      split = refl;
      stream = e.stream;
      closes = inl refl;
      lines_are = refl;
      rows = torn_rows written failed first.held first.had_failed t p' b (lines t es) torn;
    }

-- the page after the events of a byte
pub page_after : {T : Type 0} (written : T → Option (List ℕ)) (failed : T → Bool) (first : Start) (t : Tree) (es more : List EventData)
    (p p' : Page T) (b : List ℕ)
    → IsPage written failed first.held first.had_failed t p b (lines t es) → Takes (TakesRow written failed) p more p'
    → IsPage written failed first.held first.had_failed t p' b (lines t (es ++ more))
page_after written failed first t es more p p' b page took =
    subst (λ (xs : List ℕ). IsPage written failed first.held first.had_failed t p' b xs) (sym (lines-append t es more))
    (page_takes written failed first.held first.had_failed t more p p' b (lines t es) took page)

-- the run after a byte
pub progress_more : {T : Type 0} (written : T → Option (List ℕ)) (failed : T → Bool) (first : Start) (t : Tree) (l : Limits)
    (s s' : Dump T) (kept_page taken_page : Page T) (b more : List ℕ) (es : List EventData)
    → Progress written failed first t l s b es → IsPage written failed first.held first.had_failed t kept_page (b ++ more) (lines t es)
    → (tree s'.decoder ≡ tree s.decoder) × (s'.decoder.limits ≡ s.decoder.limits) → s'.decoder.fault ≡ None
    → Carries (TakesRow written failed) b es more kept_page s'.decoder taken_page → Keeps written failed taken_page s'.page (Ok tt)
    → (new : List EventData) × Progress written failed first t l s' (b ++ more) (es ++ new)
progress_more written failed first t l s s' kept_page taken_page b more es p page same good h settled =
    let after = page_after written failed first t es h.more kept_page taken_page (b ++ more) page h.took in (
      h.more,
      record {
        set = same.0 ∙ p.set;
        limits = same.1 ∙ p.limits;
        so = h.so;
        holds = All-append HoldsBytes es h.more p.holds (takes_bytes written failed h.more kept_page taken_page h.took);
        good = good;
        page = settled first.held first.had_failed t (b ++ more) (lines t (es ++ h.more)) after;
      },
    )

-- the rows after it are torn
pub cut_settle : {T : Type 0} (written : T → Option (List ℕ)) (failed : T → Bool) (first : Start) (t : Tree) (l : Limits) (s : Dump T)
    (d : DecoderData) (kept_page taken_page p' : Page T) (b more : List ℕ) (es : List EventData) (why : Failed)
    → Progress written failed first t l s b es → IsPage written failed first.held first.had_failed t kept_page (b ++ more) (lines t es)
    → (tree d ≡ tree s.decoder) × (d.limits ≡ s.decoder.limits) → d.fault ≡ None
    → Carries (TakesRow written failed) b es more kept_page d taken_page → Keeps written failed taken_page p' (Err why)
    → IsCut t l (Rows written failed first t p'.target) (b ++ more)
cut_settle written failed first t l s d kept_page taken_page p' b more es why p page same good h settled =
    let after = page_after written failed first t es h.more kept_page taken_page (b ++ more) page h.took in
    let torn = settled first.held first.had_failed t (b ++ more) (lines t (es ++ h.more)) after in
    let e = ends_well t l d (b ++ more) (es ++ h.more) (same.0 ∙ p.set) (same.1 ∙ p.limits) h.so good in
    record {
      shown = b ++ more;
      rest = [];
      events = es ++ h.more;
      end = e.end;
      line = [];
      out = lines t (es ++ h.more);
      more = [];
      why = torn.why;
      split = append-nil (b ++ more);
      stream = e.stream;
      closes = inl refl;
      lines_are = refl;
      rows = torn_rows written failed first.held first.had_failed t p' (b ++ more) (lines t (es ++ h.more)) torn;
    }

-- the lines of all events, where the sink stopped in that of one of them
cut_lines : (t : Tree) (es earlier given front rest : List EventData) (e : EventData) → given ≡ front ++ e ∷ rest
    → lines t (es ++ earlier ++ given) ++ [] ≡ (((lines t es ++ lines t earlier) ++ lines t front) ++ (line_of t e ++ 0x0A ∷ [])) ++ lines t rest
cut_lines t es earlier given front rest e is =
    append-nil (lines t (es ++ earlier ++ given))
    ∙ lines-append t (es ++ earlier) given
    ∙ ap (λ (xs : List ℕ). xs ++ lines t given) (lines-append t es earlier)
    ∙ ap (λ (xs : List ℕ). (lines t es ++ lines t earlier) ++ xs) (ap (λ (fs : List EventData). lines t fs) is ∙ lines-append t front (e ∷ rest))
    ∙ regroup (lines t es) (lines t earlier) (lines t front) (line_of t e ++ 0x0A ∷ []) (lines t rest)
  where
    regroup : (u v w x y : List ℕ) → (u ++ v) ++ (w ++ (x ++ y)) ≡ (((u ++ v) ++ w) ++ x) ++ y
    regroup u v w x y = simp append_assoc

-- the sink stopped
cut_stop : {T : Type 0} (written : T → Option (List ℕ)) (failed : T → Bool) (first : Start) (t : Tree) (l : Limits) (s : Dump T)
    (kept_page p' : Page T) (b : List ℕ) (byte : ℕ) (es : List EventData) (at : ℕ)
    → Progress written failed first t l s b es → IsPage written failed first.held first.had_failed t kept_page (b ++ byte ∷ []) (lines t es)
    → SinkEnds (TakesRow written failed) (StopsInRow written failed) s.decoder b es (byte ∷ []) kept_page at p'
    → IsCut t l (Rows written failed first t p'.target) (b ++ byte ∷ [])
cut_stop written failed first t l s kept_page p' b byte es at p page h =
    let stop = h.stopped in
    let mid = page_takes written failed first.held first.had_failed t h.earlier kept_page h.mid (b ++ byte ∷ []) (lines t es) h.took page in
    let last = page_takes written failed first.held first.had_failed t stop.0 h.mid stop.3 (b ++ byte ∷ []) (lines t es ++ lines t h.earlier) stop.5 mid in
    let torn = stop.6 first.held first.had_failed t (b ++ byte ∷ []) ((lines t es ++ lines t h.earlier) ++ lines t stop.0) last in
    let none : h.bytes ≡ 0 = let few = h.within in omega arith in
    let whole : b ++ take (h.bytes + 1) (byte ∷ []) ≡ b ++ byte ∷ [] = ap (λ (n : ℕ). b ++ take (n + 1) (byte ∷ [])) none in
    let through = subst (λ (z : List ℕ). Stream (tree s.decoder) s.decoder.limits z (es ++ h.earlier ++ h.given) h.end_after) whole h.through in
    record {
      shown = b ++ byte ∷ [];
      rest = [];
      events = es ++ h.earlier ++ h.given;
      end = h.end_after;
      line = [];
      out = ((lines t es ++ lines t h.earlier) ++ lines t stop.0) ++ (line_of t stop.2 ++ 0x0A ∷ []);
      more = lines t stop.1;
      why = torn.why;
      split = append-nil (b ++ byte ∷ []);
      stream = rw (← p.set, ← p.limits) through;
      closes = inl refl;
      lines_are = cut_lines t es h.earlier h.given stop.0 stop.1 stop.2 stop.4;
      rows = torn_rows written failed first.held first.had_failed t p' (b ++ byte ∷ []) _ torn;
    }

-- the line of a fault, as it closes a stream
pub closes_fault : (f : Fault) (code : Code) (b : List ℕ) → f.code ≡ Why.Stream code → fault_line f.code f.place ≡ closing b (faulted code f.place)
closes_fault f code b is = ap (λ (c : FaultCode). fault_line c f.place) is

-- a fault of the stream
at_fault : {T : Type 0} (written : T → Option (List ℕ)) (failed : T → Bool) (first : Start) (t : Tree) (l : Limits) (s : Dump T)
    (d : DecoderData) (kept_page taken_page p' : Page T) (b more : List ℕ) (es : List EventData) (f : Fault) (code : Code)
    (r : Result ShowEnd RunFault)
    → Progress written failed first t l s b es → IsPage written failed first.held first.had_failed t kept_page (b ++ more) (lines t es)
    → (tree d ≡ tree s.decoder) × (d.limits ≡ s.decoder.limits) → d.fault ≡ Some f → f.code ≡ Why.Stream code
    → Carries (TakesRow written failed) b es more kept_page d taken_page
    → (r ≡ Ok (Faulted f)) × Closes written failed taken_page (fault_line f.code f.place) p' (Ok tt) ⊎ (r ≡ Err Write)
    × ((why : Failed) × Closes written failed taken_page (fault_line f.code f.place) p' (Err why))
    → EndsIn t l (Rows written failed first t p'.target) (b ++ more) r
at_fault written failed first t l s d kept_page taken_page p' b more es f code r p page same fault is h closes = by closes
  where
    after : IsPage written failed first.held first.had_failed t taken_page (b ++ more) (lines t (es ++ h.more))
    after = page_after written failed first t es h.more kept_page taken_page (b ++ more) page h.took

    stream : Stream t l (b ++ more) (es ++ h.more) (faulted code f.place)
    stream = ends_at_fault t l d (b ++ more) (es ++ h.more) f code (same.0 ∙ p.set) (same.1 ∙ p.limits) h.so fault is

    by : (r ≡ Ok (Faulted f)) × Closes written failed taken_page (fault_line f.code f.place) p' (Ok tt) ⊎ (r ≡ Err Write)
        × ((why : Failed) × Closes written failed taken_page (fault_line f.code f.place) p' (Err why))
        → EndsIn t l (Rows written failed first t p'.target) (b ++ more) r
    by (inl w) = rw w.0 (record {
      shown = b ++ more;
      rest = [];
      events = es ++ h.more;
      code = code;
      split = append-nil (b ++ more);
      stream = stream;
      holds = All-append HoldsBytes es h.more p.holds (takes_bytes written failed h.more kept_page taken_page h.took);
      code_is = is;
      rows = w.1 first.held first.had_failed t (b ++ more) (lines t (es ++ h.more)) after;
    })
    by (inr w) = rw w.0 (record {
      shown = b ++ more;
      rest = [];
      events = es ++ h.more;
      end = faulted code f.place;
      line = fault_line f.code f.place;
      out = lines t (es ++ h.more) ++ fault_line f.code f.place;
      more = [];
      why = w.1.0;
      split = append-nil (b ++ more);
      stream = stream;
      closes = inr (closes_fault f code (b ++ more) is);
      lines_are = sym (append-nil (lines t (es ++ h.more) ++ fault_line f.code f.place));
      rows = w.1.1 first.held first.had_failed t (b ++ more) (lines t (es ++ h.more)) after;
    })

-- a fault of a feed
pub fault_ends : {T : Type 0} (written : T → Option (List ℕ)) (failed : T → Bool) (first : Start) (t : Tree) (l : Limits) (s : Dump T)
    (d : DecoderData) (kept_page taken_page p' : Page T) (b : List ℕ) (byte : ℕ) (es : List EventData) (f : Fault)
    (r : Result ShowEnd RunFault)
    → Progress written failed first t l s b es → length b + 1 < 2 ^ 64
    → IsPage written failed first.held first.had_failed t kept_page (b ++ byte ∷ []) (lines t es)
    → (tree d ≡ tree s.decoder) × (d.limits ≡ s.decoder.limits) → d.fault ≡ Some f
    → CarriesAt (TakesRow written failed) (StopsInRow written failed) s.decoder b es (byte ∷ []) kept_page f.code f.place d taken_page
    → ClosesAt written failed f f.code taken_page p' r → EndsIn t l (Rows written failed first t p'.target) (b ++ byte ∷ []) r
fault_ends written failed first t l s d kept_page taken_page p' b byte es f r p counted page same fault carried closes = by f.code refl carried closes
  where
    by : (code : FaultCode) → f.code ≡ code → CarriesAt (TakesRow written failed) (StopsInRow written failed) s.decoder b es
        (byte ∷ []) kept_page code f.place d taken_page
        → ClosesAt written failed f code taken_page p' r → EndsIn t l (Rows written failed first t p'.target) (b ++ byte ∷ []) r
    by (Why.Stream code) is h w = at_fault written failed first t l s d kept_page taken_page p' b (byte ∷ []) es f code r p page same fault is h w
    by Why.L4 is h w = absurd (let many = h.many in let n = counts_all t l s.decoder b es (stream_of written failed first t l s b es p) in omega arith)
    by Why.SinkStopped is h w = rw (w.0, w.1) (cut_stop written failed first t l s kept_page taken_page b byte es f.place p page h)

-- ---- bytes

-- an ending inside bytes, of which others follow
pub ends_more : (t : Tree) (l : Limits) (W : List ℕ → List ℕ → Result (Unit {0}) Failed → Type 0) (b more all : List ℕ)
    (r : Result ShowEnd RunFault) → b ++ more ≡ all → EndsIn t l W b r → EndsIn t l W all r
ends_more t l W b more all (Ok (Faulted f)) same h = record {
  shown = h.shown;
  rest = h.rest ++ more;
  events = h.events;
  code = h.code;
  split = sym (append_assoc h.shown h.rest more) ∙ ap (λ (xs : List ℕ). xs ++ more) h.split ∙ same;
  stream = h.stream;
  holds = h.holds;
  code_is = h.code_is;
  rows = h.rows;
}
ends_more t l W b more all (Err Write) same h = record {
  shown = h.shown;
  rest = h.rest ++ more;
  events = h.events;
  end = h.end;
  line = h.line;
  out = h.out;
  more = h.more;
  why = h.why;
  split = sym (append_assoc h.shown h.rest more) ∙ ap (λ (xs : List ℕ). xs ++ more) h.split ∙ same;
  stream = h.stream;
  closes = h.closes;
  lines_are = h.lines_are;
  rows = h.rows;
}
ends_more t l W b more all (Ok Good) same h = elim h [ ]
ends_more t l W b more all (Ok (Truncated n)) same h = elim h [ ]
ends_more t l W b more all (Err Read) same h = elim h [ ]
ends_more t l W b more all (Err (BadHex n)) same h = elim h [ ]
ends_more t l W b more all (Err (Refused fault)) same h = elim h [ ]
ends_more t l W b more all (Err (Make cause)) same h = elim h [ ]
ends_more t l W b more all (Err (Text line kind)) same h = elim h [ ]
ends_more t l W b more all (Err (Encode message fault)) same h = elim h [ ]
ends_more t l W b more all (Err Memory) same h = elim h [ ]

-- the run with the same events in other brackets
pub progress_same : {T : Type 0} (written : T → Option (List ℕ)) (failed : T → Bool) (first : Start) (t : Tree) (l : Limits) (s : Dump T)
    (b b' : List ℕ) (es fs gs : List EventData)
    → b ≡ b' → Progress written failed first t l s b ((es ++ fs) ++ gs) → Progress written failed first t l s b' (es ++ (fs ++ gs))
progress_same written failed first t l s b b' es fs gs same p =
    subst (λ (xs : List ℕ). Progress written failed first t l s xs (es ++ (fs ++ gs))) same
    (subst (λ (all : List EventData). Progress written failed first t l s b all) (append_assoc es fs gs) p)

-- one byte more of these
pub byte_more : (b bytes : List ℕ) (k d : ℕ) → k < length bytes → (b ++ take k bytes) ++ get_or bytes k d ∷ [] ≡ b ++ take (k + 1) bytes
byte_more b bytes k d more = append_assoc b (take k bytes) (get_or bytes k d ∷ []) ∙ ap (λ (xs : List ℕ). b ++ xs) (sym (take_more bytes k d more))

-- and those after it
pub bytes_after : (b bytes : List ℕ) (k d : ℕ) → k < length bytes → ((b ++ take k bytes) ++ get_or bytes k d ∷ []) ++ drop (k + 1) bytes ≡ b ++ bytes
bytes_after b bytes k d more =
    ap (λ (xs : List ℕ). xs ++ drop (k + 1) bytes) (byte_more b bytes k d more) ∙ append_assoc b (take (k + 1) bytes) (drop (k + 1) bytes)
    ∙ ap (λ (xs : List ℕ). b ++ xs) (take-append-drop (k + 1) bytes)

-- its offset can be counted
pub byte_counts : (b bytes : List ℕ) (k : ℕ) → k < length bytes → length b + length bytes < 2 ^ 64 → length (b ++ take k bytes) + 1 < 2 ^ 64
byte_counts b bytes k more counted =
    let both = length-append b (take k bytes) in
    let few = length-take k bytes in
    omega arith
