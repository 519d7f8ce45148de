-- From what the parts of a run do to what it has shown.
use Rattle.std.proofs.Common.{◌≡◌, ◌⊎◌, ℕ, ◌+◌, ◌*◌, ◌<◌, ◌≤◌, ◌^◌, Bool, true, false, List, [], ◌∷◌, ◌++◌, Option, Some, None, Result, Ok}
use Rattle.std.proofs.Common.{Err, refl, ap, sym, ◌∙◌, inl, inr, subst, length, length-append, take, drop, arith, append_assoc, append-nil}
use Rattle.std.specs.Prelude.{IsTrue, is_some}
use Rattle.std.proofs.lemmas.List.{take-append-drop}
use Rattle.fast_value.specs.declared.settings.Limits.{Limits}
use Rattle.fast_value.specs.declared.codes.Code.{Code}
use Rattle.fast_tree.specs.meaning.Tree.{Tree}
use Rattle.fast_stream.specs.declared.faults.Fault.{Fault}
use Rattle.fast_stream.specs.declared.faults.FaultCode.{FaultCode}
use Rattle.fast_stream.specs.declared.faults.FaultCode.TheVariants as Why
use Rattle.fast_stream.specs.declared.faults.MakeError.{MakeError}
use Rattle.fast_stream.specs.declared.faults.MakeError.TheVariants as Cause
use Rattle.fast_stream.specs.meaning.Events.{EventData}
use Rattle.fast_stream.specs.meaning.Sinks.{Takes}
use Rattle.fast_stream.specs.meaning.Streams.{End, between, inside, faulted, Stream}
use Rattle.fast_template.specs.declared.sets.Templates.{Templates}
use Rattle.fast_decoder.specs.meaning.Decoding.{DecoderData, HasRead, Carries, CarriesAt, Carried, SinkEnds, tree, account, answer}
use Rattle.fast_text.specs.meaning.Streams.{Reads}
use Rattle.fast_text.proofs.Writing.{reads_none, reads_both, reads_no_more}
use Rattle.fast_select.specs.declared.selected.Chooser.{Chooser}
use Rattle.fast_select.specs.declared.selected.Selected.{Selected}
use Rattle.fast_select.specs.meaning.Choosing.{is_none_left, after_all, chosen}
use Rattle.fast_select.specs.meaning.Selecting.{TakesOn, StopsOn, Gives}
use Rattle.fast_select.proofs.Chosen.{after-append, chosen-append, HasPassed, has_passed, both_passed, stays_fresh, stays_open, HasStopped}
use Rattle.fast_select.proofs.Chosen.{has_stopped, gives_none, gives_more, gives_flushed}
use Rattle.fast_command.specs.declared.unhexer.Unhexer.{Unhexer}
use Rattle.fast_command.specs.declared.faults.ShowEnd.{ShowEnd}
use Rattle.fast_command.specs.declared.faults.ShowEnd.TheVariants.{Good, Faulted, Truncated}
use Rattle.fast_command.specs.declared.faults.RunFault.{RunFault}
use Rattle.fast_command.specs.declared.faults.RunFault.TheVariants.{Read, Write, BadHex, Templates as Refused, Make, Text, Encode, Memory}
use Rattle.fast_command.specs.meaning.Showing.{StandsFor, IsGoodEnd, IsRefusal, refusal_of}
use Rattle.fast_command.specs.device.Progress.{HasRoom, IsTaken, IsBadPlace}
use Rattle.fast_command.proofs.Progressing.{EndsWell, ends_well, ends_between, ends_inside, counts_all, ends_at_fault, stands_for, bytes_fewer, no_fault_yet}
use Rattle.fast_run.specs.declared.runs.Run.{Run}
use Rattle.fast_run.specs.meaning.Runs.{Puts, Shows, IsWhole, IsEnough, IsAtFault, IsSoFar, Ran}
use Rattle.fast_run.specs.device.Progress.{Progress, Fed, ending_at, EndsAt}

-- What a run has read and passed on so far: the text, the bytes that it stands for, and their events.
pub record Round {S : Type 0} (takes : S → EventData → S → Type 0) (flushes : S → S → Type 0) (t : Tree) (l : Limits) (hex : Bool)
    (c : Chooser) (first : S) (s : Run) (now : Selected S) (reads : ℕ) (left_first left_now : Option (List ℕ)) : Type 0 where
  pub text : List ℕ
  pub bytes : List ℕ
  pub events : List EventData
  pub progress : Progress t l hex s text bytes events
  pub read : Reads left_first left_now text
  pub given : Gives takes flushes first (chosen c events) now.inner
  pub chooser : now.chooser ≡ after_all c events
  pub fresh : now.is_full ≡ is_none_left now.chooser.rest
  pub many : reads ≤ length text
  pub few : length text ≤ 4096 * reads

-- before the first read
pub no_round : {S : Type 0} (takes : S → EventData → S → Type 0) (flushes : S → S → Type 0) (t : Tree) (l : Limits) (hex : Bool) (s : Run)
    (now : Selected S) (left : Option (List ℕ))
    → Progress t l hex s [] [] [] → now.is_full ≡ is_none_left now.chooser.rest → Round takes flushes t l hex now.chooser now.inner s now 0 left left
no_round takes flushes t l hex s now left p fresh = record {
  text = [];
  bytes = [];
  events = [];
  progress = p;
  read = reads_none left;
  given = gives_none takes flushes now.inner;
  chooser = refl;
  fresh = fresh;
  many = omega arith;
  few = omega arith;
}

-- the stream that a run has read
stream_of : (t : Tree) (l : Limits) (hex : Bool) (s : Run) (text b : List ℕ) (es : List EventData) → Progress t l hex s text b es → EndsWell t l s.decoder b es
stream_of t l hex s text b es p = ends_well t l s.decoder b es p.set p.limits p.so p.good

-- what the text that was read stands for
text_of : (t : Tree) (l : Limits) (hex : Bool) (s : Run) (text b : List ℕ) (es : List EventData) → Progress t l hex s text b es
    → (place : Option ℕ) × StandsFor hex text b place
text_of t l hex s text b es p = let at = stands_for s.unhexer text b p.taken in (at.0, rw (← p.hex_is) at.1)

-- the events so far, where the output was flushed or not
pub so_far : {S : Type 0} (takes : S → EventData → S → Type 0) (flushes : S → S → Type 0) (t : Tree) (l : Limits) (hex : Bool)
    (c : Chooser) (first out : S) (s : Run) (text b : List ℕ) (es : List EventData)
    → Progress t l hex s text b es → Gives takes flushes first (chosen c es) out
    → (place : Option ℕ) × IsSoFar t l hex c (λ (fs : List EventData). Gives takes flushes first fs out) text place
so_far takes flushes t l hex c first out s text b es p given =
    let e = stream_of t l hex s text b es p in
    let at = text_of t l hex s text b es p in
    (at.0, record { bytes = b; events = es; end = e.end; stands = at.1; stream = e.stream; good = e.good; given = given })

-- the last message that can be chosen has ended
pub enough : {S : Type 0} (takes : S → EventData → S → Type 0) (flushes : S → S → Type 0) (t : Tree) (l : Limits) (hex : Bool)
    (c : Chooser) (first : S) (s : Run) (now : Selected S) (reads : ℕ) (left_first left_now : Option (List ℕ))
    (h : Round takes flushes t l hex c first s now reads left_first left_now) → now.is_full ≡ true
    → IsEnough t l hex c (λ (fs : List EventData). Gives takes flushes first fs now.inner) h.text
enough takes flushes t l hex c first s now reads left_first left_now h full =
    let e = stream_of t l hex s h.text h.bytes h.events h.progress in
    let at = text_of t l hex s h.text h.bytes h.events h.progress in
    record {
      place = at.0;
      bytes = h.bytes;
      rest = [];
      events = h.events;
      more = [];
      end = e.end;
      stands = rw append-nil at.1;
      stream = rw append-nil e.stream;
      full = ap (λ (d : Chooser). is_none_left d.rest) (sym h.chooser) ∙ sym h.fresh ∙ full;
      given = h.given;
    }

-- the end of the input
pub at_end : {S : Type 0} (takes : S → EventData → S → Type 0) (flushes : S → S → Type 0) (t : Tree) (l : Limits) (hex : Bool)
    (c : Chooser) (first out : S) (R : MakeError → Type 0) (A B H : Type 0) (text b : List ℕ) (es : List EventData)
    (r : Result ShowEnd RunFault)
    → Gives takes flushes first (chosen c es) out → A → EndsAt t l hex text b es r
    → Ran t l hex c R A B H (λ (fs : List EventData). Gives takes flushes first fs out) text r
at_end takes flushes t l hex c first out R A B H text b es (Ok Good) given over h = inl (record {
  bytes = b;
  events = es;
  stands = h.0;
  stream = h.1;
  given = given;
  at_end = over;
})
at_end takes flushes t l hex c first out R A B H text b es (Ok (Truncated n)) given over h = (
  record {
    bytes = b;
    events = es;
    stands = h.0;
    stream = h.1;
    given = given;
    at_end = over;
  },
  h.2,
)
at_end takes flushes t l hex c first out R A B H text b es (Ok (Faulted f)) given over h = elim h [ ]
at_end takes flushes t l hex c first out R A B H text b es (Err (BadHex n)) given over h = record {
  bytes = b;
  events = es;
  end = h.1.0;
  stands = h.0;
  stream = h.1.1;
  good = h.1.2;
  given = given;
}
at_end takes flushes t l hex c first out R A B H text b es (Err Read) given over h = elim h [ ]
at_end takes flushes t l hex c first out R A B H text b es (Err Write) given over h = elim h [ ]
at_end takes flushes t l hex c first out R A B H text b es (Err (Refused fault)) given over h = elim h [ ]
at_end takes flushes t l hex c first out R A B H text b es (Err (Make cause)) given over h = elim h [ ]
at_end takes flushes t l hex c first out R A B H text b es (Err (Text line kind)) given over h = elim h [ ]
at_end takes flushes t l hex c first out R A B H text b es (Err (Encode message fault)) given over h = elim h [ ]
at_end takes flushes t l hex c first out R A B H text b es (Err Memory) given over h = elim h [ ]

-- ---- what a feed passes on

-- Events were passed on after a flush.
given_more : {S : Type 0} (takes : S → EventData → S → Type 0) (flushes : S → S → Type 0) (c : Chooser) (first mid : S) (s s' : Selected S)
    (es more : List EventData)
    → Gives takes flushes first (chosen c es) mid → flushes mid s.inner → s.chooser ≡ after_all c es → HasPassed takes s more s'
    → Gives takes flushes first (chosen c (es ++ more)) s'.inner
given_more takes flushes c first mid s s' es more given flushed at passed =
    rw (chosen-append c es more) (gives_more takes flushes first mid s.inner s'.inner (chosen c es)
    (chosen (after_all c es) more) given flushed (rw (← at) passed.inner))

-- the chooser after them
chooser_more : {S : Type 0} (takes : S → EventData → S → Type 0) (c : Chooser) (s s' : Selected S) (es more : List EventData)
    → s.chooser ≡ after_all c es → HasPassed takes s more s' → s'.chooser ≡ after_all c (es ++ more)
chooser_more takes c s s' es more at passed = passed.chooser ∙ ap (λ (d : Chooser). after_all d more) at ∙ sym (after-append c es more)

-- how far a run is after a feed without a fault
fed_progress : (t : Tree) (l : Limits) (hex : Bool) (s s' : Run) (text b piece bytes : List ℕ) (es more : List EventData) → Progress t l hex s text b es
    → (tree s'.decoder ≡ tree s.decoder) × (s'.decoder.limits ≡ s.decoder.limits) → is_some s'.unhexer ≡ is_some s.unhexer → s'.decoder.fault ≡ None
    → IsTaken s'.unhexer (text ++ piece) (b ++ bytes) → HasRead s'.decoder (b ++ bytes) (es ++ more)
    → Progress t l hex s' (text ++ piece) (b ++ bytes) (es ++ more)
fed_progress t l hex s s' text b piece bytes es more p same hex_same good taken so = record {
  set = same.0 ∙ p.set;
  limits = same.1 ∙ p.limits;
  so = so;
  good = good;
  hex_is = hex_same ∙ p.hex_is;
  taken = taken;
}

-- one round more
pub round_more : {S : Type 0} (takes stops : S → EventData → S → Type 0) (flushes : S → S → Type 0) (t : Tree) (l : Limits) (hex : Bool)
    (c : Chooser) (first flushed : S) (s s' : Run) (now new : Selected S) (reads : ℕ) (left_first left_old left_now : Option (List ℕ))
    (piece : List ℕ) (u : Unit {0})
    (h : Round takes flushes t l hex c first s now reads left_first left_old) → flushes now.inner flushed → Reads left_old left_now piece
    → 0 < length piece → length piece ≤ 4096
    → (tree s'.decoder ≡ tree s.decoder) × (s'.decoder.limits ≡ s.decoder.limits) → is_some s'.unhexer ≡ is_some s.unhexer → s'.decoder.fault ≡ None
    → Fed takes stops s h.text h.bytes h.events piece (record now { inner = flushed }) (Ok u) s' new
    → Round takes flushes t l hex c first s' new (reads + 1) left_first left_now
round_more takes stops flushes t l hex c first flushed s s' now new reads left_first left_old left_now piece u h flush read some small same hex_same good fed =
    let it : Selected _ = record now { inner = flushed } in
    let carried = fed.carried in
    let passed = has_passed takes carried.more it new carried.took in
    let k = length-append h.text piece in
    let many = h.many in
    let few = h.few in
    record {
      text = h.text ++ piece;
      bytes = h.bytes ++ fed.bytes;
      events = h.events ++ carried.more;
      progress = fed_progress t l hex s s' h.text h.bytes piece fed.bytes h.events carried.more h.progress same hex_same good fed.taken carried.so;
      read = reads_both left_first left_old left_now h.text piece h.read read;
      given = given_more takes flushes c first now.inner it new h.events carried.more h.given flush h.chooser passed;
      chooser = chooser_more takes c it new h.events carried.more h.chooser passed;
      fresh = stays_fresh takes carried.more it new carried.took h.fresh;
      many = omega arith;
      few = omega arith;
    }

-- a bad character
pub bad_character_ends : {S : Type 0} (takes : S → EventData → S → Type 0) (flushes : S → S → Type 0) (t : Tree) (l : Limits) (hex : Bool)
    (c : Chooser) (first : S) (s : Run) (now : Selected S) (reads : ℕ) (left_first left_now : Option (List ℕ)) (place : ℕ)
    (h : Round takes flushes t l hex c first s now reads left_first left_now) → IsBadPlace s.unhexer place
    → IsSoFar t l hex c (λ (fs : List EventData). Gives takes flushes first fs now.inner) h.text (Some place)
bad_character_ends takes flushes t l hex c first s now reads left_first left_now place h bad =
    let e = stream_of t l hex s h.text h.bytes h.events h.progress in
    let at = bad h.text h.bytes h.progress.taken in
    let hexed : hex ≡ true = sym h.progress.hex_is ∙ at.0 in
    record { bytes = h.bytes; events = h.events; end = e.end; stands = rw hexed at.1; stream = e.stream; good = e.good; given = h.given }

-- a fault of the stream
at_fault : {S : Type 0} (takes stops : S → EventData → S → Type 0) (flushes : S → S → Type 0) (t : Tree) (l : Limits) (hex : Bool)
    (c : Chooser) (first mid : S) (s s' : Run) (it new : Selected S) (text b piece bytes : List ℕ) (es : List EventData) (f : Fault)
    (code : Code)
    → Progress t l hex s text b es → Gives takes flushes first (chosen c es) mid → flushes mid it.inner → it.chooser ≡ after_all c es
    → (tree s'.decoder ≡ tree s.decoder) × (s'.decoder.limits ≡ s.decoder.limits) → is_some s'.unhexer ≡ is_some s.unhexer
    → s'.decoder.fault ≡ Some f → f.code ≡ Why.Stream code
    → IsTaken s'.unhexer (text ++ piece) (b ++ bytes) → Carries (TakesOn takes) b es bytes it s'.decoder new
    → IsAtFault t l hex c (λ (fs : List EventData). Gives takes flushes first fs new.inner) (text ++ piece) f
at_fault takes stops flushes t l hex c first mid s s' it new text b piece bytes es f code p given flush at same hex_same fault code_is taken carried =
    let passed = has_passed takes carried.more it new carried.took in
    let stands = stands_for s'.unhexer (text ++ piece) (b ++ bytes) taken in
    record {
      place = stands.0;
      bytes = b ++ bytes;
      events = es ++ carried.more;
      code = code;
      stands = rw (← p.hex_is, ← hex_same) stands.1;
      stream = ends_at_fault t l s'.decoder (b ++ bytes) (es ++ carried.more) f code (same.0 ∙ p.set) (same.1 ∙ p.limits) carried.so fault code_is;
      code_is = code_is;
      given = given_more takes flushes c first mid it new es carried.more given flush at passed;
    }

-- the events in other brackets
regroup : (x y z w : List EventData) → (x ++ y) ++ (z ++ w) ≡ (x ++ (y ++ z)) ++ w
regroup x y z w = simp append_assoc

-- the sink has stopped
at_stop : {S : Type 0} (takes stops : S → EventData → S → Type 0) (flushes : S → S → Type 0) (t : Tree) (l : Limits) (hex : Bool)
    (c : Chooser) (first mid : S) (R : MakeError → Type 0) (A B H : Type 0) (s s' : Run) (it new : Selected S)
    (text b piece bytes : List ℕ) (es : List EventData) (f : Fault) (place : ℕ) (full : Bool)
    → Progress t l hex s text b es → Gives takes flushes first (chosen c es) mid → flushes mid it.inner → it.chooser ≡ after_all c es
    → it.is_full ≡ false → new.is_full ≡ full
    → is_some s'.unhexer ≡ is_some s.unhexer → IsTaken s'.unhexer (text ++ piece) (b ++ bytes) → ((old : S) (e : EventData) → stops old e new.inner → H)
    → SinkEnds (TakesOn takes) (StopsOn takes stops) s.decoder b es bytes it place new
    → Ran t l hex c R A B H (λ (fs : List EventData). Gives takes flushes first fs new.inner) (text ++ piece) (ending_at f Why.SinkStopped full)
at_stop {S} takes stops flushes t l hex c first mid R A B H s s' it new text b piece bytes es f place full p given flush at not_full
    is_full hex_same taken failed h = by stopped.how full is_full
  where
    stopped : HasStopped takes stops h.mid h.given new
    stopped = has_stopped takes stops h.mid h.given new (stays_open takes h.earlier it h.mid h.took not_full) h.stopped

    both : HasPassed takes h.mid stopped.front new → HasPassed takes it (h.earlier ++ stopped.front) new
    both passed = both_passed takes it h.mid new h.earlier stopped.front (has_passed takes h.earlier it h.mid h.took) passed

    taken_all : (b ++ take (h.bytes + 1) bytes) ++ drop (h.bytes + 1) bytes ≡ b ++ bytes
    taken_all = append_assoc b (take (h.bytes + 1) bytes) (drop (h.bytes + 1) bytes) ∙ ap (λ (xs : List ℕ). b ++ xs) (take-append-drop (h.bytes + 1) bytes)

    all_events : (es ++ h.earlier) ++ h.given ≡ (es ++ (h.earlier ++ stopped.front)) ++ stopped.rest
    all_events = ap (λ (xs : List EventData). (es ++ h.earlier) ++ xs) stopped.are ∙ regroup es h.earlier stopped.front stopped.rest

    is_enough : HasPassed takes h.mid stopped.front new → is_none_left new.chooser.rest ≡ true
        → IsEnough t l hex c (λ (fs : List EventData). Gives takes flushes first fs new.inner) (text ++ piece)
    is_enough passed left =
        let stands = stands_for s'.unhexer (text ++ piece) (b ++ bytes) taken in
        let through = rw (p.set, p.limits, all_events) at h.through in
        record {
          place = stands.0;
          bytes = b ++ take (h.bytes + 1) bytes;
          rest = drop (h.bytes + 1) bytes;
          events = es ++ (h.earlier ++ stopped.front);
          more = stopped.rest;
          end = h.end_after;
          stands = rw (taken_all, ← p.hex_is, ← hex_same) stands.1;
          stream = through;
          full = ap (λ (d : Chooser). is_none_left d.rest) (sym (chooser_more takes c it new es (h.earlier ++ stopped.front) at (both passed))) ∙ left;
          given = given_more takes flushes c first mid it new es (h.earlier ++ stopped.front) given flush at (both passed);
        }

    by : HasPassed takes h.mid stopped.front new × (is_none_left new.chooser.rest ≡ true) × (new.is_full ≡ true)
        ⊎ ((old : S) × (e : EventData) × stops old e new.inner × (new.is_full ≡ false))
        → (full : Bool) → new.is_full ≡ full → Ran t l hex c R A B H (λ (fs : List EventData). Gives takes flushes first fs new.inner)
        (text ++ piece) (ending_at f Why.SinkStopped full)
    by (inl w) true is = inr (is_enough w.0 w.1)
    by (inl w) false is = absurd (let e : true ≡ false = sym w.2 ∙ is in cc)
    by (inr w) true is = absurd (let e : true ≡ false = sym is ∙ w.3 in cc)
    by (inr w) false is = failed w.0 w.1 w.2

-- Where a feed stops at a fault the run ends.
pub fault_ends : {S : Type 0} (takes stops : S → EventData → S → Type 0) (flushes : S → S → Type 0) (t : Tree) (l : Limits) (hex : Bool)
    (c : Chooser) (first mid : S) (R : MakeError → Type 0) (A B H : Type 0) (s s' : Run) (it new : Selected S) (text b piece : List ℕ)
    (es : List EventData) (f : Fault)
    → Progress t l hex s text b es → Gives takes flushes first (chosen c es) mid → flushes mid it.inner → it.chooser ≡ after_all c es → it.is_full ≡ false
    → (tree s'.decoder ≡ tree s.decoder) × (s'.decoder.limits ≡ s.decoder.limits) → is_some s'.unhexer ≡ is_some s.unhexer
    → s'.decoder.fault ≡ Some f → (account s.decoder).consumed + length piece < 2 ^ 64
    → ((old : S) (e : EventData) → stops old e new.inner → H) → Fed takes stops s text b es piece it (Err f) s' new
    → Ran t l hex c R A B H (λ (fs : List EventData). Gives takes flushes first fs new.inner) (text ++ piece) (ending_at f f.code new.is_full)
fault_ends takes stops flushes t l hex c first mid R A B H s s' it new text b piece es f p given flush at not_full same hex_same fault
    counted failed fed = by f.code refl fed.carried
  where
    by : (code : FaultCode) → f.code ≡ code → CarriesAt (TakesOn takes) (StopsOn takes stops) s.decoder b es fed.bytes it code f.place s'.decoder new
        → Ran t l hex c R A B H (λ (fs : List EventData). Gives takes flushes first fs new.inner) (text ++ piece) (ending_at f code new.is_full)
    by (Why.Stream code) is h = at_fault takes stops flushes t l hex c first mid s s' it new text b piece fed.bytes es f code p given flush
        at same hex_same fault is fed.taken h
    by Why.L4 is h = absurd (let many = h.many in let few = fed.few in omega arith)
    by Why.SinkStopped is h = at_stop takes stops flushes t l hex c first mid R A B H s s' it new text b piece fed.bytes es f f.place
        new.is_full p given flush at not_full refl hex_same fed.taken failed h

-- the run can count what comes
pub round_counts : {S : Type 0} (takes : S → EventData → S → Type 0) (flushes : S → S → Type 0) (t : Tree) (l : Limits) (hex : Bool)
    (c : Chooser) (first : S) (s : Run) (now : Selected S) (reads max n : ℕ) (left_first left_now : Option (List ℕ))
    → Round takes flushes t l hex c first s now reads left_first left_now → reads < max → max ≤ 2 ^ 40 → n ≤ 4096 → (account s.decoder).consumed + n < 2 ^ 64
round_counts takes flushes t l hex c first s now reads max n left_first left_now h more max_small small =
    let p = h.progress in
    let e = counts_all t l s.decoder h.bytes h.events (stream_of t l hex s h.text h.bytes h.events p) in
    let f = bytes_fewer s.unhexer h.text h.bytes p.taken in
    let k = h.few in
    omega arith

-- there is room to count the characters
pub round_has_room : {S : Type 0} (takes : S → EventData → S → Type 0) (flushes : S → S → Type 0) (t : Tree) (l : Limits) (hex : Bool)
    (c : Chooser) (first : S) (s : Run) (now : Selected S) (reads max n : ℕ) (left_first left_now : Option (List ℕ))
    → Round takes flushes t l hex c first s now reads left_first left_now → reads < max → max ≤ 2 ^ 40 → n ≤ 4096 → HasRoom s.unhexer n
round_has_room takes flushes t l hex c first s now reads max n left_first left_now h more max_small small = at s.unhexer h.progress.taken
  where
    at : (u : Option Unhexer) → IsTaken u h.text h.bytes → HasRoom u n
    at None taken = tt
    at (Some u) taken = let e = taken.len in let k = h.few in omega arith

-- ---- the end of the input

-- a bad end
pub bad_end_there : (t : Tree) (l : Limits) (hex : Bool) (s : Run) (text b : List ℕ) (es : List EventData) (place : ℕ)
    → Progress t l hex s text b es → StandsFor (is_some s.unhexer) text b (Some place) → EndsAt t l hex text b es (Err (BadHex place))
bad_end_there t l hex s text b es place p bad = let e = stream_of t l hex s text b es p in (rw (← p.hex_is) bad, (e.end, e.stream, e.good))

-- a good end
pub good_there : (t : Tree) (l : Limits) (hex : Bool) (s : Run) (text b : List ℕ) (es : List EventData) → Progress t l hex s text b es
    → StandsFor (is_some s.unhexer) text b None → (account s.decoder).is_between ≡ true → EndsAt t l hex text b es (Ok Good)
good_there t l hex s text b es p stands is = (rw (← p.hex_is) stands, ends_between t l s.decoder b es (stream_of t l hex s text b es p) is)

-- an end inside a message
pub cut_there : (t : Tree) (l : Limits) (hex : Bool) (s : Run) (text b : List ℕ) (es : List EventData) → Progress t l hex s text b es
    → StandsFor (is_some s.unhexer) text b None → (account s.decoder).is_between ≡ false → (n : ℕ) → n ≡ (account s.decoder).consumed
    → EndsAt t l hex text b es (Ok (Truncated n))
cut_there t l hex s text b es p stands is n count = let e = stream_of t l hex s text b es p in
    (rw (← p.hex_is) stands, ends_inside t l s.decoder b es e is, count ∙ counts_all t l s.decoder b es e)

-- ---- what is written at the end

-- the same of what was given so far
so_far_more : (t : Tree) (l : Limits) (hex : Bool) (c : Chooser) (G G' : List EventData → Type 0) (text : List ℕ) (place : Option ℕ)
    → ((es : List EventData) → G es → G' es) → IsSoFar t l hex c G text place → IsSoFar t l hex c G' text place
so_far_more t l hex c G G' text place g w = record {
  bytes = w.bytes;
  events = w.events;
  end = w.end;
  stands = w.stands;
  stream = w.stream;
  good = w.good;
  given = g (chosen c w.events) w.given;
}

-- what was read and shown, where more is known of the world and of what was given
pub ran_more : (t : Tree) (l : Limits) (hex : Bool) (c : Chooser) (R R' : MakeError → Type 0) (A B H A' B' H' : Type 0)
    (G G' : List EventData → Type 0) (text : List ℕ) (r : Result ShowEnd RunFault)
    → ((e : MakeError) → R e → R' e) → (A → A') → (B → B') → (H → H') → ((es : List EventData) → G es → G' es)
    → Ran t l hex c R A B H G text r → Ran t l hex c R' A' B' H' G' text r
ran_more t l hex c R R' A B H A' B' H' G G' text (Ok Good) m a b h g (inl w) = inl (record {
  bytes = w.bytes;
  events = w.events;
  stands = w.stands;
  stream = w.stream;
  given = g (chosen c w.events) w.given;
  at_end = a w.at_end;
})
ran_more t l hex c R R' A B H A' B' H' G G' text (Ok Good) m a b h g (inr w) = inr (record {
  place = w.place;
  bytes = w.bytes;
  rest = w.rest;
  events = w.events;
  more = w.more;
  end = w.end;
  stands = w.stands;
  stream = w.stream;
  full = w.full;
  given = g (chosen c w.events) w.given;
})
ran_more t l hex c R R' A B H A' B' H' G G' text (Ok (Faulted f)) m a b h g w = record {
  place = w.place;
  bytes = w.bytes;
  events = w.events;
  code = w.code;
  stands = w.stands;
  stream = w.stream;
  code_is = w.code_is;
  given = g (chosen c w.events) w.given;
}
ran_more t l hex c R R' A B H A' B' H' G G' text (Ok (Truncated n)) m a b h g w = (
  record {
    bytes = w.0.bytes;
    events = w.0.events;
    stands = w.0.stands;
    stream = w.0.stream;
    given = g (chosen c w.0.events) w.0.given;
    at_end = a w.0.at_end;
  },
  w.1,
)
ran_more t l hex c R R' A B H A' B' H' G G' text (Err (BadHex n)) m a b h g w = so_far_more t l hex c G G' text (Some n) g w
ran_more t l hex c R R' A B H A' B' H' G G' text (Err Read) m a b h g w = (w.0, so_far_more t l hex c G G' text w.0 g w.1, b w.2)
ran_more t l hex c R R' A B H A' B' H' G G' text (Err Write) m a b h g w = h w
ran_more t l hex c R R' A B H A' B' H' G G' text (Err (Make cause)) m a b h g w = (w.0, m cause w.1)
ran_more t l hex c R R' A B H A' B' H' G G' text (Err Memory) m a b h g w = w
ran_more t l hex c R R' A B H A' B' H' G G' text (Err (Refused fault)) m a b h g w = elim w [ ]
ran_more t l hex c R R' A B H A' B' H' G G' text (Err (Text line kind)) m a b h g w = elim w [ ]
ran_more t l hex c R R' A B H A' B' H' G G' text (Err (Encode message fault)) m a b h g w = elim w [ ]

-- nothing was read where no decoder is made
pub refusal_ran : (t : Tree) (l : Limits) (hex : Bool) (c : Chooser) (R : MakeError → Type 0) (A B H : Type 0)
    (G : List EventData → Type 0) (e : MakeError) → (e ≡ Cause.Memory) ⊎ R e → Ran t l hex c R A B H G [] (Err (refusal_of e))
refusal_ran t l hex c R A B H G Cause.BadLimits (inl h) = absurd (cc)
refusal_ran t l hex c R A B H G Cause.BadLimits (inr h) = (refl, h)
refusal_ran t l hex c R A B H G Cause.InitialTooLong (inl h) = absurd (cc)
refusal_ran t l hex c R A B H G Cause.InitialTooLong (inr h) = (refl, h)
refusal_ran t l hex c R A B H G Cause.Memory h = refl

-- Why no decoder is made.
pub cause_of : (set : Templates) (l : Limits) (e : MakeError) → (e ≡ Cause.BadLimits → IsRefusal set l Cause.BadLimits)
    → (e ≡ Cause.InitialTooLong → IsRefusal set l Cause.InitialTooLong) → (e ≡ Cause.Memory) ⊎ IsRefusal set l e
cause_of set l Cause.Memory bad long = inl refl
cause_of set l Cause.BadLimits bad long = inr (bad refl)
cause_of set l Cause.InitialTooLong bad long = inr (long refl)

-- a run that has not read anything
pub begun : (t : Tree) (l : Limits) (s : Run) → tree s.decoder ≡ t → s.decoder.limits ≡ l → HasRead s.decoder [] []
    → IsTaken s.unhexer [] [] → Progress t l (is_some s.unhexer) s [] [] []
begun t l s set limits so taken = record { set = set; limits = limits; so = so; good = no_fault_yet s.decoder so; hex_is = refl; taken = taken }

-- a good end says nothing of a failure
no_failure : (t : Tree) (l : Limits) (hex : Bool) (c : Chooser) (A B H H' : Type 0) (G : List EventData → Type 0) (text : List ℕ)
    (e : ShowEnd) → Ran t l hex c (λ _. ⊥) A B H G text (Ok e) → Ran t l hex c (λ _. ⊥) A B H' G text (Ok e)
no_failure t l hex c A B H H' G text Good ran = ran
no_failure t l hex c A B H H' G text (Faulted f) ran = ran
no_failure t l hex c A B H H' G text (Truncated n) ran = ran

-- an output that has failed has failed after a flush too
fails_on : {S : Type 0} (faults : S → Fault → S → Type 0) (cuts : S → ℕ → S → Type 0) (failed : S → Bool) (mid put last : S)
    → Puts faults cuts (Err Write) mid put → failed last ≡ failed put → IsTrue (failed mid) → IsTrue (failed last)
fails_on {S} faults cuts failed mid put last puts stays h = rw (stays ∙ ap failed puts) h

-- Where what closes the stream was put, and the output was flushed, all is shown.
pub shown : {S : Type 0} (takes : S → EventData → S → Type 0) (flushes : S → S → Type 0) (faults : S → Fault → S → Type 0)
    (cuts : S → ℕ → S → Type 0) (failed : S → Bool) (t : Tree) (l : Limits) (hex : Bool) (c : Chooser) (first mid put last : S)
    (R : MakeError → Type 0) (A B : Type 0) (text : List ℕ) (r : Result ShowEnd RunFault)
    → Puts faults cuts r mid put → flushes put last → failed last ≡ failed put
    → Ran t l hex c (λ _. ⊥) A B (IsTrue (failed mid)) (λ (es : List EventData). Gives takes flushes first es mid) text r
    → Ran t l hex c R A B (IsTrue (failed last)) (λ (es : List EventData). Shows takes flushes faults cuts r first es last) text r
shown {S} takes flushes faults cuts failed t l hex c first mid put last R A B text r puts flush stays ran = by r puts (given r puts) ran
  where
    given : (r : Result ShowEnd RunFault) → Puts faults cuts r mid put → (es : List EventData) → Gives takes flushes first es mid
        → Shows takes flushes faults cuts r first es last
    given r puts es gives = record { mid = mid; put = put; gives = gives; puts = puts; flushed = flush }

    by : (r : Result ShowEnd RunFault) → Puts faults cuts r mid put
        → ((es : List EventData) → Gives takes flushes first es mid → Shows takes flushes faults cuts r first es last)
        → Ran t l hex c (λ _. ⊥) A B (IsTrue (failed mid)) (λ (es : List EventData). Gives takes flushes first es mid) text r
        → Ran t l hex c R A B (IsTrue (failed last)) (λ (es : List EventData). Shows takes flushes faults cuts r first es last) text r
    by (Ok e) puts g ran = ran_more t l hex c (λ _. ⊥) R A B (IsTrue (failed last)) A B (IsTrue (failed last)) _ _ text (Ok e)
        (λ e never. absurd never) (λ a. a) (λ b. b) (λ h. h) g
        (no_failure t l hex c A B (IsTrue (failed mid)) (IsTrue (failed last)) _ text e ran)
    by (Err Write) puts g ran = fails_on faults cuts failed mid put last puts stays ran
    by (Err Read) puts g ran = (ran.0, so_far_more t l hex c _ _ text ran.0 g ran.1, ran.2)
    by (Err (BadHex n)) puts g ran = so_far_more t l hex c _ _ text (Some n) g ran
    by (Err (Make cause)) puts g ran = absurd ran.1
    by (Err Memory) puts g ran = ran
    by (Err (Refused fault)) puts g ran = elim ran [ ]
    by (Err (Text line kind)) puts g ran = elim ran [ ]
    by (Err (Encode message fault)) puts g ran = elim ran [ ]
