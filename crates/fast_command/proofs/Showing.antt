-- From the rounds of a run to what it has shown.
use Rattle.std.proofs.Common.{◌≡◌, ◌⊎◌, ℕ, ◌+◌, ◌*◌, ◌<◌, ◌≤◌, ◌^◌, Bool, true, false, List, [], ◌++◌, Option, Some, None, Result, Ok, Err}
use Rattle.std.proofs.Common.{refl, ◌∙◌, inl, inr, length, length-append, arith, append-nil}
use Rattle.std.specs.Prelude.{IsTrue, OnOk, OnErr, is_err}
use Rattle.fast_value.specs.declared.settings.Limits.{Limits}
use Rattle.fast_tree.specs.meaning.Tree.{Tree}
use Rattle.fast_stream.specs.declared.faults.MakeError.{MakeError}
use Rattle.fast_stream.specs.declared.faults.MakeError.TheVariants as Why
use Rattle.fast_stream.specs.meaning.Events.{EventData}
use Rattle.fast_stream.specs.meaning.Streams.{End, between, inside, faulted}
use Rattle.fast_decoder.specs.meaning.Decoding.{account}
use Rattle.fast_lines.specs.meaning.Lines.{lines}
use Rattle.fast_text.specs.meaning.Streams.{Reads, Appends}
use Rattle.fast_text.proofs.Writing.{appends_none, appends_both, appends_no_more, reads_none, reads_both, reads_no_more}
use Rattle.fast_command.specs.declared.unhexer.Unhexer.{Unhexer}
use Rattle.fast_command.specs.declared.show.Show.{Show}
use Rattle.fast_command.specs.declared.faults.ShowEnd.{ShowEnd}
use Rattle.fast_command.specs.declared.faults.ShowEnd.TheVariants.{Good, Faulted, Truncated}
use Rattle.fast_command.specs.declared.faults.RunFault.{RunFault}
use Rattle.fast_command.specs.declared.faults.RunFault.TheVariants.{Read, Write, BadHex, Templates as Refused, Make, Text, Encode, Memory}
use Rattle.fast_command.specs.meaning.Showing.{IsShown, IsClosing, StandsFor, refusal_of}
use Rattle.fast_command.specs.device.Progress.{HasRoom, IsTaken, Progress, Change, GoesOn, Ended}
use Rattle.fast_command.proofs.Lined.{lines-append}
use Rattle.fast_command.proofs.Progressing.{some_closing, ends_well, counts_all, stands_for, bytes_fewer}

-- the line that can be begun, where more is known of the world
closing_more : (A A' : Type 0) → (A → A') → (place : Option ℕ) (b : List ℕ) (e : End) (line : List ℕ) → IsClosing A place b e line → IsClosing A' place b e line
closing_more A A' a place b between line h = h
closing_more A A' a place b inside line (inl h) = inl h
closing_more A A' a place b inside line (inr h) = inr (h.0, h.1, a h.2)
closing_more A A' a place b (faulted c n) line h = h

-- what was shown, where more is known of the world
shown_more : (t : Tree) (l : Limits) (hex : Bool) (R R' : MakeError → Type 0) (A B H A' B' H' : Type 0) (text out : List ℕ)
    (r : Result ShowEnd RunFault) → ((e : MakeError) → R e → R' e) → (A → A') → (B → B') → (H → H') → IsShown t l hex R A B H text out r
    → IsShown t l hex R' A' B' H' text out r
shown_more t l hex R R' A B H A' B' H' text out (Ok Good) m a b h s = (s.0, s.1, s.2, s.3, a s.4)
shown_more t l hex R R' A B H A' B' H' text out (Ok (Faulted f)) m a b h s = s
shown_more t l hex R R' A B H A' B' H' text out (Ok (Truncated n)) m a b h s = (s.0, s.1, s.2, s.3, s.4, a s.5)
shown_more t l hex R R' A B H A' B' H' text out (Err (BadHex n)) m a b h s =
    (s.0, s.1, s.2, s.3, s.4, s.5, elim s.6 [ inl within ↦ inl within | inr over ↦ inr (a over) ])
shown_more t l hex R R' A B H A' B' H' text out (Err Read) m a b h s = (s.0, s.1, s.2, s.3, s.4, s.5, s.6, b s.7)
shown_more t l hex R R' A B H A' B' H' text out (Err Write) m a b h s =
    (s.0, s.1, s.2, s.3, s.4, s.5, s.6, s.7, closing_more A A' a s.0 s.1 s.3 s.4 s.8, s.9, h s.10)
shown_more t l hex R R' A B H A' B' H' text out (Err (Make cause)) m a b h s = (s.0, s.1, m cause s.2)
shown_more t l hex R R' A B H A' B' H' text out (Err (Refused fault)) m a b h s = elim s [ ]
shown_more t l hex R R' A B H A' B' H' text out (Err (Text line kind)) m a b h s = elim s [ ]
shown_more t l hex R R' A B H A' B' H' text out (Err (Encode message fault)) m a b h s = elim s [ ]
shown_more t l hex R R' A B H A' B' H' text out (Err Memory) m a b h s = s

-- nothing was read and nothing shown where no decoder is made
pub refusal_shown : (t : Tree) (l : Limits) (hex : Bool) (R : MakeError → Type 0) (A B H : Type 0) (e : MakeError) → (e ≡ Why.Memory) ⊎ R e
    → IsShown t l hex R A B H [] [] (Err (refusal_of e))
refusal_shown t l hex R A B H Why.BadLimits (inl h) = absurd (cc)
refusal_shown t l hex R A B H Why.BadLimits (inr h) = (refl, refl, h)
refusal_shown t l hex R A B H Why.InitialTooLong (inl h) = absurd (cc)
refusal_shown t l hex R A B H Why.InitialTooLong (inr h) = (refl, refl, h)
refusal_shown t l hex R A B H Why.Memory h = (refl, refl)

-- What a run has read and shown so far: the text, the bytes that it stands for, and their events.
pub record Round (t : Tree) (l : Limits) (hex : Bool) (s : Show) (reads : ℕ) (left_first left_now held holds : Option (List ℕ)) : Type 0 where
  pub text : List ℕ
  pub bytes : List ℕ
  pub events : List EventData
  pub progress : Progress t l hex s text bytes events
  pub read : Reads left_first left_now text
  pub written : Appends held holds (lines t events)
  pub many : reads ≤ length text
  pub few : length text ≤ 4096 * reads

-- before the first read
pub no_round : (t : Tree) (l : Limits) (hex : Bool) (s : Show) (left held : Option (List ℕ)) → Progress t l hex s [] [] []
    → Round t l hex s 0 left left held held
no_round t l hex s left held p = record {
  text = [];
  bytes = [];
  events = [];
  progress = p;
  read = reads_none left;
  written = appends_none held;
  many = omega arith;
  few = omega arith;
}

-- The run of the contract: what was read, what was written, and what this shows.
abbrev pub Run : Tree → Limits → Bool → (MakeError → Type 0) → (AtEnd HasFailed : Type 0) → (List ℕ → Type 0)
    → (left_first left_now held holds : Option (List ℕ)) → Result ShowEnd RunFault → Type 0
Run t l hex R AtEnd HasFailed ReadsNoMore left_first left_now held holds r =
    (text out : List ℕ) × Reads left_first left_now text × Appends held holds out × IsShown t l hex R AtEnd (ReadsNoMore text) HasFailed text out r

-- where the run reads no more
pub read_no_more : (t : Tree) (l : Limits) (hex : Bool) (R : MakeError → Type 0) (s : Show) (reads : ℕ) (AtEnd HasFailed : Type 0)
    (ReadsNoMore : List ℕ → Type 0) (left_first left_old left_now held holds : Option (List ℕ))
    (h : Round t l hex s reads left_first left_old held holds) → Reads left_old left_now [] → ReadsNoMore h.text
    → Run t l hex R AtEnd HasFailed ReadsNoMore left_first left_now held holds (Err Read)
read_no_more t l hex R s reads AtEnd HasFailed ReadsNoMore left_first left_old left_now held holds h kept why =
    let p = h.progress in
    let e = ends_well t l s.decoder h.bytes h.events p.set p.limits p.so p.good in
    let at = stands_for s.unhexer h.text h.bytes p.taken in (
      h.text,
      lines t h.events,
      reads_no_more left_first left_old left_now h.text h.read kept,
      h.written,
      (
        at.0,
        h.bytes,
        h.events,
        e.end,
        record {
          bytes = rw (← p.hex_is) at.1;
          stream = e.stream;
          holds = p.holds;
        },
        e.good,
        refl,
        why,
      ),
    )

-- where the writer cannot show what it has
pub not_flushed : (t : Tree) (l : Limits) (hex : Bool) (R : MakeError → Type 0) (s : Show) (reads : ℕ) (AtEnd HasFailed : Type 0)
    (ReadsNoMore : List ℕ → Type 0) (left_first left_now held holds_old holds : Option (List ℕ))
    (h : Round t l hex s reads left_first left_now held holds_old) → Appends holds_old holds [] → HasFailed
    → Run t l hex R AtEnd HasFailed ReadsNoMore left_first left_now held holds (Err Write)
not_flushed t l hex R s reads AtEnd HasFailed ReadsNoMore left_first left_now held holds_old holds h kept failed =
    let p = h.progress in
    let e = ends_well t l s.decoder h.bytes h.events p.set p.limits p.so p.good in
    let at = stands_for s.unhexer h.text h.bytes p.taken in
    let line = some_closing AtEnd at.0 h.bytes e.end in
    let stands : StandsFor hex h.text h.bytes at.0 = rw (← p.hex_is) at.1 in (
      h.text,
      lines t h.events,
      h.read,
      appends_no_more held holds_old holds (lines t h.events) h.written kept,
      (at.0, h.bytes, h.events, e.end, line.0, line.0, stands, e.stream, line.1, refl, failed),
    )

-- a round, where the writer was flushed
pub round_flushed : {t : Tree} {l : Limits} {hex : Bool} {s : Show} {reads : ℕ}
    {left_first left_now held holds_old holds : Option (List ℕ)} → Appends holds_old holds []
    → Round t l hex s reads left_first left_now held holds_old → Round t l hex s reads left_first left_now held holds
round_flushed {t} {l} {hex} {s} {reads} {left_first} {left_now} {held} {holds_old} {holds} kept h = record {
  text = h.text;
  bytes = h.bytes;
  events = h.events;
  progress = h.progress;
  read = h.read;
  written = appends_no_more held holds_old holds (lines t h.events) h.written kept;
  many = h.many;
  few = h.few;
}

-- where the run has ended
pub run_ended : (t : Tree) (l : Limits) (hex : Bool) (R : MakeError → Type 0) (s : Show) (reads : ℕ) (A AtEnd HasFailed : Type 0)
    (ReadsNoMore : List ℕ → Type 0) (left_first left_old left_now held : Option (List ℕ)) (w : Change) (piece : List ℕ)
    (r : Result ShowEnd RunFault) (h : Round t l hex s reads left_first left_old held w.held)
    → Reads left_old left_now piece → (A → AtEnd) → (IsTrue w.has_failed → HasFailed) → Ended t l hex A (h.text ++ piece) h.events w r
    → Run t l hex R AtEnd HasFailed ReadsNoMore left_first left_now held w.holds r
run_ended t l hex R s reads A AtEnd HasFailed ReadsNoMore left_first left_old left_now held w piece r h given end failed ended = (
  h.text ++ piece,
  lines t h.events ++ ended.out,
  reads_both left_first left_old left_now h.text piece h.read given,
  appends_both held w.held w.holds (lines t h.events) ended.out h.written ended.written,
  shown_more t l hex (λ _. ⊥) R A ⊥ (IsTrue w.has_failed) AtEnd (ReadsNoMore (h.text ++ piece)) HasFailed (h.text ++ piece)
      (lines t h.events ++ ended.out) r (λ _ never. absurd never) end (λ never. absurd never) failed ended.shown,
)

-- the run can count what comes
pub round_counts : (t : Tree) (l : Limits) (hex : Bool) (s : Show) (reads max n : ℕ) (left_first left_now held holds : Option (List ℕ))
    → Round t l hex s reads left_first left_now held holds → reads < max → max ≤ 2 ^ 40 → n ≤ 4096
    → (account s.decoder).consumed + n < 2 ^ 64
round_counts t l hex s reads max n left_first left_now held holds h more max_small small =
    let p = h.progress in
    let e = counts_all t l s.decoder h.bytes h.events (ends_well t l s.decoder h.bytes h.events p.set p.limits p.so p.good) in
    let f = bytes_fewer s.unhexer h.text h.bytes p.taken in
    let k = h.few in
    omega arith

-- there is room to count the characters
pub round_has_room : (t : Tree) (l : Limits) (hex : Bool) (s : Show) (reads max n : ℕ) (left_first left_now held holds : Option (List ℕ))
    → Round t l hex s reads left_first left_now held holds → reads < max → max ≤ 2 ^ 40 → n ≤ 4096 → HasRoom s.unhexer n
round_has_room t l hex s reads max n left_first left_now held holds h more max_small small = at s.unhexer h.progress.taken
  where
    at : (u : Option Unhexer) → IsTaken u h.text h.bytes → HasRoom u n
    at None taken = tt
    at (Some u) taken = let e = taken.len in let k = h.few in omega arith

-- one round more
pub round_more : (t : Tree) (l : Limits) (hex : Bool) (s s' : Show) (reads : ℕ) (left_first left_old left_now held : Option (List ℕ))
    (w : Change) (piece : List ℕ) (h : Round t l hex s reads left_first left_old held w.held)
    → Reads left_old left_now piece → 0 < length piece → length piece ≤ 4096 → GoesOn t l hex s' (h.text ++ piece) h.events w
    → Round t l hex s' (reads + 1) left_first left_now held w.holds
round_more t l hex s s' reads left_first left_old left_now held w piece h given some small on =
    let k = length-append h.text piece in
    let many = h.many in
    let few = h.few in
    record {
      text = h.text ++ piece;
      bytes = on.bytes;
      events = h.events ++ on.more;
      progress = on.progress;
      read = reads_both left_first left_old left_now h.text piece h.read given;
      written = rw (lines-append t h.events on.more) (appends_both held w.held w.holds (lines t h.events) (lines t on.more) h.written on.written);
      many = omega arith;
      few = omega arith;
    }

-- an end behind nothing more
pub ended_there : {t : Tree} {l : Limits} {hex : Bool} {A : Type 0} {text : List ℕ} {es : List EventData} {w : Change}
    {r : Result ShowEnd RunFault} → Ended t l hex A text es w r → Ended t l hex A (text ++ []) es w r
ended_there h = rw append-nil h

-- what holds at a good answer
pub at_good : {X E : Type 0} {P : Type 0} (r : Result X E) → is_err r ≡ false → OnOk r P → P
at_good (Ok x) good h = h
at_good (Err e) good h = absurd (cc)

-- what holds at an error
pub at_error : {X E : Type 0} {P : Type 0} (r : Result X E) → is_err r ≡ true → OnErr r P → P
at_error (Ok x) bad h = absurd (cc)
at_error (Err e) bad h = h

-- a failure is told, or nothing has failed since an earlier moment either
pub told_on : {A B : Type 0} {r s : A} {now then before : B} → (r ≡ s) ⊎ (now ≡ then) → then ≡ before → (r ≡ s) ⊎ (now ≡ before)
told_on (inl told) same = inl told
told_on (inr stays) same = inr (stays ∙ same)
