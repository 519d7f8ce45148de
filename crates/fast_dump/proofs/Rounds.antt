-- What a run has read after each piece, and how it stops.
use Rattle.std.proofs.Common.{◌≡◌, ◌∙◌, ℕ, ◌+◌, ◌*◌, ◌<◌, ◌≤◌, ◌^◌, Bool, true, false, List, [], ◌++◌, Option, Some, None, Result, Ok, Err}
use Rattle.std.proofs.Common.{ap, sym, refl, inl, inr, length, length-append, append-nil, arith}
use Rattle.std.specs.Prelude.{is_some}
use Rattle.fast_value.specs.declared.settings.Limits.{Limits}
use Rattle.fast_tree.specs.meaning.Tree.{Tree}
use Rattle.fast_stream.specs.meaning.Events.{EventData}
use Rattle.fast_stream.specs.meaning.Streams.{inside}
use Rattle.fast_decoder.specs.meaning.Decoding.{DecoderData, tree, account}
use Rattle.fast_lines.specs.meaning.Lines.{lines}
use Rattle.fast_text.specs.declared.streams.Failed.{Failed}
use Rattle.fast_text.specs.meaning.Streams.{Reads}
use Rattle.fast_text.proofs.Writing.{reads_none, reads_both}
use Rattle.fast_command.specs.declared.unhexer.Unhexer.{Unhexer}
use Rattle.fast_command.specs.declared.faults.ShowEnd.{ShowEnd}
use Rattle.fast_command.specs.declared.faults.ShowEnd.TheVariants.{Good, Faulted, Truncated}
use Rattle.fast_command.specs.declared.faults.RunFault.{RunFault}
use Rattle.fast_command.specs.declared.faults.RunFault.TheVariants.{Read, Write, BadHex, Templates as Refused, Make, Text, Encode, Memory}
use Rattle.fast_command.specs.meaning.Closing.{truncated_line}
use Rattle.fast_command.specs.meaning.Showing.{StandsFor}
use Rattle.fast_command.specs.device.Progress.{HasRoom, IsTaken, IsBadPlace}
use Rattle.fast_command.proofs.Progressing.{ends_between, ends_inside, counts_all, stands_for, bytes_fewer}
use Rattle.fast_dump.specs.declared.dump.Dump.{Dump}
use Rattle.fast_dump.specs.declared.page.Page.{Page}
use Rattle.fast_dump.specs.meaning.Kept.{place}
use Rattle.fast_dump.specs.meaning.Pages.{Keeps, Closes}
use Rattle.fast_dump.specs.meaning.Dumping.{IsCut, IsSoFar, IsDumped}
use Rattle.fast_dump.specs.device.Progress.{Start, Progress, Rows, EndsIn, Goes, IsStopped}
use Rattle.fast_dump.proofs.Dumping.{stream_of}
use Rattle.fast_dump.proofs.Closing.{torn_rows}

-- What a run has read so far: the text, the bytes that it stands for, and their events.
pub record Round {T : Type 0} (written : T → Option (List ℕ)) (failed : T → Bool) (first : Start) (t : Tree) (l : Limits) (hex : Bool)
    (s : Dump T) (u : Option Unhexer) (reads : ℕ) (left_first left_now : Option (List ℕ)) : Type 0 where
  pub text : List ℕ
  pub bytes : List ℕ
  pub events : List EventData
  pub progress : Progress written failed first t l s bytes events
  pub hex_is : is_some u ≡ hex
  pub taken : IsTaken u text bytes
  pub read : Reads left_first left_now text
  pub many : reads ≤ length text
  pub few : length text ≤ 4096 * reads

-- before the first read
pub no_round : {T : Type 0} (written : T → Option (List ℕ)) (failed : T → Bool) (first : Start) (t : Tree) (l : Limits) (s : Dump T)
    (u : Option Unhexer) (left : Option (List ℕ))
    → Progress written failed first t l s [] [] → IsTaken u [] [] → Round written failed first t l (is_some u) s u 0 left left
no_round written failed first t l s u left p taken = record {
  text = [];
  bytes = [];
  events = [];
  progress = p;
  hex_is = refl;
  taken = taken;
  read = reads_none left;
  many = omega arith;
  few = omega arith;
}

-- after a flush
pub round_flushed : {T : Type 0} (written : T → Option (List ℕ)) (failed : T → Bool) (first : Start) (t : Tree) (l : Limits) (hex : Bool)
    (s s' : Dump T) (u : Option Unhexer) (reads : ℕ) (left_first left_now : Option (List ℕ))
    → s'.decoder ≡ s.decoder → Keeps written failed s.page s'.page (Ok tt)
    → Round written failed first t l hex s u reads left_first left_now → Round written failed first t l hex s' u reads left_first left_now
round_flushed written failed first t l hex s s' u reads left_first left_now same keeps h =
    let p = h.progress in
    record {
      text = h.text;
      bytes = h.bytes;
      events = h.events;
      progress = record {
        set = ap tree same ∙ p.set;
        limits = ap (λ (d : DecoderData). d.limits) same ∙ p.limits;
        so = rw same p.so;
        holds = p.holds;
        good = ap (λ (d : DecoderData). d.fault) same ∙ p.good;
        page = keeps first.held first.had_failed t h.bytes (lines t h.events) p.page;
      };
      hex_is = h.hex_is;
      taken = h.taken;
      read = h.read;
      many = h.many;
      few = h.few;
    }

-- one round more
pub round_more : {T : Type 0} (written : T → Option (List ℕ)) (failed : T → Bool) (first : Start) (t : Tree) (l : Limits) (hex : Bool)
    (s s' : Dump T) (u u' : Option Unhexer) (reads : ℕ) (left_first left_old left_now : Option (List ℕ)) (piece bytes : List ℕ)
    → (h : Round written failed first t l hex s u reads left_first left_old) → Reads left_old left_now piece → 0 < length piece
    → length piece ≤ 4096 → is_some u' ≡ is_some u
    → IsTaken u' (h.text ++ piece) (h.bytes ++ bytes) → Goes written failed first t l (h.bytes ++ bytes) h.events s' None
    → Round written failed first t l hex s' u' (reads + 1) left_first left_now
round_more written failed first t l hex s s' u u' reads left_first left_old left_now piece bytes h read some small same taken goes =
    let k = length-append h.text piece in
    let many = h.many in
    let few = h.few in
    record {
      text = h.text ++ piece;
      bytes = h.bytes ++ bytes;
      events = h.events ++ goes.0;
      progress = goes.1;
      hex_is = same ∙ h.hex_is;
      taken = taken;
      read = reads_both left_first left_old left_now h.text piece h.read read;
      many = omega arith;
      few = omega arith;
    }

-- the run can count what comes
pub round_counts : {T : Type 0} (written : T → Option (List ℕ)) (failed : T → Bool) (first : Start) (t : Tree) (l : Limits) (hex : Bool)
    (s : Dump T) (u : Option Unhexer) (reads max n : ℕ) (left_first left_now : Option (List ℕ))
    → (h : Round written failed first t l hex s u reads left_first left_now) → reads < max → max ≤ 2 ^ 40 → n ≤ 4096 → length h.bytes + n < 2 ^ 64
round_counts written failed first t l hex s u reads max n left_first left_now h more max_small small =
    let f = bytes_fewer u h.text h.bytes h.taken in
    let k = h.few in
    omega arith

-- there is room to count the characters
pub round_has_room : {T : Type 0} (written : T → Option (List ℕ)) (failed : T → Bool) (first : Start) (t : Tree) (l : Limits) (hex : Bool)
    (s : Dump T) (u : Option Unhexer) (reads max n : ℕ) (left_first left_now : Option (List ℕ))
    → Round written failed first t l hex s u reads left_first left_now → reads < max → max ≤ 2 ^ 40 → n ≤ 4096 → HasRoom u n
round_has_room written failed first t l hex s u reads max n left_first left_now h more max_small small = at u h.taken
  where
    at : (u : Option Unhexer) → IsTaken u h.text h.bytes → HasRoom u n
    at None taken = tt
    at (Some u) taken = let e = taken.len in let k = h.few in omega arith

-- what a text that was taken stands for
text_of : (hex : Bool) (u : Option Unhexer) (text b : List ℕ) → is_some u ≡ hex → IsTaken u text b → (place : Option ℕ) × StandsFor hex text b place
text_of hex u text b same taken = let at = stands_for u text b taken in (at.0, rw (← same) at.1)

-- the stream of a run that has read a text
so_far : {T : Type 0} (written : T → Option (List ℕ)) (failed : T → Bool) (first : Start) (t : Tree) (l : Limits) (hex : Bool) (s : Dump T)
    (p' : Page T) (text b : List ℕ) (es : List EventData) (place : Option ℕ)
    → Progress written failed first t l s b es → StandsFor hex text b place → Rows written failed first t p'.target b (lines t es) (Ok tt)
    → IsSoFar t l hex (Rows written failed first t p'.target) text place
so_far written failed first t l hex s p' text b es place p stands rows =
    let e = stream_of written failed first t l s b es p in
    record { bytes = b; events = es; end = e.end; stream = record { bytes = stands; stream = e.stream; holds = p.holds }; good = e.good; rows = rows }

-- the rows that are left could not be written
left_cut : {T : Type 0} (written : T → Option (List ℕ)) (failed : T → Bool) (first : Start) (t : Tree) (l : Limits) (s : Dump T)
    (p' : Page T) (b : List ℕ) (es : List EventData) (why : Failed)
    → Progress written failed first t l s b es → Rows written failed first t p'.target b (lines t es) (Err why)
    → IsCut t l (Rows written failed first t p'.target) b
left_cut written failed first t l s p' b es why p rows =
    let e = stream_of written failed first t l s b es p in
    record {
      shown = b;
      rest = [];
      events = es;
      end = e.end;
      line = [];
      out = lines t es;
      more = [];
      why = why;
      split = append-nil b;
      stream = e.stream;
      closes = inl refl;
      lines_are = refl;
      rows = rows;
    }

-- a run that stops, as its input cannot be read or is no more
pub stopped_read : {T : Type 0} (written : T → Option (List ℕ)) (failed : T → Bool) (first : Start) (t : Tree) (l : Limits) (hex : Bool)
    (A B : Type 0) (s : Dump T) (u : Option Unhexer) (p' : Page T) (text b : List ℕ) (es : List EventData) (r : Result ShowEnd RunFault)
    → Progress written failed first t l s b es → is_some u ≡ hex → IsTaken u text b → B
    → IsStopped written failed first t b es p' (Err Read) r → IsDumped t l hex (λ _. ⊥) ⊥ A B (Rows written failed first t p'.target) text r
stopped_read written failed first t l hex A B s u p' text b es r p same taken over (inl w) = let at = text_of hex u text b same taken in
    rw w.0 (at.0, so_far written failed first t l hex s p' text b es at.0 p at.1 w.1, over)
stopped_read written failed first t l hex A B s u p' text b es r p same taken over (inr w) = let at = text_of hex u text b same taken in
    rw w.0 (at.0, b, at.1, left_cut written failed first t l s p' b es w.1.0 p w.1.1)

-- as a character is wrong, or the text ends in a wrong place
pub stopped_bad : {T : Type 0} (written : T → Option (List ℕ)) (failed : T → Bool) (first : Start) (t : Tree) (l : Limits) (hex : Bool)
    (A B : Type 0) (s : Dump T) (p' : Page T) (text b : List ℕ) (es : List EventData) (n : ℕ) (r : Result ShowEnd RunFault)
    → Progress written failed first t l s b es → StandsFor hex text b (Some n)
    → IsStopped written failed first t b es p' (Err (BadHex n)) r
    → IsDumped t l hex (λ _. ⊥) ⊥ A B (Rows written failed first t p'.target) text r
stopped_bad written failed first t l hex A B s p' text b es n r p stands (inl w) =
    rw w.0 (so_far written failed first t l hex s p' text b es (Some n) p stands w.1)
stopped_bad written failed first t l hex A B s p' text b es n r p stands (inr w) =
    rw w.0 (Some n, b, stands, left_cut written failed first t l s p' b es w.1.0 p w.1.1)

-- a bad character
pub bad_stands : (hex : Bool) (u : Option Unhexer) (text b : List ℕ) (n : ℕ) → is_some u ≡ hex → IsBadPlace u n → IsTaken u text b
    → StandsFor hex text b (Some n)
bad_stands hex u text b n same bad taken = let at = bad text b taken in let hexed : hex ≡ true = sym same ∙ at.0 in rw hexed at.1

-- at the end of the input, between two messages
pub stopped_between : {T : Type 0} (written : T → Option (List ℕ)) (failed : T → Bool) (first : Start) (t : Tree) (l : Limits) (hex : Bool)
    (B : Type 0) (s : Dump T) (p' : Page T) (text b : List ℕ) (es : List EventData) (r : Result ShowEnd RunFault)
    → Progress written failed first t l s b es → StandsFor hex text b None → (account s.decoder).is_between ≡ true
    → IsStopped written failed first t b es p' (Ok Good) r
    → IsDumped t l hex (λ _. ⊥) ⊥ (Unit {0}) B (Rows written failed first t p'.target) text r
stopped_between written failed first t l hex B s p' text b es r p stands is (inl w) =
    rw w.0 (
      b,
      es,
      record {
        bytes = stands;
        stream = ends_between t l s.decoder b es (stream_of written failed first t l s b es p) is;
        holds = p.holds;
      },
      w.1,
      tt,
    )
stopped_between written failed first t l hex B s p' text b es r p stands is (inr w) =
    rw w.0 (None, b, stands, left_cut written failed first t l s p' b es w.1.0 p w.1.1)

-- inside a message
pub ends_cut : {T : Type 0} (written : T → Option (List ℕ)) (failed : T → Bool) (first : Start) (t : Tree) (l : Limits) (hex : Bool)
    (B : Type 0) (s : Dump T) (p' : Page T) (text b : List ℕ) (es : List EventData) (n : ℕ)
    → Progress written failed first t l s b es → StandsFor hex text b None → (account s.decoder).is_between ≡ false
    → n ≡ (account s.decoder).consumed → Closes written failed s.page (truncated_line n) p' (Ok tt)
    → IsDumped t l hex (λ _. ⊥) ⊥ (Unit {0}) B (Rows written failed first t p'.target) text (Ok (Truncated n))
ends_cut written failed first t l hex B s p' text b es n p stands is count closes =
    let e = stream_of written failed first t l s b es p in (
      b,
      es,
      record {
        bytes = stands;
        stream = ends_inside t l s.decoder b es e is;
        holds = p.holds;
      },
      count ∙ counts_all t l s.decoder b es e,
      closes first.held first.had_failed t b (lines t es) p.page,
      tt,
    )

pub ends_torn : {T : Type 0} (written : T → Option (List ℕ)) (failed : T → Bool) (first : Start) (t : Tree) (l : Limits) (hex : Bool)
    (B : Type 0) (s : Dump T) (p' : Page T) (text b : List ℕ) (es : List EventData) (n : ℕ) (why : Failed)
    → Progress written failed first t l s b es → StandsFor hex text b None → (account s.decoder).is_between ≡ false
    → n ≡ (account s.decoder).consumed → Closes written failed s.page (truncated_line n) p' (Err why)
    → IsDumped t l hex (λ _. ⊥) ⊥ (Unit {0}) B (Rows written failed first t p'.target) text (Err Write)
ends_torn written failed first t l hex B s p' text b es n why p stands is count closes =
    let e = stream_of written failed first t l s b es p in
    let all : n ≡ length b = count ∙ counts_all t l s.decoder b es e in (
      None,
      b,
      stands,
      record {
        shown = b;
        rest = [];
        events = es;
        end = inside;
        line = truncated_line n;
        out = lines t es ++ truncated_line n;
        more = [];
        why = why;
        split = append-nil b;
        stream = ends_inside t l s.decoder b es e is;
        closes = inr (ap truncated_line all);
        lines_are = sym (append-nil (lines t es ++ truncated_line n));
        rows = closes first.held first.had_failed t b (lines t es) p.page;
      },
    )

-- an ending inside a piece
pub ends_inside_piece : (t : Tree) (l : Limits) (hex : Bool) (A B : Type 0) (W : List ℕ → List ℕ → Result (Unit {0}) Failed → Type 0)
    (u : Option Unhexer) (text b : List ℕ) (r : Result ShowEnd RunFault)
    → is_some u ≡ hex → IsTaken u text b → EndsIn t l W b r → IsDumped t l hex (λ _. ⊥) ⊥ A B W text r
ends_inside_piece t l hex A B W u text b (Ok (Faulted f)) same taken h = let at = text_of hex u text b same taken in (at.0, b, at.1, h)
ends_inside_piece t l hex A B W u text b (Err Write) same taken h = let at = text_of hex u text b same taken in (at.0, b, at.1, h)
ends_inside_piece t l hex A B W u text b (Ok Good) same taken h = elim h [ ]
ends_inside_piece t l hex A B W u text b (Ok (Truncated n)) same taken h = elim h [ ]
ends_inside_piece t l hex A B W u text b (Err Read) same taken h = elim h [ ]
ends_inside_piece t l hex A B W u text b (Err (BadHex n)) same taken h = elim h [ ]
ends_inside_piece t l hex A B W u text b (Err (Refused fault)) same taken h = elim h [ ]
ends_inside_piece t l hex A B W u text b (Err (Make cause)) same taken h = elim h [ ]
ends_inside_piece t l hex A B W u text b (Err (Text line kind)) same taken h = elim h [ ]
ends_inside_piece t l hex A B W u text b (Err (Encode message fault)) same taken h = elim h [ ]
ends_inside_piece t l hex A B W u text b (Err Memory) same taken h = elim h [ ]

-- a flush that failed
pub flush_cut : {T : Type 0} (written : T → Option (List ℕ)) (failed : T → Bool) (first : Start) (t : Tree) (l : Limits) (hex : Bool)
    (A B : Type 0) (s : Dump T) (u : Option Unhexer) (p' : Page T) (text b : List ℕ) (es : List EventData) (why : Failed)
    → Progress written failed first t l s b es → is_some u ≡ hex → IsTaken u text b → Keeps written failed s.page p' (Err why)
    → IsDumped t l hex (λ _. ⊥) ⊥ A B (Rows written failed first t p'.target) text (Err Write)
flush_cut written failed first t l hex A B s u p' text b es why p same taken keeps =
    let at = text_of hex u text b same taken in
    let torn = keeps first.held first.had_failed t b (lines t es) p.page in
    (at.0, b, at.1, left_cut written failed first t l s p' b es torn.why p (torn_rows written failed first.held first.had_failed t p' b (lines t es) torn))

-- what the end of the input is given
pub dumped_more : (t : Tree) (l : Limits) (hex : Bool) (A B A' B' : Type 0) (W : List ℕ → List ℕ → Result (Unit {0}) Failed → Type 0)
    (text : List ℕ) (r : Result ShowEnd RunFault)
    → (A → A') → (B → B') → IsDumped t l hex (λ _. ⊥) ⊥ A B W text r → IsDumped t l hex (λ _. ⊥) ⊥ A' B' W text r
dumped_more t l hex A B A' B' W text (Ok Good) f g h = (h.0, h.1, h.2, h.3, f h.4)
dumped_more t l hex A B A' B' W text (Ok (Faulted e)) f g h = h
dumped_more t l hex A B A' B' W text (Ok (Truncated n)) f g h = (h.0, h.1, h.2, h.3, h.4, f h.5)
dumped_more t l hex A B A' B' W text (Err (BadHex n)) f g h = h
dumped_more t l hex A B A' B' W text (Err Read) f g h = (h.0, h.1, g h.2)
dumped_more t l hex A B A' B' W text (Err Write) f g h = h
dumped_more t l hex A B A' B' W text (Err (Make cause)) f g h = h
dumped_more t l hex A B A' B' W text (Err Memory) f g h = h
dumped_more t l hex A B A' B' W text (Err (Refused fault)) f g h = h
dumped_more t l hex A B A' B' W text (Err (Text line kind)) f g h = h
dumped_more t l hex A B A' B' W text (Err (Encode message fault)) f g h = h
