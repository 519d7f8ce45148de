-- From what the parts of a run do to what it has shown.
use Rattle.std.proofs.Common.{◌≡◌, ◌⊎◌, ℕ, ◌+◌, ◌*◌, ◌≤◌, Bool, true, false, List, [], ◌∷◌, ◌++◌, Option, Some, None, Result, Ok, Err, refl}
use Rattle.std.proofs.Common.{ap, sym, ◌∙◌, inl, inr, subst, length, length-append, suc, arith, append_assoc, append-nil}
use Rattle.std.specs.Prelude.{All, IsTrue, is_some, if◌then◌else◌, OnOk, IfErr, MatchOption}
use Rattle.std.proofs.lemmas.List.Elements.{All-append}
use Rattle.fast_value.specs.declared.settings.Limits.{Limits}
use Rattle.fast_value.specs.declared.codes.Code.{Code}
use Rattle.fast_value.specs.meaning.Initial.{IsHex}
use Rattle.fast_tree.specs.meaning.Tree.{Tree}
use Rattle.fast_stream.specs.declared.faults.Fault.{Fault}
use Rattle.fast_stream.specs.declared.faults.FaultCode.{FaultCode}
use Rattle.fast_stream.specs.declared.faults.FaultCode.TheVariants as Why
use Rattle.fast_stream.specs.device.Running.{at_start}
use Rattle.fast_dict.specs.meaning.Dictionary.{fresh}
use Rattle.fast_stream.specs.meaning.Events.{EventData}
use Rattle.fast_stream.specs.meaning.Streams.{End, between, inside, faulted, Stream}
use Rattle.fast_stream.specs.meaning.Account.{Account, account_at}
use Rattle.fast_decoder.specs.meaning.Decoding.{DecoderData, IsFaultAt, IsAt, HasRead, tree, account, answer}
use Rattle.fast_decoder.proofs.streams.Ends.{read-stream}
use Rattle.fast_template.specs.meaning.Flat.{tree_of}
use Rattle.fast_text.specs.meaning.Fronts.{set_of}
use Rattle.fast_lines.specs.meaning.Lines.{lines}
use Rattle.fast_lines.specs.meaning.Hex.{Unhexed, digits_in, ArePairs}
use Rattle.fast_lines.specs.meaning.Values.{HoldsBytes}
use Rattle.fast_text.specs.meaning.Streams.{Appends, AppendsFront}
use Rattle.fast_text.proofs.Writing.{appends_none, appends_both}
use Rattle.fast_command.specs.declared.unhexer.Unhexer.{Unhexer}
use Rattle.fast_command.specs.declared.unhexer.Place.{Place}
use Rattle.fast_command.specs.declared.unhexer.Place.TheVariants.{Between, InPair, Bad}
use Rattle.fast_command.specs.declared.show.Show.{Show}
use Rattle.fast_command.specs.declared.faults.ShowEnd.{ShowEnd}
use Rattle.fast_command.specs.declared.faults.ShowEnd.TheVariants.{Good, Faulted, Truncated}
use Rattle.fast_command.specs.declared.faults.RunFault.{RunFault}
use Rattle.fast_command.specs.declared.faults.RunFault.TheVariants.{Write, BadHex}
use Rattle.fast_command.specs.meaning.Closing.{fault_line, truncated_line}
use Rattle.fast_command.specs.meaning.Unhexing.{StandsAt}
use Rattle.fast_command.specs.meaning.Showing.{StandsFor, IsGoodEnd, IsClosing}
use Rattle.fast_command.specs.device.Progress.{IsTaken, Progress, Change, Fed, CutShort, IsFedAt, IsFed, GoesOn, Ended, IsBadPlace, IsClosedAt, changed}
use Rattle.fast_command.proofs.Characters.{is_shown}
use Rattle.fast_command.proofs.Lined.{lines-append}

-- ---- the ends of a stream that a decoder tells

-- How a stream ends where the decoder has no fault.
pub record EndsWell (t : Tree) (l : Limits) (d : DecoderData) (b : List ℕ) (es : List EventData) : Type 0 where
  pub end : End
  pub stream : Stream t l b es end
  pub good : IsGoodEnd end
  pub tells : account d ≡ account_at b end

-- a decoder without a fault
pub ends_well : (t : Tree) (l : Limits) (d : DecoderData) (b : List ℕ) (es : List EventData) → tree d ≡ t → d.limits ≡ l → HasRead d b es
    → d.fault ≡ None → EndsWell t l d b es
ends_well t l d b es set limits so good =
    let s = read-stream d b es so in
    record { end = s.0; stream = rw (← set, ← limits) s.1; good = at s.0 s.2; tells = s.2 }
  where
    apart : (f : Fault) → Some f ≡ None → ⊥
    apart f h = cc

    at : (e : End) → account d ≡ account_at b e → IsGoodEnd e
    at between h = tt
    at inside h = tt
    at (faulted c place) h = absurd (apart (record { code = Why.Stream c; place = place }) (sym (ap (λ (s : Account). s.fault) h) ∙ good))

-- between two messages
pub ends_between : (t : Tree) (l : Limits) (d : DecoderData) (b : List ℕ) (es : List EventData) → EndsWell t l d b es
    → (account d).is_between ≡ true → Stream t l b es between
ends_between t l d b es w told = at w.end w.stream w.good (sym (ap (λ (s : Account). s.is_between) w.tells) ∙ told)
  where
    at : (e : End) → Stream t l b es e → IsGoodEnd e → (account_at b e).is_between ≡ true → Stream t l b es between
    at between s good h = s
    at inside s good h = absurd (cc)
    at (faulted c place) s good h = absurd good

-- inside a message
pub ends_inside : (t : Tree) (l : Limits) (d : DecoderData) (b : List ℕ) (es : List EventData) → EndsWell t l d b es
    → (account d).is_between ≡ false → Stream t l b es inside
ends_inside t l d b es w told = at w.end w.stream w.good (sym (ap (λ (s : Account). s.is_between) w.tells) ∙ told)
  where
    at : (e : End) → Stream t l b es e → IsGoodEnd e → (account_at b e).is_between ≡ false → Stream t l b es inside
    at between s good h = absurd (cc)
    at inside s good h = s
    at (faulted c place) s good h = absurd good

-- the count of the bytes
pub counts_all : (t : Tree) (l : Limits) (d : DecoderData) (b : List ℕ) (es : List EventData) → EndsWell t l d b es → (account d).consumed ≡ length b
counts_all t l d b es w = ap (λ (s : Account). s.consumed) w.tells ∙ at w.end w.good
  where
    at : (e : End) → IsGoodEnd e → (account_at b e).consumed ≡ length b
    at between good = refl
    at inside good = refl
    at (faulted c place) good = absurd good

-- at a fault of the stream
pub ends_at_fault : (t : Tree) (l : Limits) (d : DecoderData) (b : List ℕ) (es : List EventData) (f : Fault) (c : Code) → tree d ≡ t
    → d.limits ≡ l → HasRead d b es → d.fault ≡ Some f → f.code ≡ Why.Stream c → Stream t l b es (faulted c f.place)
ends_at_fault t l d b es f c set limits so fault code =
    let s = read-stream d b es so in
    rw (← set, ← limits) (at s.0 s.1 (sym (ap (λ (s : Account). s.fault) s.2) ∙ fault))
  where
    at : (e : End) → Stream (tree d) d.limits b es e → (account_at b e).fault ≡ Some f → Stream (tree d) d.limits b es (faulted c f.place)
    at between s h = absurd (cc)
    at inside s h = absurd (cc)
    at (faulted k place) s h =
        let is : record { code = Why.Stream k; place = place } ≡ f = cc in
        let same_code : k ≡ c = let e : Why.Stream k ≡ Why.Stream c = ap (λ (g : Fault). g.code) is ∙ code in cc in
        let same_place : place ≡ f.place = ap (λ (g : Fault). g.place) is in
        rw (← same_code, ← same_place) s

-- no bytes lead to a fault
pub no_fault_yet : (d : DecoderData) → HasRead d [] [] → d.fault ≡ None
no_fault_yet d h = by d.fault h.at
  where
    at_code : (f : Fault) (code : FaultCode) → IsFaultAt code f.place h.position → Some f ≡ None
    at_code f (Why.Stream c) e = let start : at_start (fresh (tree d).entries) ≡ h.position = ap (λ z. z.1) h.read in absurd (cc)
    at_code f Why.L4 e = absurd e
    at_code f Why.SinkStopped e = absurd e

    by : (o : Option Fault) → IsAt o d 0 h.position → o ≡ None
    by None at = refl
    by (Some f) at = at_code f f.code at

-- a line that can be begun, wherever the input ends
pub some_closing : (AtEnd : Type 0) (place : Option ℕ) (b : List ℕ) (e : End) → (line : List ℕ) × IsClosing AtEnd place b e line
some_closing AtEnd place b between = ([], refl)
some_closing AtEnd place b inside = ([], inl refl)
some_closing AtEnd place b (faulted c n) = (fault_line (Why.Stream c) n, refl)

-- ---- the bytes that a text stands for

-- what a text that was taken stands for
pub stands_for : (u : Option Unhexer) (text b : List ℕ) → IsTaken u text b → (place : Option ℕ) × StandsFor (is_some u) text b place
stands_for None text b h = (None, (h, refl))
stands_for (Some u) text b h = at u.place h.at
  where
    at : (p : Place) → StandsAt p text b → (place : Option ℕ) × Unhexed text b place
    at Between h = (None, h)
    at (InPair d) h = (Some (length text), inr (h.0, (h.1.0, d, h.1.1, h.1.2, h.1.3, h.1.4), refl))
    at (Bad place) h = (Some place, inl h)

-- no text has fewer characters than digits
digits_fewer : (t : List ℕ) → length (digits_in t) ≤ length t
digits_fewer [] = omega arith
digits_fewer (c ∷ t) = at (is_shown c) (digits_fewer t)
  where
    at : (b : Bool) → length (digits_in t) ≤ length t → length (if b then c ∷ digits_in t else digits_in t) ≤ suc (length t)
    at true h = omega arith
    at false h = omega arith

-- two digits for each byte
hex_halves : (ds v : List ℕ) → IsHex ds v → length ds ≡ 2 * length v
hex_halves [] v h = rw h refl
hex_halves (c ∷ []) v h = absurd h
hex_halves (c ∷ d ∷ ds) v h = rw h.6 (let e = hex_halves ds h.2 h.5 in omega arith)

-- no text has fewer characters than bytes
pub bytes_fewer : (u : Option Unhexer) (text b : List ℕ) → IsTaken u text b → length b ≤ length text
bytes_fewer None text b h = rw h (omega arith)
bytes_fewer (Some u) text b h = at u.place h.at
  where
    pairs : (t : List ℕ) → ArePairs (digits_in t) b → length b ≤ length t
    pairs t (inl h) = let e = hex_halves (digits_in t) b h in let f = digits_fewer t in omega arith
    pairs t (inr h) =
        let e = hex_halves h.0 b h.3 in
        let f = digits_fewer t in
        let k : length (digits_in t) ≡ length h.0 + 1 = ap (λ (xs : List ℕ). length xs) h.2 ∙ length-append h.0 (h.1 ∷ []) in
        omega arith

    at : (p : Place) → StandsAt p text b → length b ≤ length text
    at Between h = pairs text (inl h.1)
    at (InPair d) h = pairs text (inr (h.1.0, d, h.1.2, h.1.4))
    at (Bad place) h =
        let e = pairs h.0 h.6 in
        let k : length text ≡ length h.0 + suc (length h.1) = ap (λ (xs : List ℕ). length xs) h.3 ∙ length-append h.0 (h.2 ∷ h.1) in
        omega arith

-- ---- the steps of a run

-- no change of a target
abbrev pub unchanged : Option (List ℕ) → Bool → Change
unchanged held failed = record { held = held; holds = held; had_failed = failed; has_failed = failed }

-- the stream of a run that has come so far
stream_of : (t : Tree) (l : Limits) (hex : Bool) (s : Show) (text b : List ℕ) (es : List EventData) → Progress t l hex s text b es → EndsWell t l s.decoder b es
stream_of t l hex s text b es p = ends_well t l s.decoder b es p.set p.limits p.so p.good

-- a run that goes on
pub goes_on : (t : Tree) (l : Limits) (hex : Bool) (s s' : Show) (text b piece bytes : List ℕ) (es : List EventData) (w : Change) → Progress t l hex s text b es
    → s'.fronts ≡ s.fronts → (tree s'.decoder ≡ tree s.decoder) × (s'.decoder.limits ≡ s.decoder.limits)
    → is_some s'.unhexer ≡ is_some s.unhexer → s'.decoder.fault ≡ None
    → IsTaken s'.unhexer (text ++ piece) (b ++ bytes) → Fed t b es bytes s'.decoder w → GoesOn t l hex s' (text ++ piece) es w
goes_on t l hex s s' text b piece bytes es w p fronts same hex_same good taken fed = record {
  bytes = b ++ bytes;
  more = fed.more;
  progress = record {
    names = rw fronts p.names;
    set = same.0 ∙ p.set;
    limits = same.1 ∙ p.limits;
    so = fed.so;
    holds = All-append HoldsBytes es fed.more p.holds fed.holds;
    good = good;
    hex_is = hex_same ∙ p.hex_is;
    taken = taken;
  };
  written = fed.written;
  as_before = fed.as_before;
}

-- a bad character
pub bad_character_ends : (t : Tree) (l : Limits) (hex : Bool) (s : Show) (text : List ℕ) (es : List EventData) (w : Change) (place : ℕ)
    → GoesOn t l hex s text es w → IsBadPlace s.unhexer place
    → Ended t l hex ⊥ text es w (Err (BadHex place))
bad_character_ends t l hex s text es w place h bad =
    let p = h.progress in
    let e = stream_of t l hex s text h.bytes (es ++ h.more) p in
    let at = bad text h.bytes p.taken in
    let hexed : hex ≡ true = sym p.hex_is ∙ at.0 in
    record {
      out = lines t h.more;
      written = h.written;
      shown = (
        h.bytes,
        es ++ h.more,
        e.end,
        record {
          bytes = rw hexed at.1;
          stream = e.stream;
          holds = p.holds;
        },
        e.good,
        sym (lines-append t es h.more),
        inl at.2,
      );
      told = inr h.as_before;
    }

-- nothing more is written
nothing_more : (xs : List ℕ) → xs ++ [] ≡ xs
nothing_more xs = append-nil xs

-- a bad end
pub bad_end_ends : (t : Tree) (l : Limits) (hex : Bool) (s : Show) (text b : List ℕ) (es : List EventData) (held : Option (List ℕ))
    (failed : Bool) (place : ℕ) → Progress t l hex s text b es → StandsFor (is_some s.unhexer) text b (Some place)
    → Ended t l hex (Unit {0}) text es (unchanged held failed) (Err (BadHex place))
bad_end_ends t l hex s text b es held failed place p bad =
    let e = stream_of t l hex s text b es p in
    let at : StandsFor hex text b (Some place) = rw (← p.hex_is) bad in
    record {
      out = [];
      written = appends_none held;
      shown =
          (b, es, e.end, record { bytes = at; stream = e.stream; holds = p.holds }, e.good, nothing_more (lines t es), inr tt);
      told = inr refl;
    }

-- a good end
pub good_ends : (t : Tree) (l : Limits) (hex : Bool) (s : Show) (text b : List ℕ) (es : List EventData) (held : Option (List ℕ))
    (failed : Bool) → Progress t l hex s text b es → StandsFor (is_some s.unhexer) text b None → (account s.decoder).is_between ≡ true
    → Ended t l hex (Unit {0}) text es (unchanged held failed) (Ok Good)
good_ends t l hex s text b es held failed p bytes told =
    let e = stream_of t l hex s text b es p in
    let at : StandsFor hex text b None = rw (← p.hex_is) bytes in
    record {
      out = [];
      written = appends_none held;
      shown =
          (b, es, record { bytes = at; stream = ends_between t l s.decoder b es e told; holds = p.holds }, nothing_more (lines t es), tt);
      told = inr refl;
    }

-- an end inside a message
pub truncated_ends : (t : Tree) (l : Limits) (hex : Bool) (s : Show) (text b : List ℕ) (es : List EventData) (w : Change) (n : ℕ)
    → Progress t l hex s text b es → StandsFor (is_some s.unhexer) text b None → (account s.decoder).is_between ≡ false
    → n ≡ (account s.decoder).consumed
    → Appends w.held w.holds (truncated_line n) → w.has_failed ≡ w.had_failed → Ended t l hex (Unit {0}) text es w (Ok (Truncated n))
truncated_ends t l hex s text b es w n p bytes told count line stays =
    let e = stream_of t l hex s text b es p in
    let at : StandsFor hex text b None = rw (← p.hex_is) bytes in
    record {
      out = truncated_line n;
      written = line;
      shown = (
        b,
        es,
        record { bytes = at; stream = ends_inside t l s.decoder b es e told; holds = p.holds },
        count
            ∙ counts_all t l s.decoder b es e,
        refl,
        tt,
      );
      told = inr stays;
    }

-- an end inside a message, where the writer fails in its line
pub truncated_fails : (t : Tree) (l : Limits) (hex : Bool) (s : Show) (text b : List ℕ) (es : List EventData) (w : Change) (n : ℕ)
    → Progress t l hex s text b es → StandsFor (is_some s.unhexer) text b None → (account s.decoder).is_between ≡ false
    → n ≡ (account s.decoder).consumed
    → AppendsFront w.held w.holds (truncated_line n) → IsTrue w.has_failed → Ended t l hex (Unit {0}) text es w (Err Write)
truncated_fails t l hex s text b es w n p bytes told count line failed =
    let e = stream_of t l hex s text b es p in
    let at : StandsFor hex text b None = rw (← p.hex_is) bytes in
    let all : n ≡ length b = count ∙ counts_all t l s.decoder b es e in
    record {
      out = line.front;
      written = line.added;
      shown = (
        None,
        b,
        es,
        inside,
        truncated_line (length b),
        line.rest,
        at,
        ends_inside t l s.decoder b es e told,
        inr (refl, refl, tt),
        ap (λ (m : ℕ). lines t es ++ truncated_line m) (sym all) ∙ ap (λ (xs : List ℕ). lines t es ++ xs) line.is
            ∙ sym (append_assoc (lines t es) line.front line.rest),
        failed,
      );
      told = inl refl;
    }

-- one change after the other
abbrev pub both : Change → Change → Change
both w v = record { held = w.held; holds = v.holds; had_failed = w.had_failed; has_failed = v.has_failed }

-- The line of a fault behind the lines of its events.
fault_shown : (t : Tree) (l : Limits) (hex : Bool) (text b bytes : List ℕ) (es : List EventData) (d : DecoderData) (w v : Change)
    (f : Fault) (c : Code) (r : Result ShowEnd RunFault) → tree d ≡ t → d.limits ≡ l → d.fault ≡ Some f → f.code ≡ Why.Stream c
    → All HoldsBytes es → Fed t b es bytes d w → v.held ≡ w.holds → v.had_failed ≡ w.has_failed → (place : Option ℕ) × StandsFor hex text (b ++ bytes) place
    → (r ≡ Ok (Faulted f)) × Appends v.held v.holds (fault_line f.code f.place) × (v.has_failed ≡ v.had_failed) ⊎ (r ≡ Err Write)
    × AppendsFront v.held v.holds (fault_line f.code f.place) × IsTrue v.has_failed
    → Ended t l hex ⊥ text es (both w v) r
fault_shown t l hex text b bytes es d w v f c r set limits fault code holds fed on failed at (inl h) =
    let stream = ends_at_fault t l d (b ++ bytes) (es ++ fed.more) f c set limits fed.so fault code in
    let ended : Ended t l hex ⊥ text es (both w v) (Ok (Faulted f)) = record {
      out = lines t fed.more ++ fault_line f.code f.place;
      written = appends_both w.held w.holds v.holds (lines t fed.more) (fault_line f.code f.place) fed.written (rw (← on) h.1);
      shown = (
        at.0,
        b ++ bytes,
        es ++ fed.more,
        c,
        record {
          bytes = at.1;
          stream = stream;
          holds = All-append HoldsBytes es fed.more holds fed.holds;
        },
        code,
        sym (append_assoc (lines t es) (lines t fed.more) (fault_line f.code f.place))
            ∙ ap (λ (xs : List ℕ). xs ++ fault_line f.code f.place) (sym (lines-append t es fed.more)),
      );
      told = inr (h.2 ∙ failed ∙ fed.as_before);
    } in
    rw h.0 ended
fault_shown t l hex text b bytes es d w v f c r set limits fault code holds fed on failed at (inr h) =
    let stream = ends_at_fault t l d (b ++ bytes) (es ++ fed.more) f c set limits fed.so fault code in
    let line = h.1 in
    let text_of : fault_line (Why.Stream c) f.place ≡ line.front ++ line.rest = ap (λ (k : FaultCode). fault_line k f.place) (sym code) ∙ line.is in
    let ended : Ended t l hex ⊥ text es (both w v) (Err Write) = record {
      out = lines t fed.more ++ line.front;
      written = appends_both w.held w.holds v.holds (lines t fed.more) line.front fed.written (rw (← on) line.added);
      shown = (
        at.0,
        b ++ bytes,
        es ++ fed.more,
        faulted c f.place,
        fault_line (Why.Stream c) f.place,
        line.rest,
        at.1,
        stream,
        refl,
        regroup (lines t (es ++ fed.more)) (lines t es) (lines t fed.more) (fault_line (Why.Stream c) f.place) line.front line.rest
            (lines-append t es fed.more) text_of,
        h.2,
      );
      told = inl refl;
    } in
    rw h.0 ended
  where
    regroup : (all a m k x y : List ℕ) → all ≡ a ++ m → k ≡ x ++ y → all ++ k ≡ (a ++ (m ++ x)) ++ y
    regroup all a m k x y e g = rw (e, g) (simp append_assoc)

-- the lines of events of which a front was written
cut_shown : (t : Tree) (l : Limits) (hex : Bool) (text b bytes : List ℕ) (es : List EventData) (w v : Change) (r : Result ShowEnd RunFault)
    → CutShort t l b es bytes w → (place : Option ℕ) × StandsFor hex text (b ++ bytes) place
    → (r ≡ Err Write) × (v.holds ≡ v.held) × (v.has_failed ≡ v.had_failed) → v.held ≡ w.holds → v.had_failed ≡ w.has_failed
    → Ended t l hex ⊥ text es (both w v) r
cut_shown t l hex text b bytes es w v r cut at h on failed =
    let line = some_closing ⊥ at.0 (b ++ bytes) cut.end in
    let ended : Ended t l hex ⊥ text es (both w v) (Err Write) = record {
      out = cut.out;
      written = rw (h.1 ∙ on) cut.written;
      shown = (
        at.0,
        b ++ bytes,
        cut.all,
        cut.end,
        line.0,
        cut.rest ++ line.0,
        at.1,
        cut.stream,
        line.1,
        regroup (lines t cut.all) (lines t es) cut.out cut.rest line.0 cut.lines_are,
        rw (h.2 ∙ failed) cut.failed,
      );
      told = inl refl;
    } in
    rw h.0 ended
  where
    regroup : (all a x y k : List ℕ) → all ≡ a ++ x ++ y → all ++ k ≡ (a ++ x) ++ (y ++ k)
    regroup all a x y k e = rw e (simp append_assoc)

-- Where a feed stops at a fault the run ends.
pub fault_ends : (t : Tree) (l : Limits) (hex : Bool) (text b bytes : List ℕ) (es : List EventData) (d : DecoderData) (w v : Change)
    (f : Fault) (r : Result ShowEnd RunFault) → tree d ≡ t → d.limits ≡ l → d.fault ≡ Some f
    → All HoldsBytes es → IsFedAt t l b es bytes d w f.code → IsClosedAt f f.code v r → v.held ≡ w.holds → v.had_failed ≡ w.has_failed
    → (place : Option ℕ) × StandsFor hex text (b ++ bytes) place → Ended t l hex ⊥ text es (both w v) r
fault_ends t l hex text b bytes es d w v f r set limits fault holds fed closed on failed at = by_code f.code refl fed closed
  where
    by_code : (code : FaultCode) → f.code ≡ code → IsFedAt t l b es bytes d w code → IsClosedAt f code v r → Ended t l hex ⊥ text es (both w v) r
    by_code (Why.Stream c) code fed closed = fault_shown t l hex text b bytes es d w v f c r set limits fault code holds fed on failed at closed
    by_code Why.L4 code fed closed = absurd fed
    by_code Why.SinkStopped code fed closed = cut_shown t l hex text b bytes es w v r fed at closed on failed

-- ---- what a feed answers

-- a good answer
pub no_fault : (o : Option Fault) (u : Unit {0}) → Ok u ≡ answer o → o ≡ None
no_fault None u h = refl
no_fault (Some f) u h = absurd (cc)

-- the answer of a fault
pub this_fault : (o : Option Fault) (f : Fault) → Err f ≡ answer o → o ≡ Some f
this_fault None f h = absurd (cc)
this_fault (Some e) f h = cc

-- the lines of the set's own tree
pub fed_in : (u t : Tree) (b : List ℕ) (es : List EventData) (bytes : List ℕ) (d : DecoderData) (w : Change) → u ≡ t → Fed u b es bytes d w
    → Fed t b es bytes d w
fed_in u t b es bytes d w same h = subst (λ (v : Tree). Fed v b es bytes d w) same h

-- the same at a fault
pub fed_at_in : (u t : Tree) (k l : Limits) (b : List ℕ) (es : List EventData) (bytes : List ℕ) (d : DecoderData) (w : Change)
    (c : FaultCode) → u ≡ t → k ≡ l → IsFedAt u k b es bytes d w c → IsFedAt t l b es bytes d w c
fed_at_in u t k l b es bytes d w c same limits h = subst (λ (m : Limits). IsFedAt t m b es bytes d w c) limits
    (subst (λ (v : Tree). IsFedAt v k b es bytes d w c) same h)

-- How a run goes on or ends behind a piece whose bytes were fed.
pub piece_fed : {T : Type 0} (written : T → Option (List ℕ)) (has_failed : T → Bool) (old mid new : T) (t : Tree) (l : Limits) (hex : Bool)
    (s s' : Show) (text b piece bytes : List ℕ) (es : List EventData) (fed : Result (Unit {0}) Fault) (r : Option (Result ShowEnd RunFault))
    → Progress t l hex s text b es → s'.fronts ≡ s.fronts → (tree s'.decoder ≡ tree s.decoder) × (s'.decoder.limits ≡ s.decoder.limits)
    → is_some s'.unhexer ≡ is_some s.unhexer → fed ≡ answer s'.decoder.fault
    → IsTaken s'.unhexer (text ++ piece) (b ++ bytes) → IsFed (tree_of (set_of s.fronts).now) s.decoder.limits b es bytes s'.decoder
    (changed written has_failed old mid) fed
    → OnOk fed (new ≡ mid) → OnOk fed (MatchOption r (Unit {0})
    (λ (e : Result ShowEnd RunFault). (place : ℕ) × (e ≡ Err (BadHex place)) × IsBadPlace s'.unhexer place))
    → IfErr fed (λ (f : Fault). MatchOption r ⊥ (IsClosedAt f f.code (changed written has_failed mid new)))
    → MatchOption r (GoesOn t l hex s' (text ++ piece) es (changed written has_failed old new))
    (Ended t l hex ⊥ (text ++ piece) es (changed written has_failed old new))
piece_fed {T} written has_failed old mid new t l hex s s' text b piece bytes es (Ok u) r p fronts same hex_same told taken fed stays behind closed =
    let on = goes_on t l hex s s' text b piece bytes es (changed written has_failed old mid) p fronts same hex_same
    (no_fault _ _ told) taken (fed_in _ t b es bytes s'.decoder _ p.names fed) in
    subst (λ (z : T). MatchOption r (GoesOn t l hex s' (text ++ piece) es (changed written has_failed old z))
    (Ended t l hex ⊥ (text ++ piece) es (changed written has_failed old z))) (sym stays) (at r on behind)
  where
    at : (r : Option (Result ShowEnd RunFault)) → GoesOn t l hex s' (text ++ piece) es (changed written has_failed old mid)
        → MatchOption r (Unit {0}) (λ (e : Result ShowEnd RunFault). (place : ℕ) × (e ≡ Err (BadHex place)) × IsBadPlace s'.unhexer place)
        → MatchOption r (GoesOn t l hex s' (text ++ piece) es (changed written has_failed old mid))
        (Ended t l hex ⊥ (text ++ piece) es (changed written has_failed old mid))
    at None on h = on
    at (Some e) on h = rw h.1 (bad_character_ends t l hex s' (text ++ piece) es _ h.0 on h.2)
piece_fed written has_failed old mid new t l hex s s' text b piece bytes es
    (Err f) None p fronts same hex_same told taken fed stays behind closed = absurd closed
piece_fed written has_failed old mid new t l hex s s' text b piece bytes es (Err f) (Some r) p fronts same hex_same told taken fed stays behind closed =
    let at = stands_for s'.unhexer (text ++ piece) (b ++ bytes) taken in
    fault_ends t l hex (text ++ piece) b bytes es s'.decoder (changed written has_failed old mid) (changed written has_failed mid new) f r
    (same.0 ∙ p.set) (same.1 ∙ p.limits) (this_fault _ f told) p.holds
    (fed_at_in _ t s.decoder.limits l b es bytes s'.decoder _ f.code p.names p.limits fed) closed refl refl
    (at.0, rw (hex_same ∙ p.hex_is) at at.1)
