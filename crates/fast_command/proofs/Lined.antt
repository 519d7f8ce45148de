-- The lines that a sink has written.
use Rattle.std.proofs.Common.{◌≡◌, ℕ, ◌+◌, ◌<◌, ◌^◌, Bool, List, [], ◌∷◌, ◌++◌, Option, Result, Ok, Err, refl, ap, sym, subst, ◌∙◌, length}
use Rattle.std.proofs.Common.{take, drop, arith, append_assoc}
use Rattle.std.specs.Prelude.{All}
use Rattle.std.proofs.lemmas.List.{take-append-drop}
use Rattle.std.proofs.lemmas.List.Elements.{All-nil, All-cons, All-head, All-tail}
use Rattle.std.proofs.lemmas.Grind.{flat_map-append}
use Rattle.fast_value.specs.declared.settings.Limits.{Limits}
use Rattle.fast_tree.specs.meaning.Tree.{Tree}
use Rattle.fast_template.specs.meaning.Flat.{tree_of}
use Rattle.fast_stream.specs.declared.faults.Fault.{Fault}
use Rattle.fast_stream.specs.declared.faults.FaultCode.{FaultCode}
use Rattle.fast_stream.specs.declared.faults.FaultCode.TheVariants as Why
use Rattle.fast_stream.specs.meaning.Events.{EventData}
use Rattle.fast_stream.specs.meaning.Sinks.{Takes}
use Rattle.fast_stream.specs.meaning.Streams.{End, Stream, AreBytes}
use Rattle.fast_stream.specs.device.Running.{reading, run, message_begun, end_of}
use Rattle.fast_stream.proofs.streams.Reading.{reading-sound, reading-append, one_answer}
use Rattle.fast_decoder.specs.meaning.Decoding.{DecoderData, tree, Carried, CarriesAt, Carries, SinkEnds}
use Rattle.fast_lines.specs.meaning.Lines.{line_of, lines}
use Rattle.fast_lines.specs.meaning.Values.{HoldsBytes}
use Rattle.fast_text.specs.meaning.Streams.{Appends}
use Rattle.fast_text.specs.declared.line_sink.LineSink.{LineSink}
use Rattle.fast_text.specs.meaning.LineSink.{TakesLine, StopsInLine}
use Rattle.fast_text.proofs.Writing.{appends_none, appends_both}
use Rattle.fast_command.specs.device.Progress.{changed, Fed, CutShort, IsFed, IsFedAt}

-- lines of some events and of more
pub lines-append : (t : Tree) (es fs : List EventData) → lines t (es ++ fs) ≡ lines t es ++ lines t fs
lines-append t es fs = flat_map-append (λ (e : EventData). line_of t e ++ 0x0A ∷ []) es fs

-- the same text
appends_same : (old new : Option (List ℕ)) (a b : List ℕ) → a ≡ b → Appends old new a → Appends old new b
appends_same old new a b same h = record { after = rw (← same) h.after }

-- A sink has written a text to its target.
pub record Wrote {T : Type 0} (written : T → Option (List ℕ)) (failed : T → Bool) (s : LineSink T) (text : List ℕ) (s' : LineSink T) : Type 0 where
  pub names : s'.templates.now ≡ s.templates.now
  pub same_target : s'.target.ghost_name ≡ s.target.ghost_name
  pub added : Appends (written s.target.now) (written s'.target.now) text
  pub as_before : failed s'.target.now ≡ failed s.target.now

-- a sink that takes events writes their lines
pub takes_lines : {T : Type 0} (written : T → Option (List ℕ)) (failed : T → Bool) (t : Tree) (es : List EventData) (s s' : LineSink T)
    → tree_of s.templates.now ≡ t → Takes (TakesLine written failed) s es s' → Wrote written failed s (lines t es) s'
takes_lines written failed t [] s s' names h = rw h (record { names = refl; same_target = refl; added = appends_none (written s.target.now); as_before = refl })
takes_lines written failed t (e ∷ es) s s' names h =
    let first = h.1 in
    let rest = takes_lines written failed t es h.0 s' (ap tree_of first.set ∙ names) h.2 in
    let line = appends_same _ _ _ (line_of t e ++ 0x0A ∷ []) (ap (λ (u : Tree). line_of u e ++ 0x0A ∷ []) names) first.line in
    record {
      names = rest.names ∙ first.set;
      same_target = rest.same_target ∙ first.same_target;
      added = appends_both _ _ _ _ _ line rest.added;
      as_before = rest.as_before ∙ first.as_before;
    }

-- the events that it takes hold bytes
takes_bytes : {T : Type 0} (written : T → Option (List ℕ)) (failed : T → Bool) (es : List EventData) (s s' : LineSink T)
    → Takes (TakesLine written failed) s es s' → All HoldsBytes es
takes_bytes written failed [] s s' h = All-nil HoldsBytes
takes_bytes written failed (e ∷ es) s s' h = All-cons HoldsBytes e es h.1.holds (takes_bytes written failed es h.0 s' h.2)

-- where all events were taken
all_taken : {T : Type 0} (written : T → Option (List ℕ)) (failed : T → Bool) (t : Tree) (b : List ℕ) (es : List EventData) (bytes : List ℕ)
    (s : LineSink T) (d : DecoderData) (s' : LineSink T)
    → tree_of s.templates.now ≡ t → Carries (TakesLine written failed) b es bytes s d s'
    → Fed t b es bytes d (changed written failed s.target.now s'.target.now) × (s'.target.ghost_name ≡ s.target.ghost_name)
all_taken written failed t b es bytes s d s' names h =
    let w = takes_lines written failed t h.more s s' names h.took in
    (record { more = h.more; so = h.so; holds = takes_bytes written failed h.more s s' h.took; written = w.added; as_before = w.as_before }, w.same_target)

-- the lines of all events, where the sink stopped in the line of one of them
cut_lines : (t : Tree) (es earlier front rest : List EventData) (e : EventData) (begun left : List ℕ) → line_of t e ++ 0x0A ∷ [] ≡ begun ++ left
    → lines t (es ++ earlier ++ (front ++ e ∷ rest)) ≡ lines t es ++ (lines t earlier ++ (lines t front ++ begun)) ++ (left ++ lines t rest)
cut_lines t es earlier front rest e begun left h =
    lines-append t (es ++ earlier) (front ++ e ∷ rest)
    ∙ ap (λ (xs : List ℕ). xs ++ lines t (front ++ e ∷ rest)) (lines-append t es earlier)
    ∙ ap (λ (xs : List ℕ). (lines t es ++ lines t earlier) ++ xs)
    (lines-append t front (e ∷ rest) ∙ ap (λ (xs : List ℕ). lines t front ++ (xs ++ lines t rest)) h)
    ∙ regroup (lines t es) (lines t earlier) (lines t front) begun left (lines t rest)
  where
    regroup : (a b c d e f : List ℕ) → (a ++ b) ++ (c ++ ((d ++ e) ++ f)) ≡ a ++ (b ++ (c ++ d)) ++ (e ++ f)
    regroup a b c d e f = simp append_assoc

-- a front of bytes
front_bytes : (w v : List ℕ) → AreBytes (w ++ v) → AreBytes w
front_bytes [] v h = All-nil (λ b. b < 256)
front_bytes (b ∷ w) v h = All-cons (λ b. b < 256) b w (All-head (λ b. b < 256) b (w ++ v) h) (front_bytes w v (All-tail (λ b. b < 256) b (w ++ v) h))

-- More bytes give more events.
stream_on : (t : Tree) (l : Limits) (w v all : List ℕ) (es : List EventData) (e : End) → (w ++ v) ≡ all → AreBytes all → Stream t l w es e
    → (more : List EventData) × (end : End) × Stream t l all (es ++ more) end
stream_on t l w v all es e same bytes h =
    let whole : AreBytes (w ++ v) = subst AreBytes (sym same) bytes in
    let front : es ≡ (reading t l w).0 = (one_answer t l w es _ e _ h (reading-sound t l w (front_bytes w v whole))).0 in
    let more = (run (message_begun t l) (length w) (reading t l w).1 v).0 in
    let both : (reading t l (w ++ v)).0 ≡ es ++ more = (reading-append t l w v).0 ∙ ap (λ (fs : List EventData). fs ++ more) (sym front) in (
      more,
      end_of (reading t l (w ++ v)).1,
      subst (λ (z : List ℕ). Stream t l z (es ++ more) (end_of (reading t l (w ++ v)).1)) same
          (subst (λ (fs : List EventData). Stream t l (w ++ v) fs (end_of (reading t l (w ++ v)).1)) both (reading-sound t l (w ++ v) whole)),
    )

-- where the sink stopped
cut_short : {T : Type 0} (written : T → Option (List ℕ)) (failed : T → Bool) (t : Tree) (l : Limits) (old : DecoderData) (b : List ℕ)
    (es : List EventData) (bytes : List ℕ) (s : LineSink T) (place : ℕ) (s' : LineSink T)
    → tree_of s.templates.now ≡ t → tree old ≡ t → old.limits ≡ l → AreBytes (b ++ bytes)
    → SinkEnds (TakesLine written failed) (StopsInLine written failed) old b es bytes s place s'
    → CutShort t l b es bytes (changed written failed s.target.now s'.target.now) × (s'.target.ghost_name ≡ s.target.ghost_name)
cut_short written failed t l old b es bytes s place s' names set limits are h =
    let w = takes_lines written failed t h.earlier s h.mid names h.took in
    let in_time = h.stopped in
    let mid_names = ap tree_of w.names ∙ names in
    let v = takes_lines written failed t in_time.0 h.mid in_time.3 mid_names in_time.5 in
    let stop = in_time.6 in
    let last = stop.front in
    let line : line_of t in_time.2 ++ 0x0A ∷ [] ≡ last.front ++ last.rest =
    ap (λ (u : Tree). line_of u in_time.2 ++ 0x0A ∷ []) (sym (ap tree_of v.names ∙ mid_names)) ∙ last.is in
    let taken = take (h.bytes + 1) bytes in
    let left = drop (h.bytes + 1) bytes in
    let pieces : (b ++ taken) ++ left ≡ b ++ bytes = append_assoc b taken left ∙ ap (λ (xs : List ℕ). b ++ xs) (take-append-drop (h.bytes + 1) bytes) in
    let all = es ++ h.earlier ++ h.given in
    let (more, end, stream) = stream_on t l (b ++ taken) left (b ++ bytes) all h.end_after pieces are (rw (← set, ← limits) h.through) in
    let lines_all = ap (λ (fs : List EventData). lines t (es ++ h.earlier ++ fs)) in_time.4
    ∙ cut_lines t es h.earlier in_time.0 in_time.1 in_time.2 last.front last.rest line in (
      record {
        all = all ++ more;
        end = end;
        out = lines t h.earlier ++ (lines t in_time.0 ++ last.front);
        rest = (last.rest ++ lines t in_time.1) ++ lines t more;
        stream = stream;
        lines_are = lines-append t all more ∙ ap (λ (xs : List ℕ). xs ++ lines t more) lines_all
            ∙ regroup (lines t es) (lines t h.earlier ++ (lines t in_time.0 ++ last.front)) (last.rest ++ lines t in_time.1) (lines t more);
        written = appends_both _ _ _ _ _ w.added (appends_both _ _ _ _ _ v.added last.added);
        failed = stop.has_failed;
      },
      stop.same_target ∙ v.same_target ∙ w.same_target,
    )
  where
    regroup : (a o r m : List ℕ) → (a ++ o ++ r) ++ m ≡ a ++ o ++ (r ++ m)
    regroup a o r m = simp append_assoc

-- What a feed does to a sink of lines and its target.
pub fed_lines : {T : Type 0} (written : T → Option (List ℕ)) (failed : T → Bool) (t : Tree) (l : Limits) (old new : DecoderData)
    (b : List ℕ) (es : List EventData) (bytes : List ℕ) (s s' : LineSink T) (r : Result (Unit {0}) Fault)
    → tree_of s.templates.now ≡ t → tree old ≡ t → old.limits ≡ l → AreBytes (b ++ bytes) → old.consumed + length bytes < 2 ^ 64
    → Carried (TakesLine written failed) (StopsInLine written failed) old b es bytes s r new s'
    → IsFed t l b es bytes new (changed written failed s.target.now s'.target.now) r × (s'.target.ghost_name ≡ s.target.ghost_name)
fed_lines written failed t l old new b es bytes s s' (Ok u) names set limits are few h = all_taken written failed t b es bytes s new s' names h
fed_lines written failed t l old new b es bytes s s' (Err f) names set limits are few h = at f.code h
  where
    at : (code : FaultCode) → CarriesAt (TakesLine written failed) (StopsInLine written failed) old b es bytes s code f.place new s'
        → IsFedAt t l b es bytes new (changed written failed s.target.now s'.target.now) code × (s'.target.ghost_name ≡ s.target.ghost_name)
    at (Why.Stream c) h = all_taken written failed t b es bytes s new s' names h
    at Why.L4 h = absurd (let many = h.many in omega arith)
    at Why.SinkStopped h = cut_short written failed t l old b es bytes s f.place s' names set limits are h

-- the same, for a target that the sink was lent
pub fed_by : {T : Type 0} (written : T → Option (List ℕ)) (failed : T → Bool) (begun ended : T) (t : Tree) (l : Limits)
    (old new : DecoderData) (b : List ℕ) (es : List EventData) (bytes : List ℕ) (s s' : LineSink T) (r : Result (Unit {0}) Fault)
    → s.target.now ≡ begun → ended ≡ s'.target.now → tree_of s.templates.now ≡ t → tree old ≡ t → old.limits ≡ l → AreBytes (b ++ bytes)
    → old.consumed + length bytes < 2 ^ 64
    → Carried (TakesLine written failed) (StopsInLine written failed) old b es bytes s r new s'
    → IsFed t l b es bytes new (changed written failed begun ended) r
fed_by written failed begun ended t l old new b es bytes s s' r begins ends names set limits are few h =
    rw (← begins, ends) (fed_lines written failed t l old new b es bytes s s' r names set limits are few h).0

-- the sink keeps its target
pub fed_same_target : {T : Type 0} (written : T → Option (List ℕ)) (failed : T → Bool) (t : Tree) (l : Limits) (old new : DecoderData)
    (b : List ℕ) (es : List EventData) (bytes : List ℕ) (s s' : LineSink T) (r : Result (Unit {0}) Fault)
    → tree_of s.templates.now ≡ t → tree old ≡ t → old.limits ≡ l → AreBytes (b ++ bytes) → old.consumed + length bytes < 2 ^ 64
    → Carried (TakesLine written failed) (StopsInLine written failed) old b es bytes s r new s' → s'.target.ghost_name ≡ s.target.ghost_name
fed_same_target written failed t l old new b es bytes s s' r names set limits are few h =
    (fed_lines written failed t l old new b es bytes s s' r names set limits are few h).1
