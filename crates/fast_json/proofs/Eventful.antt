-- Events that a sink has written.
use Rattle.std.proofs.Common.{◌≡◌, ℕ, Bool, IsTrue, List, [], ◌∷◌, ◌++◌, Option, Result, Ok, Err, refl, ap, sym, ◌∙◌, append_assoc}
use Rattle.std.specs.Prelude.{OnOk, OnErr, is_ok, All}
use Rattle.std.proofs.lemmas.List.Elements.{All-nil, All-cons}
use Rattle.fast_template.specs.meaning.Flat.{tree_of}
use Rattle.fast_tree.specs.meaning.Tree.{Tree}
use Rattle.fast_stream.specs.meaning.Events.{EventData}
use Rattle.fast_stream.specs.meaning.Sinks.{Takes}
use Rattle.fast_lines.specs.meaning.Values.{HoldsBytes}
use Rattle.fast_text.specs.declared.streams.Failed.{Failed}
use Rattle.fast_text.specs.declared.line_writer.LineWriter.{LineWriter}
use Rattle.fast_text.specs.meaning.Streams.{Appends, AppendsFront}
use Rattle.fast_text.specs.meaning.LineWriter.{Writes, IsFresh, Finishes}
use Rattle.fast_text.proofs.Writing.{appends_none, appends_both, ended_short, ended_whole}
use Rattle.fast_json.specs.declared.json_sink.JsonSink.{JsonSink}
use Rattle.fast_json.specs.declared.keys.Keys.{Keys}
use Rattle.fast_json.specs.meaning.Keys.{set_of, repeats_in}
use Rattle.fast_json.specs.meaning.Json.{Nesting, event_text, after_event, after_events, json_from}
use Rattle.fast_json.specs.meaning.JsonSink.{target_of, keys_of, nesting_in, next_text, TakesEvent, StopsInEvent}

-- the text of an event, which is written
pub takes_event : {T : Type 0} {written : T → Option (List ℕ)} {failed : T → Bool} {s t u : LineWriter T} {r : Result (Unit {0}) Failed}
    (old new : JsonSink T) (e : EventData)
    → keys_of new ≡ keys_of old → nesting_in new ≡ after_event (nesting_in old) e → s.target.now ≡ target_of old → target_of new ≡ u.target.now → IsFresh s
    → HoldsBytes e → Writes written failed s (next_text old e) t → Finishes written failed t u r → r ≡ Ok tt → TakesEvent written failed old e new
takes_event {T} {written} {failed} {s} {t} {u} {r} old new e keys nesting begins ends fresh holds h end ok =
    let w = ended_whole fresh h end ok in
    record { keys = keys; nesting = nesting; text = rw (← begins, ends) w.0; holds = holds; as_before = rw (← begins, ends) w.1 }

-- a front of the text of an event
pub stops_in_event : {T : Type 0} {written : T → Option (List ℕ)} {failed : T → Bool} {s t u : LineWriter T} {r : Result (Unit {0}) Failed}
    (old new : JsonSink T) (e : EventData) (f : Failed)
    → keys_of new ≡ keys_of old → s.target.now ≡ target_of old → target_of new ≡ u.target.now → IsFresh s
    → Writes written failed s (next_text old e) t → Finishes written failed t u r → r ≡ Err f → StopsInEvent written failed old e new
stops_in_event {T} {written} {failed} {s} {t} {u} {r} old new e f keys begins ends fresh h end failing =
    let w = ended_short f fresh h end failing in
    record { keys = keys; front = rw (← begins, ends) w.0; has_failed = rw ends w.1 }

-- where one outcome is good as the other is
pub on_ok_same : {E F P : Type 0} (r : Result (Unit {0}) E) (s : Result (Unit {0}) F) → is_ok s ≡ is_ok r → (r ≡ Ok tt → P) → OnOk s P
on_ok_same r (Err f) same then = tt
on_ok_same (Ok x) (Ok y) same then = then refl
on_ok_same (Err e) (Ok y) same then = absurd (cc)

-- where one outcome is bad as the other is
pub on_err_same : {E F P : Type 0} (r : Result (Unit {0}) E) (s : Result (Unit {0}) F) → is_ok s ≡ is_ok r → ((e : E) → r ≡ Err e → P) → OnErr s P
on_err_same r (Ok y) same then = tt
on_err_same (Err e) (Err f) same then = then e refl
on_err_same (Ok x) (Err f) same then = absurd (cc)

-- What became of a text: it was written, or a front of it was and the target failed.
pub record IsPut {T : Type 0} (written : T → Option (List ℕ)) (failed : T → Bool) (begun ended : T) (text : List ℕ)
    (r : Result (Unit {0}) Failed) : Type 0 where
  pub whole : OnOk r (Appends (written begun) (written ended) text)
  pub part : OnErr r (AppendsFront (written begun) (written ended) text)
  pub fails : OnErr r (IsTrue (failed ended))
  pub stays : OnOk r (failed ended ≡ failed begun)

-- from a writer that begins to one that has finished
pub is_put : {T : Type 0} {written : T → Option (List ℕ)} {failed : T → Bool} {s t u : LineWriter T} {text : List ℕ} (begun ended : T)
    (r : Result (Unit {0}) Failed)
    → s.target.now ≡ begun → ended ≡ u.target.now → IsFresh s → Writes written failed s text t → Finishes written failed t u r
    → IsPut written failed begun ended text r
is_put begun ended (Ok x) begins ends fresh h end =
    let w = ended_whole fresh h end refl in
    rw (← begins, ends) (record { whole = w.0; part = tt; fails = tt; stays = w.1 })
is_put begun ended (Err e) begins ends fresh h end =
    let w = ended_short e fresh h end refl in
    rw (← begins, ends) (record { whole = tt; part = w.0; fails = w.1; stays = tt })

-- the text of some events and of more
pub json_from-append : (t : Tree) (repeats : List ℕ) (s : Nesting) (es fs : List EventData)
    → json_from t repeats s (es ++ fs) ≡ json_from t repeats s es ++ json_from t repeats (after_events s es) fs
json_from-append t repeats s [] fs = refl
json_from-append t repeats s (e ∷ es) fs =
    ap (λ (xs : List ℕ). event_text t repeats s.is_first e ++ xs) (json_from-append t repeats (after_event s e) es fs)
    ∙ sym (append_assoc (event_text t repeats s.is_first e) (json_from t repeats (after_event s e) es)
    (json_from t repeats (after_events (after_event s e) es) fs))

-- what is open after some events and more
pub after_events-append : (s : Nesting) (es fs : List EventData) → after_events s (es ++ fs) ≡ after_events (after_events s es) fs
after_events-append s [] fs = refl
after_events-append s (e ∷ es) fs = after_events-append (after_event s e) es fs

-- A sink has written a text to its target.
pub record Wrote {T : Type 0} (written : T → Option (List ℕ)) (failed : T → Bool) (s : JsonSink T) (es : List EventData) (s' : JsonSink T) : Type 0 where
  pub keys : keys_of s' ≡ keys_of s
  pub nesting : nesting_in s' ≡ after_events (nesting_in s) es
  pub added : Appends (written (target_of s)) (written (target_of s')) (json_from (tree_of (set_of (keys_of s))) (repeats_in (keys_of s)) (nesting_in s) es)
  pub holds : All HoldsBytes es
  pub as_before : failed (target_of s') ≡ failed (target_of s)

-- a sink that takes events writes their JSON
pub takes_events : {T : Type 0} (written : T → Option (List ℕ)) (failed : T → Bool) (es : List EventData) (s s' : JsonSink T)
    → Takes (TakesEvent written failed) s es s' → Wrote written failed s es s'
takes_events written failed [] s s' h = rw h (record {
  keys = refl;
  nesting = refl;
  added = appends_none (written (target_of s));
  holds = All-nil HoldsBytes;
  as_before = refl;
})
takes_events written failed (e ∷ es) s s' h =
    let first = h.1 in
    let rest = takes_events written failed es h.0 s' h.2 in
    let same : json_from (tree_of (set_of (keys_of h.0))) (repeats_in (keys_of h.0)) (nesting_in h.0) es ≡ json_from
    (tree_of (set_of (keys_of s))) (repeats_in (keys_of s)) (after_event (nesting_in s) e) es
    = ap (λ (k : Keys). json_from (tree_of (set_of k)) (repeats_in k) (nesting_in h.0) es) first.keys
    ∙ ap (λ (n : Nesting). json_from (tree_of (set_of (keys_of s))) (repeats_in (keys_of s)) n es) first.nesting in
    record {
      keys = rest.keys ∙ first.keys;
      nesting = rest.nesting ∙ ap (λ (n : Nesting). after_events n es) first.nesting;
      added = appends_both _ _ _ (next_text s e) _ first.text (rw (← same) rest.added);
      holds = All-cons HoldsBytes e es first.holds rest.holds;
      as_before = rest.as_before ∙ first.as_before;
    }
