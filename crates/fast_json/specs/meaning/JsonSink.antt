-- What a sink of JSON does to its target.
use Rattle.std.specs.Prelude.{◌≡◌, ℕ, Bool, IsTrue, List, [], Option}
use Rattle.fast_template.specs.meaning.Flat.{tree_of}
use Rattle.fast_stream.specs.declared.faults.Fault.{Fault}
use Rattle.fast_stream.specs.meaning.Events.{EventData}
use Rattle.fast_lines.specs.meaning.Values.{HoldsBytes}
use Rattle.fast_text.specs.meaning.Streams.{Appends, AppendsFront}
use Rattle.fast_json.specs.declared.json_sink.JsonSink.{JsonSink}
use Rattle.fast_json.specs.declared.keys.Keys.{Keys}
use Rattle.fast_json.specs.meaning.Brackets.{nesting_of}
use Rattle.fast_json.specs.meaning.Json.{Nesting, between_messages, event_text, after_event, json_fault, json_truncated}
use Rattle.fast_json.specs.meaning.Keys.{set_of, repeats_in}

-- the target of a sink, its keys, and what is open
abbrev pub target_of : {T : Type 0} → JsonSink T → T
target_of s = s.target

-- the keys of a sink
abbrev pub keys_of : {T : Type 0} → JsonSink T → Keys
keys_of s = s.keys.now

-- what is open in the object of the message
abbrev pub nesting_in : {T : Type 0} → JsonSink T → Nesting
nesting_in s = nesting_of s.brackets

-- the text of an event that a sink takes next
abbrev pub next_text : {T : Type 0} → JsonSink T → EventData → List ℕ
next_text s e = event_text (tree_of (set_of (keys_of s))) (repeats_in (keys_of s)) (nesting_in s).is_first e

-- The text of the event was written. The event is one of the Rust type.
pub record TakesEvent {T : Type 0} (written : T → Option (List ℕ)) (failed : T → Bool) (old : JsonSink T) (e : EventData) (new : JsonSink T) : Type 0 where
  pub keys : keys_of new ≡ keys_of old
  pub nesting : nesting_in new ≡ after_event (nesting_in old) e
  pub text : Appends (written (target_of old)) (written (target_of new)) (next_text old e)
  pub holds : HoldsBytes e
  pub as_before : failed (target_of new) ≡ failed (target_of old)

-- A front of the text was written to the target, which has failed.
pub record StopsInEvent {T : Type 0} (written : T → Option (List ℕ)) (failed : T → Bool) (old : JsonSink T) (e : EventData) (new : JsonSink T) : Type 0 where
  pub keys : keys_of new ≡ keys_of old
  pub front : AppendsFront (written (target_of old)) (written (target_of new)) (next_text old e)
  pub has_failed : IsTrue (failed (target_of new))

-- A text that is of no event was written, after which so much is open.
pub record PutsText {T : Type 0} (written : T → Option (List ℕ)) (failed : T → Bool) (old : JsonSink T) (text : List ℕ) (left : Nesting)
    (new : JsonSink T) : Type 0 where
  pub keys : keys_of new ≡ keys_of old
  pub nesting : nesting_in new ≡ left
  pub added : Appends (written (target_of old)) (written (target_of new)) text
  pub as_before : failed (target_of new) ≡ failed (target_of old)

-- all that was written before is written out
abbrev pub Flushes : {T : Type 0} → (T → Option (List ℕ)) → (T → Bool) → JsonSink T → JsonSink T → Type 0
Flushes written failed old new = PutsText written failed old [] (nesting_in old) new

-- the fault of a stream was written, and what was open has ended
abbrev pub PutsFault : {T : Type 0} → (T → Option (List ℕ)) → (T → Bool) → JsonSink T → Fault → JsonSink T → Type 0
PutsFault written failed old f new = PutsText written failed old (json_fault (nesting_in old).brackets f.code f.place) between_messages new

-- the end of a stream inside a message was written, and what was open has ended
abbrev pub PutsCut : {T : Type 0} → (T → Option (List ℕ)) → (T → Bool) → JsonSink T → ℕ → JsonSink T → Type 0
PutsCut written failed old n new = PutsText written failed old (json_truncated (nesting_in old).brackets n) between_messages new
