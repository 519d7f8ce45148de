-- The events of messages that suit their templates can be read back, where the elements of byte vectors are bytes.
use Rattle.std.proofs.Common.{ℕ, List, [], ◌∷◌, ◌++◌}
use Rattle.std.specs.Prelude.{All, flat_map, Some, true}
use Rattle.std.proofs.lemmas.List.Elements.{All-nil, All-cons, All-head, All-tail, All-append}
use Rattle.fast_value.specs.declared.kinds.Kind.{Kind}
use Rattle.fast_value.specs.declared.kinds.Kind.TheVariants.{Decimal}
use Rattle.fast_value.specs.declared.settings.Limits.{Limits}
use Rattle.fast_value.specs.meaning.Kinds.{ScalarData, U, I, Dec, AsciiText, UnicodeText, ByteVector}
use Rattle.fast_value.specs.meaning.Messages.{ItemData, one, group as group_item, sequence as sequence_item, Slots, no_slots, absent}
use Rattle.fast_value.specs.meaning.Messages.{present, Elements, no_elements, element, count, MessageData}
use Rattle.fast_tree.specs.meaning.Tree.{Instruction, field, parts, group, sequence, Body, end, step, Tree}
use Rattle.fast_stream.specs.meaning.Events.{EventData, MessageStart, FieldValue, GroupStart, GroupEnd, SequenceStart, ElementStart}
use Rattle.fast_stream.specs.meaning.Events.{ElementEnd, SequenceEnd, MessageEnd, element_events, item_events, body_events, events}
use Rattle.fast_spelling.specs.meaning.Suiting.{IsRight, AreRight, Suits, SuitsBody, SuitsTemplate}
use Rattle.fast_lines.specs.meaning.Values.{HoldsBytes}
use Rattle.fast_messages.specs.meaning.Lined.{IsShown}
use Rattle.fast_messages.proofs.values.Shown.{values_are_shown}

-- the event can be read back, if the elements of its vector are bytes
abbrev Shows : EventData → Type 0
Shows e = HoldsBytes e → IsShown e

limit : ℕ → Limits
limit room = record { strict = true; max_text = room; max_elements = 0; max_total = 0 }

value_shows : (n : ℕ) (kind : Kind) (v : ScalarData) → IsRight kind v → Shows (FieldValue n v)
unfolding limit
value_shows n kind v h b = values_are_shown (limit h.0) kind v h.1 b

more : (e : EventData) (es : List EventData) → Shows e → All Shows es → All Shows (e ∷ es)
more e es h k = All-cons Shows e es h k

both : (es fs : List EventData) → All Shows es → All Shows fs → All Shows (es ++ fs)
both es fs h k = All-append Shows es fs h k

plain : (e : EventData) (es : List EventData) → IsShown e → All Shows es → All Shows (e ∷ es)
plain e es h k = more e es (λ b. h) k

rows_show : (right : Slots → Type 0) (events : Slots → List EventData) → ((vs : Slots) → right vs → All Shows (events vs))
    → (rows : Elements) → AreRight right rows → All Shows (element_events events rows)
rows_show right events each no_elements h = All-nil Shows
rows_show right events each (element vs rows) h =
    plain ElementStart (events vs ++ ElementEnd ∷ element_events events rows) tt
    (both (events vs) (ElementEnd ∷ element_events events rows) (each vs h.0)
    (plain ElementEnd (element_events events rows) tt (rows_show right events each rows h.1)))

mutual
  unfolding item_events body_events

  item_shows : (i : Instruction) (x : ItemData) → Suits i (Some x) → All Shows (item_events i x)
  item_shows (field l f) (one v) h = more (FieldValue l.node v) [] (value_shows l.node f.kind v h) (All-nil Shows)
  item_shows (field l f) (group_item vs) h = absurd h
  item_shows (field l f) (sequence_item rows) h = absurd h
  item_shows (parts l e m) (one (Dec x y)) h = more (FieldValue l.node (Dec x y)) [] (value_shows l.node Decimal (Dec x y) (0, h)) (All-nil Shows)
  item_shows (parts l e m) (one (U v)) h = absurd h
  item_shows (parts l e m) (one (I v)) h = absurd h
  item_shows (parts l e m) (one (AsciiText v)) h = absurd h
  item_shows (parts l e m) (one (UnicodeText v)) h = absurd h
  item_shows (parts l e m) (one (ByteVector v)) h = absurd h
  item_shows (parts l e m) (group_item vs) h = absurd h
  item_shows (parts l e m) (sequence_item rows) h = absurd h
  item_shows (group l optional body) (one v) h = absurd h
  item_shows (group l optional body) (sequence_item rows) h = absurd h
  item_shows (group l optional body) (group_item vs) h =
      plain (GroupStart l.node) (body_events body vs ++ GroupEnd ∷ []) tt
      (both (body_events body vs) (GroupEnd ∷ []) (body_shows body vs h) (plain GroupEnd [] tt (All-nil Shows)))
  item_shows (sequence l length body) (one v) h = absurd h
  item_shows (sequence l length body) (group_item vs) h = absurd h
  item_shows (sequence l length body) (sequence_item rows) h =
      plain (SequenceStart l.node (count rows)) (element_events (body_events body) rows ++ SequenceEnd ∷ []) tt
      (both (element_events (body_events body) rows) (SequenceEnd ∷ [])
      (rows_show (SuitsBody body) (body_events body) (λ vs k. body_shows body vs k) rows h.0) (plain SequenceEnd [] tt (All-nil Shows)))

  body_shows : (b : Body) (vs : Slots) → SuitsBody b vs → All Shows (body_events b vs)
  body_shows end no_slots h = All-nil Shows
  body_shows end (absent vs) h = absurd h
  body_shows end (present x vs) h = absurd h
  body_shows (step i is) no_slots h = absurd h
  body_shows (step i is) (absent vs) h = body_shows is vs h.1
  body_shows (step i is) (present x vs) h = both (item_events i x) (body_events is vs) (item_shows i x h.0) (body_shows is vs h.1)

message_shows : (t : Tree) (m : MessageData) → SuitsTemplate t m → All Shows (events t m)
message_shows t m (u, found, h) =
    rw (found) (plain (MessageStart m.template) (body_events u.body m.slots ++ MessageEnd ∷ []) tt
    (both (body_events u.body m.slots) (MessageEnd ∷ []) (body_shows u.body m.slots h) (plain MessageEnd [] tt (All-nil Shows))))

all_show : (t : Tree) (ms : List MessageData) → All (SuitsTemplate t) ms → All Shows (flat_map (events t) ms)
all_show t [] h = All-nil Shows
all_show t (m ∷ ms) h = both (events t m) (flat_map (events t) ms) (message_shows t m (All-head (SuitsTemplate t) m ms h))
    (all_show t ms (All-tail (SuitsTemplate t) m ms h))

pub messages_are_shown : (t : Tree) (ms : List MessageData) → All (SuitsTemplate t) ms → All HoldsBytes (flat_map (events t) ms)
    → All IsShown (flat_map (events t) ms)
messages_are_shown t ms suit bytes = λ k e inside. all_show t ms suit k e inside (bytes k e inside)
