-- The events of a message that suits its template have names in the set.
use Rattle.std.proofs.Common.{◌≡◌, ℕ, ◌<◌, ◌^◌, List, [], ◌∷◌, ◌++◌, ℤ, pos, negsuc, arith}
use Rattle.std.specs.Prelude.{All, flat_map, slice_get, zero, suc, Some}
use Rattle.std.proofs.lemmas.Int.{ints}
use Rattle.std.proofs.lemmas.List.Elements.{All-nil, All-cons, All-head, All-tail, All-append}
use Rattle.fast_value.specs.declared.kinds.Kind.{Kind}
use Rattle.fast_value.specs.declared.kinds.Kind.TheVariants.{UInt32, Int32, UInt64, Int64, Decimal, Ascii, Unicode, Bytes}
use Rattle.fast_value.specs.meaning.Kinds.{ScalarData, U, I, Dec, AsciiText, UnicodeText, ByteVector, IsWithin, signed_range, exponent_range}
use Rattle.fast_value.specs.meaning.Messages.{ItemData, one, group as group_item, sequence as sequence_item, Slots, no_slots, absent}
use Rattle.fast_value.specs.meaning.Messages.{present, Elements, no_elements, element, count, MessageData}
use Rattle.fast_tree.specs.meaning.Tree.{Label, Instruction, field, parts, group, sequence, Body, end, step, TemplateData, Tree}
use Rattle.fast_notation.specs.meaning.Labels.{labels, body_labels, template_labels}
use Rattle.fast_stream.specs.meaning.Events.{EventData, MessageStart, FieldValue, GroupStart, GroupEnd, SequenceStart, ElementStart}
use Rattle.fast_stream.specs.meaning.Events.{ElementEnd, SequenceEnd, MessageEnd, element_events, item_events, body_events, events}
use Rattle.fast_spelling.specs.meaning.Suiting.{IsRight, AreRight, Suits, SuitsBody, SuitsTemplate}
use Rattle.fast_messages.specs.meaning.Lined.{IsTold, IsNamed, IsLined, HasNames}

pub wider : (x : ℤ) → IsWithin (signed_range 31) x → IsWithin (signed_range 63) x
wider (pos n) h = let high = h.1 in (omega (arith, ints), omega (arith, ints, high))
wider (negsuc n) h = let low = h.0 in (omega (arith, ints, low), omega (arith, ints))

pub exponent : (x : ℤ) → IsWithin exponent_range x → IsWithin (signed_range 31) x
exponent (pos n) h = let high = h.1 in (omega (arith, ints), omega (arith, ints, high))
exponent (negsuc n) h = let low = h.0 in (omega (arith, ints, low), omega (arith, ints))

right_told : (kind : Kind) (v : ScalarData) → IsRight kind v → IsTold v
right_told UInt32 (U n) h = let small : n < 2 ^ 32 = h.1 in omega (arith, small)
right_told UInt32 (I n) h = absurd h.1
right_told UInt32 (Dec n m) h = absurd h.1
right_told UInt32 (AsciiText n) h = absurd h.1
right_told UInt32 (UnicodeText n) h = absurd h.1
right_told UInt32 (ByteVector n) h = absurd h.1
right_told Int32 (U n) h = absurd h.1
right_told Int32 (I n) h = wider n h.1
right_told Int32 (Dec n m) h = absurd h.1
right_told Int32 (AsciiText n) h = absurd h.1
right_told Int32 (UnicodeText n) h = absurd h.1
right_told Int32 (ByteVector n) h = absurd h.1
right_told UInt64 (U n) h = h.1
right_told UInt64 (I n) h = absurd h.1
right_told UInt64 (Dec n m) h = absurd h.1
right_told UInt64 (AsciiText n) h = absurd h.1
right_told UInt64 (UnicodeText n) h = absurd h.1
right_told UInt64 (ByteVector n) h = absurd h.1
right_told Int64 (U n) h = absurd h.1
right_told Int64 (I n) h = h.1
right_told Int64 (Dec n m) h = absurd h.1
right_told Int64 (AsciiText n) h = absurd h.1
right_told Int64 (UnicodeText n) h = absurd h.1
right_told Int64 (ByteVector n) h = absurd h.1
right_told Decimal (U n) h = absurd h.1
right_told Decimal (I n) h = absurd h.1
right_told Decimal (Dec n m) h = (exponent n h.1.0, h.1.1)
right_told Decimal (AsciiText n) h = absurd h.1
right_told Decimal (UnicodeText n) h = absurd h.1
right_told Decimal (ByteVector n) h = absurd h.1
right_told Ascii (U n) h = absurd h.1
right_told Ascii (I n) h = absurd h.1
right_told Ascii (Dec n m) h = absurd h.1
right_told Ascii (AsciiText n) h = tt
right_told Ascii (UnicodeText n) h = absurd h.1
right_told Ascii (ByteVector n) h = absurd h.1
right_told Unicode (U n) h = absurd h.1
right_told Unicode (I n) h = absurd h.1
right_told Unicode (Dec n m) h = absurd h.1
right_told Unicode (AsciiText n) h = absurd h.1
right_told Unicode (UnicodeText n) h = tt
right_told Unicode (ByteVector n) h = absurd h.1
right_told Bytes (U n) h = absurd h.1
right_told Bytes (I n) h = absurd h.1
right_told Bytes (Dec n m) h = absurd h.1
right_told Bytes (AsciiText n) h = absurd h.1
right_told Bytes (UnicodeText n) h = absurd h.1
right_told Bytes (ByteVector n) h = tt

abbrev pub Named : Tree → List Label → Type 0
Named t ls = All (λ l. IsNamed t l.node) ls

pub left : (t : Tree) (xs ys : List Label) → Named t (xs ++ ys) → Named t xs
left t [] ys h = All-nil (λ l. IsNamed t l.node)
left t (x ∷ xs) ys h = All-cons (λ l. IsNamed t l.node) x xs (All-head (λ l. IsNamed t l.node) x (xs ++ ys) h)
    (left t xs ys (All-tail (λ l. IsNamed t l.node) x (xs ++ ys) h))

pub right : (t : Tree) (xs ys : List Label) → Named t (xs ++ ys) → Named t ys
right t [] ys h = h
right t (x ∷ xs) ys h = right t xs ys (All-tail (λ l. IsNamed t l.node) x (xs ++ ys) h)

abbrev Lined : Tree → List EventData → Type 0
Lined t es = All (IsLined t) es

more : (t : Tree) (e : EventData) (es : List EventData) → IsLined t e → Lined t es → Lined t (e ∷ es)
more t e es h k = All-cons (IsLined t) e es h k

both : (t : Tree) (es fs : List EventData) → Lined t es → Lined t fs → Lined t (es ++ fs)
both t es fs h k = All-append (IsLined t) es fs h k

pub rows_lined : (t : Tree) (right : Slots → Type 0) (events : Slots → List EventData) → ((vs : Slots) → right vs → Lined t (events vs))
    → (rows : Elements) → AreRight right rows → Lined t (element_events events rows)
rows_lined t right events each no_elements h = All-nil (IsLined t)
rows_lined t right events each (element vs rows) h =
    more t ElementStart (events vs ++ ElementEnd ∷ element_events events rows) tt
    (both t (events vs) (ElementEnd ∷ element_events events rows) (each vs h.0)
    (more t ElementEnd (element_events events rows) tt (rows_lined t right events each rows h.1)))

mutual
  unfolding item_events body_events

  pub item_lined : (t : Tree) (i : Instruction) (x : ItemData) → Named t (labels i) → Suits i (Some x) → Lined t (item_events i x)
  item_lined t (field l f) (one v) n h = more t (FieldValue l.node v) [] (All-head (λ l. IsNamed t l.node) l [] n, right_told f.kind v h) (All-nil (IsLined t))
  item_lined t (field l f) (group_item vs) n h = absurd h
  item_lined t (field l f) (sequence_item rows) n h = absurd h
  item_lined t (parts l e m) (one (Dec x y)) n h = more t (FieldValue l.node (Dec x y)) []
      (All-head (λ l. IsNamed t l.node) l [] n, (exponent x h.0, h.1)) (All-nil (IsLined t))
  item_lined t (parts l e m) (one (U v)) n h = absurd h
  item_lined t (parts l e m) (one (I v)) n h = absurd h
  item_lined t (parts l e m) (one (AsciiText v)) n h = absurd h
  item_lined t (parts l e m) (one (UnicodeText v)) n h = absurd h
  item_lined t (parts l e m) (one (ByteVector v)) n h = absurd h
  item_lined t (parts l e m) (group_item vs) n h = absurd h
  item_lined t (parts l e m) (sequence_item rows) n h = absurd h
  item_lined t (group l optional body) (one v) n h = absurd h
  item_lined t (group l optional body) (sequence_item rows) n h = absurd h
  item_lined t (group l optional body) (group_item vs) n h =
      more t (GroupStart l.node) (body_events body vs ++ GroupEnd ∷ []) (All-head (λ l. IsNamed t l.node) l (body_labels body) n)
      (both t (body_events body vs) (GroupEnd ∷ []) (body_lined t body vs (All-tail (λ l. IsNamed t l.node) l (body_labels body) n) h)
      (more t GroupEnd [] tt (All-nil (IsLined t))))
  item_lined t (sequence l length body) (one v) n h = absurd h
  item_lined t (sequence l length body) (group_item vs) n h = absurd h
  item_lined t (sequence l length body) (sequence_item rows) n h =
      more t (SequenceStart l.node (count rows)) (element_events (body_events body) rows ++ SequenceEnd ∷ [])
      (All-head (λ l. IsNamed t l.node) l (body_labels body) n, h.1)
      (both t (element_events (body_events body) rows) (SequenceEnd ∷ [])
      (rows_lined t (SuitsBody body) (body_events body) (λ vs k. body_lined t body vs (All-tail (λ l. IsNamed t l.node) l (body_labels body) n) k) rows h.0)
      (more t SequenceEnd [] tt (All-nil (IsLined t))))

  pub body_lined : (t : Tree) (b : Body) (vs : Slots) → Named t (body_labels b) → SuitsBody b vs → Lined t (body_events b vs)
  body_lined t end no_slots n h = All-nil (IsLined t)
  body_lined t end (absent vs) n h = absurd h
  body_lined t end (present x vs) n h = absurd h
  body_lined t (step i is) no_slots n h = absurd h
  body_lined t (step i is) (absent vs) n h = body_lined t is vs (right t (labels i) (body_labels is) n) h.1
  body_lined t (step i is) (present x vs) n h = both t (item_events i x) (body_events is vs)
      (item_lined t i x (left t (labels i) (body_labels is) n) h.0) (body_lined t is vs (right t (labels i) (body_labels is) n) h.1)

pub template_named : (t : Tree) (k : ℕ) (us : List TemplateData) (u : TemplateData) → Named t (template_labels us)
    → slice_get us k ≡ Some u → Named t (body_labels u.body)
template_named t k [] u h found = absurd (cc found)
template_named t zero (v ∷ vs) u h found = let e : u ≡ v = cc found in rw (e) (left t (body_labels v.body) (template_labels vs) h)
template_named t (suc k) (v ∷ vs) u h found = template_named t k vs u (right t (body_labels v.body) (template_labels vs) h) found

pub message_lined : (t : Tree) (m : MessageData) → HasNames t → SuitsTemplate t m → Lined t (events t m)
message_lined t m names (u, found, h) =
    rw (found) (more t (MessageStart m.template) (body_events u.body m.slots ++ MessageEnd ∷ []) (u, found, names.templates m.template u found)
    (both t (body_events u.body m.slots) (MessageEnd ∷ [])
    (body_lined t u.body m.slots (template_named t m.template t.templates u names.nodes found) h)
    (more t MessageEnd [] tt (All-nil (IsLined t)))))

pub messages_lined : (t : Tree) (ms : List MessageData) → HasNames t → All (SuitsTemplate t) ms → Lined t (flat_map (events t) ms)
messages_lined t [] names h = All-nil (IsLined t)
messages_lined t (m ∷ ms) names h = both t (events t m) (flat_map (events t) ms)
    (message_lined t m names (All-head (SuitsTemplate t) m ms h)) (messages_lined t ms names (All-tail (SuitsTemplate t) m ms h))
