-- The elements that the events of a message announce are those of the message.
use Rattle.std.proofs.Common.{◌≡◌, inl, inr, ℕ, ◌+◌, ◌≤◌, List, [], ◌∷◌, ◌++◌, refl, ap, sym, subst, ◌∙◌, arith, append_assoc}
use Rattle.std.specs.Prelude.{All, flat_map, slice_get, Option, Some, None}
use Rattle.std.proofs.Math.Nat.{le_trans}
use Rattle.std.proofs.lemmas.List.Elements.{All-nil, All-cons, All-append}
use Rattle.fast_value.specs.declared.settings.Limits.{Limits}
use Rattle.fast_value.specs.meaning.Messages.{ItemData, one, group as group_item, sequence as sequence_item, Slots, no_slots, absent}
use Rattle.fast_value.specs.meaning.Messages.{present, Elements, no_elements, element, count, item_total, total, rows_total, MessageData}
use Rattle.fast_tree.specs.meaning.Tree.{Instruction, field, parts, group, sequence, Body, end, step, TemplateData, Tree}
use Rattle.fast_stream.specs.meaning.Events.{EventData, MessageStart, FieldValue, GroupStart, GroupEnd, SequenceStart, ElementStart}
use Rattle.fast_stream.specs.meaning.Events.{ElementEnd, SequenceEnd, MessageEnd, value_events, element_events, item_events, body_events}
use Rattle.fast_stream.specs.meaning.Events.{template_events, events}
use Rattle.fast_stream.specs.meaning.Streams.{End}
use Rattle.fast_notation.proofs.nodes.BuildingNeeds.{all_left, all_first, all_but_first}
use Rattle.fast_spelling.specs.meaning.Suiting.{AreWithinLimits, IsWithinLimits, RowsWithinLimits, AreRight, Suits, SuitsBody, SuitsTemplate}
use Rattle.fast_laws.specs.meaning.Counting.{counted_with, counted_from, counted, AreFew, HasFew}
use Rattle.fast_laws.specs.meaning.Proper.{IsProper, AreFirstOf, AreOfMessages}

pub two_parts : (k : ℕ) (es fs : List EventData) → counted_from k (es ++ fs) ≡ counted_from (counted_from k es) fs
two_parts k [] fs = refl
two_parts k (e ∷ es) fs = two_parts (counted_with e k) es fs

-- events that announce so many elements
abbrev Adds : ℕ → List EventData → Type 0
Adds n es = (k : ℕ) → counted_from k es ≡ k + n

both_add : (m n : ℕ) (es fs : List EventData) → Adds m es → Adds n fs → Adds (m + n) (es ++ fs)
both_add m n es fs h i k = two_parts k es fs ∙ i (counted_from k es) ∙ omega (arith, h k)

-- events between a start and an end
enclosed : (n : ℕ) (es : List EventData) (e : EventData) → ((k : ℕ) → counted_with e k ≡ k) → Adds n es → Adds n (es ++ e ∷ [])
enclosed n es e h i k = two_parts k es (e ∷ []) ∙ h (counted_from k es) ∙ i k

rows_add : (right : Slots → Type 0) (events : Slots → List EventData) → ((vs : Slots) → right vs → Adds (total vs) (events vs))
    → (rows : Elements) → AreRight right rows → Adds (rows_total rows) (element_events events rows)
rows_add right events f no_elements h k = omega arith
rows_add right events f (element vs rows) h k =
    two_parts k (events vs) (ElementEnd ∷ element_events events rows) ∙ rows_add right events f rows h.1 (counted_from k (events vs))
    ∙ omega (arith, f vs h.0 k)

mutual
  unfolding item_events body_events

  item_adds : (i : Instruction) (x : ItemData) → Suits i (Some x) → Adds (item_total x) (item_events i x)
  item_adds (field at f) (one v) h k = omega arith
  item_adds (field at f) (group_item vs) h k = absurd h
  item_adds (field at f) (sequence_item rows) h k = absurd h
  item_adds (parts at e m) (one v) h k = omega arith
  item_adds (parts at e m) (group_item vs) h k = absurd h
  item_adds (parts at e m) (sequence_item rows) h k = absurd h
  item_adds (group at optional body) (group_item vs) h k = enclosed (total vs) (body_events body vs) GroupEnd (λ n. refl) (slots_add body vs h) k
  item_adds (group at optional body) (one v) h k = absurd h
  item_adds (group at optional body) (sequence_item rows) h k = absurd h
  item_adds (sequence at f body) (sequence_item rows) h k =
      enclosed (rows_total rows) (element_events (body_events body) rows) SequenceEnd (λ n. refl)
      (rows_add (SuitsBody body) (body_events body) (λ vs h. slots_add body vs h) rows h.0) (k + count rows) ∙ omega arith
  item_adds (sequence at f body) (one v) h k = absurd h
  item_adds (sequence at f body) (group_item vs) h k = absurd h

  slots_add : (body : Body) (vs : Slots) → SuitsBody body vs → Adds (total vs) (body_events body vs)
  slots_add end no_slots h k = omega arith
  slots_add end (absent vs) h k = absurd h
  slots_add end (present x vs) h k = absurd h
  slots_add (step i is) no_slots h k = absurd h
  slots_add (step i is) (absent vs) h k = slots_add is vs h.1 k
  slots_add (step i is) (present x vs) h k = both_add (item_total x) (total vs) (item_events i x) (body_events is vs) (item_adds i x h.0)
      (slots_add is vs h.1) k

-- a message, whatever stands before it
message_counts : (t : Tree) (m : MessageData) → SuitsTemplate t m → (k : ℕ) → counted_from k (events t m) ≡ total m.slots
message_counts t m (u, at, suits) k =
    ap (λ (z : Option TemplateData). counted_from k (template_events m.template z m.slots)) at
    ∙ enclosed (total m.slots) (body_events u.body m.slots) MessageEnd (λ n. refl) (slots_add u.body m.slots suits) 0 ∙ omega arith

pub total_is_counted : (t : Tree) (m : MessageData) → SuitsTemplate t m → counted (events t m) ≡ total m.slots
total_is_counted t m suits = message_counts t m suits 0

-- Events behind a message's start announce no fewer as they go on.
abbrev IsNoStart : EventData → Type 0
IsNoStart (MessageStart n) = ⊥
IsNoStart e = Unit {0}

abbrev HaveNoStart : List EventData → Type 0
HaveNoStart [] = Unit {0}
HaveNoStart (e ∷ es) = IsNoStart e × HaveNoStart es

both_no_start : (es fs : List EventData) → HaveNoStart es → HaveNoStart fs → HaveNoStart (es ++ fs)
both_no_start [] fs h i = i
both_no_start (e ∷ es) fs h i = (h.0, both_no_start es fs h.1 i)

later_no_start : (es fs : List EventData) → HaveNoStart (es ++ fs) → HaveNoStart fs
later_no_start [] fs h = h
later_no_start (e ∷ es) fs h = later_no_start es fs h.1

value_no_start : (n : ℕ) (x : ItemData) → HaveNoStart (value_events n x)
value_no_start n (one v) = (tt, tt)
value_no_start n (group_item vs) = tt
value_no_start n (sequence_item rows) = tt

rows_no_start : (events : Slots → List EventData) → ((vs : Slots) → HaveNoStart (events vs)) → (rows : Elements) → HaveNoStart (element_events events rows)
rows_no_start events f no_elements = tt
rows_no_start events f (element vs rows) = (tt, both_no_start (events vs) (ElementEnd ∷ element_events events rows) (f vs) (tt, rows_no_start events f rows))

mutual
  unfolding item_events body_events

  item_no_start : (i : Instruction) (x : ItemData) → HaveNoStart (item_events i x)
  item_no_start (field at f) x = value_no_start at.node x
  item_no_start (parts at e m) x = value_no_start at.node x
  item_no_start (group at optional body) (group_item vs) = (tt, both_no_start (body_events body vs) (GroupEnd ∷ []) (slots_no_start body vs) (tt, tt))
  item_no_start (group at optional body) (one v) = tt
  item_no_start (group at optional body) (sequence_item rows) = tt
  item_no_start (sequence at f body) (sequence_item rows) = (
    tt,
    both_no_start (element_events (body_events body) rows) (SequenceEnd ∷ [])
        (rows_no_start (body_events body) (λ vs. slots_no_start body vs) rows) (tt, tt),
  )
  item_no_start (sequence at f body) (one v) = tt
  item_no_start (sequence at f body) (group_item vs) = tt

  slots_no_start : (body : Body) (vs : Slots) → HaveNoStart (body_events body vs)
  slots_no_start end vs = tt
  slots_no_start (step i is) no_slots = tt
  slots_no_start (step i is) (absent vs) = slots_no_start is vs
  slots_no_start (step i is) (present x vs) = both_no_start (item_events i x) (body_events is vs) (item_no_start i x) (slots_no_start is vs)

one_grows : (e : EventData) (k : ℕ) → IsNoStart e → k ≤ counted_with e k
one_grows (MessageStart n) k h = absurd h
one_grows (SequenceStart n count) k h = omega arith
one_grows (FieldValue n v) k h = omega arith
one_grows (GroupStart n) k h = omega arith
one_grows GroupEnd k h = omega arith
one_grows ElementStart k h = omega arith
one_grows ElementEnd k h = omega arith
one_grows SequenceEnd k h = omega arith
one_grows MessageEnd k h = omega arith

grows : (es : List EventData) (k : ℕ) → HaveNoStart es → k ≤ counted_from k es
grows [] k h = omega arith
grows (e ∷ es) k h = le_trans (one_grows e k h.0) (grows es (counted_with e k) h.1)

-- Within a number at each moment.
module _ (n : ℕ) where
  abbrev Few : ℕ → List EventData → Type 0
  Few k es = (fs gs : List EventData) → es ≡ fs ++ gs → counted_from k fs ≤ n

  few_none : (k : ℕ) → k ≤ n → Few k []
  few_none k h [] gs e = h
  few_none k h (x ∷ fs) gs e = absurd (cc e)

  few_more : (k : ℕ) (e : EventData) (es : List EventData) → k ≤ n → Few (counted_with e k) es → Few k (e ∷ es)
  few_more k e es h f [] gs q = h
  few_more k e es h f (x ∷ fs) gs q =
      let first : e ≡ x = cc q in
      let rest : es ≡ fs ++ gs = cc q in
      subst (λ (z : EventData). counted_from (counted_with z k) fs ≤ n) first (f fs gs rest)

  few_both : (k : ℕ) (es fs : List EventData) → Few k es → Few (counted_from k es) fs → Few k (es ++ fs)
  few_both k [] fs f g = g
  few_both k (e ∷ es) fs f g = few_more k e (es ++ fs) (f [] (e ∷ es) refl)
      (few_both (counted_with e k) es fs (λ gs hs q. f (e ∷ gs) hs (ap (λ (z : List EventData). e ∷ z) q)) g)

  few_first : (k : ℕ) (es fs : List EventData) → Few k (es ++ fs) → Few k es
  few_first k es fs f gs hs q = f gs (hs ++ fs) (ap (λ (z : List EventData). z ++ fs) q ∙ append_assoc gs hs fs)

  few_grown : (k : ℕ) (es : List EventData) → HaveNoStart es → counted_from k es ≤ n → Few k es
  few_grown k es none h fs gs q =
      le_trans (grows gs (counted_from k fs) (later_no_start fs gs (subst HaveNoStart q none)))
      (subst (λ (z : ℕ). z ≤ n) (ap (counted_from k) q ∙ two_parts k fs gs) h)

  message_few : (t : Tree) (m : MessageData) (k : ℕ) → k ≤ n → SuitsTemplate t m → total m.slots ≤ n → Few k (events t m)
  message_few t m k h (u, at, suits) few =
      subst (Few k) (sym (ap (λ (z : Option TemplateData). template_events m.template z m.slots) at))
      (few_more k (MessageStart m.template) (body_events u.body m.slots ++ MessageEnd ∷ []) h
      (few_grown 0 (body_events u.body m.slots ++ MessageEnd ∷ [])
      (both_no_start (body_events u.body m.slots) (MessageEnd ∷ []) (slots_no_start u.body m.slots) (tt, tt))
      (omega (arith, few, enclosed (total m.slots) (body_events u.body m.slots) MessageEnd (λ n. refl) (slots_add u.body m.slots suits) 0))))

messages_few : (t : Tree) (l : Limits) (ms : List MessageData) (k : ℕ) → k ≤ l.max_total → All (IsProper t l) ms
    → Few l.max_total k (flat_map (events t) ms) × (counted_from k (flat_map (events t) ms) ≤ l.max_total)
messages_few t l [] k h proper = (few_none l.max_total k h, h)
messages_few t l (m ∷ ms) k h proper =
    let here = all_first (IsProper t l) m ms proper in
    let total_is = message_counts t m here.suits k in
    let (later, last) = messages_few t l ms (counted_from k (events t m)) (omega (arith, total_is, here.fits.1)) (all_but_first (IsProper t l) m ms proper) in (
      few_both l.max_total k (events t m) (flat_map (events t) ms) (message_few l.max_total t m k h here.suits here.fits.1) later,
      omega (arith, last, two_parts k (events t m) (flat_map (events t) ms)),
    )

first_few : (t : Tree) (l : Limits) (es : List EventData) (k : ℕ) → k ≤ l.max_total → AreFirstOf t l es → Few l.max_total k es
first_few t l es k h (inl e) = subst (Few l.max_total k) (sym e) (few_none l.max_total k h)
first_few t l es k h (inr (m, rest, proper, e)) = few_first l.max_total k es rest
    (subst (Few l.max_total k) e (message_few l.max_total t m k h proper.suits proper.fits.1))

pub few : (t : Tree) (l : Limits) (es : List EventData) (e : End) → AreOfMessages t l es e → AreFew l es
few t l es e h =
    let (before, last) = messages_few t l h.messages 0 (omega arith) h.proper in
    subst (Few l.max_total 0) (sym h.all) (few_both l.max_total 0 (flat_map (events t) h.messages) h.front before
    (first_few t l h.front (counted_from 0 (flat_map (events t) h.messages)) last h.begun))

-- each sequence
module _ (l : Limits) where
  abbrev P : EventData → Type 0
  P = HasFew l

  one_few : (e : EventData) → P e → All P (e ∷ [])
  one_few e h = All-cons P e [] h (All-nil P)

  value_few : (n : ℕ) (x : ItemData) → All P (value_events n x)
  value_few n (one v) = one_few (FieldValue n v) tt
  value_few n (group_item vs) = All-nil P
  value_few n (sequence_item rows) = All-nil P

  rows_few : (events : Slots → List EventData) → ((vs : Slots) → AreWithinLimits l vs → All P (events vs)) → (rows : Elements)
      → RowsWithinLimits l rows → All P (element_events events rows)
  rows_few events f no_elements h = All-nil P
  rows_few events f (element vs rows) h =
      All-cons P ElementStart (events vs ++ ElementEnd ∷ element_events events rows) tt
      (All-append P (events vs) (ElementEnd ∷ element_events events rows) (f vs h.0)
      (All-cons P ElementEnd (element_events events rows) tt (rows_few events f rows h.1)))

  mutual
    unfolding item_events body_events

    item_few : (i : Instruction) (x : ItemData) → IsWithinLimits l x → All P (item_events i x)
    item_few (field at f) x h = value_few at.node x
    item_few (parts at e m) x h = value_few at.node x
    item_few (group at optional body) (group_item vs) h = All-cons P (GroupStart at.node) (body_events body vs ++ GroupEnd ∷ []) tt
        (All-append P (body_events body vs) (GroupEnd ∷ []) (slots_few body vs h) (one_few GroupEnd tt))
    item_few (group at optional body) (one v) h = All-nil P
    item_few (group at optional body) (sequence_item rows) h = All-nil P
    item_few (sequence at f body) (sequence_item rows) h =
        All-cons P (SequenceStart at.node (count rows)) (element_events (body_events body) rows ++ SequenceEnd ∷ []) h.0
        (All-append P (element_events (body_events body) rows) (SequenceEnd ∷ [])
        (rows_few (body_events body) (λ vs h. slots_few body vs h) rows h.1) (one_few SequenceEnd tt))
    item_few (sequence at f body) (one v) h = All-nil P
    item_few (sequence at f body) (group_item vs) h = All-nil P

    slots_few : (body : Body) (vs : Slots) → AreWithinLimits l vs → All P (body_events body vs)
    slots_few end vs h = All-nil P
    slots_few (step i is) no_slots h = All-nil P
    slots_few (step i is) (absent vs) h = slots_few is vs h
    slots_few (step i is) (present x vs) h = All-append P (item_events i x) (body_events is vs) (item_few i x h.0) (slots_few is vs h.1)

  message_each : (t : Tree) (m : MessageData) → AreWithinLimits l m.slots → All P (events t m)
  message_each t m h = by (slice_get t.templates m.template)
    where
      by : (u : Option TemplateData) → All P (template_events m.template u m.slots)
      by None = All-nil P
      by (Some u) = All-cons P (MessageStart m.template) (body_events u.body m.slots ++ MessageEnd ∷ []) tt
          (All-append P (body_events u.body m.slots) (MessageEnd ∷ []) (slots_few u.body m.slots h) (one_few MessageEnd tt))

  messages_each : (t : Tree) (ms : List MessageData) → All (IsProper t l) ms → All P (flat_map (events t) ms)
  messages_each t [] h = All-nil P
  messages_each t (m ∷ ms) h =
      All-append P (events t m) (flat_map (events t) ms) (message_each t m (all_first (IsProper t l) m ms h).fits.0)
      (messages_each t ms (all_but_first (IsProper t l) m ms h))

  first_each : (t : Tree) (es : List EventData) → AreFirstOf t l es → All P es
  first_each t es (inl e) = subst (All P) (sym e) (All-nil P)
  first_each t es (inr (m, rest, proper, e)) = all_left P es rest (subst (All P) e (message_each t m proper.fits.0))

pub each_few : (t : Tree) (l : Limits) (es : List EventData) (e : End) → AreOfMessages t l es e → All (HasFew l) es
each_few t l es e h = subst (All (HasFew l)) (sym h.all)
    (All-append (HasFew l) (flat_map (events t) h.messages) h.front (messages_each l t h.messages h.proper)
    (first_each l t h.front h.begun))
