-- The events of messages nest.
use Rattle.std.proofs.Common.{◌≡◌, inl, inr, ℕ, suc, List, [], ◌∷◌, ◌++◌, refl, ap, sym, subst, ◌∙◌}
use Rattle.std.specs.Prelude.{slice_get, flat_map, Option, Some, None}
use Rattle.fast_value.specs.declared.settings.Limits.{Limits}
use Rattle.fast_value.specs.meaning.Messages.{ItemData, one, group as group_item, sequence as sequence_item, Slots, no_slots, absent}
use Rattle.fast_value.specs.meaning.Messages.{present, Elements, no_elements, element, count, MessageData}
use Rattle.fast_tree.specs.meaning.Tree.{Instruction, field, parts, group, sequence, Body, end, step, TemplateData, Tree}
use Rattle.fast_stream.specs.meaning.Events.{EventData, MessageStart, GroupStart, GroupEnd, ElementStart, ElementEnd, SequenceEnd}
use Rattle.fast_stream.specs.meaning.Events.{MessageEnd, element_events, group_events, sequence_events, value_events, item_events}
use Rattle.fast_stream.specs.meaning.Events.{body_events, template_events, events}
use Rattle.fast_stream.specs.meaning.Streams.{End}
use Rattle.fast_laws.specs.meaning.Nesting.{Open, a_message, a_group, a_sequence, an_element, in_segment, after_event, after_one, after_events, AreNested}
use Rattle.fast_laws.specs.meaning.Proper.{AreFirstOf, AreOfMessages}

-- events in two parts
two_parts : (o : Option (List Open)) (es fs : List EventData) → after_events o (es ++ fs) ≡ after_events (after_events o es) fs
two_parts o [] fs = refl
two_parts o (e ∷ es) fs = two_parts (after_one e o) es fs

nothing_behind : (es : List EventData) → after_events None es ≡ None
nothing_behind [] = refl
nothing_behind (e ∷ es) = nothing_behind es

-- Fields, groups and sequences may stand here.
abbrev IsSegment : List Open → Type 0
IsSegment os = (next : List Open) → in_segment os next ≡ Some next

-- events that open nothing in the end
abbrev Closes : List Open → List EventData → Type 0
Closes os es = after_events (Some os) es ≡ Some os

both_close : (os : List Open) (es fs : List EventData) → Closes os es → Closes os fs → Closes os (es ++ fs)
both_close os es fs h k = two_parts (Some os) es fs ∙ ap (λ (o : Option (List Open)). after_events o fs) h ∙ k

-- an opening event, events that close in what it opens, and the rest
opened : (e : EventData) (os inner : List Open) (es fs : List EventData) → after_event e os ≡ Some inner → Closes inner es
    → after_events (Some os) (e ∷ (es ++ fs)) ≡ after_events (Some inner) fs
opened e os inner es fs h k = ap (λ (o : Option (List Open)). after_events o (es ++ fs)) h ∙ two_parts (Some inner) es fs
    ∙ ap (λ (o : Option (List Open)). after_events o fs) k

value_closes : (os : List Open) (n : ℕ) (x : ItemData) → IsSegment os → Closes os (value_events n x)
value_closes os n (one v) h = h os
value_closes os n (group_item vs) h = refl
value_closes os n (sequence_item rows) h = refl

rows_close : (os : List Open) (events : Slots → List EventData) → ((vs : Slots) (os : List Open) → IsSegment os → Closes os (events vs)) → (rows : Elements)
    → after_events (Some (a_sequence (count rows) ∷ os)) (element_events events rows) ≡ Some (a_sequence 0 ∷ os)
rows_close os events f no_elements = refl
rows_close os events f (element vs rows) =
    opened ElementStart (a_sequence (suc (count rows)) ∷ os) (an_element ∷ a_sequence (count rows) ∷ os) (events vs)
    (ElementEnd ∷ element_events events rows) refl (f vs (an_element ∷ a_sequence (count rows) ∷ os) (λ next. refl))
    ∙ rows_close os events f rows

group_closes : (os : List Open) (n : ℕ) (events : Slots → List EventData)
    → ((vs : Slots) (os : List Open) → IsSegment os → Closes os (events vs)) → (x : ItemData) → IsSegment os
    → Closes os (group_events n events x)
group_closes os n events f (one v) h = refl
group_closes os n events f (group_item vs) h = opened (GroupStart n) os (a_group ∷ os) (events vs) (GroupEnd ∷ []) (h (a_group ∷ os))
    (f vs (a_group ∷ os) (λ next. refl))
group_closes os n events f (sequence_item rows) h = refl

sequence_closes : (os : List Open) (n : ℕ) (events : Slots → List EventData)
    → ((vs : Slots) (os : List Open) → IsSegment os → Closes os (events vs)) → (x : ItemData) → IsSegment os
    → Closes os (sequence_events n events x)
sequence_closes os n events f (one v) h = refl
sequence_closes os n events f (group_item vs) h = refl
sequence_closes os n events f (sequence_item rows) h =
    ap (λ (o : Option (List Open)). after_events o (element_events events rows ++ SequenceEnd ∷ [])) (h (a_sequence (count rows) ∷ os))
    ∙ two_parts (Some (a_sequence (count rows) ∷ os)) (element_events events rows) (SequenceEnd ∷ [])
    ∙ ap (λ (o : Option (List Open)). after_events o (SequenceEnd ∷ [])) (rows_close os events f rows)

mutual
  unfolding item_events body_events

  item_closes : (i : Instruction) (x : ItemData) (os : List Open) → IsSegment os → Closes os (item_events i x)
  item_closes (field l f) x os h = value_closes os l.node x h
  item_closes (parts l e m) x os h = value_closes os l.node x h
  item_closes (group l optional body) x os h = group_closes os l.node (body_events body) (body_closes body) x h
  item_closes (sequence l length body) x os h = sequence_closes os l.node (body_events body) (body_closes body) x h

  body_closes : (body : Body) (vs : Slots) (os : List Open) → IsSegment os → Closes os (body_events body vs)
  body_closes end vs os h = refl
  body_closes (step i is) no_slots os h = refl
  body_closes (step i is) (absent vs) os h = body_closes is vs os h
  body_closes (step i is) (present x vs) os h = both_close os (item_events i x) (body_events is vs) (item_closes i x os h) (body_closes is vs os h)

message_closes : (t : Tree) (m : MessageData) → Closes [] (events t m)
message_closes t m = by (slice_get t.templates m.template)
  where
    by : (u : Option TemplateData) → Closes [] (template_events m.template u m.slots)
    by None = refl
    by (Some u) = opened (MessageStart m.template) [] (a_message ∷ []) (body_events u.body m.slots) (MessageEnd ∷ []) refl
        (body_closes u.body m.slots (a_message ∷ []) (λ next. refl))

messages_close : (t : Tree) (ms : List MessageData) → Closes [] (flat_map (events t) ms)
messages_close t [] = refl
messages_close t (m ∷ ms) = both_close [] (events t m) (flat_map (events t) ms) (message_closes t m) (messages_close t ms)

-- a front of events that close
front_nests : (es rest : List EventData) → Closes [] (es ++ rest) → (os : List Open) × (after_events (Some []) es ≡ Some os)
front_nests es rest h = by (after_events (Some []) es) refl
  where
    by : (o : Option (List Open)) → after_events (Some []) es ≡ o → (os : List Open) × (after_events (Some []) es ≡ Some os)
    by (Some os) e = (os, e)
    by None e =
        let none : None ≡ Some [] = sym (nothing_behind rest) ∙ ap (λ (o : Option (List Open)). after_events o rest) (sym e)
        ∙ sym (two_parts (Some []) es rest) ∙ h in
        absurd (cc none)

first_nests : (t : Tree) (l : Limits) (es : List EventData) → AreFirstOf t l es → (os : List Open) × (after_events (Some []) es ≡ Some os)
first_nests t l es (inl e) = ([], ap (λ (z : List EventData). after_events (Some []) z) e)
first_nests t l es (inr (m, rest, proper, e)) = front_nests es rest (subst (Closes []) e (message_closes t m))

pub nested : (t : Tree) (l : Limits) (es : List EventData) (e : End) → AreOfMessages t l es e → AreNested es e
nested t l es e h =
    let (os, i) = first_nests t l h.front h.begun in
    let all : after_events (Some []) es ≡ after_events (Some []) h.front =
    ap (λ (z : List EventData). after_events (Some []) z) h.all
    ∙ two_parts (Some []) (flat_map (events t) h.messages) h.front ∙ ap (λ (o : Option (List Open)). after_events o h.front) (messages_close t h.messages) in
    (os, all ∙ i, λ b. same os i (h.none_between b))
  where
    same : (os : List Open) → after_events (Some []) h.front ≡ Some os → h.front ≡ [] → os ≡ []
    same os i none =
        let k : Some [] ≡ Some os = sym (ap (λ (z : List EventData). after_events (Some []) z) none) ∙ i in
        sym (cc k)
