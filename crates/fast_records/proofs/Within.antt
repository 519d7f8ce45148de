-- Starts and ends nest in the events of an item, a body and elements: so where these end is told by the events alone.
use Rattle.std.proofs.Common.{◌≡◌, ℕ, zero, suc, List, [], ◌∷◌, ◌++◌, refl, ap, sym, ◌∙◌, append_assoc}
use Rattle.fast_value.specs.meaning.Messages.{ItemData, one, group as group_item, sequence as sequence_item, Slots, no_slots, absent}
use Rattle.fast_value.specs.meaning.Messages.{present, Elements, no_elements, element}
use Rattle.fast_tree.specs.meaning.Tree.{Instruction, field, parts, group, sequence, Body, end, step}
use Rattle.fast_stream.specs.meaning.Events.{EventData, MessageStart, FieldValue, GroupStart, GroupEnd, SequenceStart, ElementStart}
use Rattle.fast_stream.specs.meaning.Events.{ElementEnd, SequenceEnd, MessageEnd, element_events, item_events, body_events}

-- what is behind the end of what is open, with so much more open within it
abbrev past_end : ℕ → List EventData → List EventData
past_end d [] = []
past_end d (MessageStart n ∷ es) = past_end (suc d) es
past_end d (FieldValue n v ∷ es) = past_end d es
past_end d (GroupStart n ∷ es) = past_end (suc d) es
past_end d (SequenceStart n c ∷ es) = past_end (suc d) es
past_end d (ElementStart ∷ es) = past_end (suc d) es
past_end zero (GroupEnd ∷ es) = es
past_end (suc d) (GroupEnd ∷ es) = past_end d es
past_end zero (ElementEnd ∷ es) = es
past_end (suc d) (ElementEnd ∷ es) = past_end d es
past_end zero (SequenceEnd ∷ es) = es
past_end (suc d) (SequenceEnd ∷ es) = past_end d es
past_end zero (MessageEnd ∷ es) = es
past_end (suc d) (MessageEnd ∷ es) = past_end d es

-- It passes over elements, over an item and over a body.
over_rows : (events : Slots → List EventData) → ((vs : Slots) (d : ℕ) (es : List EventData) → past_end d (events vs ++ es) ≡ past_end d es)
    → (rows : Elements) (d : ℕ) (es : List EventData) → past_end d (element_events events rows ++ es) ≡ past_end d es
over_rows events over no_elements d es = refl
over_rows events over (element vs rows) d es =
    ap (λ (z : List EventData). past_end (suc d) z) (append_assoc (events vs) (ElementEnd ∷ element_events events rows) es)
    ∙ over vs (suc d) (ElementEnd ∷ (element_events events rows ++ es)) ∙ over_rows events over rows d es

mutual
  unfolding item_events body_events

  over_item : (i : Instruction) (x : ItemData) (d : ℕ) (es : List EventData) → past_end d (item_events i x ++ es) ≡ past_end d es
  over_item (field l f) (one v) d es = refl
  over_item (field l f) (group_item vs) d es = refl
  over_item (field l f) (sequence_item rows) d es = refl
  over_item (parts l e m) (one v) d es = refl
  over_item (parts l e m) (group_item vs) d es = refl
  over_item (parts l e m) (sequence_item rows) d es = refl
  over_item (group l optional body) (one v) d es = refl
  over_item (group l optional body) (group_item vs) d es =
      ap (λ (z : List EventData). past_end (suc d) z) (append_assoc (body_events body vs) (GroupEnd ∷ []) es) ∙ over_body body vs (suc d) (GroupEnd ∷ es)
  over_item (group l optional body) (sequence_item rows) d es = refl
  over_item (sequence l length body) (one v) d es = refl
  over_item (sequence l length body) (group_item vs) d es = refl
  over_item (sequence l length body) (sequence_item rows) d es =
      ap (λ (z : List EventData). past_end (suc d) z) (append_assoc (element_events (body_events body) rows) (SequenceEnd ∷ []) es)
      ∙ over_rows (body_events body) (over_body body) rows (suc d) (SequenceEnd ∷ es)

  over_body : (b : Body) (vs : Slots) (d : ℕ) (es : List EventData) → past_end d (body_events b vs ++ es) ≡ past_end d es
  over_body end vs d es = refl
  over_body (step i is) no_slots d es = refl
  over_body (step i is) (absent vs) d es = over_body is vs d es
  over_body (step i is) (present x vs) d es = ap (past_end d) (append_assoc (item_events i x) (body_events is vs) es)
      ∙ over_item i x d (body_events is vs ++ es) ∙ over_body is vs d es

-- So the events of a body and its end are followed by one rest.
pub element_rest : (b c : Body) (vs ws : Slots) (rest more : List EventData)
    → body_events b vs ++ ElementEnd ∷ rest ≡ body_events c ws ++ ElementEnd ∷ more → rest ≡ more
element_rest b c vs ws rest more same = sym (over_body b vs 0 (ElementEnd ∷ rest)) ∙ ap (past_end 0) same ∙ over_body c ws 0 (ElementEnd ∷ more)

pub message_rest : (b c : Body) (vs ws : Slots) (rest more : List EventData)
    → body_events b vs ++ MessageEnd ∷ rest ≡ body_events c ws ++ MessageEnd ∷ more → rest ≡ more
message_rest b c vs ws rest more same = sym (over_body b vs 0 (MessageEnd ∷ rest)) ∙ ap (past_end 0) same ∙ over_body c ws 0 (MessageEnd ∷ more)

-- what is behind the first event, and what that opens
abbrev past_first : List EventData → List EventData
past_first [] = []
past_first (FieldValue n v ∷ es) = es
past_first (GroupStart n ∷ es) = past_end 0 es
past_first (SequenceStart n c ∷ es) = past_end 0 es
past_first (MessageStart n ∷ es) = es
past_first (GroupEnd ∷ es) = es
past_first (ElementStart ∷ es) = es
past_first (ElementEnd ∷ es) = es
past_first (SequenceEnd ∷ es) = es
past_first (MessageEnd ∷ es) = es

-- The item has events.
abbrev pub IsThere : Instruction → ItemData → Type 0
IsThere (field l f) (one v) = Unit {0}
IsThere (parts l e m) (one v) = Unit {0}
IsThere (group l optional body) (group_item vs) = Unit {0}
IsThere (sequence l length body) (sequence_item rows) = Unit {0}
IsThere i x = ⊥

past_item : (i : Instruction) (x : ItemData) (es : List EventData) → IsThere i x → past_first (item_events i x ++ es) ≡ es
unfolding item_events
past_item (field l f) (one v) es h = refl
past_item (field l f) (group_item vs) es h = absurd h
past_item (field l f) (sequence_item rows) es h = absurd h
past_item (parts l e m) (one v) es h = refl
past_item (parts l e m) (group_item vs) es h = absurd h
past_item (parts l e m) (sequence_item rows) es h = absurd h
past_item (group l optional body) (one v) es h = absurd h
past_item (group l optional body) (group_item vs) es h = ap (past_end 0) (append_assoc (body_events body vs) (GroupEnd ∷ []) es)
    ∙ over_body body vs 0 (GroupEnd ∷ es)
past_item (group l optional body) (sequence_item rows) es h = absurd h
past_item (sequence l length body) (one v) es h = absurd h
past_item (sequence l length body) (group_item vs) es h = absurd h
past_item (sequence l length body) (sequence_item rows) es h =
    ap (past_end 0) (append_assoc (element_events (body_events body) rows) (SequenceEnd ∷ []) es)
    ∙ over_rows (body_events body) (over_body body) rows 0 (SequenceEnd ∷ es)

-- So are those of an item.
pub item_rest : (i j : Instruction) (x y : ItemData) (rest more : List EventData) → IsThere i x → IsThere j y
    → item_events i x ++ rest ≡ item_events j y ++ more → rest ≡ more
item_rest i j x y rest more h k same = sym (past_item i x rest h) ∙ ap past_first same ∙ past_item j y more k
