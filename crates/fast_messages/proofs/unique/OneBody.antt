-- The events of a body are those of one list of slots.
use Rattle.std.proofs.Common.{◌≡◌, ◌≢◌, ℕ, List, [], ◌∷◌, ◌++◌, refl, ap, sym, ◌∙◌, append_assoc}
use Rattle.std.specs.Prelude.{Some}
use Rattle.fast_value.specs.meaning.Kinds.{ScalarData}
use Rattle.fast_value.specs.meaning.Messages.{ItemData, one, group as group_item, sequence as sequence_item, Slots, no_slots, absent}
use Rattle.fast_value.specs.meaning.Messages.{present, Elements, no_elements, element, count}
use Rattle.fast_tree.specs.meaning.Tree.{Instruction, field, parts, group, sequence, Body, end, step}
use Rattle.fast_stream.specs.meaning.Events.{EventData, FieldValue, GroupStart, GroupEnd, SequenceStart, ElementStart, ElementEnd}
use Rattle.fast_stream.specs.meaning.Events.{SequenceEnd, element_events, group_events, sequence_events, item_events, body_events}
use Rattle.fast_spelling.specs.meaning.Suiting.{AreRight, Suits, SuitsBody}
use Rattle.fast_messages.specs.meaning.Distinct.{number, HasNone, IsDistinct, AreDistinct}

-- the event names the node
abbrev pub Names : ℕ → EventData → Type 0
Names n (FieldValue m v) = m ≡ n
Names n (GroupStart m) = m ≡ n
Names n (SequenceStart m c) = m ≡ n
Names n e = ⊥

-- the first event doesn't name the node
abbrev pub Lacks : ℕ → List EventData → Type 0
Lacks n [] = Unit {0}
Lacks n (e ∷ es) = ¬ (Names n e)

-- the first event names no node
abbrev pub IsEnd : List EventData → Type 0
IsEnd es = (n : ℕ) → Lacks n es

-- The first event of an item names its node.
names_first : (n : ℕ) (i : Instruction) (x : ItemData) (rest : List EventData) → number i ≢ n → Suits i (Some x) → Lacks n (item_events i x ++ rest)
unfolding item_events body_events
names_first n (field l f) (one v) rest other h = other
names_first n (field l f) (group_item vs) rest other h = absurd h
names_first n (field l f) (sequence_item rows) rest other h = absurd h
names_first n (parts l e m) (one v) rest other h = other
names_first n (parts l e m) (group_item vs) rest other h = absurd h
names_first n (parts l e m) (sequence_item rows) rest other h = absurd h
names_first n (group l optional body) (one v) rest other h = absurd h
names_first n (group l optional body) (group_item vs) rest other h = other
names_first n (group l optional body) (sequence_item rows) rest other h = absurd h
names_first n (sequence l length body) (one v) rest other h = absurd h
names_first n (sequence l length body) (group_item vs) rest other h = absurd h
names_first n (sequence l length body) (sequence_item rows) rest other h = other

-- The first event of a body that has no such node doesn't name it.
pub past : (n : ℕ) (b : Body) (vs : Slots) (rest : List EventData) → HasNone n b → SuitsBody b vs → IsEnd rest → Lacks n (body_events b vs ++ rest)
unfolding item_events body_events
past n end no_slots rest none h ends = ends n
past n end (absent vs) rest none h ends = absurd h
past n end (present x vs) rest none h ends = absurd h
past n (step i is) no_slots rest none h ends = absurd h
past n (step i is) (absent vs) rest none h ends = past n is vs rest none.1 h.1 ends
past n (step i is) (present x vs) rest none h ends = rw (append_assoc (item_events i x) (body_events is vs) rest)
    (names_first n i x (body_events is vs ++ rest) none.0 h.0)

-- An item is there, so the events don't lack its node.
no_item : (i : Instruction) (x : ItemData) (rest : List EventData) → Suits i (Some x) → ¬ (Lacks (number i) (item_events i x ++ rest))
unfolding item_events body_events
no_item (field l f) (one v) rest h other = other refl
no_item (field l f) (group_item vs) rest h other = absurd h
no_item (field l f) (sequence_item rows) rest h other = absurd h
no_item (parts l e m) (one v) rest h other = other refl
no_item (parts l e m) (group_item vs) rest h other = absurd h
no_item (parts l e m) (sequence_item rows) rest h other = absurd h
no_item (group l optional body) (one v) rest h other = absurd h
no_item (group l optional body) (group_item vs) rest h other = other refl
no_item (group l optional body) (sequence_item rows) rest h other = absurd h
no_item (sequence l length body) (one v) rest h other = absurd h
no_item (sequence l length body) (group_item vs) rest h other = absurd h
no_item (sequence l length body) (sequence_item rows) rest h other = other refl

-- Of slots that suit, and events behind them that name no node, there is one choice.
abbrev pub OneChoice : (Slots → Type 0) → (Slots → List EventData) → Type 0
OneChoice right events =
    (vs ws : Slots) (rest more : List EventData) → right vs → right ws → IsEnd rest → IsEnd more → events vs ++ rest ≡ events ws ++ more
    → (vs ≡ ws) × (rest ≡ more)

pub element_is : (events : Slots → List EventData) (vs : Slots) (rows : Elements) (rest : List EventData)
    → element_events events (element vs rows) ++ rest ≡ ElementStart ∷ (events vs ++ ElementEnd ∷ (element_events events rows ++ rest))
element_is events vs rows rest = ap (λ q. ElementStart ∷ q) (append_assoc (events vs) (ElementEnd ∷ element_events events rows) rest)

pub same_rows : (right : Slots → Type 0) (events : Slots → List EventData) → OneChoice right events
    → (rows others : Elements) (rest more : List EventData) → AreRight right rows → AreRight right others
    → element_events events rows ++ SequenceEnd ∷ rest ≡ element_events events others ++ SequenceEnd ∷ more → (rows ≡ others) × (rest ≡ more)
same_rows right events choice no_elements no_elements rest more h k e = (refl, cc)
same_rows right events choice no_elements (element ws others) rest more h k e = absurd (cc e)
same_rows right events choice (element vs rows) no_elements rest more h k e = absurd (cc e)
same_rows right events choice (element vs rows) (element ws others) rest more h k e =
    let both : ElementStart ∷ (events vs ++ ElementEnd ∷ (element_events events rows ++ SequenceEnd ∷ rest)) ≡ ElementStart
    ∷ (events ws ++ ElementEnd ∷ (element_events events others ++ SequenceEnd ∷ more)) =
    sym (element_is events vs rows (SequenceEnd ∷ rest)) ∙ e ∙ element_is events ws others (SequenceEnd ∷ more) in
    let within : events vs ++ ElementEnd ∷ (element_events events rows ++ SequenceEnd ∷ rest) ≡ events ws
    ++ ElementEnd ∷ (element_events events others ++ SequenceEnd ∷ more) = cc (both) in
    let one = choice vs ws (ElementEnd ∷ (element_events events rows ++ SequenceEnd ∷ rest))
    (ElementEnd ∷ (element_events events others ++ SequenceEnd ∷ more)) h.0 k.0 (λ n x. x) (λ n x. x) within in
    let behind : element_events events rows ++ SequenceEnd ∷ rest ≡ element_events events others ++ SequenceEnd ∷ more = cc (one.1) in
    let later = same_rows right events choice rows others rest more h.1 k.1 behind in
    (cc (one.0, later.0), later.1)

-- A value is that of its event.
same_value : (n : ℕ) (v w : ScalarData) (rest more : List EventData) → FieldValue n v ∷ rest ≡ FieldValue n w ∷ more → (one v ≡ one w) × (rest ≡ more)
same_value n v w rest more e = (cc e, cc e)

same_group : (n : ℕ) (right : Slots → Type 0) (events : Slots → List EventData) → OneChoice right events
    → (vs ws : Slots) (rest more : List EventData) → right vs → right ws
    → group_events n events (group_item vs) ++ rest ≡ group_events n events (group_item ws) ++ more → (group_item vs ≡ group_item ws) × (rest ≡ more)
same_group n right events choice vs ws rest more h k e =
    let whole : (us : Slots) (q : List EventData) → group_events n events (group_item us)
    ++ q ≡ GroupStart n ∷ (events us ++ GroupEnd ∷ q) = λ us q. ap (λ z. GroupStart n ∷ z)
    (append_assoc (events us) (GroupEnd ∷ []) q) in
    let both : GroupStart n ∷ (events vs ++ GroupEnd ∷ rest) ≡ GroupStart n ∷ (events ws ++ GroupEnd ∷ more) = sym (whole vs rest) ∙ e ∙ whole ws more in
    let within : events vs ++ GroupEnd ∷ rest ≡ events ws ++ GroupEnd ∷ more = cc (both) in
    let one = choice vs ws (GroupEnd ∷ rest) (GroupEnd ∷ more) h k (λ n x. x) (λ n x. x) within in
    (ap (λ z. group_item z) one.0, cc (one.1))

same_sequence : (n : ℕ) (right : Slots → Type 0) (events : Slots → List EventData) → OneChoice right events
    → (rows others : Elements) (rest more : List EventData) → AreRight right rows → AreRight right others
    → sequence_events n events (sequence_item rows) ++ rest ≡ sequence_events n events (sequence_item others) ++ more
    → (sequence_item rows ≡ sequence_item others) × (rest ≡ more)
same_sequence n right events choice rows others rest more h k e =
    let whole : (us : Elements) (q : List EventData) → sequence_events n events (sequence_item us)
    ++ q ≡ SequenceStart n (count us) ∷ (element_events events us ++ SequenceEnd ∷ q) =
    λ us q. ap (λ z. SequenceStart n (count us) ∷ z) (append_assoc (element_events events us) (SequenceEnd ∷ []) q) in
    let both : SequenceStart n (count rows) ∷ (element_events events rows ++ SequenceEnd ∷ rest) ≡ SequenceStart n
    (count others) ∷ (element_events events others ++ SequenceEnd ∷ more) = sym (whole rows rest) ∙ e ∙ whole others more in
    let within : element_events events rows ++ SequenceEnd ∷ rest ≡ element_events events others ++ SequenceEnd ∷ more = cc (both) in
    let one = same_rows right events choice rows others rest more h k within in
    (ap (λ z. sequence_item z) one.0, one.1)

mutual
  unfolding item_events body_events

  pub same_item : (i : Instruction) (x y : ItemData) (rest more : List EventData) → IsDistinct i → Suits i (Some x) → Suits i (Some y)
      → item_events i x ++ rest ≡ item_events i y ++ more → (x ≡ y) × (rest ≡ more)
  same_item (field l f) (one v) (one w) rest more d h k e = same_value l.node v w rest more e
  same_item (field l f) (one v) (group_item ws) rest more d h k e = absurd k
  same_item (field l f) (one v) (sequence_item ws) rest more d h k e = absurd k
  same_item (field l f) (group_item vs) y rest more d h k e = absurd h
  same_item (field l f) (sequence_item vs) y rest more d h k e = absurd h
  same_item (parts l f m) (one v) (one w) rest more d h k e = same_value l.node v w rest more e
  same_item (parts l f m) (one v) (group_item ws) rest more d h k e = absurd k
  same_item (parts l f m) (one v) (sequence_item ws) rest more d h k e = absurd k
  same_item (parts l f m) (group_item vs) y rest more d h k e = absurd h
  same_item (parts l f m) (sequence_item vs) y rest more d h k e = absurd h
  same_item (group l optional body) (group_item vs) (group_item ws) rest more d h k e =
      same_group l.node (SuitsBody body) (body_events body) (same_body body d) vs ws rest more h k e
  same_item (group l optional body) (group_item vs) (one w) rest more d h k e = absurd k
  same_item (group l optional body) (group_item vs) (sequence_item ws) rest more d h k e = absurd k
  same_item (group l optional body) (one v) y rest more d h k e = absurd h
  same_item (group l optional body) (sequence_item vs) y rest more d h k e = absurd h
  same_item (sequence l length body) (sequence_item vs) (sequence_item ws) rest more d h k e =
      same_sequence l.node (SuitsBody body) (body_events body) (same_body body d) vs ws rest more h.0 k.0 e
  same_item (sequence l length body) (sequence_item vs) (one w) rest more d h k e = absurd k
  same_item (sequence l length body) (sequence_item vs) (group_item ws) rest more d h k e = absurd k
  same_item (sequence l length body) (one v) y rest more d h k e = absurd h
  same_item (sequence l length body) (group_item vs) y rest more d h k e = absurd h

  pub same_body : (b : Body) → AreDistinct b → OneChoice (SuitsBody b) (body_events b)
  same_body end d no_slots no_slots rest more h k ends stops e = (refl, e)
  same_body end d no_slots (absent ws) rest more h k ends stops e = absurd k
  same_body end d no_slots (present y ws) rest more h k ends stops e = absurd k
  same_body end d (absent vs) ws rest more h k ends stops e = absurd h
  same_body end d (present x vs) ws rest more h k ends stops e = absurd h
  same_body (step i is) d no_slots ws rest more h k ends stops e = absurd h
  same_body (step i is) d (absent vs) no_slots rest more h k ends stops e = absurd k
  same_body (step i is) d (present x vs) no_slots rest more h k ends stops e = absurd k
  same_body (step i is) d (absent vs) (absent ws) rest more h k ends stops e =
      let later = same_body is d.2 vs ws rest more h.1 k.1 ends stops e in
      (ap (λ z. absent z) later.0, later.1)
  same_body (step i is) d (absent vs) (present y ws) rest more h k ends stops e =
      absurd (no_item i y (body_events is ws ++ more) k.0 (rw (sym (append_assoc (item_events i y) (body_events is ws) more), sym e)
      (past (number i) is vs rest d.1 h.1 ends)))
  same_body (step i is) d (present x vs) (absent ws) rest more h k ends stops e =
      absurd (no_item i x (body_events is vs ++ rest) h.0 (rw (sym (append_assoc (item_events i x) (body_events is vs) rest), e)
      (past (number i) is ws more d.1 k.1 stops)))
  same_body (step i is) d (present x vs) (present y ws) rest more h k ends stops e =
      let both : item_events i x ++ (body_events is vs ++ rest) ≡ item_events i y ++ (body_events is ws ++ more) =
      sym (append_assoc (item_events i x) (body_events is vs) rest) ∙ e ∙ append_assoc (item_events i y) (body_events is ws) more in
      let first = same_item i x y (body_events is vs ++ rest) (body_events is ws ++ more) d.0 h.0 k.0 both in
      let later = same_body is d.2 vs ws rest more h.1 k.1 ends stops first.1 in
      (cc (first.0, later.0), later.1)
