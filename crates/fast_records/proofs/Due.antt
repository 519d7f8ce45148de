-- What can be due of a body from a node on, behind what was put of it.
use Rattle.std.proofs.Common.{◌≡◌, ◌≢◌, inl, inr, ◌⊎◌, ℕ, zero, suc, ◌+◌, ◌-◌, ◌<◌, ◌≤◌, List, [], ◌∷◌, ◌++◌, length, map, drop, refl, ap}
use Rattle.std.proofs.Common.{sym, subst, ◌∙◌, append_assoc, arith}
use Rattle.std.specs.Prelude.{Bool, Option, Some, slice_get, slice_index, slice_index_or, Result, Ok, Err, IfErr}
use Rattle.fast_value.specs.declared.messages.Message.{Message}
use Rattle.fast_value.specs.meaning.Kinds.{ScalarData}
use Rattle.fast_value.specs.meaning.Messages.{ItemData, one, group as group_item, sequence as sequence_item, Slots, no_slots, absent}
use Rattle.fast_value.specs.meaning.Messages.{present, Elements, no_elements, element, count, MessageData}
use Rattle.fast_tree.specs.declared.instructions.Node.{Node}
use Rattle.fast_tree.specs.declared.instructions.Shape.{Shape}
use Rattle.fast_tree.specs.declared.instructions.Shape.TheVariants.{Field, Decimal, Group, Sequence}
use Rattle.fast_tree.specs.meaning.Tree.{Label, FieldData, Instruction, field, parts, group, sequence, Body, end, step, TemplateData, Tree}
use Rattle.fast_tree.specs.meaning.Nodes.{label_of, no_instruction, instruction_of, instructions_from, body_among}
use Rattle.fast_tree.specs.meaning.Numbers.{AreBelow}
use Rattle.fast_stream.specs.meaning.Events.{EventData, MessageStart, FieldValue, GroupStart, GroupEnd, SequenceStart, ElementStart}
use Rattle.fast_stream.specs.meaning.Events.{ElementEnd, SequenceEnd, MessageEnd, element_events, item_events, body_events, template_events}
use Rattle.fast_stream.specs.meaning.Events.{events}
use Rattle.fast_stream.specs.declared.events.Event.{Event}
use Rattle.fast_stream.specs.meaning.Handed.{event_data}
use Rattle.fast_spelling.specs.device.Nodes.{instruction_in}
use Rattle.fast_spelling.proofs.encodings.Progress.{body_next, body_last}
use Rattle.fast_records.specs.declared.putting.Mark.{Mark}
use Rattle.fast_records.specs.declared.putting.Mark.TheVariants as Is
use Rattle.fast_records.specs.declared.putting.PutFault.{PutFault}
use Rattle.fast_records.specs.declared.putting.PutFault.TheVariants as Put
use Rattle.fast_records.specs.meaning.Putting.{OnMisplaced, HasNoMessage}
use Rattle.fast_records.specs.device.Putting.{mark_event, IsBodyPut}
use Rattle.fast_records.specs.device.Due.{IsDue, HasNoBody, IsLeft, Passes, IsStuck, HasNoRows, AreLeft, HasNoFront}
use Rattle.fast_records.proofs.Within.{IsThere, item_rest, element_rest, message_rest}

-- what is so of records that are called misplaced
pub on_misplaced : (A B : Type 0) → (A → B) → (f : PutFault) → OnMisplaced A f → OnMisplaced B f
on_misplaced A B so (Put.Misplaced n) h = so h
on_misplaced A B so Put.Memory h = tt

pub always : (A : Type 0) (f : PutFault) → A → OnMisplaced A f
always A (Put.Misplaced n) h = h
always A Put.Memory h = tt

pub if_misplaced : (A B : Type 0) → (A → B) → (r : Result Message PutFault) → IfErr r (OnMisplaced A) → IfErr r (OnMisplaced B)
if_misplaced A B so (Ok m) h = tt
if_misplaced A B so (Err f) h = on_misplaced A B so f h

-- the number of an instruction's node
abbrev number : Instruction → ℕ
number (field l f) = l.node
number (parts l e m) = l.node
number (group l optional body) = l.node
number (sequence l length body) = l.node

number_of : (at : Label) (first : ℕ) (is : List Instruction) (s : Shape) → number (instruction_of at first is s) ≡ at.node
number_of at first is (Field f) = refl
number_of at first is (Decimal e m) = refl
number_of at first is (Group optional body) = refl
number_of at first is (Sequence length body) = refl

numbered : (own : ℕ) (nodes : List Node) (j : ℕ) → j < length nodes → number (slice_index_or (instructions_from own nodes) j no_instruction) ≡ own + j
numbered own [] j h = absurd (omega (arith, h))
numbered own (n ∷ ns) zero h = let is = number_of (label_of own n) (suc own) (instructions_from (suc own) ns) n.shape in omega (arith, is)
numbered own (n ∷ ns) (suc j) h = let is = numbered (suc own) ns j (omega (arith, h)) in omega (arith, is)

pub number_in : (nodes : List Node) (n : ℕ) → n < length nodes → number (instruction_in nodes n) ≡ n
number_in nodes n h = let is = numbered 0 nodes n h in omega (arith, is)

-- the event names the node
abbrev pub Names : ℕ → EventData → Type 0
Names n (FieldValue m v) = m ≡ n
Names n (GroupStart m) = m ≡ n
Names n (SequenceStart m c) = m ≡ n
Names n e = ⊥

names_one : (a b : ℕ) (e : EventData) → Names a e → Names b e → a ≡ b
names_one a b (FieldValue m v) h k = sym h ∙ k
names_one a b (GroupStart m) h k = sym h ∙ k
names_one a b (SequenceStart m c) h k = sym h ∙ k
names_one a b (MessageStart m) h k = absurd h
names_one a b GroupEnd h k = absurd h
names_one a b ElementStart h k = absurd h
names_one a b ElementEnd h k = absurd h
names_one a b SequenceEnd h k = absurd h
names_one a b MessageEnd h k = absurd h

mark_names : (n : ℕ) (m : Mark) → ¬ (Names n (mark_event m))
mark_names n Is.ElementStart h = h
mark_names n Is.ElementEnd h = h
mark_names n Is.SequenceEnd h = h
mark_names n Is.GroupEnd h = h
mark_names n Is.MessageEnd h = h

-- An item has events, or none.
there : (i : Instruction) (x : ItemData) → IsThere i x ⊎ (item_events i x ≡ [])
unfolding item_events
there (field l f) (one v) = inl tt
there (field l f) (group_item vs) = inr refl
there (field l f) (sequence_item rows) = inr refl
there (parts l e m) (one v) = inl tt
there (parts l e m) (group_item vs) = inr refl
there (parts l e m) (sequence_item rows) = inr refl
there (group l optional body) (one v) = inr refl
there (group l optional body) (group_item vs) = inl tt
there (group l optional body) (sequence_item rows) = inr refl
there (sequence l length body) (one v) = inr refl
there (sequence l length body) (group_item vs) = inr refl
there (sequence l length body) (sequence_item rows) = inl tt

-- The first of them names its node.
first_of_item : (i : Instruction) (x : ItemData) → IsThere i x → (e : EventData) × (tail : List EventData) × (item_events i x ≡ e ∷ tail) × Names (number i) e
unfolding item_events
first_of_item (field l f) (one v) h = (FieldValue l.node v, [], refl, refl)
first_of_item (field l f) (group_item vs) h = absurd h
first_of_item (field l f) (sequence_item rows) h = absurd h
first_of_item (parts l e m) (one v) h = (FieldValue l.node v, [], refl, refl)
first_of_item (parts l e m) (group_item vs) h = absurd h
first_of_item (parts l e m) (sequence_item rows) h = absurd h
first_of_item (group l optional body) (one v) h = absurd h
first_of_item (group l optional body) (group_item vs) h = (GroupStart l.node, body_events body vs ++ GroupEnd ∷ [], refl, refl)
first_of_item (group l optional body) (sequence_item rows) h = absurd h
first_of_item (sequence l length body) (one v) h = absurd h
first_of_item (sequence l length body) (group_item vs) h = absurd h
first_of_item (sequence l length body) (sequence_item rows) h =
    (SequenceStart l.node (count rows), element_events (body_events body) rows ++ SequenceEnd ∷ [], refl, refl)

-- The events are those of an item of the node, then of slots of the body, then the mark and the rest.
pub record Found (nodes : List Node) (n : ℕ) (b : Body) (m : EventData) (rest from : List EventData) : Type 0 where
  pub item : ItemData
  pub slots : Slots
  pub is_there : IsThere (instruction_in nodes n) item
  pub from_is : from ≡ item_events (instruction_in nodes n) item ++ (body_events b slots ++ m ∷ rest)

head_is : (m e : EventData) (rest tail : List EventData) → m ∷ rest ≡ e ∷ tail → m ≡ e
head_is m e rest tail is = cc is

no_mark : (n : ℕ) (m e : EventData) (rest tail : List EventData) → Names n e → ¬ (Names n m) → m ∷ rest ≡ e ∷ tail → ⊥
no_mark n m e rest tail named never is = never (subst (Names n) (sym (head_is m e rest tail is)) named)

below_tail : (limit n : ℕ) (ns : List ℕ) → AreBelow limit (n ∷ ns) → AreBelow limit ns
below_tail limit n ns h = λ k below. h (suc k) (omega (arith, below))

below_drop : (limit : ℕ) (k : ℕ) (ns : List ℕ) → AreBelow limit ns → AreBelow limit (drop k ns)
below_drop limit zero ns h = h
below_drop limit (suc k) [] h = h
below_drop limit (suc k) (n ∷ ns) h = below_drop limit k ns (below_tail limit n ns h)

-- Where the first event names the node, the first slot that has events is of that node.
module _ (nodes : List Node) (n : ℕ) (m e : EventData) (rest tail : List EventData) (named : Names n e) (never : ¬ (Names n m)) where
  own : (k : ℕ) (b : Body) (x : ItemData) (vs : Slots) → k < length nodes → IsThere (instruction_in nodes k) x
      → item_events (instruction_in nodes k) x ++ (body_events b vs ++ m ∷ rest) ≡ e ∷ tail → Found nodes n b m rest (e ∷ tail)
  own k b x vs inside h is =
      let (d, more, events_are, names) = first_of_item (instruction_in nodes k) x h in
      let same : d ≡ e = head_is d e (more ++ (body_events b vs ++ m ∷ rest)) tail
      (ap (λ (z : List EventData). z ++ (body_events b vs ++ m ∷ rest)) (sym events_are) ∙ is) in
      let one : k ≡ n = names_one k n e (subst (λ (z : ℕ). Names z e) (number_in nodes k inside)
      (subst (Names (number (instruction_in nodes k))) same names)) named in
      subst (λ (z : ℕ). Found nodes z b m rest (e ∷ tail)) one (record { item = x; slots = vs; is_there = h; from_is = sym is })

  later : (i : Instruction) (b : Body) → Found nodes n b m rest (e ∷ tail) → Found nodes n (step i b) m rest (e ∷ tail)
  unfolding body_events
  later i b f = record { item = f.item; slots = absent f.slots; is_there = f.is_there; from_is = f.from_is }

  at : (k : ℕ) (b : Body) → k < length nodes → ((vs : Slots) → body_events b vs ++ m ∷ rest ≡ e ∷ tail → Found nodes n b m rest (e ∷ tail))
      → (vs : Slots) → body_events (step (instruction_in nodes k) b) vs ++ m ∷ rest ≡ e ∷ tail → Found nodes n b m rest (e ∷ tail)
  unfolding body_events
  at k b inside next no_slots is = absurd (no_mark n m e rest tail named never is)
  at k b inside next (absent vs) is = next vs is
  at k b inside next (present x vs) is =
      let apart = append_assoc (item_events (instruction_in nodes k) x) (body_events b vs) (m ∷ rest) in
      elim (there (instruction_in nodes k) x) [
        | inl h ↦ own k b x vs inside h (sym apart ∙ is)
        | inr none ↦ next vs (ap (λ (z : List EventData). z ++ (body_events b vs ++ m ∷ rest)) (sym none) ∙ sym apart ∙ is)
      ]

  find : (ns : List ℕ) → AreBelow (length nodes) ns → (vs : Slots) → body_events (body_among nodes ns) vs ++ m ∷ rest ≡ e ∷ tail
      → Found nodes n (body_among nodes ns) m rest (e ∷ tail)
  unfolding body_events
  find [] below vs is = absurd (no_mark n m e rest tail named never is)
  find (k ∷ ns) below vs is =
      let whole : k - 0 ≡ k = omega arith in
      let next : body_among nodes (k ∷ ns) ≡ step (instruction_in nodes k) (body_among nodes ns) =
      ap (λ (j : ℕ). step (slice_index_or (instructions_from 0 nodes) j no_instruction) (body_among nodes ns)) whole in
      let here : body_events (step (instruction_in nodes k) (body_among nodes ns)) vs ++ m ∷ rest ≡ e ∷ tail =
      ap (λ (b : Body). body_events b vs ++ m ∷ rest) (sym next) ∙ is in
      let found = at k (body_among nodes ns) (below 0 (omega arith)) (find ns (below_tail (length nodes) k ns below)) vs here in
      subst (λ (b : Body). Found nodes n b m rest (e ∷ tail)) (sym next) (later (instruction_in nodes k) (body_among nodes ns) found)

  pub find_from : (k : ℕ) (ns : List ℕ) → k < length nodes → AreBelow (length nodes) ns → (vs : Slots)
      → body_events (step (instruction_in nodes k) (body_among nodes ns)) vs ++ m ∷ rest ≡ e ∷ tail
      → Found nodes n (body_among nodes ns) m rest (e ∷ tail)
  find_from k ns inside below vs is = at k (body_among nodes ns) inside (find ns below) vs is

-- No item of the instruction is at the front.
abbrev pub Never : Instruction → List EventData → Type 0
Never i from = (x : ItemData) (more : List EventData) → IsThere i x → from ≢ item_events i x ++ more

-- Where no item of a node is at the front, the node is passed over.
absent_slot : (i : Instruction) (b : Body) (m : EventData) (rest from : List EventData) → Never i from → (vs : Slots)
    → from ≡ body_events (step i b) vs ++ m ∷ rest → (ws : Slots) × (from ≡ body_events b ws ++ m ∷ rest)
unfolding body_events
absent_slot i b m rest from never no_slots is = (no_slots, is ∙ ap (λ (z : List EventData). z ++ m ∷ rest) (sym (nothing b)))
  where
    nothing : (c : Body) → body_events c no_slots ≡ []
    nothing end = refl
    nothing (step j c) = refl
absent_slot i b m rest from never (absent vs) is = (vs, is)
absent_slot i b m rest from never (present x vs) is =
    let apart = append_assoc (item_events i x) (body_events b vs) (m ∷ rest) in
    elim (there i x) [
      | inl h ↦ absurd (never x (body_events b vs ++ m ∷ rest) h (is ∙ apart))
      | inr none ↦ (vs, is ∙ apart ∙ ap (λ (z : List EventData). z ++ (body_events b vs ++ m ∷ rest)) none)
    ]

pub pass_none : (nodes : List Node) (n : ℕ) (from : List EventData) → Never (instruction_in nodes n) from → Passes nodes n from from
pass_none nodes n from never ns stop rest below due = absent_slot (instruction_in nodes n) (body_among nodes ns) (mark_event stop) rest from never due.0 due.1

-- Where no event is, there is none.
no_event : (e : EventData) (tail : List EventData) → [] ≡ e ∷ tail → ⊥
no_event e tail is = cc is

pub never_at_end : (i : Instruction) (from : List EventData) → from ≡ [] → Never i from
never_at_end i from none x more h is =
    let (e, tail, events_are, names) = first_of_item i x h in
    no_event e (tail ++ more) (sym none ∙ is ∙ ap (λ (z : List EventData). z ++ more) events_are)

-- Where one is, the others are behind it.
pub pass_some : (nodes : List Node) (n : ℕ) (x : ItemData) (from to : List EventData) → n < length nodes
    → IsThere (instruction_in nodes n) x → from ≡ item_events (instruction_in nodes n) x ++ to → Passes nodes n from to
pass_some nodes n x from to inside h is ns stop rest below due =
    let i = instruction_in nodes n in
    let (e, tail, events_are, names) = first_of_item i x h in
    let whole : from ≡ e ∷ (tail ++ to) = is ∙ ap (λ (z : List EventData). z ++ to) events_are in
    let named : Names n e = subst (λ (z : ℕ). Names z e) (number_in nodes n inside) names in
    let f = find_from nodes n (mark_event stop) e rest (tail ++ to) named (mark_names n stop) n ns inside below due.0 (sym due.1 ∙ whole) in
    (f.slots, item_rest i i x f.item to (body_events (body_among nodes ns) f.slots ++ mark_event stop ∷ rest) h f.is_there (sym is ∙ whole ∙ f.from_is))

-- Where the first event names the node, but begins no item of it, nothing is due.
pub stuck_at : (nodes : List Node) (n : ℕ) (e : EventData) (from tail : List EventData) → n < length nodes → from ≡ e ∷ tail → Names n e
    → Never (instruction_in nodes n) from → IsStuck nodes n from
stuck_at nodes n e from tail inside is named never ns stop below rest due =
    let f = find_from nodes n (mark_event stop) e rest tail named (mark_names n stop) n ns inside below due.0 (sym due.1 ∙ is) in
    never f.item (body_events (body_among nodes ns) f.slots ++ mark_event stop ∷ rest) f.is_there (is ∙ f.from_is)

-- The first event is none of the node's kind.
module _ (n : ℕ) (e : EventData) (from tail : List EventData) (first : from ≡ e ∷ tail) where
  never_value : (l : Label) (v : ScalarData) (more : List EventData) → l.node ≡ n → ((w : ScalarData) → e ≢ FieldValue n w) → from ≢ FieldValue l.node v ∷ more
  never_value l v more own other is = other v (head_is e (FieldValue l.node v) tail more (sym first ∙ is) ∙ ap (λ (k : ℕ). FieldValue k v) own)

  pub never_field : (i : Instruction) (l : Label) (f : FieldData) → i ≡ field l f → l.node ≡ n → ((w : ScalarData) → e ≢ FieldValue n w) → Never i from
  unfolding item_events
  never_field i l f i_is own other = subst (λ (z : Instruction). Never z from) (sym i_is) by
    where
      by : Never (field l f) from
      by (one v) more h is = never_value l v more own other is
      by (group_item vs) more h is = absurd h
      by (sequence_item rows) more h is = absurd h

  pub never_parts : (i : Instruction) (l : Label) (f g : FieldData) → i ≡ parts l f g → l.node ≡ n → ((w : ScalarData) → e ≢ FieldValue n w) → Never i from
  unfolding item_events
  never_parts i l f g i_is own other = subst (λ (z : Instruction). Never z from) (sym i_is) by
    where
      by : Never (parts l f g) from
      by (one v) more h is = never_value l v more own other is
      by (group_item vs) more h is = absurd h
      by (sequence_item rows) more h is = absurd h

  pub never_group : (i : Instruction) (l : Label) (optional : Bool) (b : Body) → i ≡ group l optional b → l.node ≡ n → e ≢ GroupStart n → Never i from
  unfolding item_events
  never_group i l optional b i_is own other = subst (λ (z : Instruction). Never z from) (sym i_is) by
    where
      by : Never (group l optional b) from
      by (one v) more h is = absurd h
      by (group_item vs) more h is = other (head_is e (GroupStart l.node) tail ((body_events b vs ++ GroupEnd ∷ []) ++ more)
          (sym first ∙ is) ∙ ap GroupStart own)
      by (sequence_item rows) more h is = absurd h

  pub never_sequence : (i : Instruction) (l : Label) (f : FieldData) (b : Body) → i ≡ sequence l f b → l.node ≡ n
      → ((c : ℕ) → e ≢ SequenceStart n c) → Never i from
  unfolding item_events
  never_sequence i l f b i_is own other = subst (λ (z : Instruction). Never z from) (sym i_is) by
    where
      by : Never (sequence l f b) from
      by (one v) more h is = absurd h
      by (group_item vs) more h is = absurd h
      by (sequence_item rows) more h is = other (count rows)
          (head_is e (SequenceStart l.node (count rows)) tail ((element_events (body_events b) rows ++ SequenceEnd ∷ []) ++ more)
          (sym first ∙ is) ∙ ap (λ (k : ℕ). SequenceStart k (count rows)) own)

tail_is : (d e : EventData) (xs ys : List EventData) → d ∷ xs ≡ e ∷ ys → xs ≡ ys
tail_is d e xs ys is = cc is

count_is : (n k c d : ℕ) (xs ys : List EventData) → SequenceStart n c ∷ xs ≡ SequenceStart k d ∷ ys → c ≡ d
count_is n k c d xs ys is = cc is

-- A group begins whose slots are not there.
pub never_slots : (i : Instruction) (l : Label) (optional : Bool) (b : Body) (n : ℕ) (from mid : List EventData) → i ≡ group l optional b
    → from ≡ GroupStart n ∷ mid → HasNoBody b Is.GroupEnd mid → Never i from
unfolding item_events
never_slots i l optional b n from mid i_is first none = subst (λ (z : Instruction). Never z from) (sym i_is) by
  where
    by : Never (group l optional b) from
    by (one v) more h is = absurd h
    by (group_item vs) more h is = none more (
      vs,
      tail_is (GroupStart n) (GroupStart l.node) mid
          ((body_events b vs ++ GroupEnd ∷ []) ++ more) (sym first ∙ is) ∙ append_assoc (body_events b vs) (GroupEnd ∷ []) more,
    )
    by (sequence_item rows) more h is = absurd h

-- A sequence begins whose elements are not there.
pub never_rows : (i : Instruction) (l : Label) (f : FieldData) (b : Body) (n many : ℕ) (from mid : List EventData) → i ≡ sequence l f b
    → from ≡ SequenceStart n many ∷ mid → HasNoRows b many mid → Never i from
unfolding item_events
never_rows i l f b n many from mid i_is first none = subst (λ (z : Instruction). Never z from) (sym i_is) by
  where
    by : Never (sequence l f b) from
    by (one v) more h is = absurd h
    by (group_item vs) more h is = absurd h
    by (sequence_item rows) more h is =
        let behind = (element_events (body_events b) rows ++ SequenceEnd ∷ []) ++ more in
        none rows more (sym (count_is n l.node many (count rows) mid behind (sym first ∙ is)))
        (tail_is (SequenceStart n many) (SequenceStart l.node (count rows)) mid behind (sym first ∙ is)
        ∙ append_assoc (element_events (body_events b) rows) (SequenceEnd ∷ []) more)

-- The items that are put are there.
pub there_one : (i : Instruction) (l : Label) (f : FieldData) (v : ScalarData) (x : ItemData) → i ≡ field l f → x ≡ one v → IsThere i x
there_one i l f v x i_is x_is = subst (λ (z : Instruction). IsThere z x) (sym i_is) (subst (IsThere (field l f)) (sym x_is) tt)

pub there_parts : (i : Instruction) (l : Label) (f g : FieldData) (v : ScalarData) (x : ItemData) → i ≡ parts l f g → x ≡ one v → IsThere i x
there_parts i l f g v x i_is x_is = subst (λ (z : Instruction). IsThere z x) (sym i_is) (subst (IsThere (parts l f g)) (sym x_is) tt)

pub there_group : (i : Instruction) (l : Label) (optional : Bool) (b : Body) (vs : Slots) (x : ItemData) → i ≡ group l optional b
    → x ≡ group_item vs → IsThere i x
there_group i l optional b vs x i_is x_is = subst (λ (z : Instruction). IsThere z x) (sym i_is) (subst (IsThere (group l optional b)) (sym x_is) tt)

pub there_sequence : (i : Instruction) (l : Label) (f : FieldData) (b : Body) (rows : Elements) (x : ItemData) → i ≡ sequence l f b
    → x ≡ sequence_item rows → IsThere i x
there_sequence i l f b rows x i_is x_is = subst (λ (z : Instruction). IsThere z x) (sym i_is) (subst (IsThere (sequence l f b)) (sym x_is) tt)

-- A body from its beginning, past a node, and at its end.
pub left_start : (b : Body) (stop : Mark) (from : List EventData) → IsLeft b b stop from from
left_start b stop from rest due = due

module _ (nodes : List Node) (body : List ℕ) (i n : ℕ) (inside : i < length body) (is : slice_index body i ≡ n)
    (below : AreBelow (length nodes) body) (stop : Mark) (from here : List EventData)
    (left : IsLeft (body_among nodes body) (body_among nodes (drop i body)) stop from here) where
  next_due : (rest : List EventData) → IsDue (body_among nodes body) stop from rest
      → IsDue (step (instruction_in nodes n) (body_among nodes (drop (i + 1) body))) stop here rest
  next_due rest due =
      subst (λ (b : Body). IsDue b stop here rest) (body_next nodes body i inside
      ∙ ap (λ (k : ℕ). step (instruction_in nodes k) (body_among nodes (drop (i + 1) body))) is) (left rest due)

  pub left_next : (to : List EventData) → Passes nodes n here to → IsLeft (body_among nodes body) (body_among nodes (drop (i + 1) body)) stop from to
  left_next to passes rest due = passes (drop (i + 1) body) stop rest (below_drop (length nodes) (i + 1) body below) (next_due rest due)

  pub left_stuck : IsStuck nodes n here → HasNoBody (body_among nodes body) stop from
  left_stuck stuck rest due = stuck (drop (i + 1) body) stop (below_drop (length nodes) (i + 1) body below) rest (next_due rest due)

pub left_end : (nodes : List Node) (body : List ℕ) (i : ℕ) (stop : Mark) (from here : List EventData) → length body ≤ i
    → IsLeft (body_among nodes body) (body_among nodes (drop i body)) stop from here
    → ((rest : List EventData) → here ≢ mark_event stop ∷ rest) → HasNoBody (body_among nodes body) stop from
unfolding body_events
left_end nodes body i stop from here past left none rest due = last (subst (λ (b : Body). IsDue b stop here rest) (body_last nodes body i past) (left rest due))
  where
    last : ¬ (IsDue end stop here rest)
    last h = none rest h.1

-- Elements from the first, past one, and at their end.
pub rows_left : (b : Body) (n : ℕ) (from : List EventData) → AreLeft b n 0 from from
rows_left b n from rows rest counted is = (rows, omega (arith, counted), is)

one_more : (b : Body) (vs : Slots) (rows : Elements) (rest here : List EventData)
    → here ≡ element_events (body_events b) (element vs rows) ++ SequenceEnd ∷ rest
    → here ≡ ElementStart ∷ (body_events b vs ++ ElementEnd ∷ (element_events (body_events b) rows ++ SequenceEnd ∷ rest))
one_more b vs rows rest here is = is ∙ ap (λ (z : List EventData). ElementStart ∷ z)
    (append_assoc (body_events b vs) (ElementEnd ∷ element_events (body_events b) rows) (SequenceEnd ∷ rest))

module _ (b : Body) (n i : ℕ) (from here : List EventData) (left : AreLeft b n i from here) where
  pub rows_next : (row : Slots) (mid to : List EventData) → here ≡ ElementStart ∷ mid → IsBodyPut b Is.ElementEnd row mid to → AreLeft b n (i + 1) from to
  rows_next row mid to first put rows rest counted is = let w = left rows rest counted is in by w.0 w.1 w.2
    where
      by : (others : Elements) → count others + i ≡ n → here ≡ element_events (body_events b) others ++ SequenceEnd ∷ rest
          → (more : Elements) × (count more + (i + 1) ≡ n) × (to ≡ element_events (body_events b) more ++ SequenceEnd ∷ rest)
      by no_elements many at = let no : ElementStart ∷ mid ≡ SequenceEnd ∷ rest = sym first ∙ at in absurd (cc no)
      by (element vs more) many at =
          let behind = element_events (body_events b) more ++ SequenceEnd ∷ rest in
          let within : mid ≡ body_events b vs ++ ElementEnd ∷ behind =
          tail_is ElementStart ElementStart mid (body_events b vs ++ ElementEnd ∷ behind)
          (sym first ∙ one_more b vs more rest here at) in
          (more, omega (arith, many), element_rest b b row vs to behind (sym put ∙ within))

  pub rows_unstarted : i < n → ((mid : List EventData) → here ≢ ElementStart ∷ mid) → HasNoRows b n from
  rows_unstarted inside none rows rest counted is = let w = left rows rest counted is in by w.0 w.1 w.2
    where
      by : (others : Elements) → count others + i ≡ n → here ≢ element_events (body_events b) others ++ SequenceEnd ∷ rest
      by no_elements many at = absurd (omega (arith, many, inside))
      by (element vs more) many at = none (body_events b vs ++ ElementEnd ∷ (element_events (body_events b) more ++ SequenceEnd ∷ rest))
          (one_more b vs more rest here at)

  pub rows_stuck : (mid : List EventData) → here ≡ ElementStart ∷ mid → HasNoBody b Is.ElementEnd mid → HasNoRows b n from
  rows_stuck mid first none rows rest counted is = let w = left rows rest counted is in by w.0 w.2
    where
      by : (others : Elements) → here ≢ element_events (body_events b) others ++ SequenceEnd ∷ rest
      by no_elements at = let no : ElementStart ∷ mid ≡ SequenceEnd ∷ rest = sym first ∙ at in absurd (cc no)
      by (element vs more) at =
          let behind = element_events (body_events b) more ++ SequenceEnd ∷ rest in
          none behind (vs, tail_is ElementStart ElementStart mid (body_events b vs ++ ElementEnd ∷ behind) (sym first ∙ one_more b vs more rest here at))

  pub rows_unended : n ≤ i → ((rest : List EventData) → here ≢ SequenceEnd ∷ rest) → HasNoRows b n from
  rows_unended past none rows rest counted is = let w = left rows rest counted is in by w.0 w.1 w.2
    where
      by : (others : Elements) → count others + i ≡ n → here ≢ element_events (body_events b) others ++ SequenceEnd ∷ rest
      by no_elements many at = none rest at
      by (element vs more) many at = absurd (omega (arith, many, past))

-- The events of a message of the set.
message_is : (t : Tree) (m : MessageData) → m.template < length t.templates
    → (u : TemplateData) × (slice_get t.templates m.template ≡ Some u)
    × (events t m ≡ MessageStart m.template ∷ (body_events u.body m.slots ++ MessageEnd ∷ []))
message_is t m inside = let u = some t.templates m.template inside in (u.0, u.1, ap (λ (o : Option TemplateData). template_events m.template o m.slots) u.1)
  where
    some : (us : List TemplateData) (k : ℕ) → k < length us → (u : TemplateData) × (slice_get us k ≡ Some u)
    some [] k h = absurd (omega (arith, h))
    some (u ∷ us) zero h = (u, refl)
    some (u ∷ us) (suc k) h = some us k (omega (arith, h))

whole_message : (t : Tree) (m : MessageData) (rest : List EventData) (u : TemplateData)
    → events t m ≡ MessageStart m.template ∷ (body_events u.body m.slots ++ MessageEnd ∷ [])
    → events t m ++ rest ≡ MessageStart m.template ∷ (body_events u.body m.slots ++ MessageEnd ∷ rest)
whole_message t m rest u is = ap (λ (z : List EventData). z ++ rest) is
    ∙ ap (λ (z : List EventData). MessageStart m.template ∷ z) (append_assoc (body_events u.body m.slots) (MessageEnd ∷ []) rest)

-- A message begins whose slots are not there.
pub no_slots_there : (t : Tree) (n : ℕ) (u : TemplateData) (from mid : List EventData) → slice_get t.templates n ≡ Some u
    → from ≡ MessageStart n ∷ mid → HasNoBody u.body Is.MessageEnd mid → HasNoFront t from
no_slots_there t n u from mid found first none m rest inside is =
    let (w, known, own) = message_is t m inside in
    let both : MessageStart n ∷ mid ≡ MessageStart m.template ∷ (body_events w.body m.slots ++ MessageEnd ∷ rest) = sym first ∙ is
    ∙ whole_message t m rest w own in
    let same : n ≡ m.template = cc both in
    let one : Some u ≡ Some w = sym found ∙ ap (slice_get t.templates) same ∙ known in
    let body : u ≡ w = cc one in
    none rest (
      m.slots,
      tail_is (MessageStart n) (MessageStart m.template) mid (body_events w.body m.slots ++ MessageEnd ∷ rest) both
          ∙ ap (λ (z : TemplateData). body_events z.body m.slots ++ MessageEnd ∷ rest) (sym body),
    )

-- Behind a message stands more.
pub more_behind : (t : Tree) (m : MessageData) (from rest : List EventData) → m.template < length t.templates → from ≡ events t m ++ rest
    → rest ≢ [] → HasNoMessage t from
more_behind t m from rest inside is some o known whole =
    let (u, found, own) = message_is t m inside in
    let (w, there, other) = message_is t o known in
    let both : MessageStart m.template ∷ (body_events u.body m.slots ++ MessageEnd ∷ rest) ≡ MessageStart o.template
    ∷ (body_events w.body o.slots ++ MessageEnd ∷ []) =
    sym (whole_message t m rest u own) ∙ sym is ∙ whole ∙ other in
    some (message_rest u.body w.body m.slots o.slots rest []
    (tail_is (MessageStart m.template) (MessageStart o.template) (body_events u.body m.slots ++ MessageEnd ∷ rest)
    (body_events w.body o.slots ++ MessageEnd ∷ []) both))

-- so of no front
pub no_front : (t : Tree) (from : List EventData) → HasNoFront t from → HasNoMessage t from
no_front t from none m inside is = none m [] inside (is ∙ sym (append_nil (events t m)))
  where
    append_nil : (xs : List EventData) → xs ++ [] ≡ xs
    append_nil [] = refl
    append_nil (x ∷ xs) = ap (λ (z : List EventData). x ∷ z) (append_nil xs)

-- Events are left from a place within them on.
pub some_left : (xs : List Event) (k : ℕ) → k < length xs → map event_data (drop k xs) ≢ []
some_left [] k h is = absurd (omega (arith, h))
some_left (x ∷ xs) zero h is = absurd (cc is)
some_left (x ∷ xs) (suc k) h is = some_left xs k (omega (arith, h)) is
