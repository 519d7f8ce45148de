-- One slot more, one element more, and a whole message, by the events that say them.
use Rattle.std.proofs.Common.{◌≡◌, ℕ, ◌+◌, ◌<◌, ◌≤◌, List, [], ◌∷◌, ◌++◌, length, map, drop, refl, ap, sym, subst, ◌∙◌, append_assoc, append-nil, arith}
use Rattle.std.specs.Prelude.{Bool, Option, Some, None, option_map, slice_get, slice_index}
use Rattle.std.specs.declared.vec.Vec.{Vec}
use Rattle.std.specs.declared.alloc.Global.{Global}
use Rattle.std.proofs.lemmas.List.{length-append, length-map}
use Rattle.fast_value.specs.declared.messages.Item.{Item}
use Rattle.fast_value.specs.meaning.Kinds.{ScalarData}
use Rattle.fast_value.specs.meaning.Messages.{ItemData, one as one_item, group as group_item, sequence as sequence_item, Slots, no_slots}
use Rattle.fast_value.specs.meaning.Messages.{absent, present, Elements, count, MessageData}
use Rattle.fast_value.specs.meaning.Views.{item_data, slots_data, elements_data}
use Rattle.fast_value.proofs.ItemViews.{count-elements_data}
use Rattle.fast_tree.specs.declared.instructions.Node.{Node}
use Rattle.fast_tree.specs.meaning.Nodes.{body_among}
use Rattle.fast_tree.specs.meaning.Tree.{Label, FieldData, Instruction, field, parts, group, sequence, Body, end, step, TemplateData, Tree}
use Rattle.fast_stream.specs.meaning.Events.{EventData, MessageStart, FieldValue, GroupStart, GroupEnd, SequenceStart, ElementStart}
use Rattle.fast_stream.specs.meaning.Events.{ElementEnd, SequenceEnd, MessageEnd, element_events, item_events, body_events, template_events}
use Rattle.fast_stream.specs.meaning.Events.{events}
use Rattle.fast_stream.specs.declared.events.Event.{Event}
use Rattle.fast_stream.specs.meaning.Handed.{event_data}
use Rattle.fast_stream.specs.meaning.Messages.{with_slot}
use Rattle.fast_spelling.specs.device.Nodes.{instruction_in}
use Rattle.fast_spelling.proofs.encodings.Progress.{body_next, body_last}
use Rattle.fast_records.specs.declared.putting.Mark.{Mark}
use Rattle.fast_records.specs.declared.putting.Mark.TheVariants as Is
use Rattle.fast_records.specs.device.Putting.{mark_event, IsBodyPut, IsItemPut, IsSlotPut, AreRowsPut, followed, IsPutTo, ArePutTo}

followed_none : (xs : List (Option Item)) → followed xs no_slots ≡ slots_data xs
followed_none [] = refl
followed_none (None ∷ xs) = ap absent (followed_none xs)
followed_none (Some x ∷ xs) = ap (present (item_data x)) (followed_none xs)

followed_more : (xs : List (Option Item)) (x : Option Item) (vs : Slots) → followed (xs ++ x ∷ []) vs ≡ followed xs (with_slot (option_map item_data x) vs)
followed_more [] None vs = refl
followed_more [] (Some x) vs = refl
followed_more (None ∷ xs) y vs = ap absent (followed_more xs y vs)
followed_more (Some x ∷ xs) y vs = ap (present (item_data x)) (followed_more xs y vs)

absent_more : (whole : Body) (xs : List (Option Item)) (i : Instruction) (is : Body) (c a : List EventData)
    → IsPutTo whole xs (step i is) c a → IsPutTo whole (xs ++ None ∷ []) is c a
unfolding body_events
absent_more whole xs i is c a r = record { taken = r.taken; said = r.said; says = λ vs. ap (body_events whole) (followed_more xs None vs) ∙ r.says (absent vs) }

present_more : (whole : Body) (xs : List (Option Item)) (i : Instruction) (is : Body) (x : Item) (c a b : List EventData)
    → IsPutTo whole xs (step i is) c a → IsItemPut i (item_data x) a b → IsPutTo whole (xs ++ Some x ∷ []) is c b
unfolding body_events
present_more whole xs i is x c a b r one = record {
  taken = r.taken ++ item_events i (item_data x);
  said = r.said ∙ ap (λ (z : List EventData). r.taken ++ z) one ∙ sym (append_assoc r.taken (item_events i (item_data x)) b);
  says = λ vs. ap (body_events whole) (followed_more xs (Some x) vs) ∙ r.says (present (item_data x) vs)
      ∙ sym (append_assoc r.taken (item_events i (item_data x)) (body_events is vs));
}

-- So at a place in a body.
module _ (nodes : List Node) (body : List ℕ) (i n : ℕ) (inside : i < length body) (is : slice_index body i ≡ n) (xs : List (Option Item))
    (c a : List EventData) (r : IsPutTo (body_among nodes body) xs (body_among nodes (drop i body)) c a) where
  here : body_among nodes (drop i body) ≡ step (instruction_in nodes n) (body_among nodes (drop (i + 1) body))
  here = body_next nodes body i inside ∙ ap (λ (k : ℕ). step (instruction_in nodes k) (body_among nodes (drop (i + 1) body))) is

  opened : IsPutTo (body_among nodes body) xs (step (instruction_in nodes n) (body_among nodes (drop (i + 1) body))) c a
  opened = subst (λ (z : Body). IsPutTo (body_among nodes body) xs z c a) here r

  pub slot_at : (x : Option Item) (b : List EventData) → IsSlotPut (instruction_in nodes n) (option_map item_data x) a b
      → IsPutTo (body_among nodes body) (xs ++ x ∷ []) (body_among nodes (drop (i + 1) body)) c b
  slot_at None b one = subst (λ (z : List EventData). IsPutTo (body_among nodes body) (xs ++ None ∷ [])
      (body_among nodes (drop (i + 1) body)) c z) (sym one)
      (absent_more (body_among nodes body) xs (instruction_in nodes n) (body_among nodes (drop (i + 1) body)) c a opened)
  slot_at (Some x) b one = present_more (body_among nodes body) xs (instruction_in nodes n) (body_among nodes (drop (i + 1) body)) x c a b opened one

-- What is left behind is no longer than what was there.
pub shorter : (taken a b : List EventData) → a ≡ taken ++ b → length b ≤ length a
shorter taken a b is = let long = ap length is ∙ length-append taken b in omega (arith, long)

-- Where no slot is put yet.
pub slots_start : (whole : Body) (c : List EventData) → IsPutTo whole [] whole c c
slots_start whole c = record { taken = []; said = refl; says = λ vs. refl }

-- So of the events as they are handed.
pub put_shorter : (whole rest : Body) (xs : List (Option Item)) (from to : List Event)
    → IsPutTo whole xs rest (map event_data from) (map event_data to) → length to ≤ length from
put_shorter whole rest xs from to r =
    let less = shorter r.taken (map event_data from) (map event_data to) r.said in
    let a = length-map from event_data in
    let b = length-map to event_data in
    omega (arith, less, a, b)

pub next_shorter : (e : EventData) (from to : List Event) → map event_data from ≡ e ∷ map event_data to → length from ≡ 1 + length to
next_shorter e from to is =
    let long = ap length is in
    let a = length-map from event_data in
    let b = length-map to event_data in
    omega (arith, long, a, b)

pub rows_shorter : (body : Body) (n : ℕ) (rs : List (Vec (Option Item) Global)) (from to : List Event)
    → ArePutTo body n rs (map event_data from) (map event_data to) → length to ≤ length from
rows_shorter body n rs from to r =
    let less = shorter (element_events (body_events body) (elements_data rs)) (map event_data from) (map event_data to) r.said in
    let a = length-map from event_data in
    let b = length-map to event_data in
    omega (arith, less, a, b)

body_done : (whole : Body) (xs : List (Option Item)) (mark : Mark) (c a b : List EventData) → IsPutTo whole xs end c a
    → a ≡ mark_event mark ∷ b → IsBodyPut whole mark (slots_data xs) c b
unfolding body_events
body_done whole xs mark c a b r line =
    let all : r.taken ≡ body_events whole (slots_data xs) = sym (append-nil r.taken) ∙ sym (r.says no_slots) ∙ ap (body_events whole) (followed_none xs) in
    r.said ∙ ap (λ (z : List EventData). r.taken ++ z) line ∙ ap (λ (z : List EventData). z ++ mark_event mark ∷ b) all

pub body_ended : (nodes : List Node) (body : List ℕ) (i : ℕ) (xs : List (Option Item)) (mark : Mark) (c a b : List EventData)
    → length body ≤ i → IsPutTo (body_among nodes body) xs (body_among nodes (drop i body)) c a → a ≡ mark_event mark ∷ b
    → IsBodyPut (body_among nodes body) mark (slots_data xs) c b
body_ended nodes body i xs mark c a b past r line = body_done (body_among nodes body) xs mark c a b
    (subst (λ (z : Body). IsPutTo (body_among nodes body) xs z c a) (body_last nodes body i past) r) line

-- Elements.
events_more : (f : Slots → List EventData) (rs : List (Vec (Option Item) Global)) (r : Vec (Option Item) Global)
    → element_events f (elements_data (rs ++ r ∷ [])) ≡ element_events f (elements_data rs)
    ++ (ElementStart ∷ (f (slots_data r.items) ++ ElementEnd ∷ []))
events_more f [] r = refl
events_more f (q ∷ rs) r =
    ap (λ (z : List EventData). ElementStart ∷ (f (slots_data q.items) ++ ElementEnd ∷ z)) (events_more f rs r)
    ∙ sym (append_assoc (ElementStart ∷ f (slots_data q.items)) (ElementEnd ∷ element_events f (elements_data rs))
    (ElementStart ∷ (f (slots_data r.items) ++ ElementEnd ∷ [])))

pub rows_start : (body : Body) (c : List EventData) → ArePutTo body 0 [] c c
rows_start body c = record { counted = refl; said = refl }

pub rows_more : (body : Body) (n : ℕ) (rs : List (Vec (Option Item) Global)) (r : Vec (Option Item) Global) (c a mid b : List EventData)
    → ArePutTo body n rs c a → a ≡ ElementStart ∷ mid → IsBodyPut body Is.ElementEnd (slots_data r.items) mid b
    → ArePutTo body (n + 1) (rs ++ r ∷ []) c b
rows_more body n rs r c a mid b h line one =
    let before = element_events (body_events body) (elements_data rs) in
    let vs = body_events body (slots_data r.items) in
    let long = length-append rs (r ∷ []) in
    let was = h.counted in
    record {
      counted = omega (arith, long, was);
      said = h.said ∙ ap (λ (z : List EventData). before ++ z)
          (line ∙ ap (λ (z : List EventData). ElementStart ∷ z) (one ∙ sym (append_assoc vs (ElementEnd ∷ []) b)))
          ∙ sym (append_assoc before (ElementStart ∷ (vs ++ ElementEnd ∷ [])) b)
          ∙ ap (λ (z : List EventData). z ++ b) (sym (events_more (body_events body) rs r));
    }

pub rows_done : (body : Body) (n : ℕ) (rs : List (Vec (Option Item) Global)) (c a b : List EventData) → ArePutTo body n rs c a
    → a ≡ SequenceEnd ∷ b → AreRowsPut body n (elements_data rs) c b
rows_done body n rs c a b h line = record {
  counted = count-elements_data rs ∙ h.counted;
  said = h.said ∙ ap (λ (z : List EventData). element_events (body_events body) (elements_data rs) ++ z) line;
}

-- Items.
pub field_put : (n : ℕ) (i : Instruction) (l : Label) (f : FieldData) (v : ScalarData) (x : ItemData) (c b : List EventData)
    → i ≡ field l f → l.node ≡ n → x ≡ one_item v → c ≡ FieldValue n v ∷ b → IsItemPut i x c b
unfolding item_events
field_put n i l f v x c b is own item first =
    first ∙ ap (λ (m : ℕ). FieldValue m v ∷ b) (sym own) ∙ ap (λ (z : Instruction). item_events z (one_item v) ++ b) (sym is)
    ∙ ap (λ (z : ItemData). item_events i z ++ b) (sym item)

pub parts_put : (n : ℕ) (i : Instruction) (l : Label) (e m : FieldData) (v : ScalarData) (x : ItemData) (c b : List EventData)
    → i ≡ parts l e m → l.node ≡ n → x ≡ one_item v → c ≡ FieldValue n v ∷ b → IsItemPut i x c b
unfolding item_events
parts_put n i l e m v x c b is own item first =
    first ∙ ap (λ (k : ℕ). FieldValue k v ∷ b) (sym own) ∙ ap (λ (z : Instruction). item_events z (one_item v) ++ b) (sym is)
    ∙ ap (λ (z : ItemData). item_events i z ++ b) (sym item)

pub group_put : (n : ℕ) (i : Instruction) (l : Label) (optional : Bool) (body : Body) (vs : Slots) (x : ItemData)
    (c mid b : List EventData) → i ≡ group l optional body → l.node ≡ n → x ≡ group_item vs → c ≡ GroupStart n ∷ mid
    → IsBodyPut body Is.GroupEnd vs mid b → IsItemPut i x c b
unfolding item_events
group_put n i l optional body vs x c mid b is own item first inner =
    first ∙ ap (λ (z : List EventData). GroupStart n ∷ z) (inner ∙ sym (append_assoc (body_events body vs) (GroupEnd ∷ []) b))
    ∙ ap (λ (m : ℕ). GroupStart m ∷ ((body_events body vs ++ GroupEnd ∷ []) ++ b)) (sym own)
    ∙ ap (λ (z : Instruction). item_events z (group_item vs) ++ b) (sym is) ∙ ap (λ (z : ItemData). item_events i z ++ b) (sym item)

pub sequence_put : (n : ℕ) (i : Instruction) (l : Label) (f : FieldData) (body : Body) (rows : Elements) (many : ℕ) (x : ItemData)
    (c mid b : List EventData) → i ≡ sequence l f body → l.node ≡ n → x ≡ sequence_item rows → c ≡ SequenceStart n many ∷ mid
    → AreRowsPut body many rows mid b → IsItemPut i x c b
unfolding item_events
sequence_put n i l f body rows many x c mid b is own item first inner =
    let all = element_events (body_events body) rows in
    first ∙ ap (λ (z : List EventData). SequenceStart n many ∷ z) (inner.said ∙ sym (append_assoc all (SequenceEnd ∷ []) b))
    ∙ ap (λ (k : ℕ). SequenceStart n k ∷ ((all ++ SequenceEnd ∷ []) ++ b)) (sym inner.counted)
    ∙ ap (λ (m : ℕ). SequenceStart m (count rows) ∷ ((all ++ SequenceEnd ∷ []) ++ b)) (sym own)
    ∙ ap (λ (z : Instruction). item_events z (sequence_item rows) ++ b) (sym is)
    ∙ ap (λ (z : ItemData). item_events i z ++ b) (sym item)

-- A message.
pub message_put : (t : Tree) (n : ℕ) (u : TemplateData) (vs : Slots) (m : MessageData) (c mid b : List EventData) → m ≡ record {
  template = n;
  slots = vs;
} → slice_get t.templates n ≡ Some u → c ≡ MessageStart n ∷ mid → IsBodyPut u.body Is.MessageEnd vs mid b → c ≡ events t m ++ b
message_put t n u vs m c mid b is found first one =
    let own : MessageData = record { template = n; slots = vs } in
    let all : events t own ≡ MessageStart n ∷ (body_events u.body vs ++ MessageEnd ∷ []) = ap (λ (o : Option TemplateData). template_events n o vs) found in
    first ∙ ap (λ (z : List EventData). MessageStart n ∷ z) (one ∙ sym (append_assoc (body_events u.body vs) (MessageEnd ∷ []) b))
    ∙ ap (λ (z : List EventData). z ++ b) (sym all) ∙ ap (λ (z : MessageData). events t z ++ b) (sym is)
