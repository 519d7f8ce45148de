-- One slot more, one element more, one message more.
use Rattle.std.proofs.Common.{◌≡◌, ℕ, ◌+◌, ◌<◌, ◌≤◌, List, [], ◌∷◌, ◌++◌, length, drop, refl, ap, sym, subst, ◌∙◌, append_assoc, arith}
use Rattle.std.specs.Prelude.{Option, Some, None, option_map, flat_map, slice_get, slice_index}
use Rattle.std.specs.declared.vec.Vec.{Vec}
use Rattle.std.specs.declared.alloc.Global.{Global}
use Rattle.std.proofs.lemmas.Grind.{flat_map-append}
use Rattle.std.proofs.lemmas.List.{append-nil, length-append}
use Rattle.std.proofs.lemmas.List.Elements.{All-nil, All-cons, All-append}
use Rattle.fast_value.specs.declared.messages.Item.{Item}
use Rattle.fast_value.specs.meaning.Messages.{Slots, no_slots, absent, present, MessageData}
use Rattle.fast_value.specs.meaning.Views.{item_data, slots_data, elements_data}
use Rattle.fast_value.proofs.ItemViews.{count-elements_data}
use Rattle.fast_tree.specs.declared.instructions.Node.{Node}
use Rattle.fast_tree.specs.meaning.Nodes.{body_among}
use Rattle.fast_tree.specs.meaning.Tree.{Instruction, Body, end, step, TemplateData, Tree}
use Rattle.fast_stream.specs.meaning.Events.{EventData, MessageStart, MessageEnd, ElementStart, ElementEnd, SequenceEnd, element_events}
use Rattle.fast_stream.specs.meaning.Events.{item_events, body_events, template_events, events}
use Rattle.fast_stream.specs.meaning.Messages.{with_slot}
use Rattle.fast_lines.specs.meaning.Forms.{LineData, message, element as element_line, sequence_end, line_data, line_of_event}
use Rattle.fast_lines.specs.meaning.Lines.{line_of, lines, template_name}
use Rattle.fast_spelling.specs.device.Nodes.{instruction_in}
use Rattle.fast_spelling.specs.meaning.Suiting.{AreRight, Suits, SuitsBody, SuitsTemplate}
use Rattle.fast_spelling.proofs.encodings.Progress.{body_next, body_last}
use Rattle.fast_messages.specs.declared.cursors.Cursor.{Cursor}
use Rattle.fast_messages.specs.declared.endings.Ending.{Ending}
use Rattle.fast_messages.specs.declared.endings.Ending.TheVariants as Ends
use Rattle.fast_messages.specs.device.Cursors.{ahead, Advances}
use Rattle.fast_messages.specs.meaning.Distinct.{number}
use Rattle.fast_messages.specs.device.Naming.{Names, end_event, end_line}
use Rattle.fast_messages.specs.device.Progress.{followed, IsReadTo, AreReadTo, AreMessagesRead}
use Rattle.fast_messages.specs.device.Runs.{IsBodyRead, IsItemRead, AreRowsRead, IsMessageRead}
use Rattle.fast_messages.proofs.texts.NoFeeds.{name_is}
use Rattle.fast_messages.specs.meaning.Unsaid.{HasNoItem, HasNoBody}
use Rattle.fast_messages.proofs.refusals.Left.{left_start, left_absent, left_present}
use Rattle.fast_messages.proofs.refusals.Plain.{plain_first, plain_rest}
use Rattle.fast_messages.proofs.refusals.RefusedBodies.{item_refused, mandatory_refused, end_refused}
use Rattle.fast_messages.proofs.readings.Said.{said_none, said_one, said_both, said_as}

followed_none : (xs : List (Option Item)) → followed xs no_slots ≡ slots_data xs
followed_none [] = refl
followed_none (None ∷ xs) = ap absent (followed_none xs)
followed_none (Some x ∷ xs) = ap (present (item_data x)) (followed_none xs)

followed_more : (xs : List (Option Item)) (x : Option Item) (vs : Slots) → followed (xs ++ x ∷ []) vs ≡ followed xs (with_slot (option_map item_data x) vs)
followed_more [] None vs = refl
followed_more [] (Some x) vs = refl
followed_more (None ∷ xs) y vs = ap absent (followed_more xs y vs)
followed_more (Some x ∷ xs) y vs = ap (present (item_data x)) (followed_more xs y vs)

pub read_start : (t : Tree) (body : Body) (c : Cursor) → IsReadTo t body [] body c c
read_start t body c = record { read = []; said = said_none t c; suits = λ vs h. h; says = λ vs. refl; plain = λ p. p; left = λ p. left_start t body c }

absent_more : (t : Tree) (whole : Body) (xs : List (Option Item)) (i : Instruction) (is : Body) (c a : Cursor)
    → IsReadTo t whole xs (step i is) c a → ¬ (Names t (number i) i (option_map line_data a.line)) → Suits i None
    → IsReadTo t whole (xs ++ None ∷ []) is c a
unfolding body_events
absent_more t whole xs i is c a r never none = record {
  read = r.read;
  said = r.said;
  suits = λ vs h. subst (SuitsBody whole) (sym (followed_more xs None vs)) (r.suits (absent vs) (none, h));
  says = λ vs. ap (body_events whole) (followed_more xs None vs) ∙ r.says (absent vs);
  plain = λ p. plain_rest t i is (r.plain p);
  left = λ p. left_absent t whole i is c a (r.left p) never;
}

present_more : (t : Tree) (whole : Body) (xs : List (Option Item)) (i : Instruction) (is : Body) (x : Item) (c a b : Cursor)
    → IsReadTo t whole xs (step i is) c a → Names t (number i) i (option_map line_data a.line) → IsItemRead t i (item_data x) a b
    → IsReadTo t whole (xs ++ Some x ∷ []) is c b
unfolding body_events
present_more t whole xs i is x c a b r named one = record {
  read = r.read ++ item_events i (item_data x);
  said = said_both t r.read (item_events i (item_data x)) c a b r.said one.said;
  suits = λ vs h. subst (SuitsBody whole) (sym (followed_more xs (Some x) vs)) (r.suits (present (item_data x) vs) (one.suits, h));
  says = λ vs. ap (body_events whole) (followed_more xs (Some x) vs) ∙ r.says (present (item_data x) vs)
      ∙ sym (append_assoc r.read (item_events i (item_data x)) (body_events is vs));
  plain = λ p. plain_rest t i is (r.plain p);
  left = λ p. let q = r.plain p in left_present t whole i is (item_data x) c a b q.templates q.distinct.0 q.distinct.1
      (plain_first t i is q).named (r.left p) named one;
}

-- So at a place in a body.
module _ (t : Tree) (nodes : List Node) (body : List ℕ) (i n : ℕ) (inside : i < length body) (is : slice_index body i ≡ n)
    (own : number (instruction_in nodes n) ≡ n) (xs : List (Option Item)) (c a : Cursor)
    (r : IsReadTo t (body_among nodes body) xs (body_among nodes (drop i body)) c a) where
  here : body_among nodes (drop i body) ≡ step (instruction_in nodes n) (body_among nodes (drop (i + 1) body))
  here = body_next nodes body i inside ∙ ap (λ (k : ℕ). step (instruction_in nodes k) (body_among nodes (drop (i + 1) body))) is

  opened : IsReadTo t (body_among nodes body) xs (step (instruction_in nodes n) (body_among nodes (drop (i + 1) body))) c a
  opened = subst (λ (z : Body). IsReadTo t (body_among nodes body) xs z c a) here r

  as_own : Names t n (instruction_in nodes n) (option_map line_data a.line)
      → Names t (number (instruction_in nodes n)) (instruction_in nodes n) (option_map line_data a.line)
  as_own = subst (λ (k : ℕ). Names t k (instruction_in nodes n) (option_map line_data a.line)) (sym own)

  not_own : ¬ (Names t n (instruction_in nodes n) (option_map line_data a.line))
      → ¬ (Names t (number (instruction_in nodes n)) (instruction_in nodes n) (option_map line_data a.line))
  not_own never h = never (subst (λ (k : ℕ). Names t k (instruction_in nodes n) (option_map line_data a.line)) own h)

  pub absent_at : ¬ (Names t n (instruction_in nodes n) (option_map line_data a.line)) → Suits (instruction_in nodes n) None
      → IsReadTo t (body_among nodes body) (xs ++ None ∷ []) (body_among nodes (drop (i + 1) body)) c a
  absent_at never none = absent_more t (body_among nodes body) xs (instruction_in nodes n)
      (body_among nodes (drop (i + 1) body)) c a opened (not_own never) none

  pub present_at : (x : Item) (b : Cursor) → Names t n (instruction_in nodes n) (option_map line_data a.line)
      → IsItemRead t (instruction_in nodes n) (item_data x) a b
      → IsReadTo t (body_among nodes body) (xs ++ Some x ∷ []) (body_among nodes (drop (i + 1) body)) c b
  present_at x b named one = present_more t (body_among nodes body) xs (instruction_in nodes n)
      (body_among nodes (drop (i + 1) body)) x c a b opened (as_own named) one

  pub item_at : (ending : Ending) → Names t n (instruction_in nodes n) (option_map line_data a.line)
      → HasNoItem t (instruction_in nodes n) a → HasNoBody t (body_among nodes body) ending c
  item_at ending named none = item_refused t (body_among nodes body) xs (instruction_in nodes n)
      (body_among nodes (drop (i + 1) body)) ending c a opened (as_own named) none

  pub mandatory_at : (ending : Ending) → ¬ (Names t n (instruction_in nodes n) (option_map line_data a.line))
      → ¬ (Suits (instruction_in nodes n) None) → HasNoBody t (body_among nodes body) ending c
  mandatory_at ending never wanted = mandatory_refused t (body_among nodes body) xs (instruction_in nodes n)
      (body_among nodes (drop (i + 1) body)) ending c a opened (not_own never) wanted

-- the line of an ending
end_line_is : (t : Tree) (ending : Ending) → end_line ending ≡ line_of_event t (end_event ending)
end_line_is t Ends.Message = refl
end_line_is t Ends.Group = refl
end_line_is t Ends.Element = refl

-- the line ahead is the one that was left behind
left_line : (a b : Cursor) (d : LineData) (h : Advances a b) → option_map line_data a.line ≡ Some d → h.line ≡ d
left_line a b d h e = let both : Some h.line ≡ Some d = sym h.was ∙ e in cc (both)

-- the slots are read, and the line that ends them
body_done : (t : Tree) (whole : Body) (xs : List (Option Item)) (ending : Ending) (c a b : Cursor) → IsReadTo t whole xs end c a
    → option_map line_data a.line ≡ Some (end_line ending) → Advances a b → IsBodyRead t whole ending (slots_data xs) c b
unfolding body_events
body_done t whole xs ending c a b r line h =
    let last = said_one t (end_event ending) a b h (left_line a b (end_line ending) h line ∙ end_line_is t ending) in
    let all : r.read ≡ body_events whole (slots_data xs) = sym (append-nil r.read) ∙ sym (r.says no_slots) ∙ ap (body_events whole) (followed_none xs) in
    record {
      suits = subst (SuitsBody whole) (followed_none xs) (r.suits no_slots tt);
      said = said_as t (r.read ++ end_event ending ∷ []) (body_events whole (slots_data xs) ++ end_event ending ∷ []) c b
          (ap (λ (z : List EventData). z ++ end_event ending ∷ []) all) (said_both t r.read (end_event ending ∷ []) c a b r.said last);
    }

pub body_ended : (t : Tree) (nodes : List Node) (body : List ℕ) (i : ℕ) (xs : List (Option Item)) (ending : Ending) (c a b : Cursor)
    → length body ≤ i → IsReadTo t (body_among nodes body) xs (body_among nodes (drop i body)) c a
    → option_map line_data a.line ≡ Some (end_line ending) → Advances a b
    → IsBodyRead t (body_among nodes body) ending (slots_data xs) c b
body_ended t nodes body i xs ending c a b past r line h =
    body_done t (body_among nodes body) xs ending c a b (subst (λ (z : Body). IsReadTo t (body_among nodes body) xs z c a)
    (body_last nodes body i past) r) line h

pub body_unended : (t : Tree) (nodes : List Node) (body : List ℕ) (i : ℕ) (xs : List (Option Item)) (ending : Ending) (c a : Cursor)
    → length body ≤ i → IsReadTo t (body_among nodes body) xs (body_among nodes (drop i body)) c a
    → ¬ (option_map line_data a.line ≡ Some (end_line ending)) → HasNoBody t (body_among nodes body) ending c
body_unended t nodes body i xs ending c a past r never =
    end_refused t (body_among nodes body) xs ending c a (subst (λ (z : Body). IsReadTo t (body_among nodes body) xs z c a)
    (body_last nodes body i past) r) never

-- Elements.
right_more : (R : Slots → Type 0) (rs : List (Vec (Option Item) Global)) (r : Vec (Option Item) Global) → AreRight R (elements_data rs)
    → R (slots_data r.items) → AreRight R (elements_data (rs ++ r ∷ []))
right_more R [] r h k = (k, tt)
right_more R (q ∷ rs) r h k = (h.0, right_more R rs r h.1 k)

events_more : (f : Slots → List EventData) (rs : List (Vec (Option Item) Global)) (r : Vec (Option Item) Global)
    → element_events f (elements_data (rs ++ r ∷ [])) ≡ element_events f (elements_data rs)
    ++ (ElementStart ∷ (f (slots_data r.items) ++ ElementEnd ∷ []))
events_more f [] r = refl
events_more f (q ∷ rs) r =
    ap (λ (z : List EventData). ElementStart ∷ (f (slots_data q.items) ++ ElementEnd ∷ z)) (events_more f rs r)
    ∙ sym (append_assoc (ElementStart ∷ f (slots_data q.items)) (ElementEnd ∷ element_events f (elements_data rs))
    (ElementStart ∷ (f (slots_data r.items) ++ ElementEnd ∷ [])))

pub rows_start : (t : Tree) (body : Body) (c : Cursor) → AreReadTo t body [] c c
rows_start t body c = record { right = tt; said = said_none t c }

pub rows_more : (t : Tree) (body : Body) (rs : List (Vec (Option Item) Global)) (r : Vec (Option Item) Global) (c a mid b : Cursor)
    → AreReadTo t body rs c a → option_map line_data a.line ≡ Some element_line → Advances a mid
    → IsBodyRead t body Ends.Element (slots_data r.items) mid b
    → AreReadTo t body (rs ++ r ∷ []) c b
rows_more t body rs r c a mid b h line on one =
    let before = element_events (body_events body) (elements_data rs) in
    let inner = body_events body (slots_data r.items) ++ ElementEnd ∷ [] in
    let start = said_one t ElementStart a mid on (left_line a mid element_line on line) in
    let own = said_both t (ElementStart ∷ []) inner a mid b start one.said in
    record {
      right = right_more (SuitsBody body) rs r h.right one.suits;
      said = said_as t (before ++ (ElementStart ∷ inner)) (element_events (body_events body) (elements_data (rs ++ r ∷ []))) c b
          (sym (events_more (body_events body) rs r)) (said_both t before (ElementStart ∷ inner) c a b h.said own);
    }

pub rows_done : (t : Tree) (body : Body) (rs : List (Vec (Option Item) Global)) (n : ℕ) (c a b : Cursor) → AreReadTo t body rs c a
    → length rs ≡ n → option_map line_data a.line ≡ Some sequence_end → Advances a b → AreRowsRead t body n (elements_data rs) c b
rows_done t body rs n c a b h many line on = record {
  right = h.right;
  counted = count-elements_data rs ∙ many;
  said = said_both t (element_events (body_events body) (elements_data rs)) (SequenceEnd ∷ []) c a b h.said
      (said_one t SequenceEnd a b on (left_line a b sequence_end on line));
}

-- Messages.
pub message_read : (t : Tree) (n : ℕ) (u : TemplateData) (vs : Slots) (m : MessageData) (c mid next : Cursor) → m ≡ record {
  template = n;
  slots = vs;
} → slice_get t.templates n ≡ Some u → option_map line_data c.line ≡ Some (message u.name) → Advances c mid
    → IsBodyRead t u.body Ends.Message vs mid next → IsMessageRead t m c next
message_read t n u vs m c mid next is found line on one =
    let own : MessageData = record { template = n; slots = vs } in
    let named : message u.name ≡ message (template_name t n) = ap message (sym (name_is t n u found)) in
    let start = said_one t (MessageStart n) c mid on (left_line c mid (message u.name) on line ∙ named) in
    let all : events t own ≡ MessageStart n ∷ (body_events u.body vs ++ MessageEnd ∷ []) = ap (λ (o : Option TemplateData). template_events n o vs) found in
    record {
      suits = subst (SuitsTemplate t) (sym is) (u, found, one.suits);
      said = said_as t (MessageStart n ∷ (body_events u.body vs ++ MessageEnd ∷ [])) (events t m) c next (sym all ∙ ap (events t) (sym is))
          (said_both t (MessageStart n ∷ []) (body_events u.body vs ++ MessageEnd ∷ []) c mid next start one.said);
    }

pub messages_more : (t : Tree) (text : List ℕ) (ms : List MessageData) (m : MessageData) (a b : Cursor) → AreMessagesRead t text ms a
    → IsMessageRead t m a b → AreMessagesRead t text (ms ++ m ∷ []) b
messages_more t text ms m a b h one =
    let from = h.from in
    let to = h.to in
    let on = one.said.from in
    let back = one.said.to in
    let L = λ (es : List EventData). lines t es in
    let all : lines t (flat_map (events t) (ms ++ m ∷ [])) ≡ lines t (flat_map (events t) ms) ++ lines t (events t m) =
    ap L (flat_map-append (events t) ms (m ∷ []) ∙ ap (λ (z : List EventData). flat_map (events t) ms ++ z) (append-nil (events t m)))
    ∙ flat_map-append (λ (e : EventData). line_of t e ++ 0x0A ∷ []) (flat_map (events t) ms) (events t m) in
    record {
      suit = All-append (SuitsTemplate t) ms (m ∷ []) h.suit (All-cons (SuitsTemplate t) m [] one.suits (All-nil (SuitsTemplate t)));
      text_is = h.text_is ∙ ap (λ (z : List ℕ). lines t (flat_map (events t) ms) ++ z) one.said.text
          ∙ sym (append_assoc (lines t (flat_map (events t) ms)) (lines t (events t m)) (ahead b))
          ∙ ap (λ (z : List ℕ). z ++ ahead b) (sym all);
      from = omega (arith, from, on);
      to = omega (arith, to, back);
    }

-- A message is of one byte at least.
pub message_shorter : (t : Tree) (m : MessageData) (a b : Cursor) → IsMessageRead t m a b → length (ahead b) < length (ahead a)
message_shorter t m a b h = by m h.suits refl
  where
    by : (k : MessageData) → SuitsTemplate t k → k ≡ m → length (ahead b) < length (ahead a)
    by k (u, found, right) e =
        let es = body_events u.body k.slots ++ MessageEnd ∷ [] in
        let are : events t m ≡ MessageStart k.template ∷ es = ap (events t) (sym e)
        ∙ ap (λ (o : Option TemplateData). template_events k.template o k.slots) found in
        let text : ahead a ≡ lines t (MessageStart k.template ∷ es) ++ ahead b = h.said.text ∙ ap (λ (z : List EventData). lines t z ++ ahead b) are in
        let all : length (ahead a) ≡ length (lines t (MessageStart k.template ∷ es) ++ ahead b) = ap length text in
        let parts = length-append (lines t (MessageStart k.template ∷ es)) (ahead b) in
        let first = length-append (line_of t (MessageStart k.template) ++ 0x0A ∷ []) (lines t es) in
        let feed = length-append (line_of t (MessageStart k.template)) (0x0A ∷ []) in
        omega (arith, all, parts, first, feed)
