-- What is not due of a field, a group or a sequence, where a line of theirs is at fault.
use Rattle.std.proofs.Common.{◌≡◌, ℕ, List, [], ◌∷◌, ◌++◌, refl, sym, ap, subst, ◌∙◌, append_assoc}
use Rattle.std.specs.Prelude.{Bool, Some, None, option_map}
use Rattle.std.proofs.lemmas.List.Elements.{All-head, All-tail}
use Rattle.fast_value.specs.declared.values.Value.{Value}
use Rattle.fast_value.specs.meaning.Kinds.{ScalarData}
use Rattle.fast_value.specs.meaning.Messages.{ItemData, one, group as group_item, sequence as sequence_item, count}
use Rattle.fast_value.specs.meaning.Values.{value_data}
use Rattle.fast_tree.specs.meaning.Tree.{Label, FieldData, Instruction, field, parts, group, sequence, Body, Tree}
use Rattle.fast_notation.specs.meaning.Labels.{body_labels}
use Rattle.fast_stream.specs.meaning.Events.{EventData, FieldValue, GroupStart, GroupEnd, SequenceStart, SequenceEnd, element_events, item_events, body_events}
use Rattle.fast_lines.specs.meaning.Forms.{LineData, line_data, text_of_line, line_of_event, field as field_line, sequence as sequence_line}
use Rattle.fast_lines.specs.meaning.Lines.{line_of, lines, node_name, written}
use Rattle.fast_lines.proofs.Splits.{first_split}
use Rattle.fast_spelling.specs.meaning.Suiting.{Suits}
use Rattle.fast_messages.specs.declared.cursors.Cursor.{Cursor}
use Rattle.fast_messages.specs.declared.endings.Ending.{Ending}
use Rattle.fast_messages.specs.declared.endings.Ending.TheVariants as Ends
use Rattle.fast_messages.specs.declared.faults.TextFault.{TextFault}
use Rattle.fast_messages.specs.declared.faults.TextFault.TheVariants.{BadLine, Memory}
use Rattle.fast_messages.specs.meaning.Reading.{OnBadLine}
use Rattle.fast_messages.specs.device.Cursors.{ahead, Advances}
use Rattle.fast_messages.specs.meaning.Distinct.{number}
use Rattle.fast_messages.specs.meaning.Lined.{IsNamed, IsTold, IsLined, IsShown}
use Rattle.fast_messages.specs.device.Naming.{IsValue, end_event}
use Rattle.fast_messages.specs.device.Refusing.{IsDue, HasNoNext}
use Rattle.fast_messages.specs.meaning.Unsaid.{IsPlainBody, HasNoItem, HasNoBody, HasNoRows}
use Rattle.fast_messages.proofs.refusals.Due.{due_line, lines_are, item_first}
use Rattle.fast_messages.proofs.texts.NoFeeds.{line_lacks}
use Rattle.fast_messages.proofs.unique.OneEvent.{line_is}
use Rattle.fast_messages.proofs.readings.Parts.{value_events_are, group_events_are, sequence_events_are}
use Rattle.fast_messages.proofs.refusals.Plain.{plain_sequence}
use Rattle.fast_messages.proofs.values.ToldValues.{told_value}

-- what is so of a fault of a line
pub on_bad : (A B : Type 0) → (A → B) → (e : TextFault) → OnBadLine A e → OnBadLine B e
on_bad A B f (BadLine line kind) h = f h
on_bad A B f Memory h = tt

pub always : (A : Type 0) (e : TextFault) → A → OnBadLine A e
always A (BadLine line kind) h = h
always A Memory h = tt

same_lines : (a b : LineData) → Some a ≡ Some b → a ≡ b
same_lines a b h = cc (h)

step_on : (t : Tree) (e : EventData) (es : List EventData) (c next : Cursor) → Advances c next → IsDue t (e ∷ es) c
    → option_map line_data c.line ≡ Some (line_of_event t e) → IsDue t es next
step_on t e es c next a due line =
    let same = same_lines a.line (line_of_event t e) (sym a.was ∙ line) in
    let lined = All-head (IsLined t) e es due.lined in
    let text : ahead c ≡ line_of t e ++ 0x0A ∷ ahead next = a.text ∙ ap (λ (z : LineData). text_of_line z ++ 0x0A ∷ ahead next) same
    ∙ ap (λ (z : List ℕ). z ++ 0x0A ∷ ahead next) (sym (line_is t e)) in
    let split = first_split 0x0A (line_of t e) (line_of t e) (ahead next) (lines t es) (line_lacks t e lined) (line_lacks t e lined)
    (sym text ∙ due.text ∙ lines_are t e es) in
    record {
      lined = All-tail (IsLined t) e es due.lined;
      shown = All-tail IsShown e es due.shown;
      text = split.1;
    }

-- What is due behind the first event is due at the next place.
pub due_next : (t : Tree) (e : EventData) (es : List EventData) (c next : Cursor) → Advances c next → IsDue t (e ∷ es) c → (IsDue t es next → ⊥) → ⊥
due_next t e es c next a due never = due_line t e es c due
    (λ (line : option_map line_data c.line ≡ Some (line_of_event t e)). never (step_on t e es c next a due line))

-- Where no line follows, nothing is due that has an event.
pub none_due : (t : Tree) (xs : List EventData) (e : EventData) (es : List EventData) (c : Cursor) → HasNoNext c → ¬ (IsDue t (xs ++ e ∷ es) c)
none_due t [] e es c none due = none t e es due
none_due t (x ∷ xs) e es c none due = none t x (xs ++ e ∷ es) due

pub item_next : (t : Tree) (i : Instruction) (c : Cursor) → HasNoNext c → HasNoItem t i c
item_next t i c none plain x es h due =
    let (e, tail, is, names) = item_first i x h in
    none t e (tail ++ es) (subst (λ (z : List EventData). IsDue t (z ++ es) c) is due)

pub body_next : (t : Tree) (b : Body) (ending : Ending) (c : Cursor) → HasNoNext c → HasNoBody t b ending c
body_next t b ending c none plain vs es h due = none_due t (body_events b vs) (end_event ending) es c none due

-- the value of a field
value_one : (i : Instruction) (x : ItemData) → IsValue i → Suits i (Some x) → (v : ScalarData) × (x ≡ one v)
value_one (field l f) (one v) k h = (v, refl)
value_one (field l f) (group_item vs) k h = absurd h
value_one (field l f) (sequence_item rows) k h = absurd h
value_one (parts l e m) (one v) k h = (v, refl)
value_one (parts l e m) (group_item vs) k h = absurd h
value_one (parts l e m) (sequence_item rows) k h = absurd h
value_one (group l optional body) x k h = absurd k
value_one (sequence l length body) x k h = absurd k

value_due : (t : Tree) (i : Instruction) (x : ItemData) (v : ScalarData) (es : List EventData) (c : Cursor) → IsValue i → x ≡ one v
    → IsDue t (item_events i x ++ es) c → IsDue t (FieldValue (number i) v ∷ es) c
value_due t i x v es c k is due = subst (λ (z : List EventData). IsDue t (z ++ es) c) (ap (item_events i) is ∙ value_events_are i v k) due

-- The line has no value that could be read.
pub unread_value : (t : Tree) (i : Instruction) (c : Cursor) → IsValue i → c.value ≡ None → HasNoItem t i c
unread_value t i c k none plain x es h due =
    let (v, is) = value_one i x k h in
    let own = value_due t i x v es c k is due in
    due_line t (FieldValue (number i) v) es c own
    (λ (line : option_map line_data c.line ≡ Some (field_line (number i) (node_name t (number i)) (written v))). c.untold (number i)
    (node_name t (number i)) (written v) v line none (All-head IsShown (FieldValue (number i) v) es own.shown).0 refl)

-- The value is none that the field can have.
pub wrong_value : (t : Tree) (i : Instruction) (w : Value) (c : Cursor) → IsValue i → c.value ≡ Some w → IsTold (value_data w)
    → ¬ (Suits i (Some (one (value_data w)))) → HasNoItem t i c
wrong_value t i w c k has told never plain x es h due =
    let (v, is) = value_one i x k h in
    let own = value_due t i x v es c k is due in
    due_line t (FieldValue (number i) v) es c own
    (λ (line : option_map line_data c.line ≡ Some (field_line (number i) (node_name t (number i)) (written v))).
    let text : written v ≡ written (value_data w) = c.told (number i) (node_name t (number i)) (written v) w line has in
    let same : v ≡ value_data w = told_value v (value_data w) (All-head (IsLined t) (FieldValue (number i) v) es own.lined).1 told text in
    never (subst (λ (z : ScalarData). Suits i (Some (one z))) same (subst (λ (z : ItemData). Suits i (Some z)) is h)))

no_group : (t : Tree) (l : Label) (optional : Bool) (body : Body) (c mid : Cursor) → Advances c mid → HasNoBody t body Ends.Group mid
    → HasNoItem t (group l optional body) c
no_group t l optional body c mid a none plain (one v) es h due = absurd h
no_group t l optional body c mid a none plain (sequence_item rows) es h due = absurd h
no_group t l optional body c mid a none plain (group_item vs) es h due =
    let is : item_events (group l optional body) (group_item vs) ++ es ≡ GroupStart l.node ∷ (body_events body vs ++ GroupEnd ∷ es) =
    ap (λ (z : List EventData). z ++ es) (group_events_are l optional body vs)
    ∙ ap (λ (z : List EventData). GroupStart l.node ∷ z) (append_assoc (body_events body vs) (GroupEnd ∷ []) es) in
    let within : IsPlainBody t body = record {
      templates = plain.templates;
      distinct = plain.distinct;
      named = All-tail (λ l. IsNamed t l.node) l (body_labels body) plain.named;
    } in
    due_next t (GroupStart l.node) (body_events body vs ++ GroupEnd ∷ es) c mid a (subst (λ (z : List EventData). IsDue t z c) is due)
    (λ later. none within vs es h later)

pub group_refused : (t : Tree) (i : Instruction) (l : Label) (optional : Bool) (body : Body) (c mid : Cursor) → i ≡ group l optional body
    → Advances c mid → HasNoBody t body Ends.Group mid → HasNoItem t i c
group_refused t i l optional body c mid is a none = subst (λ (z : Instruction). HasNoItem t z c) (sym is) (no_group t l optional body c mid a none)

no_sequence : (t : Tree) (l : Label) (f : FieldData) (body : Body) (many : ℕ) (c mid : Cursor)
    → ((m : ℕ) (name : List ℕ) (k : ℕ) → option_map line_data c.line ≡ Some (sequence_line m name k) → many ≡ k) → Advances c mid
    → HasNoRows t body many mid → HasNoItem t (sequence l f body) c
no_sequence t l f body many c mid counts a none plain (one v) es h due = absurd h
no_sequence t l f body many c mid counts a none plain (group_item vs) es h due = absurd h
no_sequence t l f body many c mid counts a none plain (sequence_item rows) es h due =
    let is : item_events (sequence l f body) (sequence_item rows)
    ++ es ≡ SequenceStart l.node (count rows) ∷ (element_events (body_events body) rows ++ SequenceEnd ∷ es) =
    ap (λ (z : List EventData). z ++ es) (sequence_events_are l f body rows)
    ∙ ap (λ (z : List EventData). SequenceStart l.node (count rows) ∷ z)
    (append_assoc (element_events (body_events body) rows) (SequenceEnd ∷ []) es) in
    let own = subst (λ (z : List EventData). IsDue t z c) is due in
    let behind = element_events (body_events body) rows ++ SequenceEnd ∷ es in
    due_line t (SequenceStart l.node (count rows)) behind c own
    (λ (line : option_map line_data c.line ≡ Some (sequence_line l.node (node_name t l.node) (count rows))).
    due_next t (SequenceStart l.node (count rows)) behind c mid a own
    (λ later. none (plain_sequence t l f body plain) rows es h.0 (sym (counts l.node (node_name t l.node) (count rows) line)) later))

pub sequence_refused : (t : Tree) (i : Instruction) (l : Label) (f : FieldData) (body : Body) (many : ℕ) (c mid : Cursor)
    → i ≡ sequence l f body → ((m : ℕ) (name : List ℕ) (k : ℕ) → option_map line_data c.line ≡ Some (sequence_line m name k) → many ≡ k)
    → Advances c mid → HasNoRows t body many mid → HasNoItem t i c
sequence_refused t i l f body many c mid is counts a none =
    subst (λ (z : Instruction). HasNoItem t z c) (sym is) (no_sequence t l f body many c mid counts a none)
