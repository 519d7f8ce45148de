-- What may be due of a body, behind what was read of it.
use Rattle.std.proofs.Common.{◌≡◌, ◌≢◌, ℕ, List, [], ◌∷◌, ◌++◌, sym, subst, append_assoc}
use Rattle.std.specs.Prelude.{Option, Some, None, option_map}
use Rattle.fast_value.specs.meaning.Messages.{ItemData, Slots, no_slots, absent, present}
use Rattle.fast_tree.specs.meaning.Tree.{Instruction, Body, step, Tree}
use Rattle.fast_notation.specs.meaning.Labels.{labels}
use Rattle.fast_stream.specs.meaning.Events.{EventData, MessageStart, FieldValue, GroupStart, GroupEnd, SequenceStart, ElementStart}
use Rattle.fast_stream.specs.meaning.Events.{ElementEnd, SequenceEnd, MessageEnd, item_events, body_events}
use Rattle.fast_lines.specs.declared.forms.Line.{Line}
use Rattle.fast_lines.specs.meaning.Forms.{line_data, text_of_line, line_of_event}
use Rattle.fast_spelling.specs.meaning.Suiting.{Suits, SuitsBody}
use Rattle.fast_messages.specs.declared.cursors.Cursor.{Cursor}
use Rattle.fast_messages.specs.device.Ahead.{text_from}
use Rattle.fast_messages.specs.meaning.Distinct.{number, HasNone, IsDistinct}
use Rattle.fast_messages.specs.meaning.Lined.{HasDistinctNames}
use Rattle.fast_messages.specs.declared.endings.Ending.{Ending}
use Rattle.fast_messages.specs.declared.endings.Ending.TheVariants as Ends
use Rattle.fast_messages.specs.device.Naming.{Names, end_event}
use Rattle.fast_messages.specs.meaning.Reading.{closed}
use Rattle.fast_messages.specs.device.Refusing.{IsDue}
use Rattle.fast_messages.specs.device.Runs.{IsItemRead}
use Rattle.fast_messages.specs.meaning.Unsaid.{IsLeft}
use Rattle.fast_messages.proofs.refusals.Due.{due_behind, due_line, item_first}
use Rattle.fast_messages.proofs.names.LinedEvents.{Named, item_lined}
use Rattle.fast_messages.proofs.unique.OneBody.{Names as EventNames, Lacks, IsEnd, past, same_item}

pub left_start : (t : Tree) (body : Body) (c : Cursor) → IsLeft t body body c c
left_start t body c = record { back = λ vs ending es h due. (vs, h, due) }

-- the event of a line that names a node
named_event : (t : Tree) (n : ℕ) (i : Instruction) (e : EventData) → Names t n i (Some (line_of_event t e)) → EventNames n e
named_event t n i (FieldValue m v) h = h.0
named_event t n i (GroupStart m) h = h.0
named_event t n i (SequenceStart m k) h = h.0
named_event t n i (MessageStart m) h = h
named_event t n i GroupEnd h = h
named_event t n i ElementStart h = h
named_event t n i ElementEnd h = h
named_event t n i SequenceEnd h = h
named_event t n i MessageEnd h = h

some_text : (t : Tree) (n : ℕ) (i : Instruction) (line : Option Line) (rest : List ℕ) → Names t n i (option_map line_data line) → text_from line rest ≢ []
some_text t n i None rest named h = absurd named
some_text t n i (Some l) rest named h = no_line (text_of_line (line_data l)) (closed rest) 0x0A h
  where
    no_line : (a b : List ℕ) (x : ℕ) → a ++ x ∷ b ≢ []
    no_line [] b x k = absurd (cc (k))
    no_line (d ∷ a) b x k = absurd (cc (k))

-- A line that names a node is due with an event of it.
pub not_lacking : (t : Tree) (n : ℕ) (i : Instruction) (c : Cursor) (es : List EventData) → Names t n i (option_map line_data c.line)
    → IsDue t es c → ¬ (Lacks n es)
not_lacking t n i c [] named due lacks = some_text t n i c.line c.rest.now named due.text
not_lacking t n i c (e ∷ es) named due lacks = due_line t e es c due
    (λ (is : option_map line_data c.line ≡ Some (line_of_event t e)). lacks (named_event t n i e (subst (Names t n i) is named)))

-- An item is due only where the line names its node.
pub no_item_due : (t : Tree) (i : Instruction) (x : ItemData) (es : List EventData) (c : Cursor) → Suits i (Some x)
    → ¬ (Names t (number i) i (option_map line_data c.line)) → ¬ (IsDue t (item_events i x ++ es) c)
no_item_due t i x es c h never due =
    let (e, tail, is, names) = item_first i x h in
    due_line t e (tail ++ es) c (subst (λ (z : List EventData). IsDue t (z ++ es) c) is due)
    (λ (line : option_map line_data c.line ≡ Some (line_of_event t e)). never (subst (Names t (number i) i) (sym line) (names t)))

pub grouped : (t : Tree) (i : Instruction) (x : ItemData) (is : Body) (ws : Slots) (es : List EventData) (c : Cursor)
    → IsDue t (body_events (step i is) (present x ws) ++ es) c → IsDue t (item_events i x ++ (body_events is ws ++ es)) c
unfolding body_events
grouped t i x is ws es c due = subst (λ (z : List EventData). IsDue t z c) (append_assoc (item_events i x) (body_events is ws) es) due

pub passed : (t : Tree) (i : Instruction) (is : Body) (ws : Slots) (es : List EventData) (c : Cursor)
    → IsDue t (body_events (step i is) (absent ws) ++ es) c → IsDue t (body_events is ws ++ es) c
unfolding body_events
passed t i is ws es c due = due

-- Where the line doesn't name the next node, that is absent.
absent_left : (t : Tree) (i : Instruction) (is : Body) (a : Cursor) → ¬ (Names t (number i) i (option_map line_data a.line))
    → (ws : Slots) (es : List EventData) → SuitsBody (step i is) ws → IsDue t (body_events (step i is) ws ++ es) a
    → (us : Slots) × SuitsBody is us × IsDue t (body_events is us ++ es) a
absent_left t i is a never no_slots es h due = absurd h
absent_left t i is a never (absent ws) es h due = (ws, h.1, passed t i is ws es a due)
absent_left t i is a never (present x ws) es h due = absurd (no_item_due t i x (body_events is ws ++ es) a h.0 never (grouped t i x is ws es a due))

pub left_absent : (t : Tree) (whole : Body) (i : Instruction) (is : Body) (c a : Cursor) → IsLeft t whole (step i is) c a
    → ¬ (Names t (number i) i (option_map line_data a.line)) → IsLeft t whole is c a
left_absent t whole i is c a l never = record {
  back = λ vs ending es h due. let w = l.back vs ending es h due in absent_left t i is a never w.0 (end_event ending ∷ es) w.1 w.2;
}

-- a body ends with an event that names no node
pub ended : (ending : Ending) (es : List EventData) → IsEnd (end_event ending ∷ es)
ended Ends.Message es n h = h
ended Ends.Group es n h = h
ended Ends.Element es n h = h

-- Where it does, what was read is what is due.
present_left : (t : Tree) (i : Instruction) (is : Body) (x : ItemData) (a b : Cursor) → HasDistinctNames t → IsDistinct i
    → HasNone (number i) is → Named t (labels i) → Names t (number i) i (option_map line_data a.line) → IsItemRead t i x a b
    → (ws : Slots) (es : List EventData) → IsEnd es → SuitsBody (step i is) ws → IsDue t (body_events (step i is) ws ++ es) a
    → (us : Slots) × SuitsBody is us × IsDue t (body_events is us ++ es) b
present_left t i is x a b names distinct none labelled named read no_slots es ends h due = absurd h
present_left t i is x a b names distinct none labelled named read (absent ws) es ends h due =
    absurd (not_lacking t (number i) i a (body_events is ws ++ es) named (passed t i is ws es a due)
    (past (number i) is ws es none h.1 ends))
present_left t i is x a b names distinct none labelled named read (present y ws) es ends h due =
    let (fs, both, rest) = due_behind t (item_events i x) (item_events i y ++ (body_events is ws ++ es)) a b names
    (item_lined t i x labelled read.suits) read.said (grouped t i y is ws es a due) in
    let same = same_item i y x (body_events is ws ++ es) fs distinct h.0 read.suits both in
    (ws, h.1, subst (λ (z : List EventData). IsDue t z b) (sym same.1) rest)

pub left_present : (t : Tree) (whole : Body) (i : Instruction) (is : Body) (x : ItemData) (c a b : Cursor) → HasDistinctNames t
    → IsDistinct i → HasNone (number i) is → Named t (labels i) → IsLeft t whole (step i is) c a
    → Names t (number i) i (option_map line_data a.line) → IsItemRead t i x a b → IsLeft t whole is c b
left_present t whole i is x c a b names distinct none labelled l named read = record {
  back = λ vs ending es h due. let w = l.back vs ending es h due in
      present_left t i is x a b names distinct none labelled named read w.0 (end_event ending ∷ es) (ended ending es) w.1 w.2;
}
