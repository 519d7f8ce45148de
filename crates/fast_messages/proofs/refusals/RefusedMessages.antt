-- What is not due of messages, where a line of theirs is at fault.
use Rattle.std.proofs.Common.{◌≡◌, ◌≢◌, ℕ, List, [], ◌∷◌, ◌++◌, sym, ap, subst, ◌∙◌, append_assoc}
use Rattle.std.specs.Prelude.{All, flat_map, slice_get, IsUtf8, IsSome, Option, Some, None, option_map, string_bytes}
use Rattle.std.proofs.lemmas.List.Elements.{All-head, All-tail}
use Rattle.fast_value.specs.meaning.Messages.{MessageData}
use Rattle.fast_tree.specs.declared.instructions.Template.{Template}
use Rattle.fast_tree.specs.meaning.Nodes.{instructions_from, template_data}
use Rattle.fast_tree.specs.meaning.Tree.{TemplateData, Tree}
use Rattle.fast_notation.proofs.lists.Lists.{map_get_back}
use Rattle.fast_template.specs.declared.sets.Templates.{Templates}
use Rattle.fast_template.specs.meaning.Flat.{nodes_of, templates_of, tree_of}
use Rattle.fast_stream.specs.meaning.Events.{EventData, MessageStart, MessageEnd, body_events, events}
use Rattle.fast_lines.specs.declared.forms.Line.{Line}
use Rattle.fast_lines.specs.meaning.Forms.{message, line_data, text_of_line}
use Rattle.fast_lines.specs.meaning.Lines.{lines, template_name}
use Rattle.fast_spelling.specs.meaning.Suiting.{SuitsTemplate}
use Rattle.fast_messages.specs.declared.cursors.Cursor.{Cursor}
use Rattle.fast_messages.specs.declared.endings.Ending.TheVariants as Ends
use Rattle.fast_messages.specs.device.Ahead.{HasNoLines, text_from}
use Rattle.fast_messages.specs.device.Cursors.{ahead, Advances}
use Rattle.fast_messages.specs.meaning.Distinct.{HasDistinctBodies}
use Rattle.fast_messages.specs.meaning.Lined.{IsLined, IsShown}
use Rattle.fast_messages.specs.device.Progress.{AreMessagesRead}
use Rattle.fast_messages.specs.meaning.Reading.{closed}
use Rattle.fast_messages.specs.device.Refusing.{IsDue, HasNoNext}
use Rattle.fast_messages.specs.meaning.Unsaid.{HasNoBody, HasNoMessage, SaysNothing}
use Rattle.fast_messages.proofs.refusals.Due.{behind, due_line, no_line, split_lines}
use Rattle.fast_messages.proofs.names.LinedEvents.{messages_lined}
use Rattle.fast_messages.proofs.texts.LineTexts.{named}
use Rattle.fast_messages.proofs.texts.NoFeeds.{name_is}
use Rattle.fast_messages.proofs.unique.OneList.{events_are, one_message, some_event}
use Rattle.fast_messages.proofs.refusals.Plain.{plain_template}
use Rattle.fast_messages.proofs.refusals.Refused.{due_next}

same_message : (a b : List ℕ) → Some (message a) ≡ Some (message b) → a ≡ b
same_message a b h = cc (h)

message_due : (t : Tree) (m : MessageData) (u : TemplateData) (es : List EventData) (c : Cursor)
    → slice_get t.templates m.template ≡ Some u → IsDue t (events t m ++ es) c
    → IsDue t (MessageStart m.template ∷ (body_events u.body m.slots ++ MessageEnd ∷ es)) c
message_due t m u es c found due = subst (λ (z : List EventData). IsDue t z c) (events_are t m u es found) due

pub message_next : (t : Tree) (c : Cursor) → HasNoNext c → HasNoMessage t c
message_next t c none distinct names m es (u, found, h) due =
    none t (MessageStart m.template) (body_events u.body m.slots ++ MessageEnd ∷ es) (message_due t m u es c found due)

-- No template has the line's name.
pub no_template : (s : Templates) (c : Cursor) (name : List ℕ) → option_map line_data c.line ≡ Some (message name)
    → (IsUtf8 name → (j : ℕ) (w : Template) → slice_get (templates_of s) j ≡ Some w → string_bytes w.name ≢ name)
    → HasNoMessage (tree_of s) c
no_template s c name line none distinct names m es (u, found, h) due =
    let t = tree_of s in
    let (w, there, is) = map_get_back (template_data (instructions_from 0 (nodes_of s))) (templates_of s) m.template u found in
    due_line t (MessageStart m.template) (body_events u.body m.slots ++ MessageEnd ∷ es) c (message_due t m u es c found due)
    (λ (own : option_map line_data c.line ≡ Some (message (template_name t m.template))).
    let same : name ≡ u.name = same_message name (template_name t m.template) (sym line ∙ own) ∙ name_is t m.template u found in
    none (subst IsUtf8 (sym same) (named u.name (names.templates m.template u found))) m.template w there
    (ap (λ (z : TemplateData). z.name) (sym is) ∙ sym same))

-- No slots of the template that the line names are due.
pub no_slots_due : (t : Tree) (n : ℕ) (u : TemplateData) (c mid : Cursor) → HasDistinctBodies t → slice_get t.templates n ≡ Some u
    → option_map line_data c.line ≡ Some (message u.name) → Advances c mid → HasNoBody t u.body Ends.Message mid → HasNoMessage t c
no_slots_due t n u c mid bodies here line a none distinct names m es (w, found, h) due =
    let tail = body_events w.body m.slots ++ MessageEnd ∷ es in
    let own = message_due t m w es c found due in
    due_line t (MessageStart m.template) tail c own
    (λ (is : option_map line_data c.line ≡ Some (message (template_name t m.template))).
    let name : u.name ≡ w.name = same_message u.name (template_name t m.template) (sym line ∙ is) ∙ name_is t m.template w found in
    let number : n ≡ m.template = distinct n m.template u w here found name in
    let both : Some u ≡ Some w = sym here ∙ ap (slice_get t.templates) number ∙ found in
    let same : u ≡ w = cc (both) in
    due_next t (MessageStart m.template) tail c mid a own
    (λ later. subst (λ (z : TemplateData). HasNoBody t z.body Ends.Message mid) same none
    (plain_template t m.template w distinct bodies names found) m.slots es h later))

pub text_refused : (t : Tree) (text : List ℕ) → HasNoLines (closed text) → SaysNothing t text
text_refused t text none distinct names ms shown s = none t (flat_map (events t) ms) (messages_lined t ms names s.suit) shown s.same

-- What is left of the messages, behind those that were read.
messages_left : (t : Tree) (ms all : List MessageData) (fs : List EventData) → HasDistinctBodies t → All (SuitsTemplate t) ms
    → All (SuitsTemplate t) all → flat_map (events t) ms ++ fs ≡ flat_map (events t) all
    → (rest : List MessageData) × All (SuitsTemplate t) rest × (fs ≡ flat_map (events t) rest)
messages_left t [] all fs d hs ks e = (all, ks, e)
messages_left t (m ∷ ms) [] fs d hs ks e = absurd (some_event t m (flat_map (events t) ms ++ fs) (All-head (SuitsTemplate t) m ms hs)
    (sym e ∙ append_assoc (events t m) (flat_map (events t) ms) fs))
messages_left t (m ∷ ms) (n ∷ ns) fs d hs ks e =
    let both : events t m ++ (flat_map (events t) ms ++ fs) ≡ events t n ++ flat_map (events t) ns =
    sym (append_assoc (events t m) (flat_map (events t) ms) fs) ∙ e in
    let one = one_message t m n (flat_map (events t) ms ++ fs) (flat_map (events t) ns) d (All-head (SuitsTemplate t) m ms hs)
    (All-head (SuitsTemplate t) n ns ks) both in
    messages_left t ms ns fs d (All-tail (SuitsTemplate t) m ms hs) (All-tail (SuitsTemplate t) n ns ks) one.1

-- a line is ahead
line_ahead : (line : Option Line) (rest : List ℕ) → IsSome line → text_from line rest ≢ []
line_ahead None rest some h = absurd (cc (some))
line_ahead (Some l) rest some h = no_line (text_of_line (line_data l)) (closed rest) 0x0A h

pub rest_refused : (t : Tree) (text : List ℕ) (ms : List MessageData) (c : Cursor) → HasDistinctBodies t → AreMessagesRead t text ms c
    → IsSome c.line → HasNoMessage t c → SaysNothing t text
rest_refused t text ms c bodies r some none distinct names all shown s =
    let read = flat_map (events t) ms in
    let whole = flat_map (events t) all in
    let lined = messages_lined t all names s.suit in
    let (fs, is, text) = split_lines t read whole (ahead c) distinct (messages_lined t ms names r.suit) lined (sym r.text_is ∙ s.same) in
    let (rest, suit, are) = messages_left t ms all fs bodies r.suit s.suit (sym is) in
    by fs rest (behind (IsLined t) read fs (subst (All (IsLined t)) is lined)) (behind IsShown read fs (subst (All IsShown) is shown)) text suit are
  where
    by : (fs : List EventData) (rest : List MessageData) → All (IsLined t) fs → All IsShown fs → ahead c ≡ lines t fs
        → All (SuitsTemplate t) rest → fs ≡ flat_map (events t) rest → ⊥
    by fs [] lined shown text suit are = line_ahead c.line c.rest.now some (text ∙ ap (λ (z : List EventData). lines t z) are)
    by fs (m ∷ rest) lined shown text suit are =
        none distinct names m (flat_map (events t) rest) (All-head (SuitsTemplate t) m rest suit) (subst (λ (z : List EventData). IsDue t z c) are (record {
          lined = lined;
          shown = shown;
          text = text;
        }))
