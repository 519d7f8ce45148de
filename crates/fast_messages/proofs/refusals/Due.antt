-- What was read stands in the text ahead, before anything else that may be due.
use Rattle.std.proofs.Common.{◌≡◌, ◌≢◌, ℕ, List, [], ◌∷◌, ◌++◌, refl, sym, ap, subst, ◌∙◌, append_assoc}
use Rattle.std.specs.Prelude.{All, Option, Some, None, IfSome, option_map}
use Rattle.std.proofs.Math.Logic.{∥∥₁_elim}
use Rattle.fast_value.specs.meaning.Messages.{ItemData, one, group as group_item, sequence as sequence_item}
use Rattle.std.proofs.lemmas.List.Elements.{All-head, All-tail}
use Rattle.fast_tree.specs.meaning.Tree.{Instruction, field, parts, group, sequence, Tree}
use Rattle.fast_stream.specs.meaning.Events.{EventData, FieldValue, GroupStart, SequenceStart, item_events}
use Rattle.fast_lines.specs.declared.forms.Line.{Line}
use Rattle.fast_lines.specs.meaning.Forms.{IsForm, line_data, text_of_line, line_of_event}
use Rattle.fast_lines.proofs.OneLine.{same_line}
use Rattle.fast_spelling.specs.meaning.Suiting.{Suits}
use Rattle.fast_lines.specs.meaning.Lines.{line_of, lines}
use Rattle.fast_lines.proofs.Splits.{first_split}
use Rattle.fast_messages.specs.declared.cursors.Cursor.{Cursor}
use Rattle.fast_messages.specs.device.Ahead.{IsOneLine, text_from}
use Rattle.fast_messages.specs.meaning.Distinct.{number}
use Rattle.fast_messages.specs.device.Naming.{Names}
use Rattle.fast_messages.specs.meaning.Reading.{closed}
use Rattle.fast_messages.specs.device.Cursors.{ahead, IsSaid}
use Rattle.fast_messages.specs.meaning.Lined.{IsLined, HasDistinctNames, IsShown}
use Rattle.fast_messages.specs.device.Refusing.{IsDue}
use Rattle.fast_messages.proofs.texts.NoFeeds.{line_lacks}
use Rattle.fast_messages.proofs.refusals.NoLines.{first_is, lacks_none}
use Rattle.fast_messages.proofs.unique.OneEvent.{same_event, formed}

pub lines_are : (t : Tree) (e : EventData) (es : List EventData) → lines t (e ∷ es) ≡ line_of t e ++ 0x0A ∷ lines t es
lines_are t e es = append_assoc (line_of t e) (0x0A ∷ []) (lines t es)

pub no_line : (a b : List ℕ) (x : ℕ) → a ++ x ∷ b ≢ []
no_line [] b x h = absurd (cc (h))
no_line (c ∷ a) b x h = absurd (cc (h))

pub behind : {A : Type 0} (P : A → Type 0) (xs ys : List A) → All P (xs ++ ys) → All P ys
behind P [] ys h = h
behind P (x ∷ xs) ys h = behind P xs ys (All-tail P x (xs ++ ys) h)

front : (t : Tree) (e : EventData) (read : List EventData) (rest : List ℕ) → lines t (e ∷ read) ++ rest ≡ line_of t e ++ 0x0A ∷ (lines t read ++ rest)
front t e read rest = ap (λ (z : List ℕ). z ++ rest) (lines_are t e read) ∙ append_assoc (line_of t e) (0x0A ∷ lines t read) rest

pub split_lines : (t : Tree) (read es : List EventData) (rest : List ℕ) → HasDistinctNames t → All (IsLined t) read → All (IsLined t) es
    → lines t read ++ rest ≡ lines t es → (fs : List EventData) × (es ≡ read ++ fs) × (rest ≡ lines t fs)
split_lines t [] es rest d a b h = (es, refl, h)
split_lines t (e ∷ read) [] rest d a b h = absurd (no_line (line_of t e) (lines t read ++ rest) 0x0A (sym (front t e read rest) ∙ h))
split_lines t (e ∷ read) (f ∷ es) rest d a b h =
    let first = All-head (IsLined t) e read a in
    let other = All-head (IsLined t) f es b in
    let split = first_split 0x0A (line_of t e) (line_of t f) (lines t read ++ rest) (lines t es) (line_lacks t e first)
    (line_lacks t f other) (sym (front t e read rest) ∙ h ∙ lines_are t f es) in
    let same : e ≡ f = same_event t e f d first other split.0 in
    let later = split_lines t read es rest d (All-tail (IsLined t) e read a) (All-tail (IsLined t) f es b) split.1 in
    (later.0, ap (λ (z : EventData). z ∷ es) (sym same) ∙ ap (λ (z : List EventData). e ∷ z) later.1, later.2)

pub due_behind : (t : Tree) (read es : List EventData) (a b : Cursor) → HasDistinctNames t → All (IsLined t) read → IsSaid t read a b
    → IsDue t es a → (fs : List EventData) × (es ≡ read ++ fs) × IsDue t fs b
due_behind t read es a b d lined said due =
    let split = split_lines t read es (ahead b) d lined due.lined (sym said.text ∙ due.text) in (
      split.0,
      split.1,
      record {
        lined = behind (IsLined t) read split.0 (subst (All (IsLined t)) split.1 due.lined);
        shown = behind IsShown read split.0 (subst (All IsShown) split.1 due.shown);
        text = split.2;
      },
    )

-- The line ahead is that of the first event that is due.
first_line : (line : Option Line) (rest : List ℕ) (t : Tree) (e : EventData) (es : List EventData)
    → IfSome line (λ l. IsForm (line_data l)) → IsOneLine line → IsLined t e → text_from line rest ≡ lines t (e ∷ es)
    → option_map line_data line ≡ Some (line_of_event t e)
first_line None rest t e es form whole lined h = absurd (no_line (line_of t e) (lines t es) 0x0A (sym (lines_are t e es) ∙ sym h))
first_line (Some l) rest t e es form whole lined h =
    ap Some (same_line (line_data l) (line_of_event t e) form (formed t e lined)
    (first_is t (text_of_line (line_data l)) (closed rest) e es
    (lacks_none (text_of_line (line_data l)) (whole (line_data l) refl)) lined h))

pub due_line : (t : Tree) (e : EventData) (es : List EventData) (c : Cursor) → IsDue t (e ∷ es) c
    → (option_map line_data c.line ≡ Some (line_of_event t e) → ⊥) → ⊥
due_line t e es c due never = ∥∥₁_elim c.formed (λ (x y : ⊥). absurd x)
    (λ form. never (first_line c.line c.rest.now t e es form c.one_line (All-head (IsLined t) e es due.lined) due.text))

-- The first event of an item has a line that names its node.
pub item_first : (i : Instruction) (x : ItemData) → Suits i (Some x)
    → (e : EventData) × (es : List EventData) × (item_events i x ≡ e ∷ es) × ((t : Tree) → Names t (number i) i (Some (line_of_event t e)))
unfolding item_events
item_first (field l f) (one v) h = (FieldValue l.node v, [], refl, λ t. (refl, tt, refl))
item_first (field l f) (group_item vs) h = absurd h
item_first (field l f) (sequence_item rows) h = absurd h
item_first (parts l e m) (one v) h = (FieldValue l.node v, [], refl, λ t. (refl, tt, refl))
item_first (parts l e m) (group_item vs) h = absurd h
item_first (parts l e m) (sequence_item rows) h = absurd h
item_first (group l optional body) (one v) h = absurd h
item_first (group l optional body) (group_item vs) h = (GroupStart l.node, _, refl, λ t. (refl, tt, refl))
item_first (group l optional body) (sequence_item rows) h = absurd h
item_first (sequence l length body) (one v) h = absurd h
item_first (sequence l length body) (group_item vs) h = absurd h
item_first (sequence l length body) (sequence_item rows) h = (SequenceStart l.node _, _, refl, λ t. (refl, tt, refl))
