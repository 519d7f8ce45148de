-- A line is that of one event.
use Rattle.std.proofs.Common.{◌≡◌, ℕ, refl, ap, sym, ◌∙◌}
use Rattle.fast_tree.specs.meaning.Tree.{Tree}
use Rattle.fast_stream.specs.meaning.Events.{EventData, MessageStart, FieldValue, GroupStart, GroupEnd, SequenceStart, ElementStart}
use Rattle.fast_stream.specs.meaning.Events.{ElementEnd, SequenceEnd, MessageEnd}
use Rattle.fast_lines.specs.meaning.Lines.{line_of, template_name}
use Rattle.fast_lines.specs.meaning.Forms.{IsForm, text_of_line, line_of_event}
use Rattle.fast_lines.proofs.OneLine.{same_line}
use Rattle.fast_messages.proofs.values.ToldValues.{told_value}
use Rattle.fast_messages.specs.meaning.Lined.{IsLined, HasDistinctNames}
use Rattle.fast_messages.proofs.texts.NoFeeds.{name_is, name_is_word}

same_template : (t : Tree) (n m : ℕ) → HasDistinctNames t → IsLined t (MessageStart n) → IsLined t (MessageStart m)
    → template_name t n ≡ template_name t m → MessageStart n ≡ MessageStart m
same_template t n m d (u, found, _) (w, other, _) e = ap MessageStart (d n m u w found other (sym (name_is t n u found) ∙ e ∙ name_is t m w other))

same_said : (t : Tree) (e f : EventData) → HasDistinctNames t → IsLined t e → IsLined t f → line_of_event t e ≡ line_of_event t f → e ≡ f
same_said t (MessageStart n) (MessageStart m) d a b s = same_template t n m d a b (cc (s))
same_said t (MessageStart n) (FieldValue m w) d a b s = absurd (cc (s))
same_said t (MessageStart n) (GroupStart m) d a b s = absurd (cc (s))
same_said t (MessageStart n) GroupEnd d a b s = absurd (cc (s))
same_said t (MessageStart n) (SequenceStart m w) d a b s = absurd (cc (s))
same_said t (MessageStart n) ElementStart d a b s = absurd (cc (s))
same_said t (MessageStart n) ElementEnd d a b s = absurd (cc (s))
same_said t (MessageStart n) SequenceEnd d a b s = absurd (cc (s))
same_said t (MessageStart n) MessageEnd d a b s = absurd (cc (s))
same_said t (FieldValue n v) (MessageStart m) d a b s = absurd (cc (s))
same_said t (FieldValue n v) (FieldValue m w) d a b s = let value : v ≡ w = told_value v w a.1 b.1 (cc (s)) in let node : n ≡ m = cc (s) in cc (value, node)
same_said t (FieldValue n v) (GroupStart m) d a b s = absurd (cc (s))
same_said t (FieldValue n v) GroupEnd d a b s = absurd (cc (s))
same_said t (FieldValue n v) (SequenceStart m w) d a b s = absurd (cc (s))
same_said t (FieldValue n v) ElementStart d a b s = absurd (cc (s))
same_said t (FieldValue n v) ElementEnd d a b s = absurd (cc (s))
same_said t (FieldValue n v) SequenceEnd d a b s = absurd (cc (s))
same_said t (FieldValue n v) MessageEnd d a b s = absurd (cc (s))
same_said t (GroupStart n) (MessageStart m) d a b s = absurd (cc (s))
same_said t (GroupStart n) (FieldValue m w) d a b s = absurd (cc (s))
same_said t (GroupStart n) (GroupStart m) d a b s = cc (s)
same_said t (GroupStart n) GroupEnd d a b s = absurd (cc (s))
same_said t (GroupStart n) (SequenceStart m w) d a b s = absurd (cc (s))
same_said t (GroupStart n) ElementStart d a b s = absurd (cc (s))
same_said t (GroupStart n) ElementEnd d a b s = absurd (cc (s))
same_said t (GroupStart n) SequenceEnd d a b s = absurd (cc (s))
same_said t (GroupStart n) MessageEnd d a b s = absurd (cc (s))
same_said t GroupEnd (MessageStart m) d a b s = absurd (cc (s))
same_said t GroupEnd (FieldValue m w) d a b s = absurd (cc (s))
same_said t GroupEnd (GroupStart m) d a b s = absurd (cc (s))
same_said t GroupEnd GroupEnd d a b s = refl
same_said t GroupEnd (SequenceStart m w) d a b s = absurd (cc (s))
same_said t GroupEnd ElementStart d a b s = absurd (cc (s))
same_said t GroupEnd ElementEnd d a b s = absurd (cc (s))
same_said t GroupEnd SequenceEnd d a b s = absurd (cc (s))
same_said t GroupEnd MessageEnd d a b s = absurd (cc (s))
same_said t (SequenceStart n v) (MessageStart m) d a b s = absurd (cc (s))
same_said t (SequenceStart n v) (FieldValue m w) d a b s = absurd (cc (s))
same_said t (SequenceStart n v) (GroupStart m) d a b s = absurd (cc (s))
same_said t (SequenceStart n v) GroupEnd d a b s = absurd (cc (s))
same_said t (SequenceStart n v) (SequenceStart m w) d a b s = cc (s)
same_said t (SequenceStart n v) ElementStart d a b s = absurd (cc (s))
same_said t (SequenceStart n v) ElementEnd d a b s = absurd (cc (s))
same_said t (SequenceStart n v) SequenceEnd d a b s = absurd (cc (s))
same_said t (SequenceStart n v) MessageEnd d a b s = absurd (cc (s))
same_said t ElementStart (MessageStart m) d a b s = absurd (cc (s))
same_said t ElementStart (FieldValue m w) d a b s = absurd (cc (s))
same_said t ElementStart (GroupStart m) d a b s = absurd (cc (s))
same_said t ElementStart GroupEnd d a b s = absurd (cc (s))
same_said t ElementStart (SequenceStart m w) d a b s = absurd (cc (s))
same_said t ElementStart ElementStart d a b s = refl
same_said t ElementStart ElementEnd d a b s = absurd (cc (s))
same_said t ElementStart SequenceEnd d a b s = absurd (cc (s))
same_said t ElementStart MessageEnd d a b s = absurd (cc (s))
same_said t ElementEnd (MessageStart m) d a b s = absurd (cc (s))
same_said t ElementEnd (FieldValue m w) d a b s = absurd (cc (s))
same_said t ElementEnd (GroupStart m) d a b s = absurd (cc (s))
same_said t ElementEnd GroupEnd d a b s = absurd (cc (s))
same_said t ElementEnd (SequenceStart m w) d a b s = absurd (cc (s))
same_said t ElementEnd ElementStart d a b s = absurd (cc (s))
same_said t ElementEnd ElementEnd d a b s = refl
same_said t ElementEnd SequenceEnd d a b s = absurd (cc (s))
same_said t ElementEnd MessageEnd d a b s = absurd (cc (s))
same_said t SequenceEnd (MessageStart m) d a b s = absurd (cc (s))
same_said t SequenceEnd (FieldValue m w) d a b s = absurd (cc (s))
same_said t SequenceEnd (GroupStart m) d a b s = absurd (cc (s))
same_said t SequenceEnd GroupEnd d a b s = absurd (cc (s))
same_said t SequenceEnd (SequenceStart m w) d a b s = absurd (cc (s))
same_said t SequenceEnd ElementStart d a b s = absurd (cc (s))
same_said t SequenceEnd ElementEnd d a b s = absurd (cc (s))
same_said t SequenceEnd SequenceEnd d a b s = refl
same_said t SequenceEnd MessageEnd d a b s = absurd (cc (s))
same_said t MessageEnd (MessageStart m) d a b s = absurd (cc (s))
same_said t MessageEnd (FieldValue m w) d a b s = absurd (cc (s))
same_said t MessageEnd (GroupStart m) d a b s = absurd (cc (s))
same_said t MessageEnd GroupEnd d a b s = absurd (cc (s))
same_said t MessageEnd (SequenceStart m w) d a b s = absurd (cc (s))
same_said t MessageEnd ElementStart d a b s = absurd (cc (s))
same_said t MessageEnd ElementEnd d a b s = absurd (cc (s))
same_said t MessageEnd SequenceEnd d a b s = absurd (cc (s))
same_said t MessageEnd MessageEnd d a b s = refl

-- the line of an event
pub line_is : (t : Tree) (e : EventData) → line_of t e ≡ text_of_line (line_of_event t e)
line_is t (MessageStart n) = refl
line_is t (FieldValue n v) = refl
line_is t (GroupStart n) = refl
line_is t GroupEnd = refl
line_is t (SequenceStart n v) = refl
line_is t ElementStart = refl
line_is t ElementEnd = refl
line_is t SequenceEnd = refl
line_is t MessageEnd = refl

-- It is of its form.
pub formed : (t : Tree) (e : EventData) → IsLined t e → IsForm (line_of_event t e)
formed t (MessageStart n) (u, found, h) = rw (name_is t n u found) (name_is_word u.name h)
formed t (FieldValue n v) h = (h.0.0, name_is_word _ h.0.1)
formed t (GroupStart n) h = (h.0, name_is_word _ h.1)
formed t GroupEnd h = tt
formed t (SequenceStart n v) h = (h.0.0, name_is_word _ h.0.1, h.1)
formed t ElementStart h = tt
formed t ElementEnd h = tt
formed t SequenceEnd h = tt
formed t MessageEnd h = tt

pub same_event : (t : Tree) (e f : EventData) → HasDistinctNames t → IsLined t e → IsLined t f → line_of t e ≡ line_of t f → e ≡ f
same_event t e f d a b h = same_said t e f d a b (same_line (line_of_event t e) (line_of_event t f) (formed t e a) (formed t f b)
    (sym (line_is t e) ∙ h ∙ line_is t f))
