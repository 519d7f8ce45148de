-- A text whose first line is at fault is not the lines of any events whose values can be read back.
use Rattle.std.proofs.Common.{◌≡◌, ◌≢◌, ℕ, List, [], ◌∷◌, ◌++◌, sym, ap, ◌∙◌, append_assoc, refl, arith}
use Rattle.std.specs.Prelude.{IsUtf8, IsSome, Option, Some, None, Result, Ok, Err, IfErr}
use Rattle.std.proofs.lemmas.Bool.{ne_eqb}
use Rattle.std.proofs.lemmas.List.Elements.{All-nil, All-cons, All-head, All-tail}
use Rattle.fast_tree.specs.meaning.Tree.{Tree}
use Rattle.fast_stream.specs.meaning.Events.{EventData, MessageStart, FieldValue, GroupStart, GroupEnd, SequenceStart, ElementStart}
use Rattle.fast_stream.specs.meaning.Events.{ElementEnd, SequenceEnd, MessageEnd}
use Rattle.fast_lines.specs.declared.forms.Line.{Line}
use Rattle.fast_lines.specs.declared.forms.Line.TheVariants as Lent
use Rattle.fast_lines.specs.meaning.Forms.{LineData, field, IsForm, line_data, text_of_line, line_of_event}
use Rattle.fast_lines.specs.meaning.Lines.{line_of, lines, node_name, written}
use Rattle.fast_lines.specs.meaning.Values.{Lacks}
use Rattle.fast_lines.proofs.OneLine.{same_line}
use Rattle.fast_lines.proofs.Splits.{first_split}
use Rattle.fast_messages.specs.declared.cursors.Cursor.{Cursor}
use Rattle.fast_messages.specs.declared.faults.TextFault.{TextFault}
use Rattle.fast_messages.specs.declared.faults.TextFault.TheVariants.{BadLine, Memory}
use Rattle.fast_messages.specs.device.Ahead.{text_from, IsOneLine, HasNoValue, HasNoLines}
use Rattle.fast_messages.specs.meaning.Lined.{IsLined, IsShown}
use Rattle.fast_messages.specs.meaning.Reading.{closed, feeds, OnBadLine}
use Rattle.fast_messages.specs.device.Refusing.{HasNoNext}
use Rattle.fast_messages.proofs.texts.LineTexts.{line_utf8}
use Rattle.fast_messages.proofs.texts.NoFeeds.{line_lacks}
use Rattle.fast_messages.proofs.unique.OneEvent.{line_is, formed}

-- the lines begin with that of the first event
lines_are : (t : Tree) (e : EventData) (es : List EventData) → lines t (e ∷ es) ≡ line_of t e ++ 0x0A ∷ lines t es
lines_are t e es = append_assoc (line_of t e) (0x0A ∷ []) (lines t es)

no_line : (a b : List ℕ) (x : ℕ) → a ++ x ∷ b ≢ []
no_line [] b x h = absurd (cc (h))
no_line (c ∷ a) b x h = absurd (cc (h))

-- the first line of a text is that of the first event
module _ (t : Tree) (first rest : List ℕ) (e : EventData) (es : List EventData) (lacks : Lacks 0x0A first) (lined : IsLined t e)
    (same : first ++ 0x0A ∷ rest ≡ lines t (e ∷ es)) where
  split : (first ≡ line_of t e) × (rest ≡ lines t es)
  split = first_split 0x0A first (line_of t e) rest (lines t es) lacks (line_lacks t e lined) (same ∙ lines_are t e es)

  pub first_is : first ≡ text_of_line (line_of_event t e)
  first_is = split.0 ∙ line_is t e

  pub rest_is : rest ≡ lines t es
  rest_is = split.1

-- a line of no form
pub no_form : (text first rest : List ℕ) → closed text ≡ first ++ 0x0A ∷ closed rest → Lacks 0x0A first
    → ((d : LineData) → IsForm d → IsUtf8 (text_of_line d) → first ≢ text_of_line d) → HasNoLines (closed text)
no_form text first rest parts lacks none t [] lined shown h = no_line first (closed rest) 0x0A (sym parts ∙ h)
no_form text first rest parts lacks none t (e ∷ es) lined shown h =
    let own = All-head (IsLined t) e es lined in
    none (line_of_event t e) (formed t e own) (line_utf8 t e own (All-head IsShown e es shown)) (first_is t first (closed rest) e es lacks own (sym parts ∙ h))

value_text : (m n : ℕ) (a b name text : List ℕ) → field m a b ≡ field n name text → b ≡ text
value_text m n a b name text e = cc (e)

no_value : (t : Tree) (l : Line) (e : EventData) → HasNoValue l → IsShown e → line_data l ≢ line_of_event t e
no_value t (Lent.Field m a b) (FieldValue n v) none shown h = none v shown.0 (value_text m n a.now b.now (node_name t n) (written v) h)
no_value t (Lent.Field m a b) (MessageStart n) none shown h = cc (h)
no_value t (Lent.Field m a b) (GroupStart n) none shown h = cc (h)
no_value t (Lent.Field m a b) GroupEnd none shown h = cc (h)
no_value t (Lent.Field m a b) (SequenceStart n c) none shown h = cc (h)
no_value t (Lent.Field m a b) ElementStart none shown h = cc (h)
no_value t (Lent.Field m a b) ElementEnd none shown h = cc (h)
no_value t (Lent.Field m a b) SequenceEnd none shown h = cc (h)
no_value t (Lent.Field m a b) MessageEnd none shown h = cc (h)
no_value t (Lent.Message a) e none shown h = none
no_value t (Lent.Group m a) e none shown h = none
no_value t Lent.GroupEnd e none shown h = none
no_value t (Lent.Sequence m a c) e none shown h = none
no_value t Lent.Element e none shown h = none
no_value t Lent.ElementEnd e none shown h = none
no_value t Lent.SequenceEnd e none shown h = none
no_value t Lent.MessageEnd e none shown h = none

-- a line with no value that could be read
unvalued : (text first rest : List ℕ) (l : Line) → closed text ≡ first ++ 0x0A ∷ closed rest → Lacks 0x0A first
    → first ≡ text_of_line (line_data l) → IsForm (line_data l) → HasNoValue l → HasNoLines (closed text)
unvalued text first rest l parts lacks is form none t [] lined shown h = no_line first (closed rest) 0x0A (sym parts ∙ h)
unvalued text first rest l parts lacks is form none t (e ∷ es) lined shown h =
    let own = All-head (IsLined t) e es lined in
    no_value t l e none (All-head IsShown e es shown) (same_line (line_data l) (line_of_event t e) form (formed t e own)
    (sym is ∙ first_is t first (closed rest) e es lacks own (sym parts ∙ h)))

pub bad_value : (text first rest : List ℕ) (l : Line) (e : TextFault) → closed text ≡ first ++ 0x0A ∷ closed rest → Lacks 0x0A first
    → first ≡ text_of_line (line_data l) → IsForm (line_data l) → OnBadLine (HasNoValue l) e → OnBadLine (HasNoLines (closed text)) e
bad_value text first rest l (BadLine line kind) parts lacks is form none = unvalued text first rest l parts lacks is form none
bad_value text first rest l Memory parts lacks is form none = tt

-- A text without LF has none, however that is said.
pub feeds_none : (text : List ℕ) → Lacks 0x0A text → feeds text ≡ 0
feeds_none [] h = refl
feeds_none (c ∷ cs) h = rw (ne_eqb c 0x0A (All-head (λ b. b ≢ 0x0A) c cs h))
    (let later : feeds cs ≡ 0 = feeds_none cs (All-tail (λ b. b ≢ 0x0A) c cs h) in omega (arith, later))

one_feed : (c : ℕ) (cs : List ℕ) → feeds (c ∷ cs) ≡ 0 → c ≢ 0x0A
one_feed c cs h is = let own : feeds (0x0A ∷ cs) ≡ 0 = ap (λ (z : ℕ). feeds (z ∷ cs)) (sym is) ∙ h in omega (arith, own)

more_feeds : (c : ℕ) (cs : List ℕ) → feeds (c ∷ cs) ≡ 0 → feeds cs ≡ 0
more_feeds c cs h = omega (arith, h)

pub lacks_none : (text : List ℕ) → feeds text ≡ 0 → Lacks 0x0A text
lacks_none [] h = All-nil (λ b. b ≢ 0x0A)
lacks_none (c ∷ cs) h = All-cons (λ b. b ≢ 0x0A) c cs (one_feed c cs h) (lacks_none cs (more_feeds c cs h))

pub one_line : (first : List ℕ) (l : Line) → first ≡ text_of_line (line_data l) → Lacks 0x0A first → IsOneLine (Some l)
one_line first l is lacks d was = let same : line_data l ≡ d = cc (was) in
    ap (λ (z : LineData). feeds (text_of_line z)) (sym same) ∙ ap feeds (sym is) ∙ feeds_none first lacks

-- Behind a line that is the first of events stand the others.
behind : (line : Option Line) (rest : List ℕ) (t : Tree) (e : EventData) (es : List EventData) → IsSome line → IsOneLine line → IsLined t e
    → text_from line rest ≡ lines t (e ∷ es) → closed rest ≡ lines t es
behind None rest t e es some one lined same = absurd (cc (some))
behind (Some l) rest t e es some one lined same = rest_is t (text_of_line (line_data l)) (closed rest) e es
    (lacks_none (text_of_line (line_data l)) (one (line_data l) refl)) lined same

pub next_refused : (c : Cursor) → IsSome c.line → HasNoLines (closed c.rest.now) → HasNoNext c
next_refused c some none t e es due =
    none t es (All-tail (IsLined t) e es due.lined) (All-tail IsShown e es due.shown)
    (behind c.line c.rest.now t e es some c.one_line (All-head (IsLined t) e es due.lined) due.text)

pub all_refused : (c : Cursor) (r : Result Cursor TextFault) → IsSome c.line → IfErr r (OnBadLine (HasNoLines (closed c.rest.now)))
    → IfErr r (OnBadLine (HasNoNext c))
all_refused c (Ok next) some h = tt
all_refused c (Err (BadLine line kind)) some h = next_refused c some h
all_refused c (Err Memory) some h = tt
