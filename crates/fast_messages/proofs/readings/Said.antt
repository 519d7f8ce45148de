-- Events that were read one after the other, and how near a line at fault is.
use Rattle.std.proofs.Common.{◌≡◌, ℕ, ◌+◌, ◌≤◌, List, [], ◌∷◌, ◌++◌, refl, ap, sym, subst, ◌∙◌, append_assoc, arith}
use Rattle.std.specs.Prelude.{Option, Some, None, Result, Ok, Err, IfOk, IfErr, IsSome, option_map}
use Rattle.std.proofs.lemmas.Grind.{flat_map-append}
use Rattle.std.proofs.lemmas.List.{append-nil}
use Rattle.fast_tree.specs.meaning.Tree.{Tree}
use Rattle.fast_stream.specs.meaning.Events.{EventData}
use Rattle.fast_lines.specs.declared.forms.Line.{Line}
use Rattle.fast_lines.specs.meaning.Forms.{LineData, line_data, text_of_line, line_of_event}
use Rattle.fast_lines.specs.meaning.Lines.{line_of, lines}
use Rattle.fast_messages.specs.declared.cursors.Cursor.{Cursor}
use Rattle.fast_messages.specs.declared.faults.TextFault.{TextFault}
use Rattle.fast_messages.specs.declared.faults.TextFault.TheVariants.{BadLine, Memory}
use Rattle.fast_messages.specs.device.Ahead.{text_from, IsAt, IsAtText, IsNextNumber, IsNextText}
use Rattle.fast_messages.specs.device.Cursors.{ahead, Advances, IsSaid, IsNear}
use Rattle.fast_messages.specs.meaning.Reading.{closed, feeds}
use Rattle.fast_messages.proofs.texts.Feeds.{feeds_line}
use Rattle.fast_messages.proofs.unique.OneEvent.{line_is}

-- a line is ahead
opened : (line : Option Line) (rest : List ℕ) → IsSome line
    → (d : LineData) × (option_map line_data line ≡ Some d) × (text_from line rest ≡ text_of_line d ++ 0x0A ∷ closed rest)
opened None rest h = absurd (cc (h))
opened (Some l) rest h = (line_data l, refl, refl)

-- so lines end ahead
feeds_ahead : (c : Cursor) → IsSome c.line → 1 + feeds (closed c.rest.now) ≤ feeds (ahead c)
feeds_ahead c some =
    let o = opened c.line c.rest.now some in
    let all : feeds (ahead c) ≡ feeds (text_of_line o.0 ++ 0x0A ∷ closed c.rest.now) = ap feeds o.2 in
    let few = feeds_line (text_of_line o.0) (closed c.rest.now) in
    omega (arith, all, few)

-- A place before what follows the line ahead is the next one.
pub one_on : (c next : Cursor) → IsSome c.line → ahead next ≡ closed c.rest.now → IsNextNumber c.number next.number → Advances c next
one_on c next some text (low, high) =
    let o = opened c.line c.rest.now some in
    let same : feeds (ahead next) ≡ feeds (closed c.rest.now) = ap feeds text in
    let more = feeds_ahead c some in
    record {
      line = o.0;
      was = o.1;
      text = o.2 ∙ ap (λ (z : List ℕ). text_of_line o.0 ++ 0x0A ∷ z) (sym text);
      from = low;
      to = omega (arith, same, more, high);
    }

pub all_on : (c : Cursor) (r : Result Cursor TextFault) → IsSome c.line → IfOk r (λ next. ahead next ≡ closed c.rest.now)
    → IfOk r (λ next. IsNextNumber c.number next.number) → IfOk r (Advances c)
all_on c (Ok next) some text number = one_on c next some text number
all_on c (Err e) some text number = tt

-- A fault behind the line ahead is near.
pub next_near : (c : Cursor) (e : TextFault) → IsSome c.line → IsNextText c.number (closed c.rest.now) e → IsNear c e
next_near c (BadLine line kind) some (is, lines_there) =
    let more = feeds_ahead c some in
    (is.0, omega (arith, is.1, more, lines_there))
next_near c Memory some h = tt

pub all_near : (c : Cursor) (r : Result Cursor TextFault) → IsSome c.line → IfErr r (IsNextText c.number (closed c.rest.now)) → IfErr r (IsNear c)
all_near c (Ok next) some h = tt
all_near c (Err e) some h = next_near c e some h

pub at_text : (n : ℕ) (text : List ℕ) (e : TextFault) → 1 ≤ feeds text → IsAt n e → IsAtText n text e
at_text n text (BadLine line kind) some is = (is, some)
at_text n text Memory some is = tt

-- nothing is read
pub said_none : (t : Tree) (c : Cursor) → IsSaid t [] c c
said_none t c = record { text = refl; from = omega arith; to = omega arith }

-- the line of an event
pub said_one : (t : Tree) (e : EventData) (c next : Cursor) → (a : Advances c next) → a.line ≡ line_of_event t e → IsSaid t (e ∷ []) c next
said_one t e c next a is = record {
  text = a.text ∙ ap (λ (z : LineData). text_of_line z ++ 0x0A ∷ ahead next) is
      ∙ ap (λ (z : List ℕ). z ++ 0x0A ∷ ahead next) (sym (line_is t e)) ∙ sym (append_assoc (line_of t e) (0x0A ∷ []) (ahead next))
      ∙ ap (λ (z : List ℕ). z ++ ahead next) (sym (append-nil (line_of t e ++ 0x0A ∷ [])));
  from = a.from;
  to = a.to;
}

-- one after the other
pub said_both : (t : Tree) (es fs : List EventData) (a b c : Cursor) → IsSaid t es a b → IsSaid t fs b c → IsSaid t (es ++ fs) a c
said_both t es fs a b c h k =
    let ab = h.from in
    let bc = k.from in
    let ba = h.to in
    let cb = k.to in
    record {
      text = h.text ∙ ap (λ (z : List ℕ). lines t es ++ z) k.text ∙ sym (append_assoc (lines t es) (lines t fs) (ahead c))
          ∙ ap (λ (z : List ℕ). z ++ ahead c) (sym (flat_map-append (λ (e : EventData). line_of t e ++ 0x0A ∷ []) es fs));
      from = omega (arith, ab, bc);
      to = omega (arith, ba, cb);
    }

pub said_as : (t : Tree) (es fs : List EventData) (a b : Cursor) → es ≡ fs → IsSaid t es a b → IsSaid t fs a b
said_as t es fs a b e h = subst (λ (z : List EventData). IsSaid t z a b) e h
