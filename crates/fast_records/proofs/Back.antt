-- The event that a record stands for, and which records stand for none.
use Rattle.std.proofs.Common.{◌≡◌, ℕ, ◌≤◌, List, [], ◌∷◌, take, drop, pos, Bool, refl, ap, sym, ◌∙◌, arith}
use Rattle.std.specs.Prelude.{nat_eq, true, false, if◌then◌else◌}
use Rattle.std.proofs.lemmas.Bool.{eqb-true}
use Rattle.fast_value.specs.meaning.Kinds.{U, I, Dec, AsciiText, UnicodeText, ByteVector}
use Rattle.fast_stream.specs.meaning.Events.{EventData, MessageStart, FieldValue, GroupStart, GroupEnd, SequenceStart, ElementStart}
use Rattle.fast_stream.specs.meaning.Events.{ElementEnd, SequenceEnd, MessageEnd}
use Rattle.fast_records.specs.declared.records.Record.{Record}
use Rattle.fast_records.specs.meaning.Records.{record_of, text_record, ending_at, unplaced, event_text}
use Rattle.fast_records.specs.meaning.Lent.{Tells, AreTold}
use Rattle.fast_records.specs.device.Lent.{content, event_of_kind, event_back, IsMark, IsTextOf, IsOf}

-- The offset at which a message ends is not asked for its kind or its event, and no other record has one.
module _ (n : ℕ) (r : Record) where
  pub ending_kind : (ending_at n r).kind ≡ r.kind
  ending_kind = by (nat_eq r.kind 14)
    where
      by : (b : Bool) → (if b then record { kind = r.kind; node = r.node; value = n; length = r.length; exponent = r.exponent } else r).kind ≡ r.kind
      by true = refl
      by false = refl

  pub ending_event : (text : List ℕ) → event_back (ending_at n r) text ≡ event_back r text
  ending_event text = by (nat_eq r.kind 14) refl
    where
      by : (b : Bool) → nat_eq r.kind 14 ≡ b → event_back (if b then record {
        kind = r.kind;
        node = r.node;
        value = n;
        length = r.length;
        exponent = r.exponent;
      } else r) text ≡ event_back r text
      by true is = let k = eqb-true r.kind 14 is in ap (λ (m : ℕ). event_of_kind m (record {
        kind = r.kind;
        node = r.node;
        value = n;
        length = r.length;
        exponent = r.exponent;
      }) text) k ∙ sym (ap (λ (m : ℕ). event_of_kind m r text) k)
      by false is = refl

  pub ending_last : (m : ℕ) → ending_at m (ending_at n r) ≡ ending_at m r
  ending_last m = by (nat_eq r.kind 14) refl
    where
      by : (b : Bool) → nat_eq r.kind 14 ≡ b → ending_at m (if b then record {
        kind = r.kind;
        node = r.node;
        value = n;
        length = r.length;
        exponent = r.exponent;
      } else r)
          ≡ (if b then record { kind = r.kind; node = r.node; value = m; length = r.length; exponent = r.exponent } else r)
      by true is = ap (λ (b : Bool). if b then record {
        kind = r.kind;
        node = r.node;
        value = m;
        length = r.length;
        exponent = r.exponent;
      } else record { kind = r.kind; node = r.node; value = n; length = r.length; exponent = r.exponent }) is
      by false is = ap (λ (b : Bool). if b then record { kind = r.kind; node = r.node; value = m; length = r.length; exponent = r.exponent } else r) is

-- The record of an event has none.
pub unplaced_event : (place : ℕ) (e : EventData) → unplaced (record_of place e) ≡ record_of place e
unplaced_event place (MessageStart n) = refl
unplaced_event place (FieldValue n (U x)) = refl
unplaced_event place (FieldValue n (I x)) = refl
unplaced_event place (FieldValue n (Dec x m)) = refl
unplaced_event place (FieldValue n (AsciiText v)) = refl
unplaced_event place (FieldValue n (UnicodeText v)) = refl
unplaced_event place (FieldValue n (ByteVector v)) = refl
unplaced_event place (GroupStart n) = refl
unplaced_event place GroupEnd = refl
unplaced_event place (SequenceStart n m) = refl
unplaced_event place ElementStart = refl
unplaced_event place ElementEnd = refl
unplaced_event place SequenceEnd = refl
unplaced_event place MessageEnd = refl

-- the kind of a record is that of its event
kind_is : (r : Record) (text : List ℕ) (e : EventData) → IsOf r text e → r.kind ≡ (record_of r.value e).kind
kind_is r text e h = sym (ending_kind 0 r) ∙ ap (λ (z : Record). z.kind) h.record_is

-- The kinds are those of events.
pub kind_known : (r : Record) (text : List ℕ) (e : EventData) → IsOf r text e → (1 ≤ r.kind) × (r.kind ≤ 14)
kind_known r text (MessageStart n) h = let k = kind_is r text (MessageStart n) h in (omega (arith, k), omega (arith, k))
kind_known r text (FieldValue n (U x)) h = let k = kind_is r text (FieldValue n (U x)) h in (omega (arith, k), omega (arith, k))
kind_known r text (FieldValue n (I x)) h = let k = kind_is r text (FieldValue n (I x)) h in (omega (arith, k), omega (arith, k))
kind_known r text (FieldValue n (Dec x m)) h = let k = kind_is r text (FieldValue n (Dec x m)) h in (omega (arith, k), omega (arith, k))
kind_known r text (FieldValue n (AsciiText v)) h = let k = kind_is r text (FieldValue n (AsciiText v)) h in (omega (arith, k), omega (arith, k))
kind_known r text (FieldValue n (UnicodeText v)) h = let k = kind_is r text (FieldValue n (UnicodeText v)) h in (omega (arith, k), omega (arith, k))
kind_known r text (FieldValue n (ByteVector v)) h = let k = kind_is r text (FieldValue n (ByteVector v)) h in (omega (arith, k), omega (arith, k))
kind_known r text (GroupStart n) h = let k = kind_is r text (GroupStart n) h in (omega (arith, k), omega (arith, k))
kind_known r text GroupEnd h = let k = kind_is r text GroupEnd h in (omega (arith, k), omega (arith, k))
kind_known r text (SequenceStart n m) h = let k = kind_is r text (SequenceStart n m) h in (omega (arith, k), omega (arith, k))
kind_known r text ElementStart h = let k = kind_is r text ElementStart h in (omega (arith, k), omega (arith, k))
kind_known r text ElementEnd h = let k = kind_is r text ElementEnd h in (omega (arith, k), omega (arith, k))
kind_known r text SequenceEnd h = let k = kind_is r text SequenceEnd h in (omega (arith, k), omega (arith, k))
kind_known r text MessageEnd h = let k = kind_is r text MessageEnd h in (omega (arith, k), omega (arith, k))

-- Records of no kind of text have none.
pub no_text : (r : Record) (text : List ℕ) (e : EventData) → IsOf r text e → ¬ ((5 ≤ r.kind) × (r.kind ≤ 7)) → text ≡ []
no_text r text (FieldValue n (AsciiText v)) h other = let k = kind_is r text (FieldValue n (AsciiText v)) h in
    absurd (other (omega (arith, k), omega (arith, k)))
no_text r text (FieldValue n (UnicodeText v)) h other = let k = kind_is r text (FieldValue n (UnicodeText v)) h in
    absurd (other (omega (arith, k), omega (arith, k)))
no_text r text (FieldValue n (ByteVector v)) h other = let k = kind_is r text (FieldValue n (ByteVector v)) h in
    absurd (other (omega (arith, k), omega (arith, k)))
no_text r text (FieldValue n (U x)) h other = sym h.text_is
no_text r text (FieldValue n (I x)) h other = sym h.text_is
no_text r text (FieldValue n (Dec x m)) h other = sym h.text_is
no_text r text (MessageStart n) h other = sym h.text_is
no_text r text (GroupStart n) h other = sym h.text_is
no_text r text GroupEnd h other = sym h.text_is
no_text r text (SequenceStart n m) h other = sym h.text_is
no_text r text ElementStart h other = sym h.text_is
no_text r text ElementEnd h other = sym h.text_is
no_text r text SequenceEnd h other = sym h.text_is
no_text r text MessageEnd h other = sym h.text_is

-- what a record and a text stand for, by the record of an event
from_event : (r : Record) (text : List ℕ) (e : EventData) → IsOf r text e → event_back r text ≡ event_back (record_of r.value e) (event_text e)
from_event r text e h = sym (ending_event 0 r text) ∙ ap (λ (z : Record). event_back z text) h.record_is
    ∙ ap (λ (v : List ℕ). event_back (record_of r.value e) v) (sym h.text_is)

pub back_is : (r : Record) (text : List ℕ) (e : EventData) → IsOf r text e → event_back r text ≡ e
back_is r text (MessageStart n) h = from_event r text (MessageStart n) h
back_is r text (FieldValue n (U x)) h = from_event r text (FieldValue n (U x)) h
back_is r text (FieldValue n (I x)) h = from_event r text (FieldValue n (I x)) h ∙ ap (λ (y : _). FieldValue n (I y)) h.held
back_is r text (FieldValue n (Dec x m)) h = from_event r text (FieldValue n (Dec x m)) h ∙ ap (λ (y : _). FieldValue n (Dec x y)) h.held
back_is r text (FieldValue n (AsciiText v)) h = from_event r text (FieldValue n (AsciiText v)) h
back_is r text (FieldValue n (UnicodeText v)) h = from_event r text (FieldValue n (UnicodeText v)) h
back_is r text (FieldValue n (ByteVector v)) h = from_event r text (FieldValue n (ByteVector v)) h
back_is r text (GroupStart n) h = from_event r text (GroupStart n) h
back_is r text GroupEnd h = from_event r text GroupEnd h
back_is r text (SequenceStart n m) h = from_event r text (SequenceStart n m) h
back_is r text ElementStart h = from_event r text ElementStart h
back_is r text ElementEnd h = from_event r text ElementEnd h
back_is r text SequenceEnd h = from_event r text SequenceEnd h
back_is r text MessageEnd h = from_event r text MessageEnd h

-- So of an event without a string, and of a field with one, by what the sink keeps of them.
pub mark_back : (r : Record) (e : EventData) → IsMark r e → event_back r [] ≡ e
mark_back r e h = back_is r [] e (record { record_is = h.record_is r.value; text_is = h.text_is; held = h.held })

pub text_back : (kind node : ℕ) (text : List ℕ) (e : EventData) → IsTextOf kind node text e → event_back (content kind node 0 (pos 0)) text ≡ e
text_back kind node text e h = back_is (text_record kind node 0 text) text e (record {
  record_is = ap unplaced (h.record_is 0) ∙ unplaced_event 0 e;
  text_is = h.text_is;
  held = h.held;
})

-- the event that a record tells is of it
pub told_of : (texts : List ℕ) (r : Record) (e : EventData) → Tells texts r e → IsOf r (take r.length (drop r.value texts)) e
told_of texts r e h = record { record_is = h.record_is; text_is = h.text_is; held = h.held }

-- A record tells one event.
pub one_event : (texts : List ℕ) (r : Record) (d e : EventData) → Tells texts r d → Tells texts r e → d ≡ e
one_event texts r d e h k = let v = take r.length (drop r.value texts) in sym (back_is r v d (told_of texts r d h)) ∙ back_is r v e (told_of texts r e k)

-- So do records.
pub one_list : (texts : List ℕ) (rs : List Record) (ds es : List EventData) → AreTold texts rs ds → AreTold texts rs es → ds ≡ es
one_list texts [] [] [] h k = refl
one_list texts [] [] (e ∷ es) h k = absurd k
one_list texts [] (d ∷ ds) es h k = absurd h
one_list texts (r ∷ rs) [] es h k = absurd h
one_list texts (r ∷ rs) (d ∷ ds) [] h k = absurd k
one_list texts (r ∷ rs) (d ∷ ds) (e ∷ es) h k = let first = one_event texts r d e h.0 k.0 in let later = one_list texts rs ds es h.1 k.1 in cc (first, later)
