-- The events of a whole message are those of its tree.
use Rattle.std.proofs.Common.{refl, sym, ap, ap₂, ◌∙◌, arith, append-nil}
use Rattle.std.specs.Prelude.{◌≡◌, ℕ, zero, suc, ◌+◌, Bool, true, false, if◌then◌else◌, nat_abs, slice_get, List, [], ◌∷◌, ◌++◌, Option}
use Rattle.std.specs.Prelude.{Some, None, Result, Ok, Err, ℤ}
use Rattle.fast_wire.specs.meaning.Maps.{bits, first_bit, later_bits}
use Rattle.fast_value.specs.meaning.Kinds.{exponent_range, ScalarData, integer_of}
use Rattle.fast_value.specs.declared.settings.Limits.{Limits}
use Rattle.fast_value.specs.meaning.Limits.{Bounds, bounds}
use Rattle.fast_value.specs.meaning.Messages.{ItemData, one, group as group_item, sequence as sequence_item, Slots, no_slots, Elements}
use Rattle.fast_value.specs.meaning.Messages.{no_elements, element, MessageData, count}
use Rattle.fast_value.specs.declared.codes.Code.{Code}
use Rattle.fast_value.specs.declared.codes.Code.TheVariants.{R1}
use Rattle.fast_tree.specs.meaning.Tree.{Label, FieldData, identifier, uses_bit, Instruction, field, parts, group, sequence, Body, end}
use Rattle.fast_tree.specs.meaning.Tree.{step, bits_of, has_map, TemplateData, Tree}
use Rattle.fast_dict.specs.meaning.Dictionary.{Dictionary, previous_at}
use Rattle.fast_dict.specs.meaning.Operators.{ranged}
use Rattle.fast_stream.specs.meaning.Events.{EventData, MessageStart, FieldValue, GroupStart, GroupEnd, SequenceStart, ElementStart}
use Rattle.fast_stream.specs.meaning.Events.{ElementEnd, SequenceEnd, MessageEnd, element_events, item_events, body_events, template_events}
use Rattle.fast_stream.specs.meaning.Events.{events}
use Rattle.fast_stream.specs.meaning.Phrases.{whole, Phrase, gives, hands, settles, ◌followed_by◌}
use Rattle.fast_stream.specs.meaning.Units
use Rattle.fast_stream.specs.meaning.Grammar.{Grammar, give, fault, hand, integer, ascii_text, raw, presence_map, narrow, ◌>>=◌, of_result, phrase_of}
use Rattle.fast_stream.specs.meaning.Fields.{field_term}
use Rattle.fast_stream.specs.meaning.Messages.{Context, begin, State, Found, found, field_in, Read, ReadAll, Segment, with_slot, handed}
use Rattle.fast_stream.specs.meaning.Messages.{decimal_with, mantissa_after, own_bits, segment, elements, group_from, group_if, group_in}
use Rattle.fast_stream.specs.meaning.Messages.{count_more, length_in, sequence_from, instruction, body_term, has_id, with_id, template_of}
use Rattle.fast_stream.specs.meaning.Messages.{reset_if, message_of, message_behind, message_term, message}
use Rattle.fast_stream.proofs.terms.Quiet.{Silent, silent-settles, silent-integer, silent-map, silent-raw, silent-ascii, IsQuiet}
use Rattle.fast_stream.proofs.terms.Quiet.{quiet-bind, quiet-result, quiet-field, quiet-map_bits}

-- Of all results of the term, and the events that lead to them, R holds.
abbrev pub Told : {A : Type 0} → Grammar A → (A → List EventData → Type 0) → Type 0
Told (give a) R = R a []
Told (fault c) R = Unit {0}
Told (hand e g) R = Told g (λ a es. R a (e ∷ es))
Told (integer range nullable c g) R = (x : Option ℤ) → Told (g x) R
Told (ascii_text nullable room g) R = (x : Option (List ℕ)) → Told (g x) R
Told (raw n g) R = (x : List ℕ) → Told (g x) R
Told (presence_map g) R = (x : List ℕ) → Told (g x) R
Told (narrow n m g) R = Told g R

-- behind a unit
unit-tells : {X A : Type 0} (p : Phrase X) (q : X → Phrase A) (R : A → List EventData → Type 0) → Silent p → (a : A)
    → ((x : X) (w : List ℕ) (es : List EventData) → q x w es (whole a) → R a es)
    → (w : List ℕ) (es : List EventData) → ◌followed_by◌ p q w es (whole a) → R a es
unfolding ◌followed_by◌
unit-tells p q R h a f w es (u, v, fs, gs, x, i, k, d, e) = rw (e, h.silent u fs (whole x) i) (f x v gs k)

-- What is told of a term holds of what is its phrase whole.
pub tells-phrase : {A : Type 0} (s : Bool) (g : Grammar A) (R : A → List EventData → Type 0) → Told g R
    → (a : A) (w : List ℕ) (es : List EventData) → phrase_of s g w es (whole a) → R a es
unfolding ◌followed_by◌ gives hands settles
tells-phrase s (give b) R h a w es i = rw (i.1, i.2) h
tells-phrase s (fault c) R h a w es i = absurd i
tells-phrase s (hand e g) R h a w es (u, v, fs, gs, x, i, k, d, q) = rw (q, i.1) (tells-phrase s g (λ b es. R b (e ∷ es)) h a v gs k)
tells-phrase s (integer range nullable c g) R h a w es i =
    unit-tells (Units.integer s range nullable c) (λ x. phrase_of s (g x)) R (silent-integer s range nullable c) a
    (λ x. tells-phrase s (g x) R (h x) a) w es i
tells-phrase s (ascii_text nullable room g) R h a w es i =
    unit-tells (Units.ascii_text nullable room) (λ x. phrase_of s (g x)) R (silent-ascii nullable room) a
    (λ x. tells-phrase s (g x) R (h x) a) w es i
tells-phrase s (raw n g) R h a w es i = unit-tells (Units.raw n) (λ x. phrase_of s (g x)) R (silent-raw n) a (λ x. tells-phrase s (g x) R (h x) a) w es i
tells-phrase s (presence_map g) R h a w es i = unit-tells (Units.presence_map s) (λ x. phrase_of s (g x)) R (silent-map s) a
    (λ x. tells-phrase s (g x) R (h x) a) w es i
tells-phrase s (narrow n m g) R h a w es i = unit-tells (settles (Units.width_checked s n m)) (λ _. phrase_of s g) R
    (silent-settles (Units.width_checked s n m)) a (λ _. tells-phrase s g R h a) w es i

-- less is told
less : {A : Type 0} (g : Grammar A) (R T : A → List EventData → Type 0) → Told g R → ((a : A) (es : List EventData) → R a es → T a es) → Told g T
less (give a) R T h f = f a [] h
less (fault c) R T h f = tt
less (hand e g) R T h f = less g (λ a es. R a (e ∷ es)) (λ a es. T a (e ∷ es)) h (λ a es. f a (e ∷ es))
less (integer range nullable c g) R T h f = λ x. less (g x) R T (h x) f
less (ascii_text nullable room g) R T h f = λ x. less (g x) R T (h x) f
less (raw n g) R T h f = λ x. less (g x) R T (h x) f
less (presence_map g) R T h f = λ x. less (g x) R T (h x) f
less (narrow n m g) R T h f = less g R T h f

-- one term after the other
in-turn : {A B : Type 0} (g : Grammar A) (k : A → Grammar B) (R : A → List EventData → Type 0) (S : A → B → List EventData → Type 0)
    (T : B → List EventData → Type 0)
    → Told g R → ((a : A) → Told (k a) (S a)) → ((a : A) (b : B) (fs gs : List EventData) → R a fs → S a b gs → T b (fs ++ gs)) → Told (g >>= k) T
in-turn (give a) k R S T h j f = less (k a) (S a) T (j a) (λ b gs i. f a b [] gs h i)
in-turn (fault c) k R S T h j f = tt
in-turn (hand e g) k R S T h j f = in-turn g k (λ a es. R a (e ∷ es)) S (λ b es. T b (e ∷ es)) h j (λ a b fs gs. f a b (e ∷ fs) gs)
in-turn (integer range nullable c g) k R S T h j f = λ x. in-turn (g x) k R S T (h x) j f
in-turn (ascii_text nullable room g) k R S T h j f = λ x. in-turn (g x) k R S T (h x) j f
in-turn (raw n g) k R S T h j f = λ x. in-turn (g x) k R S T (h x) j f
in-turn (presence_map g) k R S T h j f = λ x. in-turn (g x) k R S T (h x) j f
in-turn (narrow n m g) k R S T h j f = in-turn g k R S T h j f

-- a quiet term first
quiet-first : {A B : Type 0} (g : Grammar A) (k : A → Grammar B) (T : B → List EventData → Type 0) → IsQuiet g → ((a : A) → Told (k a) T) → Told (g >>= k) T
quiet-first (give a) k T h j = j a
quiet-first (fault c) k T h j = tt
quiet-first (hand e g) k T h j = absurd h
quiet-first (integer range nullable c g) k T h j = λ x. quiet-first (g x) k T (h x) j
quiet-first (ascii_text nullable room g) k T h j = λ x. quiet-first (g x) k T (h x) j
quiet-first (raw n g) k T h j = λ x. quiet-first (g x) k T (h x) j
quiet-first (presence_map g) k T h j = λ x. quiet-first (g x) k T (h x) j
quiet-first (narrow n m g) k T h j = quiet-first g k T h j

-- The same as a record, from which the term and what is told are known.
pub record Tells {A : Type 0} (g : Grammar A) (R : A → List EventData → Type 0) : Type 0 where
  pub told : Told g R

weaker : {A : Type 0} {g : Grammar A} {R : A → List EventData → Type 0} (T : A → List EventData → Type 0) → Tells g R
    → ((a : A) (es : List EventData) → R a es → T a es) → Tells g T
weaker {g = g} {R = R} T h f = record { told = less g R T h.told f }

tells-bind : {A B : Type 0} {g : Grammar A} {k : A → Grammar B} (R : A → List EventData → Type 0) (S : A → B → List EventData → Type 0)
    (T : B → List EventData → Type 0)
    → Tells g R → ((a : A) → Tells (k a) (S a)) → ((a : A) (b : B) (fs gs : List EventData) → R a fs → S a b gs → T b (fs ++ gs)) → Tells (g >>= k) T
tells-bind {g = g} {k = k} R S T h j f = record { told = in-turn g k R S T h.told (λ a. (j a).told) f }

-- a quiet term, and then
quiet-then : {A B : Type 0} (g : Grammar A) {k : A → Grammar B} (T : B → List EventData → Type 0) → IsQuiet g → ((a : A) → Tells (k a) T) → Tells (g >>= k) T
quiet-then g {k} T h j = record { told = quiet-first g k T h (λ a. (j a).told) }

tells-give : {A : Type 0} (a : A) → Tells (give a) (λ b es. (es ≡ []) × (b ≡ a))
tells-give a = record { told = (refl, refl) }

tells-result : {A : Type 0} (r : Result A Code) → Tells (of_result r) (λ a es. (es ≡ []) × (r ≡ Ok a))
tells-result (Ok b) = record { told = (refl, refl) }
tells-result (Err c) = record { told = tt }

-- an event, and then
hand-then : {B : Type 0} (e : EventData) {g : Grammar B} {T : B → List EventData → Type 0} (T' : B → List EventData → Type 0) → Tells g T
    → ((b : B) (gs : List EventData) → T b gs → T' b (e ∷ gs)) → Tells (hand e g) T'
hand-then e {g} {T} T' h f = record { told = less g T (λ b es. T' b (e ∷ es)) h.told f }

-- a term, and then a function of its result
give-after : {A B : Type 0} {g : Grammar A} (R : A → List EventData → Type 0) (f : A → B) → Tells g R
    → Tells (g >>= (λ a. give (f a))) (λ b es. (a : A) × R a es × (b ≡ f a))
give-after {A} {B} R f h = tells-bind R (λ a b es. (es ≡ []) × (b ≡ f a)) (λ b es. (a : A) × R a es × (b ≡ f a)) h (λ a. tells-give (f a))
    (λ a b fs gs i k. (a, rw (k.0, append-nil fs) i, k.1))

-- a field, and then
field-then : {B : Type 0} (l : Bounds) (f : FieldData) (s : State) {k : Found → Grammar B} (T : B → List EventData → Type 0)
    → ((r : Found) → Tells (k r) T) → Tells (field_in l f s >>= k) T
field-then l f s T j = quiet-then (field_in l f s) T (quiet-bind
    (field_term l f (previous_at f.entry s.context.dictionary) (if uses_bit f then first_bit s.bits else true)) (λ o. give (found f s o))
    (quiet-field l f (previous_at f.entry s.context.dictionary) (if uses_bit f then first_bit s.bits else true)) (λ o. tt)) j

-- A value stands for a field and for a decimal by parts alike.
abbrev value_of : Option ScalarData → Option ItemData
value_of None = None
value_of (Some v) = Some (one v)

abbrev events_of_value : ℕ → Option ScalarData → List EventData
events_of_value n None = []
events_of_value n (Some v) = FieldValue n v ∷ []

abbrev OfValue : ℕ → Read → List EventData → Type 0
OfValue n r es = (x : Option ScalarData) × (es ≡ events_of_value n x) × (r.0 ≡ value_of x)

tells-handed : (n : ℕ) (v : Option ScalarData) (s : State) → Tells (handed n v s) (OfValue n)
tells-handed n None s = weaker (OfValue n) (tells-give (None, s)) (λ r es h. (None, h.0, ap (λ q. q.0) h.1))
tells-handed n (Some v) s = hand-then (FieldValue n v) (OfValue n) (tells-give (Some (one v), s))
    (λ r es h. (Some v, ap (λ q. FieldValue n v ∷ q) h.0, ap (λ q. q.0) h.1))

tells-mantissa : (l : Bounds) (n : ℕ) (mantissa : FieldData) (e : Found) → Tells (mantissa_after l n mantissa e) (OfValue n)
tells-mantissa l n mantissa (None, s) = weaker (OfValue n) (tells-give (None, s)) (λ r es h. (None, h.0, ap (λ q. q.0) h.1))
tells-mantissa l n mantissa (Some e, s) = quiet-then (of_result (ranged exponent_range R1 (integer_of e))) (OfValue n)
    (quiet-result (ranged exponent_range R1 (integer_of e)))
    (λ x. field-then l mantissa s (OfValue n) (λ m. tells-handed n (decimal_with x m.0) m.1))

-- segments
abbrev OfBody : Body → ReadAll → List EventData → Type 0
OfBody b r es = es ≡ body_events b r.0

abbrev OfSlots : Body → Slots × Context → List EventData → Type 0
OfSlots b r es = es ≡ body_events b r.0

tells-segment : (body : Body) {p : State → Grammar ReadAll} → ((s : State) → Tells (p s) (OfBody body)) → (d : Context)
    → Tells (segment body p d) (OfSlots body)
tells-segment body h d = quiet-then (own_bits body) (OfSlots body) (quiet-map_bits (bits_of body) (has_map body)) (λ b.
    weaker (OfSlots body) (give-after (OfBody body) (λ r. (r.0, r.1.context)) (h (record {
      context = d;
      bits = b;
    }))) (λ r es (a, i, k). i ∙ ap (λ q. body_events body q.0) (sym k)))

abbrev group_of : Option Slots → Option ItemData
group_of None = None
group_of (Some vs) = Some (group_item vs)

abbrev events_of_group : ℕ → Body → Option Slots → List EventData
events_of_group n body None = []
events_of_group n body (Some vs) = GroupStart n ∷ (body_events body vs ++ GroupEnd ∷ [])

abbrev sequence_of : Option Elements → Option ItemData
sequence_of None = None
sequence_of (Some rows) = Some (sequence_item rows)

abbrev events_of_sequence : ℕ → Body → Option Elements → List EventData
events_of_sequence n body None = []
events_of_sequence n body (Some rows) = SequenceStart n (count rows) ∷ (element_events (body_events body) rows ++ SequenceEnd ∷ [])

abbrev OfGroup : ℕ → Body → Read → List EventData → Type 0
OfGroup n body r es = (x : Option Slots) × (es ≡ events_of_group n body x) × (r.0 ≡ group_of x)

abbrev OfSequence : ℕ → Body → Read → List EventData → Type 0
OfSequence n body r es = (x : Option Elements) × (es ≡ events_of_sequence n body x) × (r.0 ≡ sequence_of x)

abbrev OfElements : Body → ℕ → Elements × Context → List EventData → Type 0
OfElements body n r es = (count r.0 ≡ n) × (es ≡ element_events (body_events body) r.0)

module _ (body : Body) {p : Segment} (h : (d : Context) → Tells (p d) (OfSlots body)) where
  tells-elements : (n : ℕ) (d : Context) → Tells (elements p n d) (OfElements body n)
  tells-elements zero d = weaker (OfElements body zero) (tells-give (no_elements, d))
      (λ r es i. (ap (λ q. count q.0) i.1, i.0 ∙ ap (λ q. element_events (body_events body) q.0) (sym i.1)))
  tells-elements (suc n) d = hand-then ElementStart (OfElements body (suc n))
      (tells-bind (OfSlots body) (λ x r es. (y : Elements × Context) × (gs : List EventData) × OfElements body n y gs
      × (es ≡ ElementEnd ∷ gs) × (r ≡ (element x.0 y.0, y.1)))
      (λ r es. OfElements body (suc n) r (ElementStart ∷ es)) (h d)
      (λ x. hand-then ElementEnd (λ r es. (y : Elements × Context) × (gs : List EventData) × OfElements body n y gs
      × (es ≡ ElementEnd ∷ gs) × (r ≡ (element x.0 y.0, y.1)))
      (give-after (OfElements body n) (λ y. (element x.0 y.0, y.1)) (tells-elements n x.1)) (λ r gs (y, i, k). (y, gs, i, refl, k)))
      (λ x r fs gs i (y, hs, j, k, e). (
        ap (λ q. count q.0) e ∙ ap suc j.0,
        ap (λ q. ElementStart ∷ q) (ap₂ (λ a b. a ++ b) i (k ∙ ap (λ q. ElementEnd ∷ q) j.1)) ∙ ap (λ q. element_events (body_events body) q.0) (sym e),
      )))
      (λ b gs k. k)

  tells-group_from : (n : ℕ) (s : State) → Tells (group_from n p s) (OfGroup n body)
  tells-group_from n s = hand-then (GroupStart n) (OfGroup n body)
      (tells-bind (OfSlots body) (λ x r es. (es ≡ GroupEnd ∷ []) × (r.0 ≡ Some (group_item x.0))) (λ r es. OfGroup n body r (GroupStart n ∷ es)) (h s.context)
      (λ x. hand-then GroupEnd (λ r es. (es ≡ GroupEnd ∷ []) × (r.0 ≡ Some (group_item x.0)))
      (tells-give (Some (group_item x.0), record s { context = x.1 })) (λ r gs k. (ap (λ q. GroupEnd ∷ q) k.0, ap (λ q. q.0) k.1)))
      (λ x r fs gs i k. (Some x.0, ap (λ q. GroupStart n ∷ q) (ap₂ (λ a b. a ++ b) i k.0), k.1)))
      (λ r gs k. k)

  tells-group_if : (b : Bool) (n : ℕ) (s : State) → Tells (group_if b n p s) (OfGroup n body)
  tells-group_if true n s = tells-group_from n s
  tells-group_if false n s = weaker (OfGroup n body) (tells-give (None, s)) (λ r es i. (None, i.0, ap (λ q. q.0) i.1))

  tells-group_in : (b : Bool) (n : ℕ) (s : State) → Tells (group_in b n p s) (OfGroup n body)
  tells-group_in false n s = tells-group_from n s
  tells-group_in true n s = tells-group_if (first_bit s.bits) n (record s { bits = later_bits s.bits })

  tells-sequence : (l : Bounds) (n : ℕ) (x : Found) → Tells (sequence_from l n p x) (OfSequence n body)
  tells-sequence l n (None, s) = weaker (OfSequence n body) (tells-give (None, s)) (λ r es i. (None, i.0, ap (λ q. q.0) i.1))
  tells-sequence l n (Some v, s) = quiet-then (of_result (length_in l s.context v)) (OfSequence n body)
      (quiet-result (length_in l s.context v)) (λ c. hand-then (SequenceStart n c) (OfSequence n body)
      (tells-bind (OfElements body c) (λ y r es. (es ≡ SequenceEnd ∷ []) × (r.0 ≡ Some (sequence_item y.0)))
      (λ r es. OfSequence n body r (SequenceStart n c ∷ es)) (tells-elements c (count_more c s.context))
      (λ y. hand-then SequenceEnd (λ r es. (es ≡ SequenceEnd ∷ []) × (r.0 ≡ Some (sequence_item y.0)))
      (tells-give (Some (sequence_item y.0), record s { context = y.1 }))
      (λ r gs k. (ap (λ q. SequenceEnd ∷ q) k.0, ap (λ q. q.0) k.1)))
      (λ y r fs gs i k. (Some y.0, ap₂ (λ a b. SequenceStart n a ∷ b) (sym i.0) (ap₂ (λ a b. a ++ b) i.1 k.0), k.1)))
      (λ r gs k. k))

-- the events of an item, if there is one
abbrev of_item : Instruction → Option ItemData → List EventData
of_item i None = []
of_item i (Some x) = item_events i x

abbrev OfItem : Instruction → Read → List EventData → Type 0
OfItem i r es = es ≡ of_item i r.0

field-item : (at : Label) (f : FieldData) (x : Option ScalarData) → events_of_value at.node x ≡ of_item (field at f) (value_of x)
unfolding item_events body_events
field-item at f None = refl
field-item at f (Some v) = refl

parts-item : (at : Label) (e m : FieldData) (x : Option ScalarData) → events_of_value at.node x ≡ of_item (parts at e m) (value_of x)
unfolding item_events body_events
parts-item at e m None = refl
parts-item at e m (Some v) = refl

group-item : (at : Label) (optional : Bool) (body : Body) (x : Option Slots) → events_of_group at.node body x ≡ of_item (group at optional body) (group_of x)
unfolding item_events body_events
group-item at optional body None = refl
group-item at optional body (Some vs) = refl

sequence-item : (at : Label) (f : FieldData) (body : Body) (x : Option Elements)
    → events_of_sequence at.node body x ≡ of_item (sequence at f body) (sequence_of x)
unfolding item_events body_events
sequence-item at f body None = refl
sequence-item at f body (Some rows) = refl

step-body : (i : Instruction) (is : Body) (x : Option ItemData) (vs : Slots) → of_item i x ++ body_events is vs ≡ body_events (step i is) (with_slot x vs)
unfolding item_events body_events
step-body i is None vs = refl
step-body i is (Some x) vs = refl

end-body : (vs : Slots) → body_events end vs ≡ []
unfolding item_events body_events
end-body vs = refl

mutual
  unfolding instruction body_term

  tells-instruction : (l : Bounds) (i : Instruction) (s : State) → Tells (instruction l i s) (OfItem i)
  tells-instruction l (field at f) s = weaker (OfItem (field at f)) (field-then l f s (OfValue at.node) (λ r. tells-handed at.node r.0 r.1))
      (λ r es (x, i, k). i ∙ field-item at f x ∙ ap (λ q. of_item (field at f) q) (sym k))
  tells-instruction l (parts at e m) s = weaker (OfItem (parts at e m)) (field-then l e s (OfValue at.node) (tells-mantissa l at.node m))
      (λ r es (x, i, k). i ∙ parts-item at e m x ∙ ap (λ q. of_item (parts at e m) q) (sym k))
  tells-instruction l (group at optional body) s = weaker (OfItem (group at optional body))
      (tells-group_in body (tells-segment body (tells-body l body)) optional at.node s)
      (λ r es (x, i, k). i ∙ group-item at optional body x ∙ ap (λ q. of_item (group at optional body) q) (sym k))
  tells-instruction l (sequence at f body) s = weaker (OfItem (sequence at f body))
      (field-then l f s (OfSequence at.node body) (tells-sequence body (tells-segment body (tells-body l body)) l at.node))
      (λ r es (x, i, k). i ∙ sequence-item at f body x ∙ ap (λ q. of_item (sequence at f body) q) (sym k))

  tells-body : (l : Bounds) (b : Body) (s : State) → Tells (body_term l b s) (OfBody b)
  tells-body l end s = weaker (OfBody end) (tells-give (no_slots, s)) (λ r es i. i.0 ∙ sym (end-body r.0))
  tells-body l (step i is) s = tells-bind (OfItem i) (λ a r es. (y : ReadAll) × OfBody is y es × (r ≡ (with_slot a.0 y.0, y.1)))
      (OfBody (step i is)) (tells-instruction l i s)
      (λ a. give-after (OfBody is) (λ y. (with_slot a.0 y.0, y.1)) (tells-body l is a.1))
      (λ a r fs gs j (y, k, e). ap₂ (λ x z. x ++ z) j k ∙ step-body i is a.0 y.0 ∙ ap (λ q. body_events (step i is) q.0) (sym e))

-- The template with an identifier is the one that its number names.
with-id : (id n : ℕ) (ts : List TemplateData) (u : ℕ × TemplateData) → with_id id n ts ≡ Ok u → (m : ℕ) × (u.0 ≡ n + m) × (slice_get ts m ≡ Some u.1)
with-id id n [] u e = absurd (cc e)
with-id id n (t ∷ ts) u e = by (with-id id (suc n) ts u) (has_id t.id id) e
  where
    by : (with_id id (suc n) ts ≡ Ok u → (m : ℕ) × (u.0 ≡ suc n + m) × (slice_get ts m ≡ Some u.1)) → (b : Bool)
        → (if b then Ok (n, t) else with_id id (suc n) ts) ≡ Ok u
        → (m : ℕ) × (u.0 ≡ n + m) × (slice_get (t ∷ ts) m ≡ Some u.1)
    by ih true e = let k : (n, t) ≡ u = cc e in (0, ap (λ q. q.0) (sym k) ∙ omega arith, ap (λ q. Some q.1) k)
    by ih false e = let (m, i, k) = ih e in (suc m, omega (arith, i), k)

pub named : (t : Tree) (id : Option ScalarData) (u : ℕ × TemplateData) → template_of t id ≡ Ok u → slice_get t.templates u.0 ≡ Some u.1
named t None u e = absurd (cc e)
named t (Some v) u e = on (with-id (nat_abs (integer_of v)) 0 t.templates u e)
  where
    on : (m : ℕ) × (u.0 ≡ 0 + m) × (slice_get t.templates m ≡ Some u.1) → slice_get t.templates u.0 ≡ Some u.1
    on (m, i, k) = let j : u.0 ≡ m = omega (arith, i) in rw j k

abbrev OfTemplate : ℕ → TemplateData → MessageData × Dictionary → List EventData → Type 0
OfTemplate n u r es = (vs : Slots) × (es ≡ MessageStart n ∷ (body_events u.body vs ++ MessageEnd ∷ [])) × (r.0 ≡ record { template = n; slots = vs })

tells-message_of : (l : Bounds) (n : ℕ) (u : TemplateData) (s : State) → Tells (message_of l n u s) (OfTemplate n u)
tells-message_of l n u s = hand-then (MessageStart n) (OfTemplate n u)
    (tells-bind (OfBody u.body) (λ x r es. (es ≡ MessageEnd ∷ []) × (r.0 ≡ record {
      template = n;
      slots = x.0;
    })) (λ r es. OfTemplate n u r (MessageStart n ∷ es)) (tells-body l u.body (reset_if u.reset s))
    (λ x. hand-then MessageEnd (λ r es. (es ≡ MessageEnd ∷ []) × (r.0 ≡ record {
      template = n;
      slots = x.0;
    })) (tells-give (record { template = n; slots = x.0 }, x.1.context.dictionary)) (λ r gs k. (ap (λ q. MessageEnd ∷ q) k.0, ap (λ q. q.0) k.1)))
    (λ x r fs gs i k. (x.0, ap (λ q. MessageStart n ∷ q) (ap₂ (λ a b. a ++ b) i k.0), k.1)))
    (λ r gs k. k)

abbrev OfMessage : Tree → MessageData × Dictionary → List EventData → Type 0
OfMessage t r es = es ≡ events t r.0

of-template : (t : Tree) (u : ℕ × TemplateData) (r : MessageData × Dictionary) (es : List EventData) → slice_get t.templates u.0 ≡ Some u.1
    → OfTemplate u.0 u.1 r es → OfMessage t r es
of-template t u r es e (vs, i, k) = i ∙ ap (λ q. template_events u.0 q vs) (sym e) ∙ ap (λ q. events t q) (sym k)

tells-behind : (t : Tree) (l : Bounds) (m : List ℕ) (id : Found) → Tells (message_behind t l m id) (OfMessage t)
tells-behind t l m id = tells-bind (λ u es. (es ≡ []) × (template_of t id.0 ≡ Ok u)) (λ u. OfTemplate u.0 u.1) (OfMessage t) (tells-result (template_of t id.0))
    (λ u. record { told = (tells-message_of l u.0 u.1 id.1).told })
    (λ u r fs gs i k. ap (λ q. q ++ gs) i.0 ∙ of-template t u r gs (named t id.0 u i.1) k)

tells-message : (t : Tree) (l : Bounds) (d : Dictionary) → Tells (message_term t l d) (OfMessage t)
unfolding message_term
tells-message t l d = quiet-then (presence_map give) (OfMessage t) (λ m. tt)
    (λ m. field-then l identifier (begin d (bits m)) (OfMessage t) (tells-behind t l m))

-- What a whole message hands over are the events of its tree.
pub message-events : (t : Tree) (l : Limits) (d : Dictionary) (w : List ℕ) (es : List EventData) (r : MessageData × Dictionary)
    → message t l d w es (whole r) → es ≡ events t r.0
message-events t l d w es r h = tells-phrase l.strict (message_term t (bounds l) d) (OfMessage t) (tells-message t (bounds l) d).told r w es h
