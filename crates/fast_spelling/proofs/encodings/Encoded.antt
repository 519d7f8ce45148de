-- What an encoder chooses for a message spells it in strict mode.
use Rattle.std.proofs.Common.{refl, sym, ap, ◌∙◌, subst, arith, append_assoc, append-nil}
use Rattle.std.proofs.Math.Nat.{add-zero, zero-add, add_assoc}
use Rattle.std.proofs.lemmas.Bool.{le-leb, ltb-false}
use Rattle.std.proofs.lemmas.Bool.Decides.{eqb_tells}
use mathlib.Core.Logic.{inl, inr}
use Rattle.std.proofs.lemmas.List.{length-append, get_or_past}
use Rattle.std.specs.Prelude.{◌≡◌, ◌≢◌, ◌⊎◌, ℕ, zero, suc, ◌+◌, ◌≤◌, Bool, true, false, ◌&&◌, nat_lt, nat_eq, int_le, if◌then◌else◌, List}
use Rattle.std.specs.Prelude.{[], ◌∷◌, ◌++◌, length, slice_get, slice_index_or, ℤ, Option, Some, None, Result, Ok, Err}
use Rattle.fast_wire.specs.meaning.Integers.{Range, IsWithin}
use Rattle.fast_wire.specs.meaning.Maps.{bits, first_bit, later_bits, bytes_for, IsMap}
use Rattle.fast_value.specs.meaning.Kinds.{ScalarData, U, I, Dec, exponent_range}
use Rattle.fast_value.specs.declared.settings.Limits.{Limits}
use Rattle.fast_value.specs.meaning.Limits.{in_mode, Bounds, bounds}
use Rattle.fast_value.specs.declared.codes.Code.{Code}
use Rattle.fast_value.specs.declared.codes.Code.TheVariants.{R1}
use Rattle.fast_value.specs.meaning.Messages.{ItemData, one, group as group_item, sequence as sequence_item, Slots, no_slots, Elements}
use Rattle.fast_value.specs.meaning.Messages.{no_elements, element, MessageData, count, item_total, total, rows_total}
use Rattle.fast_tree.specs.meaning.Tree.{Label, FieldData, identifier, uses_bit, one_if, Instruction, field, parts, group, sequence, Body}
use Rattle.fast_tree.specs.meaning.Tree.{end, step, bits_used, bits_of, has_map, message_bits, TemplateData, Tree, HasDistinctIds}
use Rattle.fast_dict.specs.meaning.Dictionary.{Dictionary, PreviousData, previous_at, reset}
use Rattle.fast_dict.specs.meaning.Operators.{Sent, Outcome, ranged}
use Rattle.fast_stream.specs.meaning.Events.{EventData, FieldValue, GroupStart, GroupEnd, SequenceStart, ElementStart, ElementEnd}
use Rattle.fast_stream.specs.meaning.Events.{SequenceEnd, MessageStart, MessageEnd, events}
use Rattle.fast_stream.specs.meaning.Phrases.{whole, gives, hands, settles, ◌followed_by◌}
use Rattle.fast_stream.specs.meaning.Units.{width_checked}
use Rattle.fast_stream.specs.meaning.Grammar.{Grammar, give, hand, presence_map, narrow, ◌>>=◌, of_result, phrase_of}
use Rattle.fast_stream.specs.meaning.Fields.{field_term}
use Rattle.fast_stream.specs.meaning.Messages.{Context, State, begin, found, field_in, Read, with_slot, handed, decimal_with}
use Rattle.fast_stream.specs.meaning.Messages.{mantissa_after, map_bits, own_bits, Segment, segment, elements, group_from, group_in}
use Rattle.fast_stream.specs.meaning.Messages.{within_limits, length_in, count_more, sequence_from, instruction, body_term, has_id, with_id}
use Rattle.fast_stream.specs.meaning.Messages.{template_of, reset_if, message_of, message_behind, message_term, message, SpellsMessage}
use Rattle.fast_stream.proofs.readers.Integers.{decides-within}
use Rattle.fast_stream.specs.meaning.Streams.{Stream, Chain, between}
use Rattle.fast_stream.proofs.readers.Grammars.{joins}
use Rattle.fast_stream.proofs.streams.Reading.{read_back}
use Rattle.fast_stream.proofs.terms.MessageEvents.{message-events}
use Rattle.fast_dict.specs.meaning.Rule.{Rule}
use Rattle.fast_spelling.specs.meaning.Encoding.{EncodesField, SameBits, ShortestMap, EncodesSegment, EncodesElements, EncodesScalar}
use Rattle.fast_spelling.specs.meaning.Encoding.{EncodesDecimal, EncodesGroup, EncodesSequence, Encodes, EncodesBody, EncodesMessage}
use Rattle.fast_spelling.specs.meaning.Suiting.{SuitsTemplate, AreRight, IsRightDecimal, IsRightGroup, IsRightSequence, Suits, SuitsBody}
use Rattle.fast_spelling.specs.meaning.Suiting.{IsWithinLimits, AreWithinLimits, RowsWithinLimits, FitsLimits}
use Rattle.fast_spelling.proofs.rules.Spelled.{field_spelled}
use Rattle.fast_wire.proofs.map_bits.Narrow.{map_is_narrow}

-- The bytes are the term whole in strict mode, with some events.
abbrev Says : {A : Type 0} → Grammar A → List ℕ → A → Type 0
Says g w a = (es : List EventData) × phrase_of true g w es (whole a)

says-bind : {A B : Type 0} (g : Grammar A) (k : A → Grammar B) (u v : List ℕ) (a : A) (b : B) → Says g u a → Says (k a) v b → Says (g >>= k) (u ++ v) b
says-bind g k u v a b (fs, h) (gs, j) = (fs ++ gs, joins true g k u v fs gs a (whole b) h j)

-- a first term without bytes, and a second one
says-first : {A B : Type 0} (g : Grammar A) (k : A → Grammar B) (v : List ℕ) (a : A) (b : B) → Says g [] a → Says (k a) v b → Says (g >>= k) v b
says-first g k v a b h j = says-bind g k [] v a b h j

says-last : {A B : Type 0} (g : Grammar A) (k : A → Grammar B) (u : List ℕ) (a : A) (b : B) → Says g u a → Says (k a) [] b → Says (g >>= k) u b
says-last g k u a b h j = subst (λ w. Says (g >>= k) w b) (append-nil u) (says-bind g k u [] a b h j)

says-give : {A : Type 0} (a : A) → Says (give a) [] a
unfolding gives
says-give a = ([], (refl, refl, refl))

says-result : {A : Type 0} (r : Result A Code) (a : A) → r ≡ Ok a → Says (of_result r) [] a
says-result r a e = subst (λ z. Says (of_result z) [] a) (sym e) (says-give a)

-- an event, and then
says-event : {B : Type 0} (e : EventData) (q : Grammar B) (w : List ℕ) (b : B) → Says q w b → Says (hand e q) w b
unfolding ◌followed_by◌ hands
says-event e q w b (gs, h) = (e ∷ gs, ([], w, e ∷ [], gs, tt, (refl, refl), h, refl, refl))

-- a map, and then; a map that is narrow enough, and then
says-map : {B : Type 0} (k : List ℕ → Grammar B) (m v : List ℕ) (b : B) → IsMap true m → Says (k m) v b → Says (presence_map k) (m ++ v) b
unfolding ◌followed_by◌
says-map k m v b form (gs, h) = (gs, (m, v, [], gs, m, (form, refl, refl), h, refl, refl))

says-narrow : {B : Type 0} (n : ℕ) (m : List ℕ) (g : Grammar B) (v : List ℕ) (b : B) → width_checked true n m ≡ Ok tt → Says g v b → Says (narrow n m g) v b
unfolding ◌followed_by◌ settles gives
says-narrow n m g v b e (gs, h) = (gs, ([], v, [], gs, tt, subst (λ z. settles z [] [] (whole tt)) (sym e) (refl, refl, refl), h, refl, refl))

abbrev at_context : Dictionary → ℕ → Context
at_context d c = record { dictionary = d; counted = c }

abbrev at_state : Dictionary → ℕ → List Bool → State
at_state d c left = record { context = at_context d c; bits = left }

-- The bit that a field takes, and the bits behind it.
first_at : (b : List Bool) → first_bit b ≡ slice_index_or b 0 false
first_at [] = refl
first_at (x ∷ b) = refl

later_at : (b : List Bool) (i : ℕ) → slice_index_or (later_bits b) i false ≡ slice_index_or b (suc i) false
later_at [] i = refl
later_at (x ∷ b) i = refl

same-first : (left rest : List Bool) (bit : Bool) → SameBits left (bit ∷ rest) → (first_bit left ≡ bit) × SameBits (later_bits left) rest
same-first left rest bit h = (first_at left ∙ h 0, λ i. later_at left i ∙ h (suc i))

bits-taken : (u bit : Bool) (left rest b : List Bool) → b ≡ (if u then bit ∷ [] else []) → (u ≡ false → bit ≡ true) → SameBits left (b ++ rest)
    → (bit ≡ (if u then first_bit left else true)) × SameBits (if u then later_bits left else left) rest
bits-taken true bit left rest b e f h = let k = same-first left rest bit (rw e at h) in (sym k.0, k.1)
bits-taken false bit left rest b e f h = (f refl, rw e at h)

rule-bit : (f : FieldData) (p : PreviousData) (v : Option ScalarData) (bit : Bool) (item : Sent) → Rule f p v bit item → uses_bit f ≡ false → bit ≡ true
rule-bit f p v true item h e = refl
rule-bit f p v false item ((next, u, o), i) e = absurd (cc (u, e))

ranged-in : (range : Range) (c : Code) (x : ℤ) → IsWithin range x → ranged range c x ≡ Ok x
ranged-in range c x h = on (int_le range.low x && int_le x range.high) ((decides-within range x).1 h)
  where
    on : (b : Bool) → b ≡ true → (if b then Ok x else Err c) ≡ Ok x
    on true e = refl
    on false e = absurd (cc e)

-- the elements of an item that may be absent
abbrev pub option_total : Option ItemData → ℕ
option_total None = 0
option_total (Some x) = item_total x

abbrev pub IsWithinOption : Limits → Option ItemData → Type 0
IsWithinOption l None = Unit {0}
IsWithinOption l (Some x) = IsWithinLimits l x

-- how many bits stand for a field, an instruction, a body
pub field-length : (l : Limits) (f : FieldData) (d : Dictionary) (v : Option ScalarData) (b : List Bool) (w : List ℕ) (d' : Dictionary)
    → EncodesField l f d v b w d' → length b ≤ one_if (uses_bit f)
field-length l f d v b w d' (bit, item, next, r, s, o, e, g) = rw e (on (uses_bit f))
  where
    on : (u : Bool) → length (if u then bit ∷ [] else []) ≤ one_if u
    on true = omega arith
    on false = omega arith

both : (a b : List Bool) (n m : ℕ) → length a ≤ n → length b ≤ m → length (a ++ b) ≤ n + m
both a b n m h i = rw (length-append a b) (omega (arith, h, i))

left-of : (x n m : ℕ) → x ≤ n → x ≤ n + m
left-of x n m h = omega (arith, h)

scalar-length : (l : Limits) (f : FieldData) (d : Dictionary) (x : Option ItemData) (b : List Bool) (w : List ℕ) (d' : Dictionary)
    → EncodesScalar l f d x b w d' → length b ≤ one_if (uses_bit f)
scalar-length l f d None b w d' h = field-length l f d None b w d' h
scalar-length l f d (Some (one v)) b w d' h = field-length l f d (Some v) b w d' h
scalar-length l f d (Some (group_item vs)) b w d' h = absurd h
scalar-length l f d (Some (sequence_item rows)) b w d' h = absurd h

decimal-length : (l : Limits) (e m : FieldData) (d : Dictionary) (x : Option ItemData) (b : List Bool) (w : List ℕ) (d' : Dictionary)
    → EncodesDecimal l e m d x b w d' → length b ≤ one_if (uses_bit e) + one_if (uses_bit m)
decimal-length l e m d None b w d' h = left-of (length b) (one_if (uses_bit e)) (one_if (uses_bit m)) (field-length l e d None b w d' h)
decimal-length l e m d (Some (one (Dec x y))) b w d' (b1, b2, u, v, mid, h, i, eb, ew) =
    rw eb (both b1 b2 (one_if (uses_bit e)) (one_if (uses_bit m)) (field-length l e d (Some (I x)) b1 u mid h)
    (field-length l m mid (Some (I y)) b2 v d' i))
decimal-length l e m d (Some other) b w d' h = absurd h

group-length : (optional : Bool) (inside : Dictionary → Slots → List ℕ → Dictionary → Type 0) (d : Dictionary) (x : Option ItemData)
    (b : List Bool) (w : List ℕ) (d' : Dictionary) → EncodesGroup optional inside d x b w d' → length b ≤ one_if optional
group-length optional inside d None b w d' (o, e, h, i) = rw (o, e) (omega arith)
group-length true inside d (Some (group_item vs)) b w d' (e, h) = rw e (omega arith)
group-length false inside d (Some (group_item vs)) b w d' (e, h) = rw e (omega arith)
group-length optional inside d (Some (one v)) b w d' h = absurd h
group-length optional inside d (Some (sequence_item rows)) b w d' h = absurd h

sequence-length : (l : Limits) (f : FieldData) (inside : Dictionary → Slots → List ℕ → Dictionary → Type 0) (d : Dictionary)
    (x : Option ItemData) (b : List Bool) (w : List ℕ) (d' : Dictionary) → EncodesSequence l f inside d x b w d'
    → length b ≤ one_if (uses_bit f)
sequence-length l f inside d None b w d' h = field-length l f d None b w d' h
sequence-length l f inside d (Some (sequence_item rows)) b w d' (u, v, mid, h, i, e) = field-length l f d (Some (U (count rows))) b u mid h
sequence-length l f inside d (Some (one v)) b w d' h = absurd h
sequence-length l f inside d (Some (group_item vs)) b w d' h = absurd h

instruction-length : (l : Limits) (i : Instruction) (d : Dictionary) (x : Option ItemData) (b : List Bool) (w : List ℕ) (d' : Dictionary)
    → Encodes l i d x b w d' → length b ≤ bits_used i
unfolding Encodes
instruction-length l (field at f) d x b w d' h = scalar-length l f d x b w d' h
instruction-length l (parts at e m) d x b w d' h = decimal-length l e m d x b w d' h
instruction-length l (group at optional body) d x b w d' h = group-length optional (EncodesSegment body (EncodesBody l body)) d x b w d' h
instruction-length l (sequence at f body) d x b w d' h = sequence-length l f (EncodesSegment body (EncodesBody l body)) d x b w d' h

pub body-length : (l : Limits) (body : Body) (d : Dictionary) (vs : Slots) (b : List Bool) (w : List ℕ) (d' : Dictionary)
    → EncodesBody l body d vs b w d' → length b ≤ bits_of body
unfolding Encodes
body-length l end d vs b w d' (e, f, h, i) = rw f (omega arith)
body-length l (step i is) d vs b w d' (x, rest, b1, b2, u, v, mid, h, j, e, eb, ew) =
    rw eb (both b1 b2 (bits_used i) (bits_of is) (instruction-length l i d x b1 u mid h) (body-length l is mid rest b2 v d' j))

module _ (l : Limits) where
  abbrev B : Bounds
  B = bounds l

  -- A result, and the state behind it, whose bits are those behind the ones that were used.
  abbrev Spelled : {X : Type 0} → (State → Grammar (X × State)) → Dictionary → ℕ → List Bool → List ℕ → X → Dictionary → ℕ → List Bool → Type 0
  Spelled p d c left w x d' c' rest = (left' : List Bool) × Says (p (at_state d c left)) w (x, at_state d' c' left') × SameBits left' rest

  spelled-field : (f : FieldData) (d : Dictionary) (v : Option ScalarData) (b : List Bool) (w : List ℕ) (d' : Dictionary) (c : ℕ) (left rest : List Bool)
      → EncodesField l f d v b w d' → SameBits left (b ++ rest) → Spelled (field_in B f) d c left w v d' c rest
  spelled-field f d v b w d' c left rest (bit, item, next, rule, sent, op, e, g) same =
      let k = bits-taken (uses_bit f) bit left rest b e (rule-bit f (previous_at f.entry d) v bit item rule) same in
      let o : Outcome = record { value = v; next = next } in (
        if uses_bit f then later_bits left else left,
        rw g (says-last (field_term B f (previous_at f.entry d) (if uses_bit f then first_bit left else true))
            (λ o. give (found f (at_state d c left) o)) w o (found f (at_state d c left) o) (
              [],
              subst (λ z. phrase_of true (field_term B f (previous_at f.entry d) z) w [] (whole o)) k.0
                  (field_spelled l f (previous_at f.entry d) bit item v next w sent op),
            ) (says-give (found f (at_state d c left) o))),
        k.1,
      )

  says-handed : (n : ℕ) (v : ScalarData) (s : State) → Says (handed n (Some v) s) [] (Some (one v), s)
  says-handed n v s = says-event (FieldValue n v) (give (Some (one v), s)) [] (Some (one v), s) (says-give (Some (one v), s))

  spelled-scalar : (at : Label) (f : FieldData) (x : Option ItemData) (d : Dictionary) (b : List Bool) (w : List ℕ) (d' : Dictionary)
      (c : ℕ) (left rest : List Bool)
      → EncodesScalar l f d x b w d' → SameBits left (b ++ rest)
      → Spelled (λ s. field_in B f s >>= (λ r. handed at.node r.0 r.1)) d c left w x d' (c + option_total x) rest
  spelled-scalar at f None d b w d' c left rest h same =
      let (left', k, i) = spelled-field f d None b w d' c left rest h same in (
        left',
        rw (add-zero c) (says-last (field_in B f (at_state d c left)) (λ r. handed at.node r.0 r.1) w (None, at_state d' c left')
            (None, at_state d' c left') k (says-give (None, at_state d' c left'))),
        i,
      )
  spelled-scalar at f (Some (one v)) d b w d' c left rest h same =
      let (left', k, i) = spelled-field f d (Some v) b w d' c left rest h same in (
        left',
        rw (add-zero c) (says-last (field_in B f (at_state d c left)) (λ r. handed at.node r.0 r.1) w (Some v, at_state d' c left')
            (Some (one v), at_state d' c left') k (says-handed at.node v (at_state d' c left'))),
        i,
      )
  spelled-scalar at f (Some (group_item vs)) d b w d' c left rest h same = absurd h
  spelled-scalar at f (Some (sequence_item rows)) d b w d' c left rest h same = absurd h

  spelled-decimal : (at : Label) (e m : FieldData) (x : Option ItemData) (d : Dictionary) (b : List Bool) (w : List ℕ) (d' : Dictionary)
      (c : ℕ) (left rest : List Bool)
      → IsRightDecimal e x → EncodesDecimal l e m d x b w d' → SameBits left (b ++ rest)
      → Spelled (λ s. field_in B e s >>= mantissa_after B at.node m) d c left w x d' (c + option_total x) rest
  spelled-decimal at e m None d b w d' c left rest r h same =
      let (left', k, i) = spelled-field e d None b w d' c left rest h same in (
        left',
        rw (add-zero c) (says-last (field_in B e (at_state d c left)) (mantissa_after B at.node m) w (None, at_state d' c left')
            (None, at_state d' c left') k (says-give (None, at_state d' c left'))),
        i,
      )
  spelled-decimal at e m (Some (one (Dec x y))) d b w d' c left rest r (b1, b2, u, v, mid, h, i, eb, ew) same =
      let (left1, k1, i1) = spelled-field e d (Some (I x)) b1 u mid c left (b2 ++ rest) h (rw (eb, append_assoc b1 b2 rest) at same) in
      let (left2, k2, i2) = spelled-field m mid (Some (I y)) b2 v d' c left1 rest i i1 in (
        left2,
        rw (add-zero c, ew) (says-bind (field_in B e (at_state d c left)) (mantissa_after B at.node m) u v
            (Some (I x), at_state mid c left1) (Some (one (Dec x y)), at_state d' c left2) k1
            (says-first (of_result (ranged exponent_range R1 x))
            (λ z. field_in B m (at_state mid c left1) >>= (λ q. handed at.node (decimal_with z q.0) q.1)) v x
            (Some (one (Dec x y)), at_state d' c left2) (says-result (ranged exponent_range R1 x) x (ranged-in exponent_range R1 x r.0))
            (says-last (field_in B m (at_state mid c left1)) (λ q. handed at.node (decimal_with x q.0) q.1) v
            (Some (I y), at_state d' c left2) (Some (one (Dec x y)), at_state d' c left2) k2
            (says-handed at.node (Dec x y) (at_state d' c left2))))),
        i2,
      )
  spelled-decimal at e m (Some other) d b w d' c left rest r h same = absurd h

  -- A shortest map is never wider than its bits want.
  narrow_map : (m : List ℕ) (b : List Bool) (n : ℕ) → IsMap true m → SameBits (bits m) b → length b ≤ n → length m ≤ bytes_for n
  narrow_map m b n form same few = map_is_narrow n m form (λ i h. same i ∙ get_or_past b i false (omega (arith, h, few)))

  -- the bits of a segment's own map
  spelled-bits : (has : Bool) (n : ℕ) (b : List Bool) (m : List ℕ) → (has ≡ false → n ≡ 0) → length b ≤ n → ShortestMap has b m
      → (left : List Bool) × Says (map_bits n has) m left × SameBits left b
  spelled-bits false n [] m f i h = ([], rw h (says-give []), λ i. refl)
  spelled-bits false n (x ∷ b) m f i h = absurd (let k : n ≡ 0 = f refl in omega (arith, i, k))
  spelled-bits true n b m f i (form, same) = (
    bits m,
    subst (λ z. Says (map_bits n true) z (bits m)) (append-nil m) (says-map (λ z. narrow n z (give (bits z))) m [] (bits m) form
        (says-narrow n m (give (bits m)) [] (bits m) (rw (le-leb (length m) (bytes_for n) (narrow_map m b n form same i)) refl) (says-give (bits m)))),
    same,
  )

  no-bits : (n : ℕ) → nat_lt 0 n ≡ false → n ≡ 0
  no-bits n e = let k : n ≤ 0 = ltb-false 0 n e in omega (arith, k)

  -- What is known of a body is known of the segment that it is the body of.
  spelled-segment : (body : Body) → ((d : Dictionary) (vs : Slots) (b : List Bool) (w : List ℕ) (d' : Dictionary) (c : ℕ)
      (left rest : List Bool) → EncodesBody l body d vs b w d' → SuitsBody body vs → AreWithinLimits l vs → c + total vs ≤ l.max_total
      → SameBits left (b ++ rest) → Spelled (body_term B body) d c left w vs d' (c + total vs) rest)
      → (d : Dictionary) (vs : Slots) (w : List ℕ) (d' : Dictionary) (c : ℕ) → EncodesSegment body (EncodesBody l body) d vs w d'
      → SuitsBody body vs → AreWithinLimits l vs → c + total vs ≤ l.max_total
      → Says (segment body (body_term B body) (at_context d c)) w (vs, at_context d' (c + total vs))
  spelled-segment body f d vs w d' c (b, m, v, h, map, e) right fits few =
      let (left, k, i) = spelled-bits (has_map body) (bits_of body) b m (no-bits (bits_of body)) (body-length l body d vs b v d' h) map in
      let (left', j, z) = f d vs b v d' c left [] h right fits few (rw (append-nil b) i) in
      rw e (says-bind (own_bits body) (λ b. body_term B body (record {
        context = at_context d c;
        bits = b;
      }) >>= (λ r. give (r.0, r.1.context))) m v left (vs, at_context d' (c + total vs)) k
      (says-last (body_term B body (at_state d c left)) (λ r. give (r.0, r.1.context)) v (vs, at_state d' (c + total vs) left')
      (vs, at_context d' (c + total vs)) j (says-give (vs, at_context d' (c + total vs)))))

  module _ (seg : Segment) (enc : Dictionary → Slots → List ℕ → Dictionary → Type 0) (right : Slots → Type 0)
      (f : (d : Dictionary) (vs : Slots) (w : List ℕ) (d' : Dictionary) (c : ℕ) → enc d vs w d' → right vs → AreWithinLimits l vs
      → c + total vs ≤ l.max_total → Says (seg (at_context d c)) w (vs, at_context d' (c + total vs))) where
    spelled-elements : (rows : Elements) (d : Dictionary) (w : List ℕ) (d' : Dictionary) (c : ℕ) → EncodesElements enc d rows w d'
        → AreRight right rows → RowsWithinLimits l rows → c + rows_total rows ≤ l.max_total
        → Says (elements seg (count rows) (at_context d c)) w (rows, at_context d' (c + rows_total rows))
    spelled-elements no_elements d w d' c (e, g) r fits few = rw (e, g, add-zero c) (says-give (no_elements, at_context d c))
    spelled-elements (element vs rest) d w d' c (u, v, mid, h, i, e) r fits few =
        let k = f d vs u mid c h r.0 fits.0 (omega (arith, few)) in
        let j = spelled-elements rest mid v d' (c + total vs) i r.1 fits.1 (rw (add_assoc c (total vs) (rows_total rest)) few) in
        let z : Elements × Context = (element vs rest, at_context d' ((c + total vs) + rows_total rest)) in
        rw (e, ← add_assoc c (total vs) (rows_total rest)) (says-event ElementStart
        (seg (at_context d c) >>= (λ r. hand ElementEnd ((elements seg (count rest) r.1 >>= (λ q. give (element r.0 q.0, q.1))))))
        (u ++ v) z
        (says-bind (seg (at_context d c)) (λ r. hand ElementEnd ((elements seg (count rest) r.1 >>= (λ q. give (element r.0 q.0, q.1))))) u
        v (vs, at_context mid (c + total vs)) z k
        (says-event ElementEnd (elements seg (count rest) (at_context mid (c + total vs)) >>= (λ q. give (element vs q.0, q.1))) v z
        (says-last (elements seg (count rest) (at_context mid (c + total vs))) (λ q. give (element vs q.0, q.1)) v
        (rest, at_context d' ((c + total vs) + rows_total rest)) z j (says-give z)))))

    spelled-group_from : (n : ℕ) (vs : Slots) (d : Dictionary) (w : List ℕ) (d' : Dictionary) (c : ℕ) (left : List Bool) → enc d vs w d'
        → right vs → AreWithinLimits l vs → c + total vs ≤ l.max_total
        → Says (group_from n seg (at_state d c left)) w (Some (group_item vs), at_state d' (c + total vs) left)
    spelled-group_from n vs d w d' c left h r fits few =
        let z : Read = (Some (group_item vs), at_state d' (c + total vs) left) in
        says-event (GroupStart n) (seg (at_context d c) >>= (λ r. hand GroupEnd
        (give (Some (group_item r.0), record (at_state d c left) { context = r.1 })))) w z
        (says-last (seg (at_context d c)) (λ r. hand GroupEnd (give (Some (group_item r.0), record (at_state d c left) { context = r.1 })))
        w (vs, at_context d' (c + total vs)) z (f d vs w d' c h r fits few)
        (says-event GroupEnd (give z) [] z (says-give z)))

    spelled-group : (optional : Bool) (n : ℕ) (x : Option ItemData) (d : Dictionary) (b : List Bool) (w : List ℕ) (d' : Dictionary) (c : ℕ)
        (left rest : List Bool)
        → EncodesGroup optional enc d x b w d' → IsRightGroup optional right x → IsWithinOption l x → c + option_total x ≤ l.max_total
        → SameBits left (b ++ rest) → Spelled (group_in optional n seg) d c left w x d' (c + option_total x) rest
    spelled-group true n None d b w d' c left rest (o, e, g, k) r fits few same =
        let i = same-first left rest false (rw e at same) in
        (later_bits left, rw (g, k, i.0, add-zero c) (says-give (None, at_state d c (later_bits left))), i.1)
    spelled-group false n None d b w d' c left rest (o, e, g, k) r fits few same = absurd (cc o)
    spelled-group true n (Some (group_item vs)) d b w d' c left rest (e, h) r fits few same =
        let i = same-first left rest true (rw e at same) in (later_bits left, rw i.0 (spelled-group_from n vs d w d' c (later_bits left) h r fits few), i.1)
    spelled-group false n (Some (group_item vs)) d b w d' c left rest (e, h) r fits few same =
        (left, spelled-group_from n vs d w d' c left h r fits few, rw e at same)
    spelled-group optional n (Some (one v)) d b w d' c left rest h r fits few same = absurd h
    spelled-group optional n (Some (sequence_item rows)) d b w d' c left rest h r fits few same = absurd h

    admitted : (before k : ℕ) → k ≤ l.max_elements → before + k ≤ l.max_total → within_limits B before k ≡ Ok k
    admitted before k h i = rw (le-leb k l.max_elements h, le-leb (before + k) l.max_total i) refl

    spelled-sequence : (n : ℕ) (length : FieldData) (x : Option ItemData) (d : Dictionary) (b : List Bool) (w : List ℕ) (d' : Dictionary)
        (c : ℕ) (left rest : List Bool)
        → EncodesSequence l length enc d x b w d' → IsRightSequence length right x → IsWithinOption l x → c + option_total x ≤ l.max_total
        → SameBits left (b ++ rest)
        → Spelled (λ s. field_in B length s >>= sequence_from B n seg) d c left w x d' (c + option_total x) rest
    spelled-sequence n f None d b w d' c left rest h r fits few same =
        let (left', k, i) = spelled-field f d None b w d' c left rest h same in (
          left',
          rw (add-zero c) (says-last (field_in B f (at_state d c left)) (sequence_from B n seg) w (None, at_state d' c left')
              (None, at_state d' c left') k (says-give (None, at_state d' c left'))),
          i,
        )
    spelled-sequence n f (Some (sequence_item rows)) d b w d' c left rest (u, v, mid, h, i, e) r fits few same =
        let (left', k, j) = spelled-field f d (Some (U (count rows))) b u mid c left rest h same in
        let z : Read = (Some (sequence_item rows), at_state d' ((c + count rows) + rows_total rows) left') in
        let q = spelled-elements rows mid v d' (c + count rows) i r.0 fits.1 (rw (add_assoc c (count rows) (rows_total rows)) few) in (
          left',
          rw (e, ← add_assoc c (count rows) (rows_total rows))
              (says-bind (field_in B f (at_state d c left)) (sequence_from B n seg) u v (Some (U (count rows)), at_state mid c left') z k
              (says-first (of_result (length_in B (at_context mid c) (U (count rows))))
              (λ a. hand (SequenceStart n a) ((elements seg a (count_more a (at_context mid c)) >>=
              (λ r. hand SequenceEnd (give (Some (sequence_item r.0), record (at_state mid c left') { context = r.1 })))))) v
              (count rows) z
              (says-result (length_in B (at_context mid c) (U (count rows))) (count rows) (admitted c (count rows) fits.0 (omega (arith, few))))
              (says-event (SequenceStart n (count rows)) (elements seg (count rows) (at_context mid (c + count rows)) >>=
              (λ r. hand SequenceEnd (give (Some (sequence_item r.0), record (at_state mid c left') { context = r.1 })))) v z
              (says-last (elements seg (count rows) (at_context mid (c + count rows)))
              (λ r. hand SequenceEnd (give (Some (sequence_item r.0), record (at_state mid c left') { context = r.1 }))) v
              (rows, at_context d' ((c + count rows) + rows_total rows)) z q
              (says-event SequenceEnd (give z) [] z (says-give z)))))),
          j,
        )
    spelled-sequence n f (Some (one v)) d b w d' c left rest h r fits few same = absurd h
    spelled-sequence n f (Some (group_item vs)) d b w d' c left rest h r fits few same = absurd h

  -- a slot in front of others
  suits-slot : (i : Instruction) (is : Body) (x : Option ItemData) (vs : Slots) → SuitsBody (step i is) (with_slot x vs) → Suits i x × SuitsBody is vs
  suits-slot i is None vs h = h
  suits-slot i is (Some x) vs h = h

  within-slot : (x : Option ItemData) (vs : Slots) → AreWithinLimits l (with_slot x vs) → IsWithinOption l x × AreWithinLimits l vs
  within-slot None vs h = (tt, h)
  within-slot (Some x) vs h = h

  total-slot : (x : Option ItemData) (vs : Slots) → total (with_slot x vs) ≡ option_total x + total vs
  total-slot None vs = sym (zero-add (total vs))
  total-slot (Some x) vs = refl

  says-step : (i : Instruction) (is : Body) (x : Option ItemData) (vs' vs : Slots) (d mid d' : Dictionary) (c c1 c2 : ℕ)
      (left left1 left2 : List Bool) (u v w : List ℕ) → vs ≡ with_slot x vs' → w ≡ u ++ v → c2 ≡ c + total vs
      → Says (instruction B i (at_state d c left)) u (x, at_state mid c1 left1)
      → Says (body_term B is (at_state mid c1 left1)) v (vs', at_state d' c2 left2)
      → Says (body_term B (step i is) (at_state d c left)) w (vs, at_state d' (c + total vs) left2)
  unfolding body_term
  says-step i is x vs' vs d mid d' c c1 c2 left left1 left2 u v w e ew ec h j =
      subst (λ z. Says (body_term B (step i is) (at_state d c left)) w (vs, at_state d' z left2)) ec (rw (e, ew)
      (says-bind (instruction B i (at_state d c left)) (λ r. body_term B is r.1 >>= (λ q. give (with_slot r.0 q.0, q.1))) u v
      (x, at_state mid c1 left1) (with_slot x vs', at_state d' c2 left2) h
      (says-last (body_term B is (at_state mid c1 left1)) (λ q. give (with_slot x q.0, q.1)) v (vs', at_state d' c2 left2)
      (with_slot x vs', at_state d' c2 left2) j (says-give (with_slot x vs', at_state d' c2 left2)))))

  mutual
    unfolding Encodes instruction body_term

    spelled-instruction : (i : Instruction) (x : Option ItemData) (d : Dictionary) (b : List Bool) (w : List ℕ) (d' : Dictionary) (c : ℕ)
        (left rest : List Bool)
        → Encodes l i d x b w d' → Suits i x → IsWithinOption l x → c + option_total x ≤ l.max_total → SameBits left (b ++ rest)
        → Spelled (instruction B i) d c left w x d' (c + option_total x) rest
    spelled-instruction (field at f) x d b w d' c left rest h r fits few same = spelled-scalar at f x d b w d' c left rest h same
    spelled-instruction (parts at e m) x d b w d' c left rest h r fits few same = spelled-decimal at e m x d b w d' c left rest r h same
    spelled-instruction (group at optional body) x d b w d' c left rest h r fits few same =
        spelled-group (segment body (body_term B body)) (EncodesSegment body (EncodesBody l body)) (SuitsBody body)
        (spelled-segment body (spelled-body body)) optional at.node x d b w d' c left rest h r fits few same
    spelled-instruction (sequence at f body) x d b w d' c left rest h r fits few same =
        spelled-sequence (segment body (body_term B body)) (EncodesSegment body (EncodesBody l body)) (SuitsBody body)
        (spelled-segment body (spelled-body body)) at.node f x d b w d' c left rest h r fits few same

    spelled-body : (body : Body) (d : Dictionary) (vs : Slots) (b : List Bool) (w : List ℕ) (d' : Dictionary) (c : ℕ) (left rest : List Bool)
        → EncodesBody l body d vs b w d' → SuitsBody body vs → AreWithinLimits l vs → c + total vs ≤ l.max_total
        → SameBits left (b ++ rest) → Spelled (body_term B body) d c left w vs d' (c + total vs) rest
    spelled-body end d vs b w d' c left rest (e, f, g, k) r fits few same =
        (left, rw (e, g, k, add-zero c) (says-give (no_slots, at_state d c left)), rw f at same)
    spelled-body (step i is) d vs b w d' c left rest (x, vs', b1, b2, u, v, mid, h, j, e, eb, ew) r fits few same =
        let r' = suits-slot i is x vs' (rw e at r) in
        let fits' = within-slot x vs' (rw e at fits) in
        let all : total vs ≡ option_total x + total vs' = ap total e ∙ total-slot x vs' in
        let (left1, k1, i1) = spelled-instruction i x d b1 u mid c left (b2 ++ rest) h r'.0 fits'.0 (omega (arith, few, all))
        (rw (eb, append_assoc b1 b2 rest) at same) in
        let (left2, k2, i2) = spelled-body is mid vs' b2 v d' (c + option_total x) left1 rest j r'.1 fits'.1 (omega (arith, few, all)) i1 in (
          left2,
          says-step i is x vs' vs d mid d' c (c + option_total x) ((c + option_total x) + total vs') left left1 left2 u v w e ew
              (add_assoc c (option_total x) (total vs') ∙ ap (λ z. c + z) (sym all)) k1 k2,
          i2,
        )

-- The template that alone has an identifier is found by it.
pub has-own : (o : Option ℕ) (id : ℕ) → has_id o id ≡ true → o ≡ Some id
has-own None id e = absurd (cc e)
has-own (Some k) id e = by (eqb_tells k id)
  where
    by : ((nat_eq k id ≡ true) × (k ≡ id)) ⊎ ((nat_eq k id ≡ false) × (k ≢ id)) → Some k ≡ Some id
    by (inl t) = ap Some t.1
    by (inr t) = absurd (cc (e, t.0))

own-has : (o : Option ℕ) (id : ℕ) → o ≡ Some id → has_id o id ≡ true
own-has o id e = rw e (by (eqb_tells id id))
  where
    by : ((nat_eq id id ≡ true) × (id ≡ id)) ⊎ ((nat_eq id id ≡ false) × (id ≢ id)) → nat_eq id id ≡ true
    by (inl t) = t.0
    by (inr t) = absurd (t.1 refl)

suc-inj : (i j : ℕ) → suc i ≡ suc j → i ≡ j
suc-inj i j e = omega (arith, e)

finds : (ts : List TemplateData) (n j id : ℕ) (u : TemplateData) → slice_get ts j ≡ Some u → u.id ≡ Some id
    → ((i : ℕ) (a : TemplateData) → slice_get ts i ≡ Some a → a.id ≡ Some id → i ≡ j) → with_id id n ts ≡ Ok (n + j, u)
finds [] n j id u e o f = absurd (cc e)
finds (a ∷ ts) n zero id u e o f =
    let k : a ≡ u = cc e in
    rw (own-has a.id id (ap (λ z. z.id) k ∙ o), add-zero n, k) refl
finds (a ∷ ts) n (suc j) id u e o f = by (has_id a.id id) refl (finds ts (suc n) j id u e o (λ i b k h. suc-inj i j (f (suc i) b k h)))
  where
    by : (b : Bool) → has_id a.id id ≡ b → with_id id (suc n) ts ≡ Ok (suc n + j, u) → (if b then Ok (n, a) else with_id id (suc n) ts) ≡ Ok (n + suc j, u)
    by true g h = let k : 0 ≡ suc j = f 0 a refl (has-own a.id id g) in absurd (omega (arith, k))
    by false g h = let k : suc n + j ≡ n + suc j = omega arith in h ∙ ap (λ z. Ok (z, u)) k

-- the state behind a reset
reset-state : (b : Bool) (d : Dictionary) (left : List Bool) → reset_if b (at_state d 0 left) ≡ at_state (if b then reset d else d) 0 left
reset-state true d left = refl
reset-state false d left = refl

pub encoded_is_spelled : (t : Tree) (l : Limits) (d : Dictionary) (m : MessageData) (w : List ℕ) (d' : Dictionary)
    → HasDistinctIds t → SuitsTemplate t m → FitsLimits l m.slots → EncodesMessage t l d m w d' → SpellsMessage t (in_mode true l) d m w d'
unfolding EncodesMessage SpellsMessage message_term
encoded_is_spelled t l d m w d' distinct (u₀, at₀, right₀) fits (u, id, b1, b2, map, x, v, mid, at, own, h, j, (form, same), e) =
    told (says (spelled-field l identifier d (Some (U id)) b1 x mid 0 (bits map) b2 h same))
  where
    L : Limits
    L = in_mode true l

    right : SuitsBody u.body m.slots
    right = let k : u₀ ≡ u = cc (at₀, at) in subst (λ z. SuitsBody z.body m.slots) k right₀

    found-by : template_of t (Some (U id)) ≡ Ok (m.template, u)
    found-by = finds t.templates 0 m.template id u at own (λ i a k o. distinct i m.template id a u k at o own) ∙ ap (λ z. Ok (z, u)) (zero-add m.template)

    fits-width : width_checked true (message_bits u) map ≡ Ok tt
    fits-width = rw (le-leb (length map) (bytes_for (message_bits u))
        (narrow_map l map (b1 ++ b2) (message_bits u) form same
        (both b1 b2 1 (bits_of u.body) (field-length l identifier d (Some (U id)) b1 x mid h)
        (body-length l u.body (if u.reset then reset mid else mid) m.slots b2 v d' j)))) refl

    behind : (left : List Bool) → Spelled l (body_term (bounds l) u.body) (if u.reset then reset mid else mid) 0 left v m.slots d'
        (0 + total m.slots) [] → Says (message_of (bounds l) m.template u (at_state mid 0 left)) v (m, d')
    behind left (left', k, i) = says-event (MessageStart m.template)
        (body_term (bounds l) u.body (reset_if u.reset (at_state mid 0 left)) >>= (λ r. hand MessageEnd (give (
          record {
            template = m.template;
            slots = r.0;
          },
          r.1.context.dictionary,
        )))) v (m, d')
        (says-last (body_term (bounds l) u.body (reset_if u.reset (at_state mid 0 left))) (λ r. hand MessageEnd (give (
          record {
            template = m.template;
            slots = r.0;
          },
          r.1.context.dictionary,
        ))) v (m.slots, at_state d' (0 + total m.slots) left') (m, d')
        (subst (λ z. Says (body_term (bounds l) u.body z) v (m.slots, at_state d' (0 + total m.slots) left')) (sym (reset-state u.reset mid left)) k)
        (says-event MessageEnd (give (m, d')) [] (m, d') (says-give (m, d'))))

    says : Spelled l (field_in (bounds l) identifier) d 0 (bits map) x (Some (U id)) mid 0 b2 → Says (message_term t (bounds l) d) w (m, d')
    says (left, k, i) = rw (e, append_assoc map x v) (says-map
        (λ z. field_in (bounds l) identifier (begin d (bits z)) >>= message_behind t (bounds l) z) map (x ++ v) (m, d') form
        (says-bind (field_in (bounds l) identifier (begin d (bits map))) (message_behind t (bounds l) map) x v (Some (U id), at_state mid 0 left) (m, d') k
        (says-first (of_result (template_of t (Some (U id))))
        (λ n. narrow (message_bits n.1) map (message_of (bounds l) n.0 n.1 (at_state mid 0 left))) v (m.template, u) (m, d')
        (says-result (template_of t (Some (U id))) (m.template, u) found-by)
        (says-narrow (message_bits u) map (message_of (bounds l) m.template u (at_state mid 0 left)) v (m, d') fits-width
        (behind left (spelled-body l u.body (if u.reset then reset mid else mid) m.slots b2 v d' 0 left [] j right fits.0
        (rw (zero-add (total m.slots)) fits.1) (rw (append-nil b2) i)))))))

    told : Says (message_term t (bounds l) d) w (m, d') → message t L d w (events t m) (whole (m, d'))
    told (es, k) = subst (λ z. message t L d w z (whole (m, d'))) (message-events t L d w es (m, d') k) k

-- What is written behind a chain of messages is read back.
pub encoded_is_read_back : (t : Tree) (l : Limits) (w v : List ℕ) (es : List EventData) (m : MessageData) (d d' : Dictionary)
    → HasDistinctIds t → SuitsTemplate t m → FitsLimits l m.slots → Chain t l w es d → EncodesMessage t l d m v d'
    → Stream t l (w ++ v) (es ++ events t m) between × Chain t l (w ++ v) (es ++ events t m) d'
encoded_is_read_back t l w v es m d d' distinct right fits h i = read_back t l w v es m d d' h (encoded_is_spelled t l d m v d' distinct right fits i)
