-- Where no ASCII text has U+0000, none is refused.
use Rattle.std.proofs.Common.{◌≡◌, ◌≢◌, ◌⊎◌, inl, inr, ℕ, ◌-◌, List, [], ◌∷◌, length, refl, sym, subst, ◌∙◌, arith}
use Rattle.std.specs.Prelude.{Bool, true, false, All, Option, Some, None, if◌then◌else◌}
use Rattle.std.proofs.lemmas.List.Elements.{All-head, All-drop, All-take}
use Rattle.fast_value.specs.declared.kinds.Kind.{Kind}
use Rattle.fast_value.specs.declared.kinds.Kind.TheVariants.{Ascii}
use Rattle.fast_value.specs.declared.settings.Limits.{Limits}
use Rattle.fast_value.specs.meaning.Kinds.{ScalarData, U, I, Dec, AsciiText, Family, integers, decimals, texts, family, text_of}
use Rattle.fast_value.specs.meaning.Messages.{ItemData, one, group as group_item, sequence as sequence_item, Slots, Elements, no_elements}
use Rattle.fast_value.specs.meaning.Messages.{element, count, MessageData}
use Rattle.fast_tree.specs.declared.operators.Operator.{Operator}
use Rattle.fast_tree.specs.declared.operators.Operator.TheVariants.{None as no_operator, Constant, Default, Copy, Increment, Delta, Tail}
use Rattle.fast_tree.specs.meaning.Tree.{FieldData, Instruction, field, parts, group, sequence, Body, end, step, TemplateData, Tree}
use Rattle.fast_dict.specs.meaning.Dictionary.{Dictionary, PreviousData, previous_at, reset}
use Rattle.fast_dict.specs.meaning.Operators.{Sent, value, text_delta}
use Rattle.fast_dict.specs.meaning.Rule.{common_front, common_back, IsDelta, IsTail, SentBy, Rule}
use Rattle.fast_stream.specs.meaning.Messages.{with_slot}
use Rattle.fast_spelling.specs.meaning.Again.{HasNoZero, HasNoZeroIn, HaveNoZero, RowsHaveNoZero}
use Rattle.fast_spelling.specs.meaning.Encoding.{EncodesSegment, EncodesBody}
use Rattle.fast_spelling.specs.meaning.Refusals.{HasZeroInFront, RefusesField, RefusesScalar, RefusesDecimal, RefusesSegment}
use Rattle.fast_spelling.specs.meaning.Refusals.{RefusesElements, Refuses, RefusesBody, RefusesMessage}
use Rattle.fast_spelling.specs.meaning.Suiting.{IsRight, AreRight, IsRightScalar, Suits, SuitsBody, SuitsTemplate}
use Rattle.fast_spelling.specs.declared.faults.EncodeFault.TheVariants.{R9}
use Rattle.fast_spelling.proofs.rules.OneItem.{text_kept}

-- The item has a text that begins with a zero.
abbrev BeginsWithZero : Sent → Type 0
BeginsWithZero (value v) = (rest : List ℕ) × (text_of v ≡ 0 ∷ rest)
BeginsWithZero (text_delta k part) = (rest : List ℕ) × (part ≡ 0 ∷ rest)
BeginsWithZero x = ⊥

abbrev HasNone : List ℕ → Type 0
HasNone t = All (λ c. c ≢ 0) t

front_zero : (kind : Kind) (x : Sent) → HasZeroInFront kind x → (kind ≡ Ascii) × BeginsWithZero x
front_zero Ascii (value v) h = (refl, h)
front_zero Ascii (text_delta k part) h = (refl, h)
front_zero kind x h = absurd h

begins : (t : List ℕ) → HasNone t → (rest : List ℕ) → t ≡ 0 ∷ rest → ⊥
begins t h rest e = All-head (λ c. c ≢ 0) 0 rest (subst HasNone e h) refl

delta_none : (k : Family) (base v : ScalarData) (x : Sent) → HasNone (text_of v) → IsDelta k base v x → BeginsWithZero x → ⊥
delta_none (integers range) base v x h e z = subst BeginsWithZero e z
delta_none decimals base v x h e z = subst BeginsWithZero e z
delta_none texts base v x h (inl (_, e)) z = let r = subst BeginsWithZero e z in
    begins _ (All-drop (λ c. c ≢ 0) (common_front (text_of base) (text_of v)) (text_of v) h) r.0 r.1
delta_none texts base v x h (inr (_, e)) z = let r = subst BeginsWithZero e z in
    begins _ (All-take (λ c. c ≢ 0) (length (text_of v) - common_back (text_of base) (text_of v)) (text_of v) h) r.0 r.1

tail_none : (b t part : List ℕ) → HasNone t → IsTail b t part → HasNone part
tail_none b t part h (inl (_, e)) = subst HasNone (sym e) (All-drop (λ c. c ≢ 0) (common_front b t) t h)
tail_none b t part h (inr (_, e)) = subst HasNone (sym e) h

abbrev NoneIn : Option ScalarData → Type 0
NoneIn None = Unit {0}
NoneIn (Some v) = HasNone (text_of v)

sent_none : (o : Operator) (f : FieldData) (p : PreviousData) (v : Option ScalarData) (x : Sent) → NoneIn v → SentBy o f p v x → BeginsWithZero x → ⊥
sent_none Constant f p v x h (_, e) z = subst BeginsWithZero e z
sent_none no_operator f p None x h e z = subst BeginsWithZero e z
sent_none Default f p None x h e z = subst BeginsWithZero e z
sent_none Copy f p None x h e z = subst BeginsWithZero e z
sent_none Increment f p None x h e z = subst BeginsWithZero e z
sent_none Delta f p None x h e z = subst BeginsWithZero e z
sent_none Tail f p None x h e z = subst BeginsWithZero e z
sent_none no_operator f p (Some v) x h e z = let r = subst BeginsWithZero e z in begins (text_of v) h r.0 r.1
sent_none Default f p (Some v) x h e z = let r = subst BeginsWithZero e z in begins (text_of v) h r.0 r.1
sent_none Copy f p (Some v) x h e z = let r = subst BeginsWithZero e z in begins (text_of v) h r.0 r.1
sent_none Increment f p (Some v) x h e z = let r = subst BeginsWithZero e z in begins (text_of v) h r.0 r.1
sent_none Delta f p (Some v) x h (base, b, e) z = delta_none (family f.kind) base v x h e z
sent_none Tail f p (Some v) x h (base, part, b, e, g) z = let r = subst BeginsWithZero g z in
    begins part (tail_none (text_of base) (text_of v) part h e) r.0 (sym (text_kept f.kind part) ∙ r.1)

rule_none : (f : FieldData) (p : PreviousData) (v : Option ScalarData) (bit : Bool) (x : Sent) → NoneIn v → Rule f p v bit x → BeginsWithZero x → ⊥
rule_none f p v true x h (_, s) z = sent_none f.operator f p v x h s z
rule_none f p v false x h (_, e) z = subst BeginsWithZero e z

field_none : (f : FieldData) (d : Dictionary) (v : Option ScalarData) → (f.kind ≡ Ascii → NoneIn v) → RefusesField f d v R9 → ⊥
field_none f d v h (bit, x, rule, z) = let k = front_zero f.kind x z in rule_none f (previous_at f.entry d) v bit x (h k.0) rule k.1

no_text : HasNone []
no_text k d i = absurd (omega (arith, i))

value_none : (kind : Kind) (v : ScalarData) → IsRight kind v → HasNoZero v → kind ≡ Ascii → HasNone (text_of v)
value_none kind v r h e = by v (subst (λ (k : Kind). IsRight k v) e r) h
  where
    by : (v : ScalarData) → IsRight Ascii v → HasNoZero v → HasNone (text_of v)
    by (AsciiText t) r h = h
    by v (room, r) h = absurd r

-- none in an item that may be absent
abbrev NoZeroIn : Option ItemData → Type 0
NoZeroIn None = Unit {0}
NoZeroIn (Some x) = HasNoZeroIn x

scalar_none : (f : FieldData) (d : Dictionary) (x : Option ItemData) → IsRightScalar f x → NoZeroIn x → RefusesScalar f d x R9 → ⊥
scalar_none f d None r h z = field_none f d None (λ _. tt) z
scalar_none f d (Some (one v)) r h z = field_none f d (Some v) (value_none f.kind v r h) z
scalar_none f d (Some other) r h z = absurd z

decimal_none : (l : Limits) (e m : FieldData) (d : Dictionary) (x : Option ItemData) → RefusesDecimal l e m d x R9 → ⊥
decimal_none l e m d None z = field_none e d None (λ _. tt) z
decimal_none l e m d (Some (one (Dec x y))) (inl z) = field_none e d (Some (I x)) (λ _. no_text) z
decimal_none l e m d (Some (one (Dec x y))) (inr (b, u, mid, enc, z)) = field_none m mid (Some (I y)) (λ _. no_text) z
decimal_none l e m d (Some other) z = absurd z

neither : {A B : Type 0} → (A → ⊥) → (B → ⊥) → A ⊎ B → ⊥
neither f g (inl a) = f a
neither f g (inr b) = g b

module _ (l : Limits) where
  abbrev SegmentNone : Body → Type 0
  SegmentNone body = (d : Dictionary) (vs : Slots) → SuitsBody body vs → HaveNoZero vs
      → RefusesSegment body (EncodesBody l body) (RefusesBody l body) d vs R9 → ⊥

  segment_none : (body : Body) → ((d : Dictionary) (vs : Slots) → SuitsBody body vs → HaveNoZero vs → RefusesBody l body d vs R9 → ⊥) → SegmentNone body
  segment_none body f d vs r h (inl z) = f d vs r h z
  segment_none body f d vs r h (inr (b, v, mid, enc, m, n, e)) = absurd (cc e)

  rows_none : (body : Body) → SegmentNone body → (rows : Elements) (d : Dictionary) → AreRight (SuitsBody body) rows → RowsHaveNoZero rows
      → RefusesElements (EncodesSegment body (EncodesBody l body)) (RefusesSegment body (EncodesBody l body) (RefusesBody l body)) d rows R9 → ⊥
  rows_none body f no_elements d r h z = absurd z
  rows_none body f (element vs rows) d r h (inl z) = f d vs r.0 h.0 z
  rows_none body f (element vs rows) d r h (inr (u, mid, enc, z)) = rows_none body f rows mid r.1 h.1 z

  slot_suits : (i : Instruction) (is : Body) (x : Option ItemData) (vs : Slots) → SuitsBody (step i is) (with_slot x vs) → Suits i x × SuitsBody is vs
  slot_suits i is None vs h = h
  slot_suits i is (Some x) vs h = h

  slot_none : (x : Option ItemData) (vs : Slots) → HaveNoZero (with_slot x vs) → NoZeroIn x × HaveNoZero vs
  slot_none None vs h = (tt, h)
  slot_none (Some x) vs h = h

  mutual
    unfolding Refuses

    instruction_none : (i : Instruction) (d : Dictionary) (x : Option ItemData) → Suits i x → NoZeroIn x → Refuses l i d x R9 → ⊥
    instruction_none (field at f) d x r h z = scalar_none f d x r h z
    instruction_none (parts at e m) d x r h z = decimal_none l e m d x z
    instruction_none (group at optional body) d None r h z = absurd z
    instruction_none (group at optional body) d (Some (group_item vs)) r h z = segment_none body (body_none body) d vs r h z
    instruction_none (group at optional body) d (Some (one v)) r h z = absurd z
    instruction_none (group at optional body) d (Some (sequence_item rows)) r h z = absurd z
    instruction_none (sequence at f body) d None r h z = field_none f d None (λ _. tt) z
    instruction_none (sequence at f body) d (Some (sequence_item rows)) r h (inl z) = field_none f d (Some (U (count rows))) (λ _. no_text) z
    instruction_none (sequence at f body) d (Some (sequence_item rows)) r h (inr (b, u, mid, enc, z)) =
        rows_none body (segment_none body (body_none body)) rows mid r.0 h z
    instruction_none (sequence at f body) d (Some (one v)) r h z = absurd z
    instruction_none (sequence at f body) d (Some (group_item vs)) r h z = absurd z

    body_none : (body : Body) (d : Dictionary) (vs : Slots) → SuitsBody body vs → HaveNoZero vs → RefusesBody l body d vs R9 → ⊥
    body_none end d vs r h z = absurd z
    body_none (step i is) d vs r h (x, rest, e, z) =
        let r' = slot_suits i is x rest (subst (SuitsBody (step i is)) e r) in
        let h' = slot_none x rest (subst HaveNoZero e h) in
        neither (instruction_none i d x r'.0 h'.0) (λ q. body_none is q.2 rest r'.1 h'.1 q.4) z

pub message_none : (t : Tree) (l : Limits) (d : Dictionary) (m : MessageData) → SuitsTemplate t m → HaveNoZero m.slots → RefusesMessage t l d m R9 → ⊥
message_none t l d m (u', at', right) h (u, id, b1, x, mid, at, own, enc, inr (b2, v, d', enc', n, e)) = absurd (cc e)
message_none t l d m (u', at', right) h (u, id, b1, x, mid, at, own, enc, inl z) =
    let same : u' ≡ u = cc (at', at) in
    body_none l u.body (if u.reset then reset mid else mid) m.slots (subst (λ (q : TemplateData). SuitsBody q.body m.slots) same right) h z
