-- A message suits its template, or it does not; so it is with the limits.
use Rattle.std.proofs.Common.{◌≡◌, ◌⊎◌, inl, inr, ℕ, ◌<◌, ◌≤◌, ◌^◌, List, [], ◌∷◌, length, refl, ap, subst, arith}
use Rattle.std.specs.Prelude.{Bool, true, false, ◌&&◌, int_le, All, IsUtf8, slice_get, ℤ, Option, Some, None}
use Rattle.std.specs.Str.{is_utf8}
use Rattle.std.proofs.lemmas.Bool.{cases_lt}
use Rattle.std.proofs.lemmas.List.Elements.{All-nil, All-cons, All-head, All-tail}
use Rattle.std.proofs.lemmas.Str.{IsUtf8-from_is_utf8, is_utf8-from_IsUtf8}
use Rattle.fast_wire.specs.meaning.Integers.{Range, IsWithin, signed_range, exponent_range}
use Rattle.fast_value.specs.declared.kinds.Kind.{Kind}
use Rattle.fast_value.specs.declared.kinds.Kind.TheVariants.{UInt32, Int32, UInt64, Int64, Decimal, Ascii, Unicode, Bytes}
use Rattle.fast_value.specs.declared.settings.Limits.{Limits}
use Rattle.fast_value.specs.meaning.Kinds.{ScalarData, U, I, Dec, AsciiText, UnicodeText, ByteVector, text_of}
use Rattle.fast_value.specs.meaning.Messages.{ItemData, one, group as group_item, sequence as sequence_item, Slots, no_slots, absent}
use Rattle.fast_value.specs.meaning.Messages.{present, Elements, no_elements, element, count, total, MessageData}
use Rattle.fast_tree.specs.meaning.Tree.{FieldData, Instruction, field, parts, group, sequence, Body, end, step, TemplateData, Tree}
use Rattle.fast_stream.proofs.readers.Integers.{decides-within}
use Rattle.fast_spelling.specs.meaning.Suiting.{IsKnown, IsRight, AreRight, IsRightScalar, IsRightDecimal, IsRightGroup, IsRightSequence}
use Rattle.fast_spelling.specs.meaning.Suiting.{Suits, SuitsBody, SuitsTemplate, IsWithinLimits, AreWithinLimits, RowsWithinLimits}
use Rattle.fast_spelling.specs.meaning.Suiting.{FitsLimits}

-- it is so, or it isn't
abbrev pub Decided : Type 0 → Type 0
Decided P = P ⊎ (P → ⊥)

both : {P Q : Type 0} → Decided P → Decided Q → Decided (P × Q)
both (inl p) (inl q) = inl (p, q)
both (inl p) (inr n) = inr (λ h. n h.1)
both (inr n) q = inr (λ h. n h.0)

is_true : (b : Bool) → Decided (b ≡ true)
is_true true = inl refl
is_true false = inr (λ e. cc e)

below : (n m : ℕ) → Decided (n < m)
below n m = by (cases_lt n m)
  where
    by : (n < m) ⊎ (m ≤ n) → Decided (n < m)
    by (inl h) = inl h
    by (inr h) = inr (λ g. omega (arith, g, h))

up_to : (n m : ℕ) → Decided (n ≤ m)
up_to n m = by (cases_lt m n)
  where
    by : (m < n) ⊎ (n ≤ m) → Decided (n ≤ m)
    by (inl h) = inr (λ g. omega (arith, g, h))
    by (inr h) = inl h

within : (range : Range) (x : ℤ) → Decided (IsWithin range x)
within range x = by (is_true (int_le range.low x && int_le x range.high))
  where
    by : Decided ((int_le range.low x && int_le x range.high) ≡ true) → Decided (IsWithin range x)
    by (inl e) = inl ((decides-within range x).0 e)
    by (inr n) = inr (λ h. n ((decides-within range x).1 h))

all_ascii : (t : List ℕ) → Decided (All (λ c. c < 128) t)
all_ascii [] = inl (All-nil (λ c. c < 128))
all_ascii (c ∷ t) = by (below c 128) (all_ascii t)
  where
    by : Decided (c < 128) → Decided (All (λ c. c < 128) t) → Decided (All (λ c. c < 128) (c ∷ t))
    by (inl h) (inl i) = inl (All-cons (λ c. c < 128) c t h i)
    by (inl h) (inr n) = inr (λ i. n (All-tail (λ c. c < 128) c t i))
    by (inr n) i = inr (λ h. n (All-head (λ c. c < 128) c t h))

utf8 : (t : List ℕ) → Decided (IsUtf8 t)
utf8 t = by (is_true (is_utf8 t))
  where
    by : Decided (is_utf8 t ≡ true) → Decided (IsUtf8 t)
    by (inl e) = inl (IsUtf8-from_is_utf8 t e)
    by (inr n) = inr (λ h. n (is_utf8-from_IsUtf8 t h))

-- a text has room under some limit, as under its own length
abbrev InRoom : ℕ → Type 0 → ℕ → Type 0
InRoom n P room = (n ≤ room) × P

in_room : {P : Type 0} (n : ℕ) → Decided P → Decided ((room : ℕ) × InRoom n P room)
in_room n (inl p) = inl (n, (omega arith, p))
in_room n (inr never) = inr (λ h. never h.1.1)

in_any : {P : Type 0} → Decided P → Decided (ℕ × P)
in_any (inl p) = inl (0, p)
in_any (inr never) = inr (λ h. never h.1)

right : (kind : Kind) (v : ScalarData) → Decided (IsRight kind v)
right UInt32 (U n) = in_any (below n (2 ^ 32))
right UInt64 (U n) = in_any (below n (2 ^ 64))
right Int32 (I x) = in_any (within (signed_range 31) x)
right Int64 (I x) = in_any (within (signed_range 63) x)
right Decimal (Dec x y) = in_any (both (within exponent_range x) (within (signed_range 63) y))
right Ascii (AsciiText t) = in_room (length t) (all_ascii t)
right Unicode (UnicodeText t) = in_room (length t) (utf8 t)
right Bytes (ByteVector t) = inl (length t, omega arith)
right kind v = inr (λ h. absurd h.1)

right_scalar : (f : FieldData) (x : Option ItemData) → Decided (IsRightScalar f x)
right_scalar f None = is_true f.optional
right_scalar f (Some (one v)) = right f.kind v
right_scalar f (Some other) = inr (λ h. absurd h)

right_decimal : (e : FieldData) (x : Option ItemData) → Decided (IsRightDecimal e x)
right_decimal e None = is_true e.optional
right_decimal e (Some (one (Dec x y))) = both (within exponent_range x) (within (signed_range 63) y)
right_decimal e (Some other) = inr (λ h. absurd h)

right_rows : (P : Slots → Type 0) → ((vs : Slots) → Decided (P vs)) → (rows : Elements) → Decided (AreRight P rows)
right_rows P f no_elements = inl tt
right_rows P f (element vs rows) = both (f vs) (right_rows P f rows)

right_group : (optional : Bool) (P : Slots → Type 0) → ((vs : Slots) → Decided (P vs)) → (x : Option ItemData) → Decided (IsRightGroup optional P x)
right_group optional P f None = is_true optional
right_group optional P f (Some (group_item vs)) = f vs
right_group optional P f (Some other) = inr (λ h. absurd h)

right_sequence : (g : FieldData) (P : Slots → Type 0) → ((vs : Slots) → Decided (P vs)) → (x : Option ItemData) → Decided (IsRightSequence g P x)
right_sequence g P f None = is_true g.optional
right_sequence g P f (Some (sequence_item rows)) = both (right_rows P f rows) (below (count rows) (2 ^ 32))
right_sequence g P f (Some other) = inr (λ h. absurd h)

mutual
  suits_decided : (i : Instruction) (x : Option ItemData) → Decided (Suits i x)
  suits_decided (field at f) x = right_scalar f x
  suits_decided (parts at e m) x = right_decimal e x
  suits_decided (group at optional body) x = right_group optional (SuitsBody body) (body_decided body) x
  suits_decided (sequence at g body) x = right_sequence g (SuitsBody body) (body_decided body) x

  body_decided : (body : Body) (vs : Slots) → Decided (SuitsBody body vs)
  body_decided end no_slots = inl tt
  body_decided end (absent vs) = inr (λ h. h)
  body_decided end (present x vs) = inr (λ h. h)
  body_decided (step i is) no_slots = inr (λ h. h)
  body_decided (step i is) (absent vs) = both (suits_decided i None) (body_decided is vs)
  body_decided (step i is) (present x vs) = both (suits_decided i (Some x)) (body_decided is vs)

-- the template of the message, and its identifier
known_of : (t : Tree) (m : MessageData) (u : TemplateData) → slice_get t.templates m.template ≡ Some u → Decided (IsKnown t m)
known_of t m u at = by u.id refl
  where
    by : (i : Option ℕ) → u.id ≡ i → Decided (IsKnown t m)
    by (Some id) e = inl (u, id, at, e)
    by None e = inr (λ (u', id, at', own). let same : u' ≡ u = cc (at, at') in absurd (cc (e, ap (λ (z : TemplateData). z.id) same, own)))

pub known_decided : (t : Tree) (m : MessageData) → Decided (IsKnown t m)
known_decided t m = by (slice_get t.templates m.template) refl
  where
    by : (o : Option TemplateData) → slice_get t.templates m.template ≡ o → Decided (IsKnown t m)
    by (Some u) e = known_of t m u e
    by None e = inr (λ (u, id, at, own). absurd (cc (e, at)))

suits_of : (t : Tree) (m : MessageData) (u : TemplateData) → slice_get t.templates m.template ≡ Some u → Decided (SuitsBody u.body m.slots)
    → Decided (SuitsTemplate t m)
suits_of t m u at (inl h) = inl (u, at, h)
suits_of t m u at (inr n) = inr (λ (u', at', h). let same : u' ≡ u = cc (at, at') in n (subst (λ (z : TemplateData). SuitsBody z.body m.slots) same h))

pub template_decided : (t : Tree) (m : MessageData) → Decided (SuitsTemplate t m)
template_decided t m = by (slice_get t.templates m.template) refl
  where
    by : (o : Option TemplateData) → slice_get t.templates m.template ≡ o → Decided (SuitsTemplate t m)
    by (Some u) e = suits_of t m u e (body_decided u.body m.slots)
    by None e = inr (λ h. absurd (cc (e, h.1)))

mutual
  item_within : (l : Limits) (x : ItemData) → Decided (IsWithinLimits l x)
  item_within l (one v) = up_to (length (text_of v)) l.max_text
  item_within l (group_item vs) = slots_within l vs
  item_within l (sequence_item rows) = both (up_to (count rows) l.max_elements) (rows_within l rows)

  slots_within : (l : Limits) (vs : Slots) → Decided (AreWithinLimits l vs)
  slots_within l no_slots = inl tt
  slots_within l (absent vs) = slots_within l vs
  slots_within l (present x vs) = both (item_within l x) (slots_within l vs)

  rows_within : (l : Limits) (rows : Elements) → Decided (RowsWithinLimits l rows)
  rows_within l no_elements = inl tt
  rows_within l (element vs rows) = both (slots_within l vs) (rows_within l rows)

pub limits_decided : (l : Limits) (vs : Slots) → Decided (FitsLimits l vs)
limits_decided l vs = both (slots_within l vs) (up_to (total vs) l.max_total)
