-- What suits leads from a sound dictionary to a sound one.
use Rattle.std.proofs.Common.{◌≡◌, ℕ, ◌<◌, ◌≤◌, ◌^◌, List, length, sym, subst, arith}
use Rattle.std.specs.Prelude.{Bool, true, false, if◌then◌else◌, ℤ, Option, Some, None}
use Rattle.std.proofs.lemmas.Int.{ints}
use Rattle.fast_wire.specs.meaning.Integers.{IsWithin, signed_range, exponent_range}
use Rattle.fast_value.specs.declared.kinds.Kind.{Kind}
use Rattle.fast_value.specs.declared.kinds.Kind.TheVariants.{UInt32, Int32, UInt64, Int64, Decimal, Ascii, Unicode, Bytes}
use Rattle.fast_value.specs.declared.settings.Limits.{Limits}
use Rattle.fast_value.specs.meaning.Kinds.{ScalarData, U, I, Dec, AsciiText, UnicodeText, ByteVector, text_of, IsOfKind}
use Rattle.fast_value.specs.meaning.Messages.{ItemData, one, group as group_item, sequence as sequence_item, Slots, Elements, no_elements, element, count}
use Rattle.fast_tree.specs.meaning.Tree.{Label, FieldData, Instruction, field, parts, group, sequence, Body, end, step}
use Rattle.fast_dict.specs.meaning.Dictionary.{Dictionary, previous_at, reset}
use Rattle.fast_stream.specs.meaning.Messages.{with_slot}
use Rattle.fast_spelling.specs.device.Fields.{IsSuited, next_of}
use Rattle.fast_spelling.specs.meaning.Again.{IsSoundEntry, IsSound, IsGranted, Grants, GrantsBody}
use Rattle.fast_spelling.specs.meaning.Encoding.{Encoder, EncodesField, EncodesSegment, EncodesElements, EncodesScalar, EncodesDecimal}
use Rattle.fast_spelling.specs.meaning.Encoding.{EncodesGroup, EncodesSequence, Encodes, EncodesBody}
use Rattle.fast_spelling.specs.meaning.Suiting.{IsRight, AreRight, IsRightScalar, IsRightDecimal, IsRightGroup, IsRightSequence, Suits}
use Rattle.fast_spelling.specs.meaning.Suiting.{SuitsBody, AreWithinLimits, RowsWithinLimits}
use Rattle.fast_spelling.proofs.encodings.Encoded.{IsWithinOption}
use Rattle.fast_spelling.proofs.again.FieldsAgain.{tail_texts, fit_of}
use Rattle.fast_spelling.proofs.again.MessagesAgain.{sound_reset}
use Rattle.fast_spelling.proofs.again.Sound.{IsSoundValue, next_sound, sound_write, sound_previous}
use Rattle.fast_spelling.proofs.rules.OneItem.{one_next}
use Rattle.fast_spelling.proofs.rules.Ruled.{rule_gives}

-- numbers of kinds that are granted
pub right_length : (f : FieldData) (n : ℕ) → f.kind ≡ UInt32 → n < 2 ^ 32 → IsRight f.kind (U n)
right_length f n e h = subst (λ (k : Kind). IsRight k (U n)) (sym e) (0, h)

pub right_exponent : (f : FieldData) (x : ℤ) → f.kind ≡ Int32 → IsWithin exponent_range x → IsRight f.kind (I x)
right_exponent f x e h = subst (λ (k : Kind). IsRight k (I x)) (sym e) (0, (omega (arith, ints, h), omega (arith, ints, h)))

pub right_mantissa : (f : FieldData) (x : ℤ) → f.kind ≡ Int64 → IsWithin (signed_range 63) x → IsRight f.kind (I x)
right_mantissa f x e h = subst (λ (k : Kind). IsRight k (I x)) (sym e) (0, h)

-- a first slot, and the others
slot_suits : (i : Instruction) (is : Body) (x : Option ItemData) (vs : Slots) → SuitsBody (step i is) (with_slot x vs) → Suits i x × SuitsBody is vs
slot_suits i is None vs h = h
slot_suits i is (Some x) vs h = h

slot_fits : (l : Limits) (x : Option ItemData) (vs : Slots) → AreWithinLimits l (with_slot x vs) → IsWithinOption l x × AreWithinLimits l vs
slot_fits l None vs h = (tt, h)
slot_fits l (Some x) vs h = h

module _ (l : Limits) where
  -- a value that is right, and short enough, is one of its kind within the limits
  right_sound : (kind : Kind) (v : ScalarData) → IsRight kind v → length (text_of v) ≤ l.max_text → IsOfKind l kind v
  right_sound UInt32 (U n) (room, h) i = h
  right_sound UInt64 (U n) (room, h) i = h
  right_sound Int32 (I x) (room, h) i = h
  right_sound Int64 (I x) (room, h) i = h
  right_sound Decimal (Dec x y) (room, h) i = h
  right_sound Ascii (AsciiText t) (room, h) i = (i, h.1)
  right_sound Unicode (UnicodeText t) (room, h) i = (i, h.1)
  right_sound Bytes (ByteVector t) (room, h) i = i
  right_sound kind v (room, h) i = absurd h

  suited_sound : (f : FieldData) (v : Option ScalarData) → IsSuited l.max_text f v → IsSoundValue l f v
  suited_sound f None h = h
  suited_sound f (Some v) h = right_sound f.kind v h.0 h.1

  pub field_keeps : (f : FieldData) (d : Dictionary) (v : Option ScalarData) (b : List Bool) (w : List ℕ) (d' : Dictionary) → IsSound l d
      → IsGranted l f → IsSuited l.max_text f v → EncodesField l f d v b w d' → IsSound l d'
  field_keeps f d v b w d' sound granted suited (bit, x, next, rule, spelled, op, bits, written) =
      let p = previous_at f.entry d in
      let right = suited_sound f v suited in
      let same : next ≡ next_of f p v = one_next f p bit x v next (next_of f p v) op
      (rule_gives f p v bit x (tail_texts l f granted.suited) (fit_of l f v right) rule) in
      let entry : IsSoundEntry l next = subst (IsSoundEntry l) (sym same) (next_sound l f.operator f p v (sound_previous l f.entry d sound) right) in
      subst (IsSound l) (sym written) (sound_write l f.entry next d sound entry)

  -- From a sound dictionary slots that are right lead to a sound one.
  abbrev pub KeepsSlots : (Dictionary → Slots → List ℕ → Dictionary → Type 0) → (Slots → Type 0) → Type 0
  KeepsSlots encodes right = (d : Dictionary) (vs : Slots) (w : List ℕ) (d' : Dictionary) → IsSound l d → right vs → AreWithinLimits l vs
      → encodes d vs w d' → IsSound l d'

  -- the same of what may be absent
  abbrev Keeps : Encoder (Option ItemData) → (Option ItemData → Type 0) → Type 0
  Keeps encodes right = (d : Dictionary) (x : Option ItemData) (b : List Bool) (w : List ℕ) (d' : Dictionary) → IsSound l d → right x
      → IsWithinOption l x → encodes d x b w d' → IsSound l d'

  scalar_keeps : (f : FieldData) → IsGranted l f → Keeps (EncodesScalar l f) (IsRightScalar f)
  scalar_keeps f granted d None b w d' sound h fits e = field_keeps f d None b w d' sound granted h e
  scalar_keeps f granted d (Some (one v)) b w d' sound h fits e = field_keeps f d (Some v) b w d' sound granted (h, fits) e
  scalar_keeps f granted d (Some other) b w d' sound h fits e = absurd h

  decimal_keeps : (at : Label) (e m : FieldData) → Grants l (parts at e m) → Keeps (EncodesDecimal l e m) (IsRightDecimal e)
  decimal_keeps at e m granted d None b w d' sound h fits i = field_keeps e d None b w d' sound granted.0 h i
  decimal_keeps at e m (granted, granted', e_kind, m_kind, there) d (Some (one (Dec x y))) b w d' sound h fits (b1, b2, u, v, mid, i, j, _, _) =
      let first = field_keeps e d (Some (I x)) b1 u mid sound granted (right_exponent e x e_kind h.0, omega arith) i in
      field_keeps m mid (Some (I y)) b2 v d' first granted' (right_mantissa m y m_kind h.1, omega arith) j
  decimal_keeps at e m granted d (Some other) b w d' sound h fits i = absurd h

  group_keeps : (optional : Bool) (encodes : Dictionary → Slots → List ℕ → Dictionary → Type 0) (right : Slots → Type 0)
      → KeepsSlots encodes right → Keeps (EncodesGroup optional encodes) (IsRightGroup optional right)
  group_keeps optional encodes right f d None b w d' sound h fits (_, _, _, same) = subst (IsSound l) (sym same) sound
  group_keeps optional encodes right f d (Some (group_item vs)) b w d' sound h fits (_, i) = f d vs w d' sound h fits i
  group_keeps optional encodes right f d (Some other) b w d' sound h fits i = absurd h

  rows_keep : (encodes : Dictionary → Slots → List ℕ → Dictionary → Type 0) (right : Slots → Type 0) → KeepsSlots encodes right
      → (rows : Elements) (d : Dictionary) (w : List ℕ) (d' : Dictionary) → IsSound l d → AreRight right rows → RowsWithinLimits l rows
      → EncodesElements encodes d rows w d' → IsSound l d'
  rows_keep encodes right f no_elements d w d' sound h fits (_, same) = subst (IsSound l) (sym same) sound
  rows_keep encodes right f (element vs rows) d w d' sound h fits (u, v, mid, i, j, _) =
      rows_keep encodes right f rows mid v d' (f d vs u mid sound h.0 fits.0 i) h.1 fits.1 j

  sequence_keeps : (g : FieldData) (encodes : Dictionary → Slots → List ℕ → Dictionary → Type 0) (right : Slots → Type 0)
      → KeepsSlots encodes right → IsGranted l g → g.kind ≡ UInt32 → Keeps (EncodesSequence l g encodes) (IsRightSequence g right)
  sequence_keeps g encodes right f granted kind d None b w d' sound h fits i = field_keeps g d None b w d' sound granted h i
  sequence_keeps g encodes right f granted kind d (Some (sequence_item rows)) b w d' sound h fits (u, v, mid, i, j, _) =
      let first = field_keeps g d (Some (U (count rows))) b u mid sound granted (right_length g (count rows) kind h.1, omega arith) i in
      rows_keep encodes right f rows mid v d' first h.0 fits.1 j
  sequence_keeps g encodes right f granted kind d (Some other) b w d' sound h fits i = absurd h

  segment_by : (body : Body) → ((d : Dictionary) (vs : Slots) (b : List Bool) (w : List ℕ) (d' : Dictionary) → IsSound l d
      → SuitsBody body vs → AreWithinLimits l vs → EncodesBody l body d vs b w d' → IsSound l d')
      → KeepsSlots (EncodesSegment body (EncodesBody l body)) (SuitsBody body)
  segment_by body f d vs w d' sound h fits (b, m, v, i, _, _) = f d vs b v d' sound h fits i

  mutual
    unfolding Encodes

    pub instruction_keeps : (i : Instruction) → Grants l i → Keeps (Encodes l i) (Suits i)
    instruction_keeps (field at f) granted d x b w d' sound h fits e = scalar_keeps f granted d x b w d' sound h fits e
    instruction_keeps (parts at e m) granted d x b w d' sound h fits j = decimal_keeps at e m granted d x b w d' sound h fits j
    instruction_keeps (group at optional body) granted d x b w d' sound h fits e =
        group_keeps optional (EncodesSegment body (EncodesBody l body)) (SuitsBody body) (segment_by body (body_keeps body granted)) d x b w d' sound h fits e
    instruction_keeps (sequence at g body) granted d x b w d' sound h fits e =
        sequence_keeps g (EncodesSegment body (EncodesBody l body)) (SuitsBody body)
        (segment_by body (body_keeps body granted.2)) granted.0 granted.1 d x b w d' sound h fits e

    pub body_keeps : (body : Body) → GrantsBody l body → (d : Dictionary) (vs : Slots) (b : List Bool) (w : List ℕ) (d' : Dictionary)
        → IsSound l d → SuitsBody body vs → AreWithinLimits l vs → EncodesBody l body d vs b w d' → IsSound l d'
    body_keeps end granted d vs b w d' sound h fits (_, _, _, same) = subst (IsSound l) (sym same) sound
    body_keeps (step i is) granted d vs b w d' sound h fits (x, rest, b1, b2, u, v, mid, e, j, split, _, _) =
        let suits = slot_suits i is x rest (subst (SuitsBody (step i is)) split h) in
        let few = slot_fits l x rest (subst (AreWithinLimits l) split fits) in
        body_keeps is granted.1 mid rest b2 v d' (instruction_keeps i granted.0 d x b1 u mid sound suits.0 few.0 e) suits.1 few.1 j

  pub segment_keeps : (body : Body) → GrantsBody l body → KeepsSlots (EncodesSegment body (EncodesBody l body)) (SuitsBody body)
  segment_keeps body granted = segment_by body (body_keeps body granted)

  -- a template's reset
  pub sound_if : (b : Bool) (d : Dictionary) → IsSound l d → IsSound l (if b then reset d else d)
  sound_if true d h = sound_reset l d h
  sound_if false d h = h
