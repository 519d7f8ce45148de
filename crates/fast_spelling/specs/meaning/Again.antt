-- What is relied on where a message that was read is encoded again.
use Rattle.std.specs.Prelude.{◌≡◌, ◌≢◌, ℕ, ◌≤◌, true, false, All, List, [], ◌∷◌, ◌++◌, length, slice_index_or, None, IfSome}
use Rattle.fast_value.specs.declared.kinds.Kind.TheVariants.{UInt32, Int32, Int64, Ascii}
use Rattle.fast_value.specs.declared.settings.Limits.{Limits}
use Rattle.fast_value.specs.meaning.Kinds.{ScalarData, AsciiText, text_of, IsOfKind, texts, family}
use Rattle.fast_value.specs.meaning.Messages.{ItemData, one, group as group_item, sequence as sequence_item, Slots, no_slots, absent}
use Rattle.fast_value.specs.meaning.Messages.{present, Elements, no_elements, element, MessageData}
use Rattle.fast_tree.specs.declared.operators.Operator.{Operator}
use Rattle.fast_tree.specs.declared.operators.Operator.TheVariants.{Constant, Default, Delta, Tail}
use Rattle.fast_tree.specs.meaning.Tree.{FieldData, Instruction, field, parts, group, sequence, Body, end, step, Tree}
use Rattle.fast_notation.specs.meaning.Uses.{suits}
use Rattle.fast_dict.specs.meaning.Dictionary.{Dictionary, PreviousData, undefined, assigned}
use Rattle.fast_spelling.specs.meaning.Encoding.{EncodesMessage}

-- What an entry holds is a value of its kind within the limits, if it holds one.
abbrev pub IsSoundEntry : Limits → PreviousData → Type 0
IsSoundEntry l (assigned kind v) = IsOfKind l kind v
IsSoundEntry l p = Unit {0}

-- so is what all entries hold
abbrev pub IsSound : Limits → Dictionary → Type 0
IsSound l d = (n : ℕ) → IsSoundEntry l (slice_index_or d n undefined)

-- What reading a template set grants of a field, and the limits of its initial value: the operator suits the kind, the initial
-- value is of the kind, and a constant or a mandatory default has one.
-- FAST 1.1: Error Codes, S2 to S5.
pub record IsGranted (l : Limits) (f : FieldData) : Type 0 where
  pub suited : suits f.operator (family f.kind) ≡ true
  pub initial : IfSome f.initial (IsOfKind l f.kind)
  pub constant : f.operator ≡ Constant → f.initial ≢ None
  pub default : f.operator ≡ Default → f.optional ≡ false → f.initial ≢ None

-- the same of all fields; the parts of decimals and the lengths of sequences are integers, and no mantissa is absent by itself
abbrev mutual
  pub Grants : Limits → Instruction → Type 0
  Grants l (field at f) = IsGranted l f
  Grants l (parts at e m) = IsGranted l e × IsGranted l m × (e.kind ≡ Int32) × (m.kind ≡ Int64) × (m.optional ≡ false)
  Grants l (group at optional body) = GrantsBody l body
  Grants l (sequence at length body) = IsGranted l length × (length.kind ≡ UInt32) × GrantsBody l body

  pub GrantsBody : Limits → Body → Type 0
  GrantsBody l end = Unit {0}
  GrantsBody l (step i is) = Grants l i × GrantsBody l is

-- the same of all templates
abbrev pub IsGrantedTree : Limits → Tree → Type 0
IsGrantedTree l t = All (λ u. GrantsBody l u.body) t.templates

-- The initial value is no text that is longer than the limit.
abbrev pub HasShortInitial : Limits → FieldData → Type 0
HasShortInitial l f = IfSome f.initial (λ v. length (text_of v) ≤ l.max_text)

-- the same of all fields of a body
abbrev mutual
  pub HaveShortInitials : Limits → Instruction → Type 0
  HaveShortInitials l (field at f) = HasShortInitial l f
  HaveShortInitials l (parts at e m) = HasShortInitial l e × HasShortInitial l m
  HaveShortInitials l (group at optional body) = HaveShortInitialsIn l body
  HaveShortInitials l (sequence at length body) = HasShortInitial l length × HaveShortInitialsIn l body

  pub HaveShortInitialsIn : Limits → Body → Type 0
  HaveShortInitialsIn l end = Unit {0}
  HaveShortInitialsIn l (step i is) = HaveShortInitials l i × HaveShortInitialsIn l is

-- the same of all templates
abbrev pub IsShortTree : Limits → Tree → Type 0
IsShortTree l t = All (λ u. HaveShortInitialsIn l u.body) t.templates

-- Where the operator is this one, the field is no optional delta of a text, and no optional tail of an ASCII text.
abbrev pub IsPlainBy : Operator → FieldData → Type 0
IsPlainBy o f = (o ≡ Delta → family f.kind ≡ texts → f.optional ≡ false) × (o ≡ Tail → f.kind ≡ Ascii → f.optional ≡ false)

-- the field is neither
abbrev pub HasPlainLength : FieldData → Type 0
HasPlainLength f = IsPlainBy f.operator f

-- the same of all fields of a body
abbrev mutual
  pub ArePlain : Instruction → Type 0
  ArePlain (field at f) = HasPlainLength f
  ArePlain (parts at e m) = Unit {0}
  ArePlain (group at optional body) = ArePlainIn body
  ArePlain (sequence at length body) = ArePlainIn body

  pub ArePlainIn : Body → Type 0
  ArePlainIn end = Unit {0}
  ArePlainIn (step i is) = ArePlain i × ArePlainIn is

-- the same of all templates
abbrev pub IsPlainTree : Tree → Type 0
IsPlainTree t = All (λ u. ArePlainIn u.body) t.templates

-- No ASCII text has the character U+0000.
abbrev pub HasNoZero : ScalarData → Type 0
HasNoZero (AsciiText v) = All (λ c. c ≢ 0) v
HasNoZero v = Unit {0}

abbrev mutual
  pub HasNoZeroIn : ItemData → Type 0
  HasNoZeroIn (one v) = HasNoZero v
  HasNoZeroIn (group_item vs) = HaveNoZero vs
  HasNoZeroIn (sequence_item rows) = RowsHaveNoZero rows

  pub HaveNoZero : Slots → Type 0
  HaveNoZero no_slots = Unit {0}
  HaveNoZero (absent vs) = HaveNoZero vs
  HaveNoZero (present x vs) = HasNoZeroIn x × HaveNoZero vs

  pub RowsHaveNoZero : Elements → Type 0
  RowsHaveNoZero no_elements = Unit {0}
  RowsHaveNoZero (element vs rows) = HaveNoZero vs × RowsHaveNoZero rows

-- The bytes are what is written for one message after the other, from one dictionary to the other.
abbrev pub EncodesAll : Tree → Limits → Dictionary → List MessageData → List ℕ → Dictionary → Type 0
EncodesAll t l d [] w d' = (w ≡ []) × (d' ≡ d)
EncodesAll t l d (m ∷ ms) w d' = (u v : List ℕ) × (mid : Dictionary) × EncodesMessage t l d m u mid × EncodesAll t l mid ms v d' × (w ≡ u ++ v)
