-- What the functions that write fields rely on, and what they do.
use Rattle.std.specs.Prelude.{◌≡◌, ℕ, ◌++◌, ◌≤◌, ◌<◌, ◌^◌, Bool, true, List, length, Option, Some, None, IfSome}
use Rattle.fast_value.specs.declared.kinds.Kind.{Kind}
use Rattle.fast_value.specs.meaning.Kinds.{ScalarData, U, I, Dec, IsWithin, signed_range, text_of}
use Rattle.fast_tree.specs.declared.operators.Operator.{Operator}
use Rattle.fast_tree.specs.declared.operators.Operator.TheVariants.{None as no_operator, Constant, Default, Delta}
use Rattle.fast_tree.specs.meaning.Tree.{FieldData}
use Rattle.fast_tree.specs.meaning.Usable.{IsUsable}
use Rattle.fast_dict.specs.meaning.Dictionary.{Dictionary, PreviousData, empty, assigned}
use Rattle.fast_spelling.specs.declared.draft.Draft.{Draft}
use Rattle.fast_value.specs.declared.settings.Limits.{Limits}
use Rattle.fast_value.specs.meaning.Messages.{Slots}
use Rattle.fast_tree.specs.meaning.Tree.{Body}
use Rattle.fast_spelling.specs.meaning.Encoding.{EncodesBody, EncodesSegment}
use Rattle.fast_spelling.specs.meaning.Ledgers.{LedgerData}
use Rattle.fast_spelling.specs.meaning.Suiting.{IsRight}

-- The field's entry is one of the dictionary's, and its initial value is short.
pub record IsServed (s : LedgerData) (f : FieldData) : Type 0 where
  pub usable : IsUsable (length s.now) f
  pub initial : IfSome f.initial (λ v. length (text_of v) ≤ s.max_text)
  pub small : s.max_text ≤ 1048576

-- A value of the field's kind that is short enough, or absence where it may be.
abbrev pub IsSuited : ℕ → FieldData → Option ScalarData → Type 0
IsSuited max_text f None = f.optional ≡ true
IsSuited max_text f (Some v) = IsRight f.kind v × (length (text_of v) ≤ max_text)

-- What the entry of a field holds behind its value or its absence.
abbrev pub next_by : Operator → Kind → PreviousData → Option ScalarData → PreviousData
next_by no_operator kind p v = p
next_by Constant kind p v = p
next_by Default kind p v = p
next_by Delta kind p None = p
next_by operator kind p None = empty
next_by operator kind p (Some v) = assigned kind v

abbrev pub next_of : FieldData → PreviousData → Option ScalarData → PreviousData
next_of f p v = next_by f.operator f.kind p v

-- Bits and bytes were appended that say what leads to this dictionary.
abbrev pub Wrote : (List Bool → List ℕ → Dictionary → Type 0) → Draft → Draft → Dictionary → Type 0
Wrote says old new d = (b : List Bool) × (w : List ℕ) × (new.bits ≡ old.bits ++ b) × (new.bytes.items ≡ old.bytes.items ++ w) × says b w d

-- Behind the bytes that there were stands a segment that says what leads to this dictionary; the bits around it are as they were.
abbrev pub WroteSegment : Limits → Body → Dictionary → Slots → Draft → Draft → Dictionary → Type 0
WroteSegment l body d vs old new d' = (w : List ℕ) × (new.bits ≡ old.bits) × (new.bytes.items ≡ old.bytes.items ++ w)
    × EncodesSegment body (EncodesBody l body) d vs w d'

-- The numbers of the value are those of its Rust type.
abbrev pub IsNarrow : ScalarData → Type 0
IsNarrow (U n) = n < 2 ^ 64
IsNarrow (I x) = IsWithin (signed_range 63) x
IsNarrow (Dec e m) = IsWithin (signed_range 31) e × IsWithin (signed_range 63) m
IsNarrow v = Unit {0}
