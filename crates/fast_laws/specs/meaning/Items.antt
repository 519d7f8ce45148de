-- The bytes of an item, and of a field by its item.
use Rattle.std.specs.Prelude.{◌-◌, Ok, ◌≡◌, ℕ, Bool, true, false, if◌then◌else◌, List, [], ◌++◌, ℤ, Option, Some, None}
use Rattle.fast_wire.specs.meaning.Integers.{signed_range, exponent_range, delta_range, SpellsInt}
use Rattle.fast_wire.specs.meaning.Texts.{SpellsAscii, SpellsVector, SpellsDec}
use Rattle.fast_wire.specs.meaning.Maps.{first_bit, later_bits}
use Rattle.fast_value.specs.declared.kinds.Kind.{Kind}
use Rattle.fast_value.specs.declared.kinds.Kind.TheVariants.{Ascii}
use Rattle.fast_value.specs.declared.settings.Limits.{Limits}
use Rattle.fast_value.specs.meaning.Kinds.{ScalarData, Dec, Family, integers, decimals, texts, family, value_of_integer, value_of_text}
use Rattle.fast_tree.specs.declared.operators.Operator.{Operator}
use Rattle.fast_tree.specs.declared.operators.Operator.TheVariants.{Delta}
use Rattle.fast_tree.specs.meaning.Tree.{FieldData, uses_bit}
use Rattle.fast_dict.specs.meaning.Dictionary.{PreviousData}
use Rattle.fast_dict.specs.meaning.Operators.{Sent, nothing, null, value, integer_delta, decimal_delta, text_delta, Kept, kept_length, subtraction_step, Op}
use Rattle.fast_stream.specs.meaning.Fields.{SpellsField}
use Rattle.fast_stream.specs.meaning.Messages.{State, Found}

-- a text of a kind: as ASCII, or as a vector
-- FAST 1.1: Transfer Encoding, ASCII Strings, Unicode Strings and Byte Vectors.
abbrev pub SpellsText : Bool → Kind → Bool → ℕ → Option (List ℕ) → List ℕ → Type 0
SpellsText strict Ascii nullable room v w = SpellsAscii nullable room v w
SpellsText strict kind nullable room v w = SpellsVector strict nullable room v w

-- NULL in the place of a value
-- FAST 1.1: Transfer Encoding, Nullable Types.
abbrev pub SpellsNull : Bool → ℕ → FieldData → Family → List ℕ → Type 0
SpellsNull strict room f (integers range) w = SpellsInt strict range f.optional None w
SpellsNull strict room f decimals w = SpellsDec strict exponent_range (signed_range 63) f.optional None w
SpellsNull strict room f texts w = SpellsText strict f.kind f.optional room None w

-- NULL in the place of a delta
-- FAST 1.1: Transfer Encoding, Nullable Types.
abbrev pub SpellsNoDelta : Bool → FieldData → Family → List ℕ → Type 0
SpellsNoDelta strict f texts w = SpellsInt strict (signed_range 31) f.optional None w
SpellsNoDelta strict f other w = SpellsInt strict delta_range f.optional None w

-- a value of the field's kind, as it is
-- FAST 1.1: Transfer Encoding, Field Instructions.
abbrev pub SpellsValue : Bool → ℕ → FieldData → Family → ScalarData → List ℕ → Type 0
SpellsValue strict room f (integers range) v w = (x : ℤ) × (v ≡ value_of_integer f.kind x) × SpellsInt strict range f.optional (Some x) w
SpellsValue strict room f decimals v w = (e m : ℤ) × (v ≡ Dec e m) × SpellsDec strict exponent_range (signed_range 63) f.optional (Some (e, m)) w
SpellsValue strict room f texts v w = (t : List ℕ) × (v ≡ value_of_text f.kind t) × SpellsText strict f.kind f.optional room (Some t) w

-- NULL under the operator
-- FAST 1.1: Transfer Encoding, Nullable Types.
abbrev pub SpellsNullBy : Bool → ℕ → FieldData → Operator → List ℕ → Type 0
SpellsNullBy strict room f Delta w = SpellsNoDelta strict f (family f.kind) w
SpellsNullBy strict room f operator w = SpellsNull strict room f (family f.kind) w

-- The bytes of an item, for texts of at most `room` bytes. A text delta's part has the room that is left beside what is kept.
-- FAST 1.1: Template Definition, Field Operators.
abbrev pub SpellsItemBy : Bool → ℕ → Operator → FieldData → PreviousData → Sent → List ℕ → Type 0
SpellsItemBy strict room o f p nothing w = w ≡ []
SpellsItemBy strict room o f p null w = SpellsNullBy strict room f o w
SpellsItemBy strict room o f p (value v) w = SpellsValue strict room f (family f.kind) v w
SpellsItemBy strict room o f p (integer_delta k) w = SpellsInt strict delta_range f.optional (Some k) w
SpellsItemBy strict room o f p (decimal_delta k j) w = SpellsDec strict delta_range delta_range f.optional (Some (k, j)) w
SpellsItemBy strict room o f p (text_delta k part) w = (kept : Kept) × (u v : List ℕ) × (subtraction_step f p k ≡ Ok kept)
    × SpellsInt strict (signed_range 31) f.optional (Some k) u × SpellsText strict f.kind false (room - kept_length kept) (Some part) v × (w ≡ u ++ v)

-- the bytes of the field's item
-- FAST 1.1: Transfer Encoding, Field Instructions.
abbrev pub SpellsItem : Limits → FieldData → PreviousData → Sent → List ℕ → Type 0
SpellsItem l f p x w = SpellsItemBy l.strict l.max_text f.operator f p x w

-- Some item that the operator takes has the bytes, and gives the value, or absence, and what the entry holds next.
-- FAST 1.1: Template Definition, Field Operators.
abbrev pub IsByItem : Limits → FieldData → PreviousData → Bool → Option ScalarData → PreviousData → List ℕ → Type 0
IsByItem l f p bit v next w = (x : Sent) × SpellsItem l f p x w × Op f p bit x v next

-- A field behind other instructions: it takes the next bit if it uses one, and of the context its entry alone changes.
-- FAST 1.1: Transfer Encoding, Presence Map Utilization.
abbrev pub SpellsFound : Limits → FieldData → State → List ℕ → Found → Type 0
SpellsFound l f s w r = SpellsField l f s.context.dictionary (if uses_bit f then first_bit s.bits else true) r.0 w r.1.context.dictionary
    × (r.1.context.counted ≡ s.context.counted) × (r.1.bits ≡ (if uses_bit f then later_bits s.bits else s.bits))
