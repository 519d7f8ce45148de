-- The uses of operators: the field of a written one, and its faults.
use Rattle.std.specs.Prelude.{◌≡◌, ℕ, Bool, true, false, List, Option, Some, None}
use Rattle.fast_value.specs.meaning.Kinds.{ScalarData, integer_of, Family, integers, decimals, texts, family, exponent_range, IsWithin}
use Rattle.fast_value.specs.meaning.Initial.{IsInitial}
use Rattle.fast_tree.specs.declared.operators.Operator.{Operator}
use Rattle.fast_tree.specs.declared.operators.Operator.TheVariants.{Constant, Default, Increment, Tail}
use Rattle.fast_tree.specs.meaning.Tree.{FieldData}
use Rattle.fast_tree.specs.meaning.AsWritten.{Part, exponent, Use}
use Rattle.fast_tree.specs.meaning.Entries.{Entry, Scope, EntryNumber}

-- The operator suits the family.
-- FAST 1.1: Template Definition, Field Operators.
abbrev pub suits : Operator → Family → Bool
suits Increment decimals = false
suits Increment texts = false
suits Tail (integers range) = false
suits Tail decimals = false
suits operator f = true

-- an exponent's initial value lies in the range of exponents
abbrev pub IsInitialInPart : Part → ScalarData → Type 0
IsInitialInPart exponent v = IsWithin exponent_range (integer_of v)
IsInitialInPart part v = Unit {0}

-- The string of the initial value stands for this value.
-- FAST 1.1: Template Definition, Initial Value.
abbrev pub IsInitialOf : Use → Option (List ℕ) → Option ScalarData → Type 0
IsInitialOf u None None = Unit {0}
IsInitialOf u None (Some v) = ⊥
IsInitialOf u (Some text) None = ⊥
IsInitialOf u (Some text) (Some v) = IsInitial u.kind text v × IsInitialInPart u.part v

-- The codes of a use of an operator: it does not suit the family; the initial value is not one of the type; a constant has none; a
-- mandatory default has none.
-- FAST 1.1: Error Codes, S2.
abbrev pub IsS2 : Use → Type 0
IsS2 u = suits u.written.operator (family u.kind) ≡ false

-- the initial value is not one of the type
-- FAST 1.1: Error Codes, S3.
abbrev pub IsS3 : Use → Type 0
IsS3 u = (v : Option ScalarData) → ¬ (IsInitialOf u u.written.value v)

-- a constant without initial value
-- FAST 1.1: Error Codes, S4.
abbrev pub IsS4 : Use → Type 0
IsS4 u = (u.written.operator ≡ Constant) × (u.written.value ≡ None)

-- a mandatory default without initial value
-- FAST 1.1: Error Codes, S5.
abbrev pub IsS5 : Use → Type 0
IsS5 u = (u.written.operator ≡ Default) × (u.optional ≡ false) × (u.written.value ≡ None)

-- The field of a use of an operator.
pub record IsField (entries : List Entry) (s : Scope) (u : Use) (f : FieldData) : Type 0 where
  pub kind : f.kind ≡ u.kind
  pub optional : f.optional ≡ u.optional
  pub operator : f.operator ≡ u.written.operator
  pub initial : IsInitialOf u u.written.value f.initial
  pub entry : EntryNumber entries s u f.entry
