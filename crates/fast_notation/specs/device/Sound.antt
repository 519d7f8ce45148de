-- Uses of operators without a fault, and those with one.
use Rattle.std.specs.Prelude.{ℕ, Bool, List, [], Any, Option}
use Rattle.fast_value.specs.declared.kinds.Kind.{Kind}
use Rattle.fast_value.specs.meaning.Kinds.{ScalarData}
use Rattle.fast_value.specs.meaning.Initial.{IsInitial}
use Rattle.fast_notation.specs.declared.codes.StaticCode.{StaticCode}
use Rattle.fast_notation.specs.declared.codes.StaticCode.TheVariants.{S2, S3, S4, S5, Memory}
use Rattle.fast_notation.specs.declared.uses.OperatorPart.{OperatorPart}
use Rattle.fast_notation.specs.declared.uses.OperatorPart.TheVariants.{Whole, Exponent, Mantissa, Length}
use Rattle.fast_notation.specs.declared.written.WrittenInstruction.{WrittenInstruction}
use Rattle.fast_tree.specs.meaning.AsWritten.{Part, whole, exponent, mantissa, length, Written, Use, all_uses}
use Rattle.fast_notation.specs.meaning.Uses.{IsInitialOf, IsInitialInPart, IsS2, IsS3, IsS4, IsS5}
use Rattle.fast_notation.specs.device.WrittenSets.{fields_data}

-- the part of an entry, as in the definitions
abbrev pub part_data : OperatorPart → Part
part_data Whole = whole
part_data Exponent = exponent
part_data Mantissa = mantissa
part_data Length = length

-- A use of an operator, without the name of the field.
abbrev pub bare_use : OperatorPart → Kind → Bool → Written → Use
bare_use part kind optional w = record { kind = kind; optional = optional; name = []; part = part_data part; written = w }

-- the string of an initial value stands for this value in its part
abbrev pub IsInitialAt : OperatorPart → Kind → List ℕ → ScalarData → Type 0
IsInitialAt part kind text v = IsInitial kind text v × IsInitialInPart (part_data part) v

-- The use has none of the faults that have a code.
pub record IsSound (u : Use) : Type 0 where
  pub suited : ¬ (IsS2 u)
  pub constant : ¬ (IsS4 u)
  pub default : ¬ (IsS5 u)
  pub initial : (v : Option ScalarData) × IsInitialOf u u.written.value v

-- The use is at fault.
abbrev pub IsUnsound : StaticCode → Use → Type 0
IsUnsound S2 u = IsS2 u
IsUnsound S3 u = IsS3 u
IsUnsound S4 u = IsS4 u
IsUnsound S5 u = IsS5 u
IsUnsound Memory u = Unit {0}
IsUnsound code u = ⊥

-- all uses of operators of instructions
abbrev pub uses_in : List WrittenInstruction → List Use
uses_in fs = all_uses (fields_data fs)

-- One of the uses is at fault.
abbrev pub HasFault : StaticCode → List Use → Type 0
HasFault S2 us = Any IsS2 us
HasFault S3 us = Any IsS3 us
HasFault S4 us = Any IsS4 us
HasFault S5 us = Any IsS5 us
HasFault Memory us = Unit {0}
HasFault code us = ⊥
