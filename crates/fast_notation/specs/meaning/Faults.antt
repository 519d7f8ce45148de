-- The faults of a written set.
use Rattle.std.specs.Prelude.{ℕ, List, Option, Some, None}
use Rattle.fast_notation.specs.declared.codes.StaticCode.{StaticCode}
use Rattle.fast_notation.specs.declared.codes.StaticCode.TheVariants.{Memory}
use Rattle.fast_notation.specs.declared.codes.StaticFault.{StaticFault}
use Rattle.fast_tree.specs.meaning.AsWritten.{DeclaredTemplate}
use Rattle.fast_notation.specs.meaning.Refused.{StandsAt}

-- The code's condition holds at the named template. A failed allocation names none.
abbrev pub IsFaultAt : List DeclaredTemplate → StaticCode → Option ℕ → Type 0
IsFaultAt ts code (Some k) = StandsAt ts code k
IsFaultAt ts Memory None = Unit {0}
IsFaultAt ts code None = ⊥

-- the fault of a code at a template
abbrev pub fault_of : StaticCode → ℕ → StaticFault
fault_of Memory k = record { code = Memory; template = None }
fault_of code k = record { code = code; template = Some k }
