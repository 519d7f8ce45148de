-- The numbers and the names of why a message is refused.
use Rattle.std.specs.Prelude.{ℕ, List, codes}
use Rattle.fast_spelling.specs.declared.faults.EncodeFault.{EncodeFault}
use Rattle.fast_spelling.specs.declared.faults.EncodeFault.TheVariants.{E1, E2, E3, E4, R9, Memory}

-- the number of a fault
abbrev pub encode_number : EncodeFault → ℕ
encode_number E1 = 1
encode_number E2 = 2
encode_number E3 = 3
encode_number E4 = 4
encode_number R9 = 5
encode_number Memory = 6

-- the name of a fault
abbrev pub encode_text : EncodeFault → List ℕ
encode_text E1 = codes "E1"
encode_text E2 = codes "E2"
encode_text E3 = codes "E3"
encode_text E4 = codes "E4"
encode_text R9 = codes "R9"
encode_text Memory = codes "Memory"
