-- The numbers and the names of the errors of a stream.
use Rattle.std.specs.Prelude.{ℕ, List, codes}
use Rattle.fast_value.specs.declared.codes.Code.{Code}
use Rattle.fast_value.specs.declared.codes.Code.TheVariants.{D2, D4, D5, D6, D7, D9, R1, R2, R6, R7, R8, R9, L1, L2, L3, L5}

-- The number of a fault of a stream. 16 and 17 are those of L4 and of a sink that stopped; 18 is free.
abbrev pub stream_code_number : Code → ℕ
stream_code_number D2 = 1
stream_code_number D4 = 2
stream_code_number D5 = 3
stream_code_number D6 = 4
stream_code_number D7 = 5
stream_code_number D9 = 6
stream_code_number R1 = 7
stream_code_number R2 = 8
stream_code_number R6 = 9
stream_code_number R7 = 10
stream_code_number R8 = 11
stream_code_number R9 = 12
stream_code_number L1 = 13
stream_code_number L2 = 14
stream_code_number L3 = 15
stream_code_number L5 = 19

-- the name of a fault of a stream
abbrev pub stream_code_text : Code → List ℕ
stream_code_text D2 = codes "D2"
stream_code_text D4 = codes "D4"
stream_code_text D5 = codes "D5"
stream_code_text D6 = codes "D6"
stream_code_text D7 = codes "D7"
stream_code_text D9 = codes "D9"
stream_code_text R1 = codes "R1"
stream_code_text R2 = codes "R2"
stream_code_text R6 = codes "R6"
stream_code_text R7 = codes "R7"
stream_code_text R8 = codes "R8"
stream_code_text R9 = codes "R9"
stream_code_text L1 = codes "L1"
stream_code_text L2 = codes "L2"
stream_code_text L3 = codes "L3"
stream_code_text L5 = codes "L5"
