-- The names of the faults of a template set.
use Rattle.std.specs.Prelude.{List, ℕ, codes}
use Rattle.fast_notation.specs.declared.codes.StaticCode.{StaticCode}
use Rattle.fast_notation.specs.declared.codes.StaticCode.TheVariants.{S1, S2, S3, S4, S5, D8, C1, C2, C3, C4, C5, C6, Memory}

-- the name of a fault of a template file
abbrev pub static_code_text : StaticCode → List ℕ
static_code_text S1 = codes "S1"
static_code_text S2 = codes "S2"
static_code_text S3 = codes "S3"
static_code_text S4 = codes "S4"
static_code_text S5 = codes "S5"
static_code_text D8 = codes "D8"
static_code_text C1 = codes "C1"
static_code_text C2 = codes "C2"
static_code_text C3 = codes "C3"
static_code_text C4 = codes "C4"
static_code_text C5 = codes "C5"
static_code_text C6 = codes "C6"
static_code_text Memory = codes "Memory"
