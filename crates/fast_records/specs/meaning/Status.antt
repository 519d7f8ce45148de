-- The numbers of all that a call can come to.
use Rattle.std.specs.Prelude.{ℕ, ◌+◌}
use Rattle.fast_stream.specs.meaning.FaultCodes.{code_number, cause_number}
use Rattle.fast_notation.specs.declared.codes.StaticCode.{StaticCode}
use Rattle.fast_notation.specs.declared.codes.StaticCode.TheVariants as Static
use Rattle.fast_spelling.specs.meaning.Codes.{encode_number}
use Rattle.fast_spelling.specs.declared.faults.EncodeFault.TheVariants as Encode
use Rattle.fast_records.specs.declared.encoding.PutRefusal.{PutRefusal}
use Rattle.fast_records.specs.declared.encoding.PutRefusal.TheVariants as Why
use Rattle.fast_records.specs.declared.putting.PutFault.TheVariants as Put
use Rattle.fast_records.specs.declared.feeding.Outcome.{Outcome}
use Rattle.fast_records.specs.declared.feeding.Outcome.TheVariants as Came
use Rattle.fast_records.specs.declared.status.Status.{Status}
use Rattle.fast_records.specs.declared.status.Status.TheVariants as To

-- the number of what is wrong with a template text
abbrev pub static_number : StaticCode → ℕ
static_number Static.S1 = 1
static_number Static.S2 = 2
static_number Static.S3 = 3
static_number Static.S4 = 4
static_number Static.S5 = 5
static_number Static.D8 = 6
static_number Static.C1 = 7
static_number Static.C2 = 8
static_number Static.C3 = 9
static_number Static.C4 = 10
static_number Static.C5 = 11
static_number Static.C6 = 12
static_number Static.Memory = 13

-- the number of a status
abbrev pub status_number : Status → ℕ
status_number To.Done = 0
status_number To.More = 1
status_number To.NoRoom = 2
status_number To.NotText = 3
status_number To.Closed = 4
status_number To.Misplaced = 5
status_number To.Truncated = 6
status_number (To.Stream c) = 100 + code_number c
status_number (To.Make e) = 200 + cause_number e
status_number (To.Set c) = 300 + static_number c
status_number (To.Message f) = 400 + encode_number f

-- the status of how a feed ended
abbrev pub ended : Outcome → Status
ended Came.Done = To.Done
ended Came.More = To.More
ended Came.NoRoom = To.NoRoom
ended (Came.Fault c) = To.Stream c

-- the status of why records are not encoded
abbrev pub refused : PutRefusal → Status
refused (Why.Records (Put.Misplaced n)) = To.Misplaced
refused (Why.Records Put.Memory) = To.Message Encode.Memory
refused (Why.Message f) = To.Message f
