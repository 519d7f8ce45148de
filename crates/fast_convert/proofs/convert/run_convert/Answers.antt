-- What a new encoder of the set and the limits does of what is read is what the run has done.
use Rattle.std.proofs.Common.{inr, refl}
use Rattle.fast_convert.proofs.convert.run_convert.Goals as goal

pub convert_read-requires-clause-set : goal.convert_read-requires-clause-set
convert_read-requires-clause-set g c = c.in-Ok.ensures.made.0

pub convert_read-requires-clause-fresh : goal.convert_read-requires-clause-fresh
convert_read-requires-clause-fresh g c = c.in-Ok.ensures.made.2

pub returns-clause-converted : goal.returns-clause-converted
returns-clause-converted g c = rw c.in-Ok.ensures.made.1 at c.convert_read.ensures.converted

pub returns-clause-bad_limits : goal.returns-clause-bad_limits
returns-clause-bad_limits g c = λ bad. let e = c.in-Ok.ensures.bad_limits.1 bad in absurd (cc)

pub returns-clause-long_initial : goal.returns-clause-long_initial
returns-clause-long_initial g c = λ bad. let e = c.in-Ok.ensures.long_initial.1 bad in absurd (cc)

pub returns-in-Err-clause-writer_told : goal.returns-in-Err-clause-writer_told
returns-in-Err-clause-writer_told g c = inr refl

pub returns-in-Err-clause-reader_told : goal.returns-in-Err-clause-reader_told
returns-in-Err-clause-reader_told g c = inr refl

pub returns-clause-writer_told : goal.returns-clause-writer_told
returns-clause-writer_told g c = c.convert_read.ensures.writer_told

pub returns-clause-reader_told : goal.returns-clause-reader_told
returns-clause-reader_told g c = c.convert_read.ensures.reader_told
