use Rattle.std.proofs.Common.{length}
use Rattle.fast_rows.proofs.rows.+write_map.Given as goal

abbrev pub decreases-write_map : goal.decreases-write_map
decreases-write_map g l = length l.bytes.now
