use Rattle.fast_spelling.proofs.bytes.Mapped.{segment_has_map}
use Rattle.fast_spelling.proofs.laws.segment_has_map.Goals as goal

pub returns : goal.returns
returns c = segment_has_map
