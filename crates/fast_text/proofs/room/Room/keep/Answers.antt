use Rattle.std.proofs.Common.{rules}
use Rattle.fast_text.proofs.Kept.{kept_front}
use Rattle.fast_text.proofs.room.Room.keep.Goals as goal

pub returns : goal.returns
returns c = search (rules, kept_front)
