use Rattle.std.proofs.Common.{take}
use Rattle.fast_decoder.specs.meaning.Feeding.{all_bytes}
use Rattle.fast_decoder.proofs.streams.Following.{SoFar}
use Rattle.fast_decoder.proofs.decoder.Decoder.feed_all.Given as goal

abbrev pub invariant-loop-piece : goal.invariant-loop-piece
invariant-loop-piece g l = SoFar g.S.Sink.takes l.fn.self (all_bytes (take l.piece-index l.pieces)) l.fn.sink l.self l.sink
