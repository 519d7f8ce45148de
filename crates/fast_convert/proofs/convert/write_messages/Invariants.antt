-- So many messages are encoded and written.
use Rattle.std.proofs.Common.{◌≡◌}
use Rattle.fast_encoder.specs.meaning.Encoders.{tree}
use Rattle.fast_convert.proofs.Coded.{IsSoFar}
use Rattle.fast_convert.proofs.convert.write_messages.Given as goal

abbrev pub invariant-loop-number : goal.invariant-loop-number
invariant-loop-number g l = record {
  so : IsSoFar (tree l.fn.encoder) l.fn.encoder.limits l.hex l.fn.encoder.dictionary l.messages l.number (g.T.Target.written l.fn.writer)
      (g.T.Target.written l.writer) l.encoder.dictionary;
  set : l.encoder.set ≡ l.fn.encoder.set;
  limits : l.encoder.limits ≡ l.fn.encoder.limits;
  stays : g.T.Target.has_failed l.writer ≡ g.T.Target.has_failed l.fn.writer;
}
