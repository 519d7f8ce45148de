-- What was fed, and what stands behind it, is how the run goes on or ends.
use Rattle.std.proofs.Common.{◌∙◌, refl, sym}
use Rattle.fast_command.proofs.Progressing.{piece_fed}
use Rattle.fast_command.proofs.show.Show.take.Goals as goal

pub returns : goal.returns
returns g c t l hex text b es p =
    piece_fed g.T.Target.written g.T.Target.has_failed c.args.writer.now c.feed-fed.new.writer c.behind.new.writer t l hex c.args.self.now (record {
      fronts = c.args.self.now.fronts;
      decoder = c.feed-fed.new.decoder;
      unhexer = c.bytes_of-bytes.new.unhexer;
    }) text b c.args.piece.now c.bytes_of-bytes.result.now es c.feed-fed.result c.behind.result
    p refl c.feed-fed.ensures.same_set c.bytes_of-bytes.ensures.same c.feed-fed.ensures.answer
    (c.bytes_of-bytes.ensures.taken text b p.taken) (c.feed-fed.ensures.fed b es (p.set ∙ sym p.names) p.so) c.behind.ensures.unchanged
    c.behind.ensures.read c.behind.ensures.closed
