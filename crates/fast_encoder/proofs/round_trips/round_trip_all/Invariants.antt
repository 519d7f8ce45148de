-- So many messages have come back.
use Rattle.std.proofs.Common.{◌≡◌, ℕ, List, map, take}
use Rattle.fast_value.specs.meaning.Views.{message_data}
use Rattle.fast_stream.specs.meaning.Events.{EventData}
use Rattle.fast_decoder.specs.meaning.Decoding.{tree as decoded_tree}
use Rattle.fast_encoder.specs.meaning.ReadBack.{AreLevel}
use Rattle.fast_encoder.specs.meaning.RoundTrips.{AreReadBack}
use Rattle.fast_encoder.proofs.round_trips.round_trip_all.Given as goal

abbrev pub invariant-loop-index : goal.invariant-loop-index
invariant-loop-index g l = record {
  back : (w : List ℕ) (es : List EventData) → AreLevel l.fn.encoder l.fn.decoder w es
      → AreReadBack g.S.Sink.takes l.fn.encoder (map message_data (take l.index l.messages)) l.fn.out.items w es l.fn.sink l.encoder
      l.decoder l.out.items l.sink;
  set : l.encoder.set ≡ l.fn.encoder.set;
  limits : l.encoder.limits ≡ l.fn.encoder.limits;
  tree : decoded_tree l.decoder ≡ decoded_tree l.fn.decoder;
  decoder_limits : l.decoder.limits ≡ l.fn.decoder.limits;
}
