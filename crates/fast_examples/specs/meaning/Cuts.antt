-- Streams that end before a message does, as statements.
use Rattle.std.specs.Prelude.{[], ◌∷◌, replicate}
use Rattle.fast_stream.specs.meaning.Events.{MessageStart}
use Rattle.fast_stream.specs.meaning.Streams.{Stream, between, inside}
use Rattle.fast_examples.specs.meaning.Vectors.{vectors, lenient}

-- no byte; a map; a map and an identifier; a part of a field
abbrev pub CutStreams : Type 0
CutStreams =
    Stream vectors lenient [] [] between
    × Stream vectors lenient (0xC0 ∷ []) [] inside
    × Stream vectors lenient (0xC0 ∷ 0x81 ∷ []) (MessageStart 0 ∷ []) inside
    × Stream vectors lenient (0xC0 ∷ 0x81 ∷ 0x39 ∷ 0x45 ∷ []) (MessageStart 0 ∷ []) inside

-- 32 bytes, and 145, which is one less than a map may have
abbrev pub CutMaps : Type 0
CutMaps =
    Stream vectors lenient (replicate 32 0x00) [] inside
    × Stream vectors lenient (replicate 145 0x00) [] inside
