-- Streams of messages.
use Rattle.std.specs.Prelude.{◌≡◌, ℕ, ◌<◌, List, [], ◌∷◌, ◌++◌, length, flat_map, All}
use Rattle.fast_value.specs.declared.settings.Limits.{Limits}
use Rattle.fast_value.specs.meaning.Messages.{MessageData}
use Rattle.fast_value.specs.declared.codes.Code.{Code}
use Rattle.fast_tree.specs.meaning.Tree.{Tree}
use Rattle.fast_dict.specs.meaning.Dictionary.{Dictionary, fresh}
use Rattle.fast_stream.specs.meaning.Events.{EventData, events}
use Rattle.fast_stream.specs.meaning.Phrases.{cut, wrong}
use Rattle.fast_stream.specs.meaning.Messages.{message, SpellsMessage}

-- the end of a stream: between two messages, inside one, or at a fault, with the number of bytes that decided it
pub data End : Type 0 where
  between : End
  inside : End
  faulted : Code → ℕ → End

-- The bytes are complete messages, one after the other, from one dictionary to the other.
-- FAST 1.1: Transfer Encoding, Streams and Messages.
abbrev pub SpellsAll : Tree → Limits → Dictionary → List MessageData → List ℕ → Dictionary → Type 0
SpellsAll t l d [] w d' = (w ≡ []) × (d' ≡ d)
SpellsAll t l d (m ∷ ms) w d' = (u v : List ℕ) × (mid : Dictionary) × SpellsMessage t l d m u mid × SpellsAll t l mid ms v d' × (w ≡ u ++ v)

-- Complete messages from the fresh dictionary on, with their events, lead to this dictionary.
-- FAST 1.1: Transfer Encoding, Streams and Messages.
abbrev pub Chain : Tree → Limits → List ℕ → List EventData → Dictionary → Type 0
Chain t l w es d = (ms : List MessageData) × SpellsAll t l (fresh t.entries) ms w d × (es ≡ flat_map (events t) ms)

-- The bytes are complete messages; then perhaps a message of at least a byte that is truncated, or the shortest prefix of one that decides
-- a fault, and after a fault any bytes.
-- FAST 1.1: Transfer Encoding, Streams and Messages.
unfoldable pub Stream : Tree → Limits → List ℕ → List EventData → End → Type 0
Stream t l w es between = (d : Dictionary) × Chain t l w es d
Stream t l w es inside = (u v : List ℕ) × (fs gs : List EventData) × (d : Dictionary) × Chain t l u fs d × message t l d v gs cut
    × (0 < length v) × (w ≡ u ++ v) × (es ≡ fs ++ gs)
Stream t l w es (faulted c place) = (u v rest : List ℕ) × (fs gs : List EventData) × (d : Dictionary) × Chain t l u fs d
    × message t l d v gs (wrong c) × (place ≡ length (u ++ v)) × (w ≡ (u ++ v) ++ rest) × (es ≡ fs ++ gs)

-- all are below 256
abbrev pub AreBytes : List ℕ → Type 0
AreBytes w = All (λ b. b < 256) w
