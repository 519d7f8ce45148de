-- The number of messages that the bytes of a stream begin, and bodies in two parts.
use Rattle.std.specs.Prelude.{◌≡◌, ℕ, suc, ◌<◌, List, ◌++◌, length}
use Rattle.fast_value.specs.declared.settings.Limits.{Limits}
use Rattle.fast_value.specs.meaning.Messages.{MessageData}
use Rattle.fast_tree.specs.meaning.Tree.{Body, end, step, Tree}
use Rattle.fast_dict.specs.meaning.Dictionary.{Dictionary, fresh}
use Rattle.fast_stream.specs.meaning.Events.{EventData}
use Rattle.fast_stream.specs.meaning.Phrases.{cut, wrong}
use Rattle.fast_stream.specs.meaning.Messages.{message}
use Rattle.fast_stream.specs.meaning.Streams.{End, between, inside, faulted, SpellsAll}

-- n messages have at least a byte: complete ones, and then perhaps one that is truncated or wrong.
abbrev pub Begins : Tree → Limits → List ℕ → End → ℕ → Type 0
Begins t l w between n = (ms : List MessageData) × (d : Dictionary) × SpellsAll t l (fresh t.entries) ms w d × (n ≡ length ms)
Begins t l w inside n =
    (u v : List ℕ) × (ms : List MessageData) × (gs : List EventData) × (d : Dictionary) × SpellsAll t l (fresh t.entries) ms u d
    × message t l d v gs cut × (0 < length v) × (w ≡ u ++ v)
    × (n ≡ suc (length ms))
Begins t l w (faulted c place) n =
    (u v rest : List ℕ) × (ms : List MessageData) × (gs : List EventData) × (d : Dictionary) × SpellsAll t l (fresh t.entries) ms u d
    × message t l d v gs (wrong c) × (place ≡ length (u ++ v))
    × (w ≡ (u ++ v) ++ rest) × (n ≡ suc (length ms))

-- a body in two parts
abbrev pub joined : Body → Body → Body
joined end b = b
joined (step i is) b = step i (joined is b)
