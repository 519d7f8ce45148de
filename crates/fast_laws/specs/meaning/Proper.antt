-- Messages that suit their template and the limits, and the events of a stream of such messages.
use Rattle.std.specs.Prelude.{◌≡◌, ◌⊎◌, List, [], ◌++◌, All, flat_map}
use Rattle.fast_value.specs.declared.settings.Limits.{Limits}
use Rattle.fast_value.specs.meaning.Messages.{MessageData}
use Rattle.fast_tree.specs.meaning.Tree.{Tree}
use Rattle.fast_stream.specs.meaning.Events.{EventData, events}
use Rattle.fast_stream.specs.meaning.Streams.{End, between}
use Rattle.fast_spelling.specs.meaning.Suiting.{IsKnown, SuitsTemplate, FitsLimits}

-- The template has an identifier, each slot suits its instruction, and texts and counts keep to the limits.
pub record IsProper (t : Tree) (l : Limits) (m : MessageData) : Type 0 where
  pub known : IsKnown t m
  pub suits : SuitsTemplate t m
  pub fits : FitsLimits l m.slots

-- No event, or the first events of such a message.
abbrev pub AreFirstOf : Tree → Limits → List EventData → Type 0
AreFirstOf t l es = (es ≡ []) ⊎ ((m : MessageData) × (rest : List EventData) × IsProper t l m × (events t m ≡ es ++ rest))

-- The events are those of such messages, one after the other, and then the first events of one more; between two messages of none.
pub record AreOfMessages (t : Tree) (l : Limits) (es : List EventData) (e : End) : Type 0 where
  pub messages : List MessageData
  pub front : List EventData
  pub proper : All (IsProper t l) messages
  pub begun : AreFirstOf t l front
  pub all : es ≡ flat_map (events t) messages ++ front
  pub none_between : e ≡ between → front ≡ []
