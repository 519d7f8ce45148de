-- A text says one list of messages.
use Rattle.std.proofs.Common.{◌≡◌, ℕ, List, sym, ◌∙◌}
use Rattle.std.specs.Prelude.{flat_map}
use Rattle.fast_value.specs.meaning.Messages.{MessageData}
use Rattle.fast_tree.specs.meaning.Tree.{Tree}
use Rattle.fast_stream.specs.meaning.Events.{events}
use Rattle.fast_messages.specs.meaning.Distinct.{HasDistinctBodies}
use Rattle.fast_messages.specs.meaning.Lined.{HasNames, HasDistinctNames}
use Rattle.fast_messages.specs.meaning.Reading.{Says}
use Rattle.fast_messages.proofs.names.LinedEvents.{messages_lined}
use Rattle.fast_messages.proofs.unique.OneList.{same_messages}
use Rattle.fast_messages.proofs.unique.OneListOfEvents.{same_events}

pub one_reading : (t : Tree) (text : List ℕ) (ms ns : List MessageData) → HasDistinctBodies t → HasDistinctNames t → HasNames t
    → Says t text ms → Says t text ns → ms ≡ ns
one_reading t text ms ns bodies distinct names a b =
    same_messages t ms ns bodies a.suit b.suit (same_events t (flat_map (events t) ms) (flat_map (events t) ns) distinct
    (messages_lined t ms names a.suit) (messages_lined t ns names b.suit) (sym a.same ∙ b.same))
