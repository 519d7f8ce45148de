-- Lines of messages are read as these messages.
use Rattle.std.proofs.Common.{◌≡◌, ℕ, List, [], ◌∷◌, ◌++◌, map, refl, sym, ap, ◌∙◌}
use Rattle.std.specs.Prelude.{All, flat_map, Result, Ok, Err}
use Rattle.std.specs.declared.alloc.Global.{Global}
use Rattle.std.specs.declared.vec.Vec.{Vec}
use Rattle.fast_value.specs.declared.messages.Message.{Message}
use Rattle.fast_value.specs.meaning.Messages.{MessageData}
use Rattle.fast_value.specs.meaning.Views.{message_data}
use Rattle.fast_tree.specs.meaning.Tree.{Tree}
use Rattle.fast_stream.specs.meaning.Events.{EventData, events}
use Rattle.fast_lines.specs.meaning.Lines.{line_of, lines}
use Rattle.fast_spelling.specs.meaning.Suiting.{SuitsTemplate}
use Rattle.fast_messages.specs.declared.faults.TextFault.{TextFault}
use Rattle.fast_messages.specs.declared.faults.TextFault.TheVariants.{BadLine, Memory}
use Rattle.fast_messages.specs.meaning.Back.{IsRead, IsReadAs}
use Rattle.fast_messages.specs.meaning.Distinct.{HasDistinctBodies}
use Rattle.fast_messages.specs.meaning.Lined.{HasNames, HasDistinctNames, IsShown}
use Rattle.fast_messages.specs.meaning.Reading.{closed}
use Rattle.fast_messages.proofs.texts.Closed.{closed_first}
use Rattle.fast_messages.proofs.refusals.Due.{lines_are}
use Rattle.fast_messages.proofs.unique.OneReading.{one_reading}

pub read_back : (t : Tree) (ms : List MessageData) (text : List ℕ) (r : Result (Vec Message Global) TextFault) → HasDistinctBodies t
    → HasDistinctNames t → HasNames t → All (SuitsTemplate t) ms → All IsShown (flat_map (events t) ms)
    → closed text ≡ lines t (flat_map (events t) ms) → IsRead t text r → IsReadAs ms r
read_back t ms text (Ok ns) bodies distinct names suit shown same read =
    one_reading t text (map message_data ns.items) ms bodies distinct names read.ok (record {
      suit = suit;
      same = same;
    })
read_back t ms text (Err (BadLine line kind)) bodies distinct names suit shown same read = absurd (read.err distinct names ms shown (record {
  suit = suit;
  same = same;
}))
read_back t ms text (Err Memory) bodies distinct names suit shown same read = refl

pub lines_closed : (t : Tree) (es : List EventData) → closed (lines t es) ≡ lines t es
lines_closed t [] = refl
lines_closed t (e ∷ es) = ap closed (lines_are t e es) ∙ closed_first (line_of t e) (lines t es)
    ∙ ap (λ (z : List ℕ). line_of t e ++ 0x0A ∷ z) (lines_closed t es) ∙ sym (lines_are t e es)
