-- The lines of a stream of whole messages are read as these messages.
use Rattle.std.proofs.Common.{◌≡◌, ℕ, List, [], ◌∷◌, subst, ap, ◌∙◌}
use Rattle.std.specs.Prelude.{All, Result}
use Rattle.std.specs.declared.alloc.Global.{Global}
use Rattle.std.specs.declared.vec.Vec.{Vec}
use Rattle.std.proofs.lemmas.List.Elements.{All-nil, All-cons}
use Rattle.toml.specs.Data.{Members}
use Rattle.fast_value.specs.declared.messages.Message.{Message}
use Rattle.fast_value.specs.declared.settings.Limits.{Limits}
use Rattle.fast_value.specs.meaning.Messages.{MessageData}
use Rattle.fast_tree.specs.meaning.Tree.{Tree}
use Rattle.fast_notation.specs.meaning.Checked.{IsTree}
use Rattle.fast_template.specs.declared.sets.Templates.{Templates}
use Rattle.fast_template.specs.meaning.Flat.{nodes_of, tree_of}
use Rattle.fast_dict.specs.meaning.Dictionary.{Dictionary, fresh}
use Rattle.fast_stream.specs.meaning.Events.{EventData}
use Rattle.fast_stream.specs.meaning.Streams.{Stream, SpellsAll, between}
use Rattle.fast_lines.specs.meaning.Lines.{lines}
use Rattle.fast_lines.specs.meaning.Values.{HoldsBytes}
use Rattle.fast_spelling.specs.meaning.Again.{IsGrantedTree, IsSound}
use Rattle.fast_spelling.specs.meaning.Suiting.{SuitsTemplate}
use Rattle.fast_spelling.proofs.again.MessagesAgain.{sound_fresh, spelled_suits, all_encoded_again}
use Rattle.fast_messages.specs.declared.faults.TextFault.{TextFault}
use Rattle.fast_messages.specs.meaning.Back.{IsRead, IsReadAgain}
use Rattle.fast_messages.specs.meaning.Reading.{closed}
use Rattle.fast_messages.proofs.names.AllNamed.{all_named}
use Rattle.fast_messages.proofs.readings.Back.{read_back}
use Rattle.fast_messages.proofs.names.Preorder.{distinct_bodies}
use Rattle.fast_messages.proofs.names.SetNames.{distinct_names}
use Rattle.fast_messages.proofs.values.ShownMessages.{messages_are_shown}

-- messages that bytes spell, one after the other, suit their templates
chain_suits : (t : Tree) (l : Limits) (ms : List MessageData) (d d' : Dictionary) (w : List ℕ) → IsGrantedTree l t → IsSound l d
    → SpellsAll t l d ms w d' → All (SuitsTemplate t) ms
chain_suits t l [] d d' w granted sound h = All-nil (SuitsTemplate t)
chain_suits t l (m ∷ ms) d d' w granted sound (u, v, mid, first, rest, e) =
    let one = spelled_suits t l d m u mid granted sound first in
    All-cons (SuitsTemplate t) m ms one.1 (chain_suits t l ms mid d' v granted one.3 rest)

pub shown_lines_are_read : (document : Members) (t : Templates) (l : Limits) (w : List ℕ) (es : List EventData) (text : List ℕ)
    (r : Result (Vec Message Global) TextFault)
    → IsTree document (tree_of t) → IsGrantedTree l (tree_of t) → Stream (tree_of t) l w es between → All HoldsBytes es
    → closed text ≡ lines (tree_of t) es → IsRead (tree_of t) text r → IsReadAgain (tree_of t) l w es r
unfolding Stream
shown_lines_are_read document t l w es text r is granted (d, (ms, spelled, says)) bytes same read =
    let set = tree_of t in
    let suit : All (SuitsTemplate set) ms = chain_suits set l ms (fresh set.entries) d w granted (sound_fresh l set.entries) spelled in
    record {
      messages = ms;
      dictionary = d;
      spelled = spelled;
      says = says;
      read = read_back set ms text r (distinct_bodies set (nodes_of t) t.nodes_in_preorder) (distinct_names document set is) (all_named document set is) suit
          (messages_are_shown set ms suit (subst (All HoldsBytes) says bytes)) (same ∙ ap (lines set) says) read;
      encoded = λ plain. let again = all_encoded_again set l ms w d granted plain spelled in (again.0, again.1);
    }
