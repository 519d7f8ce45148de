-- What `read_lines` ensures of its result, that it has these messages, and that they are those of a stream.
use Rattle.std.specs.Prelude.{◌≡◌, ℕ, List, All, map, flat_map, Result, Ok, Err, IfOk, IfErr}
use Rattle.std.specs.declared.alloc.Global.{Global}
use Rattle.std.specs.declared.vec.Vec.{Vec}
use Rattle.fast_value.specs.declared.messages.Message.{Message}
use Rattle.fast_value.specs.declared.settings.Limits.{Limits}
use Rattle.fast_value.specs.meaning.Messages.{MessageData}
use Rattle.fast_value.specs.meaning.Views.{message_data}
use Rattle.fast_tree.specs.meaning.Tree.{Tree}
use Rattle.fast_dict.specs.meaning.Dictionary.{Dictionary, fresh}
use Rattle.fast_stream.specs.meaning.Events.{EventData, events}
use Rattle.fast_stream.specs.meaning.Streams.{SpellsAll}
use Rattle.fast_spelling.specs.meaning.Again.{HaveNoZero, EncodesAll}
use Rattle.fast_messages.specs.declared.faults.TextFault.{TextFault}
use Rattle.fast_messages.specs.declared.faults.TextFault.TheVariants.{Memory}
use Rattle.fast_messages.specs.meaning.Reading.{Says, OnBadLine}
use Rattle.fast_messages.specs.meaning.Unsaid.{SaysNothing}

-- the clauses `ok` and `err`
pub record IsRead (t : Tree) (text : List ℕ) (r : Result (Vec Message Global) TextFault) : Type 0 where
  pub ok : IfOk r (λ ms. Says t text (map message_data ms.items))
  pub err : IfErr r (OnBadLine (SaysNothing t text))

-- these messages, or no memory
abbrev pub IsReadAs : List MessageData → Result (Vec Message Global) TextFault → Type 0
IsReadAs ms (Ok ns) = map message_data ns.items ≡ ms
IsReadAs ms (Err e) = e ≡ Memory

-- The messages that the bytes of a stream spell, with their events, are those that were read; where no ASCII text of theirs has U+0000 there
-- are bytes of the encoder for all of them, which lead to the same dictionary.
pub record IsReadAgain (t : Tree) (l : Limits) (w : List ℕ) (es : List EventData) (r : Result (Vec Message Global) TextFault) : Type 0 where
  pub messages : List MessageData
  pub dictionary : Dictionary
  pub spelled : SpellsAll t l (fresh t.entries) messages w dictionary
  pub says : es ≡ flat_map (events t) messages
  pub read : IsReadAs messages r
  pub encoded : All (λ m. HaveNoZero m.slots) messages → (v : List ℕ) × EncodesAll t l (fresh t.entries) messages v dictionary
