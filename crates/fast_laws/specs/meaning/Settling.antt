-- From where each message is encoded or refused.
use Rattle.std.specs.Prelude.{ℕ, ◌<◌, ◌≤◌, ◌^◌, List, All, IfSome}
use Rattle.fast_value.specs.declared.settings.Limits.{Limits}
use Rattle.fast_value.specs.meaning.Kinds.{AsciiText}
use Rattle.fast_value.specs.meaning.Messages.{one, no_slots, present, MessageData}
use Rattle.fast_tree.specs.meaning.Tree.{Tree, HasDistinctIds}
use Rattle.fast_dict.specs.meaning.Dictionary.{Dictionary}
use Rattle.fast_spelling.specs.meaning.Again.{IsGrantedTree, IsSound}
use Rattle.fast_spelling.specs.meaning.Encoding.{EncodesMessage}

-- Each identifier is a uInt32.
abbrev pub HasShortIds : Tree → Type 0
HasShortIds t = All (λ u. IfSome u.id (λ id. id < 2 ^ 32)) t.templates

-- Reading a set grants the tree, and identifiers that differ; the limit on texts is one that an encoder takes; and what an entry holds is a
-- value of its kind within the limits.
pub record CanEncode (t : Tree) (l : Limits) (d : Dictionary) : Type 0 where
  pub granted : IsGrantedTree l t
  pub distinct_ids : HasDistinctIds t
  pub short_ids : HasShortIds t
  pub small : l.max_text ≤ 1048576
  pub sound : IsSound l d

-- Some bytes encode the message.
abbrev pub HasEncoding : Tree → Limits → Dictionary → MessageData → Type 0
HasEncoding t l d m = (w : List ℕ) × (d' : Dictionary) × EncodesMessage t l d m w d'

-- the first message of a set of one ASCII field
abbrev pub text_message : List ℕ → MessageData
text_message v = record { template = 0; slots = present (one (AsciiText v)) no_slots }
