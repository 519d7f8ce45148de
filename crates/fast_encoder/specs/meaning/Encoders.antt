-- What a contract sees of an encoder, and what one answers.
use Rattle.std.specs.Prelude.{◌≡◌, ◌⊎◌, ℕ, true, List, ◌++◌}
use Rattle.fast_value.specs.declared.settings.Limits.{Limits}
use Rattle.fast_value.specs.meaning.Limits.{in_mode}
use Rattle.fast_value.specs.meaning.Messages.{MessageData}
use Rattle.fast_tree.specs.meaning.Tree.{Tree}
use Rattle.fast_template.specs.declared.sets.Templates.{Templates}
use Rattle.fast_machine.specs.device.Positions.{Set, tree_in}
use Rattle.fast_dict.specs.meaning.Dictionary.{Dictionary}
use Rattle.fast_stream.specs.meaning.Messages.{SpellsMessage}
use Rattle.fast_spelling.specs.declared.faults.EncodeFault.{EncodeFault}
use Rattle.fast_spelling.specs.declared.faults.EncodeFault.TheVariants.{Memory}
use Rattle.fast_spelling.specs.meaning.Encoding.{EncodesMessage}
use Rattle.fast_spelling.specs.meaning.Ledgers.{LedgerData}
use Rattle.fast_spelling.specs.device.Nodes.{IsReady}
use Rattle.fast_spelling.specs.meaning.Refusals.{IsRefused}
use Rattle.fast_spelling.specs.meaning.Suiting.{SuitsTemplate, FitsLimits}
use Rattle.fast_laws.specs.meaning.Settling.{CanEncode}

-- An encoder: its template set and limits, and its dictionary.
pub record EncoderData : Type 0 where
  pub set : Set
  pub limits : Limits
  pub dictionary : Dictionary

-- the tree of the encoder's template set
abbrev pub tree : EncoderData → Tree
tree e = tree_in e.set

-- Between two messages: the ledger serves the set, and nothing in it could be taken back.
pub record IsSound (t : Templates) (l : Limits) (s : LedgerData) : Type 0 where
  pub ready : IsReady t l s
  pub committed : s.before ≡ s.now

-- The message suits its template and keeps to the limits, and behind the bytes that there were stands what spells it in strict mode, by the
-- encoder's rule; the encoder stands at the dictionary behind it.
pub record IsEncoded (old : EncoderData) (m : MessageData) (out : List ℕ) (new : EncoderData) (longer : List ℕ) : Type 0 where
  pub bytes : List ℕ
  pub appended : longer ≡ out ++ bytes
  pub suits : SuitsTemplate (tree old) m
  pub fits : FitsLimits old.limits m.slots
  pub ruled : EncodesMessage (tree old) old.limits old.dictionary m bytes new.dictionary
  pub spelled : SpellsMessage (tree old) (in_mode true old.limits) old.dictionary m bytes new.dictionary

-- Some bytes encode the message, and `encode` can append them to any that there were.
abbrev pub CanBeEncoded : EncoderData → MessageData → List ℕ → Type 0
CanBeEncoded e m out = (f : EncoderData) × (longer : List ℕ) × IsEncoded e m out f longer × (f.set ≡ e.set) × (f.limits ≡ e.limits)

-- the encoder's set, limits and dictionary are ones from which every message is encoded or refused
abbrev pub IsAble : EncoderData → Type 0
IsAble e = CanEncode (tree e) e.limits e.dictionary

-- memory was refused, or the encoder refuses the message with this fault
abbrev pub IsToldOf : EncoderData → MessageData → EncodeFault → Type 0
IsToldOf e m c = (c ≡ Memory) ⊎ IsRefused (tree e) e.limits e.dictionary m c
