-- The instructions of a set's nodes, and what those who write them rely on.
use Rattle.std.specs.Prelude.{◌≡◌, ℕ, ◌≤◌, List, length, slice_index_or, Option, Some, None}
use Rattle.fast_value.specs.declared.settings.Limits.{Limits}
use Rattle.fast_tree.specs.declared.instructions.Node.{Node}
use Rattle.fast_template.specs.declared.sets.Templates.{Templates}
use Rattle.fast_tree.specs.meaning.Tree.{FieldData, Instruction, field, parts, group, sequence}
use Rattle.fast_tree.specs.meaning.Nodes.{instructions_from, no_instruction}
use Rattle.fast_template.specs.meaning.Flat.{nodes_of, tree_of}
use Rattle.fast_dict.specs.meaning.EntryTexts.{HasLongInitial}
use Rattle.fast_spelling.specs.meaning.Ledgers.{LedgerData}

-- the instruction of a node
abbrev pub instruction_in : List Node → ℕ → Instruction
instruction_in nodes n = slice_index_or (instructions_from 0 nodes) n no_instruction

-- the field whose absence is that of the whole instruction; a group has none
abbrev pub head_in : Instruction → Option FieldData
head_in (field at f) = Some f
head_in (parts at e m) = Some e
head_in (group at optional body) = None
head_in (sequence at length body) = Some length

-- The ledger has the entries of the set, and is for texts as long as the limits allow, which all initial values keep to.
pub record IsReady (t : Templates) (l : Limits) (s : LedgerData) : Type 0 where
  pub entries : length s.now ≡ (tree_of t).entries
  pub room : l.max_text ≡ s.max_text
  pub small : l.max_text ≤ 1048576
  pub initial : ¬ (HasLongInitial l.max_text (nodes_of t))

-- What a ledger keeps through a message.
pub record Keeps (old new : LedgerData) : Type 0 where
  pub before : new.before ≡ old.before
  pub room : new.max_text ≡ old.max_text
  pub count : length new.now ≡ length old.now
