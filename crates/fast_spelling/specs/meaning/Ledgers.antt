-- A dictionary that can take back what was changed in it.
use Rattle.std.specs.Prelude.{ℕ, ◌≤◌, List, All, map}
use Rattle.fast_dict.specs.meaning.Dictionary.{Dictionary}
use Rattle.fast_spelling.specs.declared.entry.Entry.{Entry}
use Rattle.fast_spelling.specs.meaning.Entries.{entry_now, entry_before, IsShort}

-- What a ledger is: the dictionary as it stands, and as it was at the last commit; how long a text may be.
pub record LedgerData : Type 0 where
  pub now : Dictionary
  pub before : Dictionary
  pub max_text : ℕ

-- what all entries hold, and what they held before the message of this number
abbrev pub all_now : List Entry → Dictionary
all_now es = map entry_now es

abbrev pub all_before : ℕ → List Entry → Dictionary
all_before epoch es = map (entry_before epoch) es

-- An entry is short, and was changed in no later message.
abbrev pub IsKept : ℕ → ℕ → Entry → Type 0
IsKept epoch max_text e = IsShort max_text e × (e.epoch ≤ epoch)

abbrev pub AreKept : ℕ → ℕ → List Entry → Type 0
AreKept epoch max_text es = All (IsKept epoch max_text) es
