-- The terms for which a store is made.
use Rattle.std.specs.Prelude.{ℕ, ◌≤◌, Bool, IsTrue, List, length}
use Rattle.fast_value.specs.meaning.Kinds.{ScalarData, AsciiText, UnicodeText, ByteVector}

-- The number of entries, the greatest length of a string, the entries that can hold one, and whether the allocation of a string may fail.
pub record Terms : Type 0 where
  pub entries : ℕ
  pub max_text : ℕ
  pub takes_text : ℕ → Bool
  pub can_refuse : Bool

-- the value is a string
abbrev pub IsText : ScalarData → Type 0
IsText (AsciiText v) = Unit {0}
IsText (UnicodeText v) = Unit {0}
IsText (ByteVector v) = Unit {0}
IsText v = ⊥

-- the string has room at the entry
abbrev pub HasRoom : Terms → ℕ → List ℕ → Type 0
HasRoom t entry v = (length v ≤ t.max_text) × IsTrue (t.takes_text entry)

-- The value can be stored at the entry: a string that has room, or no string.
abbrev pub IsStorable : Terms → ℕ → ScalarData → Type 0
IsStorable t entry (AsciiText v) = HasRoom t entry v
IsStorable t entry (UnicodeText v) = HasRoom t entry v
IsStorable t entry (ByteVector v) = HasRoom t entry v
IsStorable t entry v = Unit {0}
