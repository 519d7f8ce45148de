-- What an entry of the encoder's dictionary holds, and what it held before the message.
use Rattle.std.specs.Prelude.{ℕ, ◌≤◌, nat_eq, if◌then◌else◌, List, length}
use Rattle.fast_value.specs.meaning.Kinds.{U, I, Dec, AsciiText, UnicodeText, ByteVector}
use Rattle.fast_dict.specs.meaning.Dictionary.{PreviousData, undefined, empty, assigned}
use Rattle.fast_spelling.specs.declared.entry.Held.{Held}
use Rattle.fast_spelling.specs.declared.entry.Entry.{Entry}

-- what is held, with the bytes of a text
abbrev pub held_data : Held → List ℕ → PreviousData
held_data Held.Undefined t = undefined
held_data Held.Empty t = empty
held_data (Held.U k n) t = assigned k (U n)
held_data (Held.I k x) t = assigned k (I x)
held_data (Held.Dec k e m) t = assigned k (Dec e m)
held_data (Held.Ascii k) t = assigned k (AsciiText t)
held_data (Held.Unicode k) t = assigned k (UnicodeText t)
held_data (Held.Bytes k) t = assigned k (ByteVector t)

-- what an entry holds
abbrev pub entry_now : Entry → PreviousData
entry_now e = held_data e.held e.text.items

-- what it held before the message of this number: as it is, if it was not changed there
abbrev pub entry_before : ℕ → Entry → PreviousData
entry_before epoch e = if nat_eq e.epoch epoch then held_data e.old_held e.old_text.items else entry_now e

-- no text of it is longer, neither the one that it holds nor the one that it held
abbrev pub IsShort : ℕ → Entry → Type 0
IsShort max_text e = (length e.text.items ≤ max_text) × (length e.old_text.items ≤ max_text)
