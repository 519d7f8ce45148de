-- Operators in the scopes of their templates, and the entries that are kept for them, without their memory.
use Rattle.std.specs.Prelude.{◌≡◌, true, List, map, Contains, string_bytes}
use Rattle.fast_notation.specs.declared.scopes.TextScope.{TextScope}
use Rattle.fast_notation.specs.declared.scopes.OperatorUse.{OperatorUse}
use Rattle.fast_notation.specs.declared.entries.EntryPlace.{EntryPlace}
use Rattle.fast_notation.specs.declared.entries.EntryPlace.TheVariants.{Global, Template, Named}
use Rattle.fast_notation.specs.declared.entries.EntryKey.{EntryKey}
use Rattle.fast_notation.specs.declared.entries.Entries.{Entries}
use Rattle.fast_tree.specs.meaning.AsWritten.{Use}
use Rattle.fast_tree.specs.meaning.Entries.{Place, global, of_template, named, Entry, Scope, IsEntry, keeps_value}
use Rattle.fast_notation.specs.device.Sound.{part_data}
use Rattle.fast_notation.specs.device.WrittenSets.{operator_data}

-- the data of a scope
abbrev pub scope_data : TextScope → Scope
scope_data s = record { template = s.template; dictionary = s.dictionary.now }

-- the use of an operator
abbrev pub use_data : OperatorUse → Use
use_data u = record { kind = u.kind; optional = u.optional; name = u.name.now; part = part_data u.part; written = operator_data u.written.now }

-- the dictionary of an entry
abbrev pub place_data : EntryPlace → Place
place_data Global = global
place_data (Template n) = of_template n
place_data (Named name) = named (string_bytes name)

-- an entry
abbrev pub key_data : EntryKey → Entry
key_data k = record { place = place_data k.place; key = string_bytes k.key; part = part_data k.part }

-- the entries in their order
abbrev pub entries_of : Entries → List Entry
entries_of es = map key_data es.keys.keys

-- The operator has one of the entries, if it keeps a value.
abbrev pub HasEntry : List Entry → Scope → Use → Type 0
HasEntry entries s u = keeps_value u.written.operator ≡ true → (e : Entry) × IsEntry s u e × Contains entries e
