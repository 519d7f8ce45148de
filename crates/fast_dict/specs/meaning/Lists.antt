-- A dictionary whose strings have memory of their own.
use Rattle.std.specs.Prelude.{ℕ, ◌+◌, ◌*◌, ◌≤◌, ◌<◌, true, All, map, length, sum_by}
use Rattle.std.proofs.Common.{arith}
use Rattle.std.proofs.lemmas.List.{get_or-map, length-map}
use Rattle.std.proofs.lemmas.List.Sums.{sum_by-le}
use Rattle.fast_dict.specs.meaning.Dictionary.{Dictionary}
use Rattle.fast_dict.specs.meaning.Stores.{Terms}
use Rattle.fast_dict.specs.meaning.Held.{held_data, text_size}
use Rattle.fast_dict.specs.declared.held.Held.TheVariants.{Undefined}
use Rattle.fast_dict.specs.declared.lists.Lists.{Lists}

-- the dictionary
abbrev pub lists_dictionary : Lists → Dictionary
lists_dictionary s = map held_data s.entries.items

-- Any entry can hold a string, whose allocation may fail.
abbrev pub lists_terms : Lists → Terms
lists_terms s = record { entries = length s.entries.items; max_text = s.max_text; takes_text = λ e. true; can_refuse = true }

-- the bytes of the strings, and the entries
abbrev pub lists_units : Lists → ℕ
lists_units s = sum_by text_size (lists_dictionary s) + length (lists_dictionary s)

-- each string is short
pub lists_bounded : (s : Lists) → lists_units s ≤ length (lists_dictionary s) * s.max_text + length (lists_dictionary s)
lists_bounded s =
    let each : All (λ p. text_size p ≤ s.max_text) (lists_dictionary s) = λ k d h. let j : k < length s.entries.items =
    rw (← length-map s.entries.items held_data) h in rw (get_or-map held_data s.entries.items k Undefined d j) (s.fitting k) in
    let h = sum_by-le text_size s.max_text (lists_dictionary s) each in
    omega (arith, h)
