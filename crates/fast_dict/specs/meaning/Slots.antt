-- A dictionary whose strings are in slots of one block.
use Rattle.std.specs.Prelude.{◌≡◌, ℕ, zero, suc, ◌+◌, ◌*◌, ◌<◌, ◌≤◌, refl, true, false, List, [], ◌∷◌, length, take, drop, slice_index_or}
use Rattle.std.specs.Prelude.{Option, Some, None, is_some, vec_len}
use Rattle.std.proofs.Common.{ap, arith}
use Rattle.std.proofs.lemmas.List.{length-take}
use Rattle.fast_dict.specs.meaning.Dictionary.{Dictionary, PreviousData, undefined}
use Rattle.fast_dict.specs.meaning.Stores.{Terms}
use Rattle.fast_dict.specs.meaning.Entry.{with_text, text_length}
use Rattle.fast_dict.specs.meaning.Held.{text_size}
use Rattle.fast_dict.specs.declared.entry.Entry.{Entry}
use Rattle.fast_dict.specs.declared.entry.Entry.TheVariants.{Undefined, Empty, UInt32, Int32, UInt64, Int64, Decimal, Ascii, Unicode, Bytes}
use Rattle.fast_dict.specs.declared.entry.Entry.TheVariants.{OtherUnsigned, OtherSigned, OtherDecimal, OtherAscii, OtherUnicode, OtherBytes}
use Rattle.fast_dict.specs.declared.slots.Slots.{Slots}

-- the string in the slot that begins at an offset of the block, if there is a slot
abbrev pub text_in : List ℕ → Option ℕ → ℕ → List ℕ
text_in block None size = []
text_in block (Some place) size = take size (drop place block)

-- the contents of one entry
abbrev pub entry_data : List ℕ → Option ℕ → Entry → PreviousData
entry_data block place e = with_text e (text_in block place (text_length e))

-- the contents of the entries, by the offsets of their slots
abbrev pub entries_data : List ℕ → List (Option ℕ) → List Entry → Dictionary
entries_data block places [] = []
entries_data block [] (e ∷ es) = entry_data block None e ∷ entries_data block [] es
entries_data block (p ∷ ps) (e ∷ es) = entry_data block p e ∷ entries_data block ps es

-- the dictionary
abbrev pub slots_dictionary : Slots → Dictionary
slots_dictionary s = entries_data s.block.items s.places.items s.entries.items

-- An entry can hold a string if it has a slot. Nothing allocates.
abbrev pub slots_terms : Slots → Terms
slots_terms s = record {
  entries = length s.entries.items;
  max_text = s.max_text;
  takes_text = λ e. is_some (slice_index_or s.places.items e None);
  can_refuse = false;
}

-- The entry holds an ASCII string under its own type, in a slot.
abbrev pub HoldsAscii : Slots → ℕ → Type 0
HoldsAscii s e = (e < length (slots_dictionary s)) × ((n : ℕ) × (slice_index_or s.entries.items e Undefined ≡ Ascii n))
    × (is_some (slice_index_or s.places.items e None) ≡ true)

-- the whole block, and the entries
abbrev pub slots_units : Slots → ℕ
slots_units s = vec_len s.block + vec_len s.entries

-- as many as there are entries
pub length-entries : (b : List ℕ) (ps : List (Option ℕ)) (es : List Entry) → length (entries_data b ps es) ≡ length es
length-entries b ps [] = refl
length-entries b [] (e ∷ es) = ap suc (length-entries b [] es)
length-entries b (p ∷ ps) (e ∷ es) = ap suc (length-entries b ps es)

-- the block has a slot for each entry at most
pub slots_bounded : (s : Slots) → slots_units s ≤ length (slots_dictionary s) * s.max_text + length (slots_dictionary s)
slots_bounded s = let e : length (slots_dictionary s) ≡ length s.entries.items =
    length-entries s.block.items s.places.items s.entries.items in let f = s.entries.ok.0 in
    let h : vec_len s.block ≤ length s.entries.items * s.max_text = rw (← f) s.small in rw (e) (omega (arith, h, f))

-- it has as many entries as it was made for
pub slots_sized : (s : Slots) → length (slots_dictionary s) ≡ (slots_terms s).entries
slots_sized s = length-entries s.block.items s.places.items s.entries.items

-- each by its slot
pub get-entries : (b : List ℕ) (ps : List (Option ℕ)) (es : List Entry) (i : ℕ)
    → slice_index_or (entries_data b ps es) i undefined ≡ entry_data b (slice_index_or ps i None) (slice_index_or es i Undefined)
get-entries b [] [] i = refl
get-entries b (p ∷ ps) [] zero = refl
get-entries b (p ∷ ps) [] (suc i) = refl
get-entries b [] (e ∷ es) zero = refl
get-entries b [] (e ∷ es) (suc i) = get-entries b [] es i
get-entries b (p ∷ ps) (e ∷ es) zero = refl
get-entries b (p ∷ ps) (e ∷ es) (suc i) = get-entries b ps es i

-- no string is longer than the entry says
pub length-text_in : (b : List ℕ) (p : Option ℕ) (size : ℕ) → length (text_in b p size) ≤ size
length-text_in b None size = omega arith
length-text_in b (Some place) size = let k = length-take size (drop place b) in rw k (omega arith)

-- an entry's string is no longer than the entry says
pub size-entry : (e : Entry) (v : List ℕ) → length v ≤ text_length e → text_size (with_text e v) ≤ text_length e
size-entry Undefined v h = omega arith
size-entry Empty v h = omega arith
size-entry (UInt32 n) v h = omega arith
size-entry (Int32 x) v h = omega arith
size-entry (UInt64 n) v h = omega arith
size-entry (Int64 x) v h = omega arith
size-entry (Decimal x m) v h = omega arith
size-entry (Ascii size) v h = h
size-entry (Unicode size) v h = h
size-entry (Bytes size) v h = h
size-entry (OtherUnsigned kind n) v h = omega arith
size-entry (OtherSigned kind x) v h = omega arith
size-entry (OtherDecimal kind x m) v h = omega arith
size-entry (OtherAscii kind size) v h = h
size-entry (OtherUnicode kind size) v h = h
size-entry (OtherBytes kind size) v h = h

-- no string is longer than the greatest length
pub slots_texts_fit : (s : Slots) (i : ℕ) → text_size (slice_index_or (slots_dictionary s) i undefined) ≤ s.max_text
slots_texts_fit s i =
    let e : Entry = slice_index_or s.entries.items i Undefined in
    let p : Option ℕ = slice_index_or s.places.items i None in
    let h = size-entry e (text_in s.block.items p (text_length e)) (length-text_in s.block.items p (text_length e)) in
    let f : text_length e ≤ s.max_text = s.fitting i in
    rw (get-entries s.block.items s.places.items s.entries.items i) (omega (arith, h, f))
