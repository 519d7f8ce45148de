-- What the entries of a block store hold, entry by entry.
use Rattle.std.proofs.Common.{◌≡◌, ℕ, ◌-◌, ◌++◌, ◌<◌, ◌≤◌, List, [], ◌∷◌, length, refl, ap, sym, ◌∙◌, arith}
use Rattle.std.specs.Prelude.{vec_len, IsTrue, true, false, is_some, take, drop, zero, suc, ◌≢◌, Option, Some, None, slice_index_or, slice_set, replicate}
use native.Mathlib.Numerals.{sub-one}
use Rattle.std.proofs.lemmas.List.{length-set, get_or-set_same}
use Rattle.fast_value.specs.declared.kinds.Kind.TheVariants as K
use Rattle.fast_value.specs.meaning.Kinds.{ScalarData, U, I, Dec, AsciiText, UnicodeText, ByteVector, text_of}
use Rattle.fast_dict.specs.meaning.Stores.{Terms, IsStorable}
use Rattle.fast_dict.specs.meaning.Dictionary.{PreviousData, undefined, assigned, fresh, reset}
use Rattle.fast_dict.specs.declared.entry.Entry.{Entry}
use Rattle.fast_dict.specs.declared.entry.Entry.TheVariants.{Undefined, Ascii}
use Rattle.fast_dict.specs.meaning.Entry.{text_length, with_text}
use Rattle.fast_dict.specs.meaning.Slots.{text_in, entry_data, entries_data, length-entries, get-entries, slots_dictionary, slots_terms, HoldsAscii}
use Rattle.fast_dict.specs.declared.slots.Slots.{Slots}

-- the block of one store gives each entry what that of the other does
pub same-entries : (b b' : List ℕ) (ps : List (Option ℕ)) (es : List Entry)
    → ((j : ℕ) → entry_data b' (slice_index_or ps j None) (slice_index_or es j Undefined) ≡ entry_data b (slice_index_or ps j None)
    (slice_index_or es j Undefined)) → entries_data b' ps es ≡ entries_data b ps es
same-entries b b' ps [] same = refl
same-entries b b' [] (e ∷ es) same = ap (λ x. x ∷ entries_data b' [] es) (same zero)
    ∙ ap (λ xs. entry_data b None e ∷ xs) (same-entries b b' [] es (λ j. same (suc j)))
same-entries b b' (p ∷ ps) (e ∷ es) same = ap (λ x. x ∷ entries_data b' ps es) (same zero)
    ∙ ap (λ xs. entry_data b p e ∷ xs) (same-entries b b' ps es (λ j. same (suc j)))

-- one entry changes, where the other entries keep their texts
pub set-entries : (b b' : List ℕ) (ps : List (Option ℕ)) (es : List Entry) (i : ℕ) (e : Entry)
    → ((j : ℕ) → j ≢ i → entry_data b' (slice_index_or ps j None) (slice_index_or es j Undefined) ≡ entry_data b (slice_index_or ps j None)
    (slice_index_or es j Undefined)) → entries_data b' ps (slice_set es i e) ≡ slice_set (entries_data b ps es) i
    (entry_data b' (slice_index_or ps i None) e)
set-entries b b' ps [] i e same = refl
set-entries b b' [] (x ∷ es) zero e same = ap (λ xs. entry_data b' None e ∷ xs) (same-entries b b' [] es (λ j. same (suc j) (λ h. absurd (omega arith))))
set-entries b b' (p ∷ ps) (x ∷ es) zero e same = ap (λ xs. entry_data b' p e ∷ xs) (same-entries b b' ps es (λ j. same (suc j) (λ h. absurd (omega arith))))
set-entries b b' [] (x ∷ es) (suc i) e same = ap (λ y. y ∷ entries_data b' [] (slice_set es i e)) (same zero (λ h. absurd (omega arith)))
    ∙ ap (λ xs. entry_data b None x ∷ xs) (set-entries b b' [] es i e (λ j n. same (suc j) (λ h. n (omega arith))))
set-entries b b' (p ∷ ps) (x ∷ es) (suc i) e same = ap (λ y. y ∷ entries_data b' ps (slice_set es i e))
    (same zero (λ h. absurd (omega arith))) ∙ ap (λ xs. entry_data b p x ∷ xs)
    (set-entries b b' ps es i e (λ j n. same (suc j) (λ h. n (omega arith))))

-- entries without a value are undefined
pub fresh-entries : (b : List ℕ) (ps : List (Option ℕ)) (n : ℕ) → entries_data b ps (replicate n Undefined) ≡ fresh n
fresh-entries b ps zero = refl
fresh-entries b [] (suc n) = ap (λ xs. undefined ∷ xs) (fresh-entries b [] n)
fresh-entries b (p ∷ ps) (suc n) = ap (λ xs. undefined ∷ xs) (fresh-entries b ps n)

-- and have no text
pub fresh_fits : (n size i : ℕ) → text_length (slice_index_or (replicate n Undefined) i Undefined) ≤ size
fresh_fits zero size i = omega arith
fresh_fits (suc n) size zero = omega arith
fresh_fits (suc n) size (suc i) = fresh_fits n size i

-- a reset of the others keeps what fits
pub others_fit : (xs : List Entry) (n size : ℕ) → ((i : ℕ) → text_length (slice_index_or xs i Undefined) ≤ size) → (i : ℕ)
    → text_length (slice_index_or (take 1 xs ++ replicate n Undefined) i Undefined) ≤ size
others_fit [] n size all i = fresh_fits n size i
others_fit (x ∷ xs) n size all zero = all zero
others_fit (x ∷ xs) n size all (suc i) = fresh_fits n size i

-- all entries but the first
pub reset-entries : (b : List ℕ) (ps : List (Option ℕ)) (es : List Entry)
    → entries_data b ps (take 1 es ++ replicate (length es - 1) Undefined) ≡ reset (entries_data b ps es)
reset-entries b ps [] = refl
reset-entries b [] (e ∷ es) = rw sub-one (ap (λ xs. entry_data b None e ∷ xs) (fresh-entries b [] (length es) ∙ ap fresh (sym (length-entries b [] es))))
reset-entries b (p ∷ ps) (e ∷ es) = rw sub-one (ap (λ xs. entry_data b p e ∷ xs) (fresh-entries b ps (length es) ∙ ap fresh (sym (length-entries b ps es))))

-- an entry is put in its place, where the other entries keep their texts
pub put-entries : (b b' : List ℕ) (ps : List (Option ℕ)) (es : List Entry) (i room : ℕ) (e : Entry) (p : PreviousData)
    → ((j size : ℕ) → j ≢ i → size ≤ room → text_in b' (slice_index_or ps j None) size ≡ text_in b (slice_index_or ps j None) size)
    → ((j : ℕ) → text_length (slice_index_or es j Undefined) ≤ room) → entry_data b' (slice_index_or ps i None) e ≡ p
    → entries_data b' ps (slice_set es i e) ≡ slice_set (entries_data b ps es) i p
put-entries b b' ps es i room e p others fits h =
    let same : (j : ℕ) → j ≢ i → entry_data b' (slice_index_or ps j None) (slice_index_or es j Undefined) ≡ entry_data b
    (slice_index_or ps j None) (slice_index_or es j Undefined) =
    λ j n. ap (with_text (slice_index_or es j Undefined)) (others j (text_length (slice_index_or es j Undefined)) n (fits j)) in
    set-entries b b' ps es i e same ∙ ap (slice_set (entries_data b ps es) i) h

-- An entry without a text is the same whatever its slot holds.
pub number-entry : (b : List ℕ) (p : Option ℕ) (e : Entry) → text_length e ≡ 0 → entry_data b p e ≡ with_text e []
number-entry b None e h = refl
number-entry b (Some place) e h = ap (λ n. with_text e (take n (drop place b))) h

-- the number of an entry, among those of the store
pub place_of_entry : (s : Slots) (i : ℕ) → i < length (slots_dictionary s) → i < vec_len s.entries
place_of_entry s i h = let e : length (slots_dictionary s) ≡ length s.entries.items =
    length-entries s.block.items s.places.items s.entries.items in let f = s.entries.ok.0 in omega (arith, h, e, f)

-- a value that can be put at an entry: its text is short, and if there is one the entry takes it
pub storable : (t : Terms) (i : ℕ) (v : ScalarData) → IsStorable t i v → (length (text_of v) ≤ t.max_text) × (0 < length (text_of v) → IsTrue (t.takes_text i))
storable t i (U n) h = (omega arith, λ k. absurd (omega arith))
storable t i (I x) h = (omega arith, λ k. absurd (omega arith))
storable t i (Dec x m) h = (omega arith, λ k. absurd (omega arith))
storable t i (AsciiText v) h = (h.0, λ _. h.1)
storable t i (UnicodeText v) h = (h.0, λ _. h.1)
storable t i (ByteVector v) h = (h.0, λ _. h.1)

-- What an entry holds that is an ASCII text.
pub ascii_entry : (s : Slots) (i n : ℕ) → slice_index_or s.entries.items i Undefined ≡ Ascii n
    → slice_index_or (slots_dictionary s) i undefined ≡ assigned K.Ascii
    (AsciiText (text_in s.block.items (slice_index_or s.places.items i None) n))
ascii_entry s i n h = get-entries s.block.items s.places.items s.entries.items i ∙ ap (entry_data s.block.items (slice_index_or s.places.items i None)) h

-- An entry with a slot holds the ASCII text that is put there.
pub set_holds : (s new : Slots) (i n : ℕ) → i < length (slots_dictionary s) → is_some (slice_index_or s.places.items i None) ≡ true
    → new.entries.items ≡ slice_set s.entries.items i (Ascii n) → new.places.items ≡ s.places.items
    → HoldsAscii new i
set_holds s new i n h some entries places =
    let old : length (slots_dictionary s) ≡ length s.entries.items = length-entries s.block.items s.places.items s.entries.items in
    let now : length (slots_dictionary new) ≡ length new.entries.items = length-entries new.block.items new.places.items new.entries.items in
    let same : length new.entries.items ≡ length s.entries.items = ap length entries ∙ length-set s.entries.items i (Ascii n) in
    let within : i < length s.entries.items = omega (arith, h, old) in (
      omega (arith, within, now, same),
      (n, ap (λ es. slice_index_or es i Undefined) entries ∙ get_or-set_same s.entries.items i (Ascii n) Undefined within),
      ap (λ ps. is_some (slice_index_or ps i None)) places ∙ some,
    )

-- One entry more that fits.
pub set_fits : (xs : List Entry) (i : ℕ) (e : Entry) (size : ℕ) → ((j : ℕ) → text_length (slice_index_or xs j Undefined) ≤ size)
    → text_length e ≤ size → (j : ℕ) → text_length (slice_index_or (slice_set xs i e) j Undefined) ≤ size
set_fits [] i e size all h j = all j
set_fits (x ∷ xs) zero e size all h zero = h
set_fits (x ∷ xs) zero e size all h (suc j) = all (suc j)
set_fits (x ∷ xs) (suc i) e size all h zero = all zero
set_fits (x ∷ xs) (suc i) e size all h (suc j) = set_fits xs i e size (λ k. all (suc k)) h j

-- An entry more that is set leaves the rest of the store.
pub same_terms : (s new : Slots) (i : ℕ) (e : Entry) → new.entries.items ≡ slice_set s.entries.items i e → new.places ≡ s.places
    → new.max_text ≡ s.max_text → slots_terms new ≡ slots_terms s
same_terms s new i e entries places room =
    let terms : ℕ → ℕ → List (Option ℕ) → Terms = λ n m ps. record {
      entries = n;
      max_text = m;
      takes_text = λ j. is_some (slice_index_or ps j None);
      can_refuse = false;
    } in
    ap (λ n. terms n new.max_text new.places.items) (ap length entries ∙ length-set s.entries.items i e)
    ∙ ap (λ m. terms (length s.entries.items) m new.places.items) room
    ∙ ap (λ ps. terms (length s.entries.items) s.max_text ps.items) places
