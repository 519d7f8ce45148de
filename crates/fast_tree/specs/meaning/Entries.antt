-- Dictionary entries by name, and their numbers.
use Rattle.std.specs.Prelude.{◌≡◌, ◌≢◌, ◌⊎◌, ℕ, suc, Bool, true, false, List, [], ◌∷◌, ◌++◌, Contains, slice_get, codes, Option, Some, None, unwrap_or}
use Rattle.fast_tree.specs.declared.operators.Operator.{Operator}
use Rattle.fast_tree.specs.declared.operators.Operator.TheVariants.{Copy, Increment, Delta, Tail}
use Rattle.fast_tree.specs.meaning.AsWritten.{DeclaredTemplate, Part, whole, Use, all_uses}

-- A dictionary: the global one, that of the template in which the operator is written, or one with a name.
-- FAST 1.1: Template Definition, Dictionaries and Previous Values.
pub data Place : Type 0 where
  global : Place
  of_template : ℕ → Place
  named : List ℕ → Place

-- A dictionary entry by name. Equal names are one entry, for all contents.
-- FAST 1.1: Template Definition, Dictionaries and Previous Values.
pub record Entry : Type 0 where
  pub place : Place
  pub key : List ℕ
  pub part : Part

-- the scope of an operator: its template's number and that template's dictionary
pub record Scope : Type 0 where
  pub template : ℕ
  pub dictionary : List ℕ

-- the dictionary of a name
-- FAST 1.1: Template Definition, Dictionaries and Previous Values.
pub record IsPlace (s : Scope) (name : List ℕ) (p : Place) : Type 0 where
  pub is_global : name ≡ codes "global" → p ≡ global
  pub is_template : name ≡ codes "template" → p ≡ of_template s.template
  pub is_named : name ≢ codes "global" → name ≢ codes "template" → p ≡ named name

-- the key and part of an entry, by the key that is written
-- FAST 1.1: Template Definition, Dictionaries and Previous Values.
abbrev pub IsUnderKey : Option (List ℕ) → Use → Entry → Type 0
IsUnderKey None u e = (e.key ≡ u.name) × (e.part ≡ u.part)
IsUnderKey (Some key) u e = (e.key ≡ key) × (e.part ≡ whole)

-- The entry that a use of an operator has: with a key of its own it is a plain one under that key.
-- FAST 1.1: Template Definition, Dictionaries and Previous Values.
abbrev pub IsEntry : Scope → Use → Entry → Type 0
IsEntry s u e = IsPlace s (unwrap_or u.written.dictionary s.dictionary) e.place × IsUnderKey u.written.key u e

-- the operator keeps a value in the dictionary
-- FAST 1.1: Template Definition, Dictionaries and Previous Values.
abbrev pub keeps_value : Operator → Bool
keeps_value Copy = true
keeps_value Increment = true
keeps_value Delta = true
keeps_value Tail = true
keeps_value operator = false

-- The entries by number. The identifier has 0; the others follow from 1 on, each once.
abbrev pub EntryNumber : List Entry → Scope → Use → Option ℕ → Type 0
EntryNumber entries s u None = keeps_value u.written.operator ≡ false
EntryNumber entries s u (Some n) = (k : ℕ) × (e : Entry) × (keeps_value u.written.operator ≡ true) × IsEntry s u e
    × (slice_get entries k ≡ Some e) × (n ≡ suc k)

-- the scope of a template
-- FAST 1.1: Template Definition, Dictionaries and Previous Values.
abbrev pub scope_of : ℕ → DeclaredTemplate → Scope
scope_of n t = record { template = n; dictionary = t.dictionary }

-- all uses in one scope
abbrev pub in_scope : Scope → List Use → List (Scope × Use)
in_scope s [] = []
in_scope s (u ∷ us) = (s, u) ∷ in_scope s us

-- The uses of operators in the order of the file, each with the template in which it is written.
abbrev pub uses_from : ℕ → List DeclaredTemplate → List (Scope × Use)
uses_from k [] = []
uses_from k (t ∷ ts) = in_scope (scope_of k t) (all_uses t.fields) ++ uses_from (suc k) ts

-- The entries of these uses after those that were seen, each at its first use.
abbrev pub Collects : List Entry → List (Scope × Use) → List Entry → Type 0
Collects seen [] entries = entries ≡ seen
Collects seen (u ∷ us) entries =
    (keeps_value u.1.written.operator ≡ false) × Collects seen us entries
    ⊎ ((e : Entry) × (keeps_value u.1.written.operator ≡ true) × IsEntry u.0 u.1 e × Contains seen e × Collects seen us entries)
    ⊎ ((e : Entry) × (keeps_value u.1.written.operator ≡ true) × IsEntry u.0 u.1 e × ¬ (Contains seen e) × Collects (seen ++ e ∷ []) us entries)
