-- What the notation writes is what is computed.
use Rattle.std.proofs.Common.{◌≡◌, ◌≢◌, ℕ, ◌⊎◌, inl, inr, List, [], ◌∷◌, refl, ap, sym, ◌∙◌, subst, Option, Some, None, Bool, true, false}
use Rattle.std.proofs.Common.{◌||◌, codes, Ordering, Less, Equal, Greater, nat_cmp}
use Rattle.std.specs.Prelude.{if◌then◌else◌, IfSome, is_some}
use Rattle.std.specs.Ordering.{match_ordering, is_eq}
use Rattle.std.specs.Cmp.Lexicographic.{slice_cmp}
use Rattle.std.specs.Str.{bytes_eq}
use Rattle.std.proofs.lemmas.Map.Text.{is_eq-slice_cmp}
use Rattle.std.proofs.lemmas.Bool.{cases_Bool, false≢true}
use Rattle.toml.specs.Data.{Data, Items, Members, no_members, member, get_member}
use Rattle.fast_value.specs.declared.kinds.Kind.{Kind}
use Rattle.fast_value.specs.declared.kinds.Kind.TheVariants.{UInt32, Int32, UInt64, Int64, Decimal, Ascii, Unicode, Bytes}
use Rattle.fast_tree.specs.meaning.AsWritten.{Written, IsName, Declared, scalar, by_parts, group, sequence, reference, DeclaredList, no_more, more}
use Rattle.fast_notation.specs.meaning.Notation.{kind_name, HasOnly, TextAt, WritesPart, Writes, WritesAll, operator_keys as written_keys}
use Rattle.fast_notation.specs.device.Reading.{◌>>=◌, is_one_of, operator_keys, length_of, scalar_of, parts_of, group_of, sequence_of}
use Rattle.fast_notation.specs.device.Reading.{has_part, of_kind, of_table, declared_of, fields_of, all_fields}
use Rattle.fast_notation.proofs.lists.FieldLists.{fields_of_items}
use Rattle.fast_notation.proofs.texts.ReadingPieces.{same_text, keys_only, known_key, there_text, there_name, there_flag, there_items}
use Rattle.fast_notation.proofs.texts.ReadingPieces.{text_named, written_operator, written_part}

-- ---- keys that a table doesn't have

-- a member that is found stands under its key
found_at : (o : Ordering) (a : Option Data) (d : Data) → is_eq o ≡ false → a ≡ None → match_ordering o a (Some d) a ≡ None
found_at Less a d e none = none
found_at Equal a d e none = absurd (false≢true (sym e))
found_at Greater a d e none = none

-- a key that isn't one of the table's
pub key_missing : (keys : List (List ℕ)) (k : List ℕ) (ms : Members) → is_one_of keys k ≡ false → HasOnly keys ms → get_member k ms ≡ None
key_missing keys k no_members other only = refl
key_missing keys k (member l d ms) other only =
    found_at (slice_cmp nat_cmp k l) (get_member k ms) d
    (is_eq-slice_cmp k l ∙ elim (cases_Bool (bytes_eq k l)) as (λ _. bytes_eq k l ≡ false) [
      | inl same ↦ absurd (false≢true (sym other ∙ ap (is_one_of keys) (same_text k l same) ∙ known_key keys l only.0))
      | inr apart ↦ apart
    ])
    (key_missing keys k ms other only.1)

no_part : (keys : List (List ℕ)) (ms : Members) → is_one_of keys (codes "exponent") ≡ false → is_one_of keys (codes "mantissa") ≡ false
    → HasOnly keys ms → has_part ms ≡ false
no_part keys ms e m only = rw (key_missing keys (codes "exponent") ms e only, key_missing keys (codes "mantissa") ms m only) refl

some_there : (o : Option Data) → o ≢ None → is_some o ≡ true
some_there None h = absurd (h refl)
some_there (Some d) h = refl

some_part : (ms : Members) → (get_member (codes "exponent") ms ≢ None) ⊎ (get_member (codes "mantissa") ms ≢ None) → has_part ms ≡ true
some_part ms (inl h) = rw (some_there (get_member (codes "exponent") ms) h) refl
some_part ms (inr h) = right (is_some (get_member (codes "exponent") ms)) (is_some (get_member (codes "mantissa") ms))
    (some_there (get_member (codes "mantissa") ms) h)
  where
    right : (a b : Bool) → b ≡ true → (a || b) ≡ true
    right true b e = refl
    right false b e = e

-- ---- kinds

kind_of_scalar : (k : Kind) (ms : Members) (inner : Option DeclaredList) → has_part ms ≡ false → of_kind (kind_name k) ms inner ≡ scalar_of k ms
kind_of_scalar UInt32 ms inner none = refl
kind_of_scalar Int32 ms inner none = refl
kind_of_scalar UInt64 ms inner none = refl
kind_of_scalar Int64 ms inner none = refl
kind_of_scalar Decimal ms inner none = ap (λ b. if b then parts_of ms else scalar_of Decimal ms) none
kind_of_scalar Ascii ms inner none = refl
kind_of_scalar Unicode ms inner none = refl
kind_of_scalar Bytes ms inner none = refl

-- the instruction of a table of a kind
of_kind_at : (ms : Members) (kind : List ℕ) (inner : Option DeclaredList) → TextAt (codes "kind") ms (Some kind) → of_table ms inner ≡ of_kind kind ms inner
of_kind_at ms kind inner h = ap (λ o. o >>= (λ t. t >>= (λ k. of_kind k ms inner))) (there_text (codes "kind") ms (Some kind) h)

-- a length
written_length : (ms os : Members) (own : Option (List ℕ)) (w : Written)
    → WritesPart (codes "length") (codes "name" ∷ written_keys) ms w os → TextAt (codes "name") os own → IfSome own IsName
    → length_of (get_member (codes "length") ms) ≡ Some (own, w)
written_length ms os own w (inl h) name is_name =
    rw (h.0, keys_only (codes "name" ∷ operator_keys) os h.1, there_text (codes "name") os own name, text_named own is_name, written_operator os w h.2) refl
written_length ms os own w (inr h) name is_name =
    let missing : own ≡ None = no_name own (subst (λ ns. TextAt (codes "name") ns own) h.1 name) in
    rw h.0 (ap (λ x. Some (None, x)) (sym h.2) ∙ ap (λ o. Some (o, w)) (sym missing))
  where
    no_name : (o : Option (List ℕ)) → TextAt (codes "name") no_members o → o ≡ None
    no_name None h = refl
    no_name (Some s) h = absurd (cc)

mutual
  pub written_declared : (t : Declared) (d : Data) → Writes d t → declared_of d ≡ Some t
  written_declared (scalar name optional kind w) d (ms, is_table, only, key, named, flag, operator) =
      let keys = codes "kind" ∷ codes "name" ∷ codes "optional" ∷ operator_keys in
      ap declared_of is_table ∙ of_kind_at ms (kind_name kind) (fields_of ms) key ∙ kind_of_scalar kind ms (fields_of ms) (no_part keys ms refl refl only)
      ∙ rw (
        keys_only keys ms only,
        there_name (codes "name") ms name named,
        there_flag (codes "optional") ms optional flag,
        written_operator ms w operator,
      ) refl
  written_declared (by_parts name optional e m) d (ms, es, os, is_table, only, key, named, flag, exponent, mantissa, some) =
      let keys = codes "kind" ∷ codes "name" ∷ codes "optional" ∷ codes "exponent" ∷ codes "mantissa" ∷ [] in
      ap declared_of is_table ∙ of_kind_at ms (codes "decimal") (fields_of ms) key
      ∙ ap (λ b. if b then parts_of ms else scalar_of Decimal ms) (some_part ms some)
      ∙ rw (
        keys_only keys ms only,
        there_name (codes "name") ms name named,
        there_flag (codes "optional") ms optional flag,
        written_part (codes "exponent") operator_keys ms es e exponent,
        written_part (codes "mantissa") operator_keys ms os m mantissa,
      ) refl
  written_declared (group name optional ds) d (ms, xs, is_table, only, key, named, flag, items, all) =
      let keys = codes "kind" ∷ codes "name" ∷ codes "optional" ∷ codes "fields" ∷ [] in
      ap declared_of is_table ∙ of_kind_at ms (codes "group") (fields_of ms) key
      ∙ ap (group_of ms) (fields_of_items ms xs (there_items (codes "fields") ms xs items) ∙ written_all ds xs all)
      ∙ rw (keys_only keys ms only, there_name (codes "name") ms name named, there_flag (codes "optional") ms optional flag) refl
  written_declared (sequence name optional own w ds) d (ms, os, xs, is_table, only, key, named, flag, items, all, part, length_name, is_name) =
      let keys = codes "kind" ∷ codes "name" ∷ codes "optional" ∷ codes "fields" ∷ codes "length" ∷ [] in
      ap declared_of is_table ∙ of_kind_at ms (codes "sequence") (fields_of ms) key
      ∙ ap (sequence_of ms) (fields_of_items ms xs (there_items (codes "fields") ms xs items) ∙ written_all ds xs all)
      ∙ rw (
        keys_only keys ms only,
        there_name (codes "name") ms name named,
        there_flag (codes "optional") ms optional flag,
        written_length ms os own w part length_name is_name,
      ) refl
  written_declared (reference name) d (ms, is_table, only, key, named) =
      ap declared_of is_table ∙ of_kind_at ms (codes "ref") (fields_of ms) key
      ∙ rw (keys_only (codes "kind" ∷ codes "name" ∷ []) ms only, there_name (codes "name") ms name named) refl

  pub written_all : (ds : DeclaredList) (xs : Items) → WritesAll xs ds → all_fields xs ≡ Some ds
  written_all no_more xs h = ap all_fields h
  written_all (more t ds) xs (x, rest, is_item, head, tail) = ap all_fields is_item ∙ rw (written_declared t x head, written_all ds rest tail) refl
