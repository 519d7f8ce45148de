-- The instructions that tables write: as they are computed, and as the notation defines them.
use Rattle.std.proofs.Common.{◌≡◌, ◌≢◌, ℕ, ◌⊎◌, inl, inr, List, [], ◌∷◌, refl, ap, sym, ◌∙◌, subst, Option, Some, None, Bool, true, false}
use Rattle.std.proofs.Common.{codes, Ordering, Less, Equal, Greater, nat_cmp}
use Rattle.std.specs.Prelude.{if◌then◌else◌, IfSome, is_some}
use Rattle.std.specs.Ordering.{match_ordering}
use Rattle.std.specs.Cmp.Lexicographic.{slice_cmp}
use Rattle.std.specs.Str.{bytes_eq}
use Rattle.std.proofs.lemmas.Bool.{cases_Bool, false≢true}
use Rattle.toml.specs.Data.{Data, string, integer, float, boolean, datetime, array, table, Items, no_items, item, Members, no_members, member, get_member}
use Rattle.fast_value.specs.declared.kinds.Kind.{Kind}
use Rattle.fast_value.specs.declared.kinds.Kind.TheVariants.{UInt32, Int32, UInt64, Int64, Decimal, Ascii, Unicode, Bytes}
use Rattle.fast_tree.specs.meaning.AsWritten.{Written, IsName, Declared, DeclaredList, more}
use Rattle.fast_notation.specs.meaning.Notation.{kind_name, TextAt, WritesPart, Writes, WritesAll, kind_key, operator_keys as written_keys}
use Rattle.fast_notation.specs.device.Reading.{has_only, text_of, flag_of, name_of, kind_named, written_of, part_of, operator_keys}
use Rattle.fast_notation.specs.device.Reading.{name_or_none, own_name_of, length_of, scalar_of, parts_of, group_of, sequence_of}
use Rattle.fast_notation.specs.device.Reading.{reference_of, has_part, field_of, of_kind, of_table, in_front, declared_of, fields_of}
use Rattle.fast_notation.specs.device.Reading.{array_fields, all_fields}
use Rattle.fast_notation.proofs.texts.ReadingPieces.{some_after, some_if, some_is, same_text, only_keys, text_there, name_there, flag_there}
use Rattle.fast_notation.proofs.texts.ReadingPieces.{kind_is, named_text, operator_written, part_written}

-- an array at a key
abbrev IsArray : Option Data → Items → Type 0
IsArray o xs = (o ≡ Some (array xs)) ⊎ (o ≡ None) × (xs ≡ no_items)

-- the one branch of a choice or the other
either : {A : Type 0} (b : Bool) (x y : Option A) (t : A) → (if b then x else y) ≡ Some t → ((b ≡ true) × (x ≡ Some t)) ⊎ ((b ≡ false) × (y ≡ Some t))
either true x y t e = inl (refl, e)
either false x y t e = inr (refl, e)

-- ---- from what is computed to the notation

-- what stands at `fields`, where it writes instructions
abbrev WritesFields : Option Data → DeclaredList → Type 0
WritesFields o ds = (xs : Items) × IsArray o xs × WritesAll xs ds

scalar_writes : (ms : Members) (kind : Kind) (t : Declared) → kind_key ms (kind_name kind) → scalar_of kind ms ≡ Some t → Writes (table ms) t
scalar_writes ms kind t key e =
    let b = some_if (has_only (codes "kind" ∷ codes "name" ∷ codes "optional" ∷ operator_keys) ms) _ t e in
    let n = some_after (name_of (get_member (codes "name") ms)) _ t b.1 in
    let o = some_after (flag_of (get_member (codes "optional") ms)) _ t n.2 in
    let w = some_after (written_of ms) _ t o.2 in
    subst (Writes (table ms)) (some_is w.2) (
      ms,
      refl,
      only_keys (codes "kind" ∷ codes "name" ∷ codes "optional" ∷ operator_keys) ms b.0,
      key,
      name_there (codes "name") ms n.0 n.1,
      flag_there (codes "optional") ms o.0 o.1,
      operator_written ms w.0 w.1,
    )

present : (o : Option Data) → is_some o ≡ true → o ≢ None
present None e = absurd (false≢true e)
present (Some d) e = λ h. cc

has_a_part : (ms : Members) → has_part ms ≡ true → (get_member (codes "exponent") ms ≢ None) ⊎ (get_member (codes "mantissa") ms ≢ None)
has_a_part ms e = elim (cases_Bool (is_some (get_member (codes "exponent") ms))) [
  | inl here ↦ inl (present (get_member (codes "exponent") ms) here)
  | inr other ↦ inr (present (get_member (codes "mantissa") ms) (rw other at e))
]

parts_write : (ms : Members) (t : Declared) → kind_key ms (codes "decimal") → has_part ms ≡ true → parts_of ms ≡ Some t → Writes (table ms) t
parts_write ms t key some e =
    let keys = codes "kind" ∷ codes "name" ∷ codes "optional" ∷ codes "exponent" ∷ codes "mantissa" ∷ [] in
    let b = some_if (has_only keys ms) _ t e in
    let n = some_after (name_of (get_member (codes "name") ms)) _ t b.1 in
    let o = some_after (flag_of (get_member (codes "optional") ms)) _ t n.2 in
    let x = some_after (part_of operator_keys (get_member (codes "exponent") ms)) _ t o.2 in
    let m = some_after (part_of operator_keys (get_member (codes "mantissa") ms)) _ t x.2 in
    let es = part_written (codes "exponent") operator_keys ms x.0 x.1 in
    let os = part_written (codes "mantissa") operator_keys ms m.0 m.1 in
    subst (Writes (table ms)) (some_is m.2) (
      ms,
      es.0,
      os.0,
      refl,
      only_keys keys ms b.0,
      key,
      name_there (codes "name") ms n.0 n.1,
      flag_there (codes "optional") ms o.0 o.1,
      es.1,
      os.1,
      has_a_part ms some,
    )

group_writes : (ms : Members) (inner : Option DeclaredList) (t : Declared) → kind_key ms (codes "group")
    → ((ds : DeclaredList) → inner ≡ Some ds → WritesFields (get_member (codes "fields") ms) ds)
    → group_of ms inner ≡ Some t → Writes (table ms) t
group_writes ms inner t key fields e =
    let keys = codes "kind" ∷ codes "name" ∷ codes "optional" ∷ codes "fields" ∷ [] in
    let b = some_if (has_only keys ms) _ t e in
    let n = some_after (name_of (get_member (codes "name") ms)) _ t b.1 in
    let o = some_after (flag_of (get_member (codes "optional") ms)) _ t n.2 in
    let d = some_after inner _ t o.2 in
    let f = fields d.0 d.1 in
    subst (Writes (table ms)) (some_is d.2) (
      ms,
      f.0,
      refl,
      only_keys keys ms b.0,
      key,
      name_there (codes "name") ms n.0 n.1,
      flag_there (codes "optional") ms o.0 o.1,
      f.1,
      f.2,
    )

length_written : (ms : Members) (l : Option (List ℕ) × Written) → length_of (get_member (codes "length") ms) ≡ Some l
    → (os : Members) × WritesPart (codes "length") (codes "name" ∷ written_keys) ms l.1 os × TextAt (codes "name") os l.0 × IfSome l.0 IsName
length_written ms l e = at (get_member (codes "length") ms) e refl
  where
    at : (o : Option Data) → length_of o ≡ Some l → get_member (codes "length") ms ≡ o
        → (os : Members) × WritesPart (codes "length") (codes "name" ∷ written_keys) ms l.1 os × TextAt (codes "name") os l.0 × IfSome l.0 IsName
    at None e g = subst (λ (k : Option (List ℕ) × Written). (os : Members)
        × WritesPart (codes "length") (codes "name" ∷ written_keys) ms k.1 os × TextAt (codes "name") os k.0 × IfSome k.0 IsName)
        (some_is e) (no_members, inr (g, refl, refl), refl, tt)
    at (Some (table os)) e g =
        let b = some_if (has_only (codes "name" ∷ operator_keys) os) _ l e in
        let n = some_after (own_name_of (get_member (codes "name") os)) _ l b.1 in
        let w = some_after (written_of os) _ l n.2 in
        let x = some_after (text_of (get_member (codes "name") os)) _ n.0 n.1 in
        let y = some_if (name_or_none x.0) (Some x.0) n.0 x.2 in
        let same : x.0 ≡ n.0 = some_is y.1 in
        subst (λ (k : Option (List ℕ) × Written). (os : Members) × WritesPart (codes "length") (codes "name" ∷ written_keys) ms k.1 os
        × TextAt (codes "name") os k.0 × IfSome k.0 IsName) (some_is w.2) (
          os,
          inl (g, only_keys (codes "name" ∷ operator_keys) os b.0, operator_written os w.0 w.1),
          text_there (codes "name") os n.0 (x.1 ∙ ap Some same),
          subst (λ own. IfSome own IsName) same (named_text x.0 y.0),
        )
    at (Some (boolean r)) e g = absurd (cc)
    at (Some (string x)) e g = absurd (cc)
    at (Some (integer x)) e g = absurd (cc)
    at (Some (float x)) e g = absurd (cc)
    at (Some (datetime x)) e g = absurd (cc)
    at (Some (array x)) e g = absurd (cc)

sequence_writes : (ms : Members) (inner : Option DeclaredList) (t : Declared) → kind_key ms (codes "sequence")
    → ((ds : DeclaredList) → inner ≡ Some ds → WritesFields (get_member (codes "fields") ms) ds)
    → sequence_of ms inner ≡ Some t → Writes (table ms) t
sequence_writes ms inner t key fields e =
    let keys = codes "kind" ∷ codes "name" ∷ codes "optional" ∷ codes "fields" ∷ codes "length" ∷ [] in
    let b = some_if (has_only keys ms) _ t e in
    let n = some_after (name_of (get_member (codes "name") ms)) _ t b.1 in
    let o = some_after (flag_of (get_member (codes "optional") ms)) _ t n.2 in
    let l = some_after (length_of (get_member (codes "length") ms)) _ t o.2 in
    let d = some_after inner _ t l.2 in
    let f = fields d.0 d.1 in
    let w = length_written ms l.0 l.1 in
    subst (Writes (table ms)) (some_is d.2) (
      ms,
      w.0,
      f.0,
      refl,
      only_keys keys ms b.0,
      key,
      name_there (codes "name") ms n.0 n.1,
      flag_there (codes "optional") ms o.0 o.1,
      f.1,
      f.2,
      w.1,
      w.2,
      w.3,
    )

reference_writes : (ms : Members) (t : Declared) → kind_key ms (codes "ref") → reference_of ms ≡ Some t → Writes (table ms) t
reference_writes ms t key e =
    let keys = codes "kind" ∷ codes "name" ∷ [] in
    let b = some_if (has_only keys ms) _ t e in
    let n = some_after (name_of (get_member (codes "name") ms)) _ t b.1 in
    subst (Writes (table ms)) (some_is n.2) (ms, refl, only_keys keys ms b.0, key, name_there (codes "name") ms n.0 n.1)

field_writes : (ms : Members) (kind : Kind) (t : Declared) → kind_key ms (kind_name kind) → field_of kind ms ≡ Some t → Writes (table ms) t
field_writes ms Decimal t key e = elim (cases_Bool (has_part ms)) [
  | inl some ↦ parts_write ms t key some (rw some at e)
  | inr none ↦ scalar_writes ms Decimal t key (rw none at e)
]
field_writes ms UInt32 t key e = scalar_writes ms UInt32 t key e
field_writes ms Int32 t key e = scalar_writes ms Int32 t key e
field_writes ms UInt64 t key e = scalar_writes ms UInt64 t key e
field_writes ms Int64 t key e = scalar_writes ms Int64 t key e
field_writes ms Ascii t key e = scalar_writes ms Ascii t key e
field_writes ms Unicode t key e = scalar_writes ms Unicode t key e
field_writes ms Bytes t key e = scalar_writes ms Bytes t key e

kind_writes : (ms : Members) (kind : List ℕ) (inner : Option DeclaredList) (t : Declared) → kind_key ms kind
    → ((ds : DeclaredList) → inner ≡ Some ds → WritesFields (get_member (codes "fields") ms) ds)
    → of_kind kind ms inner ≡ Some t → Writes (table ms) t
kind_writes ms kind inner t key fields e0 =
    elim (either (bytes_eq kind (codes "group")) _ _ t e0) [
      | inl h ↦ group_writes ms inner t (subst (kind_key ms) (same_text kind (codes "group") h.0) key) fields h.1
      | inr e1 ↦ elim (either (bytes_eq kind (codes "sequence")) _ _ t e1.1) [
        | inl h ↦ sequence_writes ms inner t (subst (kind_key ms) (same_text kind (codes "sequence") h.0) key) fields h.1
        | inr e2 ↦ elim (either (bytes_eq kind (codes "ref")) _ _ t e2.1) [
          | inl h ↦ reference_writes ms t (subst (kind_key ms) (same_text kind (codes "ref") h.0) key) h.1
          | inr e3 ↦
              let k = some_after (kind_named kind) _ t e3.1 in
              field_writes ms k.0 t (subst (kind_key ms) (kind_is kind k.0 k.1) key) k.2
        ]
      ]
    ]

table_writes : (ms : Members) (inner : Option DeclaredList) (t : Declared)
    → ((ds : DeclaredList) → inner ≡ Some ds → WritesFields (get_member (codes "fields") ms) ds)
    → of_table ms inner ≡ Some t → Writes (table ms) t
table_writes ms inner t fields e =
    let k = some_after (text_of (get_member (codes "kind") ms)) _ t e in
    let s = some_after k.0 _ t k.2 in
    kind_writes ms s.0 inner t (text_there (codes "kind") ms (Some s.0) (k.1 ∙ ap Some s.1)) fields s.2

-- what stands at `fields` of one member more
at_ordering : (o : Ordering) (a : Option Data) (r : Option DeclaredList) (d : Data) (ds : DeclaredList) → match_ordering o r (array_fields d) r ≡ Some ds
    → (r ≡ Some ds → WritesFields a ds) → (array_fields d ≡ Some ds → WritesFields (Some d) ds) → WritesFields (match_ordering o a (Some d) a) ds
at_ordering Less a r d ds e rest here = rest e
at_ordering Equal a r d ds e rest here = here e
at_ordering Greater a r d ds e rest here = rest e

front_parts : (o : Option Declared) (r : Option DeclaredList) (ds : DeclaredList) → in_front o r ≡ Some ds
    → (t : Declared) × (ts : DeclaredList) × (o ≡ Some t) × (r ≡ Some ts) × (ds ≡ more t ts)
front_parts (Some t) (Some ts) ds e = (t, ts, refl, refl, sym (some_is e))
front_parts (Some t) None ds e = absurd (cc)
front_parts None r ds e = absurd (cc)

mutual
  pub declared_writes : (d : Data) (t : Declared) → declared_of d ≡ Some t → Writes d t
  declared_writes (table ms) t e = table_writes ms (fields_of ms) t (λ ds f. fields_write ms ds f) e
  declared_writes (array x) t e = absurd (cc)
  declared_writes (string x) t e = absurd (cc)
  declared_writes (integer x) t e = absurd (cc)
  declared_writes (float x) t e = absurd (cc)
  declared_writes (boolean x) t e = absurd (cc)
  declared_writes (datetime x) t e = absurd (cc)

  pub fields_write : (ms : Members) (ds : DeclaredList) → fields_of ms ≡ Some ds → WritesFields (get_member (codes "fields") ms) ds
  fields_write no_members ds e = (no_items, inr (refl, refl), subst (WritesAll no_items) (some_is e) refl)
  fields_write (member k d ms) ds e =
      at_ordering (slice_cmp nat_cmp (codes "fields") k) (get_member (codes "fields") ms) (fields_of ms) d ds e (λ f. fields_write ms ds f)
      (λ f. array_writes d ds f)

  array_writes : (d : Data) (ds : DeclaredList) → array_fields d ≡ Some ds → WritesFields (Some d) ds
  array_writes (array xs) ds e = (xs, inl refl, all_write xs ds e)
  array_writes (table x) ds e = absurd (cc)
  array_writes (string x) ds e = absurd (cc)
  array_writes (integer x) ds e = absurd (cc)
  array_writes (float x) ds e = absurd (cc)
  array_writes (boolean x) ds e = absurd (cc)
  array_writes (datetime x) ds e = absurd (cc)

  all_write : (xs : Items) (ds : DeclaredList) → all_fields xs ≡ Some ds → WritesAll xs ds
  all_write no_items ds e = subst (WritesAll no_items) (some_is e) refl
  all_write (item d xs) ds e =
      let p = front_parts (declared_of d) (all_fields xs) ds e in
      subst (WritesAll (item d xs)) (sym p.4) (d, xs, refl, declared_writes d p.0 p.2, all_write xs p.1 p.3)
