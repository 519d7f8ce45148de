-- What stands at single keys: as it is computed, and as the notation defines it.
use Rattle.std.proofs.Common.{◌≡◌, ℕ, ◌⊎◌, inl, inr, List, [], ◌∷◌, refl, ap, sym, ◌∙◌, subst, arith, suc, zero, Option, Some, None, Bool}
use Rattle.std.proofs.Common.{true, false, ◌&&◌, ◌||◌, codes, not}
use Rattle.std.specs.Prelude.{Contains, if◌then◌else◌, IfSome, IsNone, is_none}
use Rattle.std.specs.Str.{bytes_eq}
use Rattle.std.proofs.lemmas.Slice.Eq.{bytes_eq-Decides}
use Rattle.std.proofs.lemmas.Bool.{and_parts, cases_Bool, false≢true}
use Rattle.toml.specs.Data.{Data, string, integer, float, boolean, datetime, array, table, Items, Members, no_members, member, get_member}
use Rattle.fast_value.specs.declared.kinds.Kind.{Kind}
use Rattle.fast_value.specs.declared.kinds.Kind.TheVariants.{UInt32, Int32, UInt64, Int64, Decimal, Ascii, Unicode, Bytes}
use Rattle.fast_tree.specs.declared.operators.Operator.{Operator}
use Rattle.fast_tree.specs.declared.operators.Operator.TheVariants.{None as no_operator, Constant, Default, Copy, Increment, Delta, Tail}
use Rattle.fast_tree.specs.meaning.AsWritten.{Written, IsName}
use Rattle.fast_notation.specs.meaning.Notation.{kind_name, operator_name, HasOnly, TextAt, NameAt, FlagAt, ItemsAt, IsDictionary}
use Rattle.fast_notation.specs.meaning.Notation.{IsInUseUnder, WritesOperator, WritesPart}
use Rattle.fast_notation.specs.device.Reading.{◌>>=◌, is_name, is_dictionary, is_one_of, has_only, text_of, flag_of, items_of, name_of}
use Rattle.fast_notation.specs.device.Reading.{kind_named, operator_named, operator_or_none, operator_of, name_or_none, dictionary_or_none}
use Rattle.fast_notation.specs.device.Reading.{takes, written_of, part_of}
use Rattle.fast_notation.proofs.texts.NameTests.{name_passes, passed_name}

-- what a step that gave a value shows
pub some_after : {A B : Type 0} (o : Option A) (f : A → Option B) (y : B) → (o >>= f) ≡ Some y → (x : A) × (o ≡ Some x) × (f x ≡ Some y)
some_after None f y e = absurd (cc)
some_after (Some x) f y e = (x, refl, e)

-- what a test that gave a value shows
pub some_if : {A : Type 0} (b : Bool) (o : Option A) (y : A) → (if b then o else None) ≡ Some y → (b ≡ true) × (o ≡ Some y)
some_if true o y e = (refl, e)
some_if false o y e = absurd (cc)

-- one value in an option
pub some_is : {A : Type 0} {x y : A} → Some x ≡ Some y → x ≡ y
some_is e = cc

-- equal texts, and texts that pass as equal
pub same_text : (s t : List ℕ) → bytes_eq s t ≡ true → s ≡ t
same_text s t e = (bytes_eq-Decides s t).0 e

pub text_same : (s : List ℕ) → bytes_eq s s ≡ true
text_same s = (bytes_eq-Decides s s).1 refl

-- the keys of a table
pub key_known : (keys : List (List ℕ)) (k : List ℕ) → is_one_of keys k ≡ true → Contains keys k
key_known [] k e = absurd (false≢true e)
key_known (key ∷ keys) k e = elim (cases_Bool (bytes_eq key k)) [
  | inl here ↦ (0, omega arith, same_text key k here)
  | inr there ↦ let rest = key_known keys k (rw there at e) in (suc rest.0, omega (arith, rest.1), rest.2)
]

pub known_key : (keys : List (List ℕ)) (k : List ℕ) → Contains keys k → is_one_of keys k ≡ true
known_key [] k (n, inside, at) = absurd (omega arith)
known_key (key ∷ keys) k (zero, inside, at) = rw (at, text_same k) refl
known_key (key ∷ keys) k (suc n, inside, at) = or_right (bytes_eq key k) (is_one_of keys k) (known_key keys k (n, omega arith, at))
  where
    or_right : (a b : Bool) → b ≡ true → (a || b) ≡ true
    or_right true b e = refl
    or_right false b e = e

pub only_keys : (keys : List (List ℕ)) (ms : Members) → has_only keys ms ≡ true → HasOnly keys ms
only_keys keys no_members e = tt
only_keys keys (member k d ms) e = let (here, rest) = and_parts (is_one_of keys k) (has_only keys ms) e in (key_known keys k here, only_keys keys ms rest)

pub keys_only : (keys : List (List ℕ)) (ms : Members) → HasOnly keys ms → has_only keys ms ≡ true
keys_only keys no_members h = refl
keys_only keys (member k d ms) h = rw (known_key keys k h.0, keys_only keys ms h.1) refl

-- texts
pub text_there : (key : List ℕ) (ms : Members) (t : Option (List ℕ)) → text_of (get_member key ms) ≡ Some t → TextAt key ms t
text_there key ms t e = at (get_member key ms) t e refl
  where
    at : (o : Option Data) (t : Option (List ℕ)) → text_of o ≡ Some t → get_member key ms ≡ o → TextAt key ms t
    at None None e g = g
    at None (Some s) e g = absurd (cc)
    at (Some (string r)) None e g = absurd (cc)
    at (Some (string r)) (Some s) e g = g ∙ ap (λ x. Some (string x)) (some_is (some_is e))
    at (Some (integer x)) t e g = absurd (cc)
    at (Some (float x)) t e g = absurd (cc)
    at (Some (boolean x)) t e g = absurd (cc)
    at (Some (datetime x)) t e g = absurd (cc)
    at (Some (array x)) t e g = absurd (cc)
    at (Some (table x)) t e g = absurd (cc)

pub there_text : (key : List ℕ) (ms : Members) (t : Option (List ℕ)) → TextAt key ms t → text_of (get_member key ms) ≡ Some t
there_text key ms None h = ap text_of h
there_text key ms (Some s) h = ap text_of h

-- names
pub name_there : (key : List ℕ) (ms : Members) (name : List ℕ) → name_of (get_member key ms) ≡ Some name → NameAt key ms name
name_there key ms name e =
    let t = some_after (text_of (get_member key ms)) _ name e in
    let s = some_after t.0 _ name t.2 in
    let b = some_if (is_name s.0) (Some s.0) name s.2 in
    let same : s.0 ≡ name = some_is b.1 in
    (text_there key ms (Some name) (t.1 ∙ ap Some (s.1 ∙ b.1)), subst IsName same (passed_name s.0 b.0))

pub there_name : (key : List ℕ) (ms : Members) (name : List ℕ) → NameAt key ms name → name_of (get_member key ms) ≡ Some name
there_name key ms name h = rw (there_text key ms (Some name) h.0, name_passes name h.1) refl

-- truth values
pub flag_there : (key : List ℕ) (ms : Members) (b : Bool) → flag_of (get_member key ms) ≡ Some b → FlagAt key ms b
flag_there key ms b e = at (get_member key ms) e refl
  where
    at : (o : Option Data) → flag_of o ≡ Some b → get_member key ms ≡ o → FlagAt key ms b
    at None e g = inr (g, sym (some_is e))
    at (Some (boolean r)) e g = inl (g ∙ ap (λ x. Some (boolean x)) (some_is e))
    at (Some (string x)) e g = absurd (cc)
    at (Some (integer x)) e g = absurd (cc)
    at (Some (float x)) e g = absurd (cc)
    at (Some (datetime x)) e g = absurd (cc)
    at (Some (array x)) e g = absurd (cc)
    at (Some (table x)) e g = absurd (cc)

pub there_flag : (key : List ℕ) (ms : Members) (b : Bool) → FlagAt key ms b → flag_of (get_member key ms) ≡ Some b
there_flag key ms b (inl h) = ap flag_of h
there_flag key ms b (inr h) = ap flag_of h.0 ∙ ap Some (sym h.1)

-- arrays
pub there_items : (key : List ℕ) (ms : Members) (xs : Items) → ItemsAt key ms xs → items_of (get_member key ms) ≡ Some xs
there_items key ms xs (inl h) = ap items_of h
there_items key ms xs (inr h) = ap items_of h.0 ∙ ap Some (sym h.1)

-- the names of kinds and operators
named : {A : Type 0} (s t : List ℕ) (a x : A) (rest : Option A) → (if bytes_eq s t then Some a else rest) ≡ Some x → ((s ≡ t) × (a ≡ x)) ⊎ (rest ≡ Some x)
named s t a x rest e = elim (cases_Bool (bytes_eq s t)) [ inl same ↦ inl (same_text s t same, some_is (rw same at e)) | inr other ↦ inr (rw other at e) ]

pub kind_is : (s : List ℕ) (k : Kind) → kind_named s ≡ Some k → s ≡ kind_name k
kind_is s k e0 = elim (named s (codes "uInt32") UInt32 k _ e0) [
  | inl h ↦ h.0 ∙ ap kind_name h.1
  | inr e1 ↦ elim (named s (codes "int32") Int32 k _ e1) [
    | inl h ↦ h.0 ∙ ap kind_name h.1
    | inr e2 ↦ elim (named s (codes "uInt64") UInt64 k _ e2) [
      | inl h ↦ h.0 ∙ ap kind_name h.1
      | inr e3 ↦ elim (named s (codes "int64") Int64 k _ e3) [
        | inl h ↦ h.0 ∙ ap kind_name h.1
        | inr e4 ↦ elim (named s (codes "decimal") Decimal k _ e4) [
          | inl h ↦ h.0 ∙ ap kind_name h.1
          | inr e5 ↦ elim (named s (codes "ascii") Ascii k _ e5) [
            | inl h ↦ h.0 ∙ ap kind_name h.1
            | inr e6 ↦ elim (named s (codes "unicode") Unicode k _ e6) [
              | inl h ↦ h.0 ∙ ap kind_name h.1
              | inr e7 ↦ elim (named s (codes "bytes") Bytes k _ e7) [ inl h ↦ h.0 ∙ ap kind_name h.1 | inr e8 ↦ absurd (cc) ]
            ]
          ]
        ]
      ]
    ]
  ]
]

operator_is : (s : List ℕ) (o : Operator) → operator_named s ≡ Some o → s ≡ operator_name o
operator_is s o e0 = elim (named s (codes "none") no_operator o _ e0) [
  | inl h ↦ h.0 ∙ ap operator_name h.1
  | inr e1 ↦ elim (named s (codes "constant") Constant o _ e1) [
    | inl h ↦ h.0 ∙ ap operator_name h.1
    | inr e2 ↦ elim (named s (codes "default") Default o _ e2) [
      | inl h ↦ h.0 ∙ ap operator_name h.1
      | inr e3 ↦ elim (named s (codes "copy") Copy o _ e3) [
        | inl h ↦ h.0 ∙ ap operator_name h.1
        | inr e4 ↦ elim (named s (codes "increment") Increment o _ e4) [
          | inl h ↦ h.0 ∙ ap operator_name h.1
          | inr e5 ↦ elim (named s (codes "delta") Delta o _ e5) [
            | inl h ↦ h.0 ∙ ap operator_name h.1
            | inr e6 ↦ elim (named s (codes "tail") Tail o _ e6) [ inl h ↦ h.0 ∙ ap operator_name h.1 | inr e7 ↦ absurd (cc) ]
          ]
        ]
      ]
    ]
  ]
]

is_operator : (o : Operator) → operator_named (operator_name o) ≡ Some o
is_operator no_operator = refl
is_operator Constant = refl
is_operator Default = refl
is_operator Copy = refl
is_operator Increment = refl
is_operator Delta = refl
is_operator Tail = refl

-- an operator's keys are those that it takes
no_text : (o : Option (List ℕ)) → is_none o ≡ true → IsNone o
no_text None e = refl
no_text (Some s) e = absurd (false≢true e)

pub named_text : (o : Option (List ℕ)) → name_or_none o ≡ true → IfSome o IsName
named_text None e = tt
named_text (Some s) e = passed_name s e

pub text_named : (o : Option (List ℕ)) → IfSome o IsName → name_or_none o ≡ true
text_named None h = refl
text_named (Some s) h = name_passes s h

pub dictionary_passes : (s : List ℕ) → IsDictionary s → is_dictionary s ≡ true
dictionary_passes s h = elim (cases_Bool (bytes_eq s (codes "type"))) [
  | inl same ↦ absurd (h.1 (same_text s (codes "type") same))
  | inr other ↦ rw (name_passes s h.0, other) refl
]

pub passed_dictionary : (s : List ℕ) → is_dictionary s ≡ true → IsDictionary s
passed_dictionary s e =
    let (name, other) = and_parts (is_name s) (not (bytes_eq s (codes "type"))) e in
    (passed_name s name, λ same. false≢true (sym (ap not (ap (λ t. bytes_eq t (codes "type")) same)) ∙ other))

dictionary_text : (o : Option (List ℕ)) → dictionary_or_none o ≡ true → IfSome o IsDictionary
dictionary_text None e = tt
dictionary_text (Some s) e = passed_dictionary s e

text_dictionary : (o : Option (List ℕ)) → IfSome o IsDictionary → dictionary_or_none o ≡ true
text_dictionary None h = refl
text_dictionary (Some s) h = dictionary_passes s h

two_none : (w : Written) → (is_none w.key && is_none w.dictionary) ≡ true → IsNone w.key × IsNone w.dictionary
two_none w e = let (k, d) = and_parts (is_none w.key) (is_none w.dictionary) e in (no_text w.key k, no_text w.dictionary d)

two_named : (w : Written) → (name_or_none w.key && dictionary_or_none w.dictionary) ≡ true → IfSome w.key IsName × IfSome w.dictionary IsDictionary
two_named w e = let (k, d) = and_parts (name_or_none w.key) (dictionary_or_none w.dictionary) e in (named_text w.key k, dictionary_text w.dictionary d)

named_two : (w : Written) → IfSome w.key IsName × IfSome w.dictionary IsDictionary → (name_or_none w.key && dictionary_or_none w.dictionary) ≡ true
named_two w h = rw (text_named w.key h.0, text_dictionary w.dictionary h.1) refl

in_use : (o : Operator) (w : Written) → takes o w ≡ true → IsInUseUnder o w
in_use no_operator w e =
    let (front, d) = and_parts (is_none w.value && is_none w.key) (is_none w.dictionary) e in
    let (v, k) = and_parts (is_none w.value) (is_none w.key) front in
    (no_text w.value v, no_text w.key k, no_text w.dictionary d)
in_use Constant w e = two_none w e
in_use Default w e = two_none w e
in_use Copy w e = two_named w e
in_use Increment w e = two_named w e
in_use Delta w e = two_named w e
in_use Tail w e = two_named w e

taken : (o : Operator) (w : Written) → IsInUseUnder o w → takes o w ≡ true
taken no_operator w h = rw (h.0, h.1, h.2) refl
taken Constant w h = rw (h.0, h.1) refl
taken Default w h = rw (h.0, h.1) refl
taken Copy w h = named_two w h
taken Increment w h = named_two w h
taken Delta w h = named_two w h
taken Tail w h = named_two w h

-- the operator at its key
operator_there : (ms : Members) (o : Operator) → operator_of (get_member (codes "op") ms) ≡ Some o
    → TextAt (codes "op") ms (Some (operator_name o)) ⊎ TextAt (codes "op") ms None × (o ≡ no_operator)
operator_there ms o e =
    let t = some_after (text_of (get_member (codes "op") ms)) operator_or_none o e in
    at t.0 (text_there (codes "op") ms t.0 t.1) t.2
  where
    at : (t : Option (List ℕ)) → TextAt (codes "op") ms t → operator_or_none t ≡ Some o
        → TextAt (codes "op") ms (Some (operator_name o)) ⊎ TextAt (codes "op") ms None × (o ≡ no_operator)
    at None h e = inr (h, sym (some_is e))
    at (Some s) h e = inl (h ∙ ap (λ x. Some (string x)) (operator_is s o e))

there_operator : (ms : Members) (o : Operator) → TextAt (codes "op") ms (Some (operator_name o)) ⊎ TextAt (codes "op") ms None
    × (o ≡ no_operator) → operator_of (get_member (codes "op") ms) ≡ Some o
there_operator ms o (inl h) = rw (there_text (codes "op") ms (Some (operator_name o)) h) (is_operator o)
there_operator ms o (inr h) = rw (there_text (codes "op") ms None h.0) (ap Some (sym h.1))

-- the four keys of an operator
pub operator_written : (ms : Members) (w : Written) → written_of ms ≡ Some w → WritesOperator ms w
operator_written ms w e =
    let o = some_after (operator_of (get_member (codes "op") ms)) _ w e in
    let v = some_after (text_of (get_member (codes "value") ms)) _ w o.2 in
    let k = some_after (text_of (get_member (codes "key") ms)) _ w v.2 in
    let d = some_after (text_of (get_member (codes "dictionary") ms)) _ w k.2 in
    let made : Written = record { operator = o.0; value = v.0; key = k.0; dictionary = d.0 } in
    let b = some_if (takes o.0 made) (Some made) w d.2 in
    subst (WritesOperator ms) (some_is b.1) (record {
      operator = operator_there ms o.0 o.1;
      value = text_there (codes "value") ms v.0 v.1;
      key = text_there (codes "key") ms k.0 k.1;
      dictionary = text_there (codes "dictionary") ms d.0 d.1;
      in_use = in_use o.0 made b.0;
    })

pub written_operator : (ms : Members) (w : Written) → WritesOperator ms w → written_of ms ≡ Some w
written_operator ms w h =
    rw (
      there_operator ms w.operator h.operator,
      there_text (codes "value") ms w.value h.value,
      there_text (codes "key") ms w.key h.key,
      there_text (codes "dictionary") ms w.dictionary h.dictionary,
      taken w.operator w h.in_use,
    ) refl

-- a part's table
pub part_written : (key : List ℕ) (keys : List (List ℕ)) (ms : Members) (w : Written) → part_of keys (get_member key ms) ≡ Some w
    → (os : Members) × WritesPart key keys ms w os
part_written key keys ms w e = at (get_member key ms) e refl
  where
    at : (o : Option Data) → part_of keys o ≡ Some w → get_member key ms ≡ o → (os : Members) × WritesPart key keys ms w os
    at None e g = (no_members, inr (g, refl, sym (some_is e)))
    at (Some (table os)) e g = let b = some_if (has_only keys os) (written_of os) w e in (os, inl (g, only_keys keys os b.0, operator_written os w b.1))
    at (Some (boolean r)) e g = absurd (cc)
    at (Some (string x)) e g = absurd (cc)
    at (Some (integer x)) e g = absurd (cc)
    at (Some (float x)) e g = absurd (cc)
    at (Some (datetime x)) e g = absurd (cc)
    at (Some (array x)) e g = absurd (cc)

pub written_part : (key : List ℕ) (keys : List (List ℕ)) (ms os : Members) (w : Written) → WritesPart key keys ms w os
    → part_of keys (get_member key ms) ≡ Some w
written_part key keys ms os w (inl h) = rw (h.0, keys_only keys os h.1) (written_operator os w h.2)
written_part key keys ms os w (inr h) = rw h.0 (ap Some (sym h.2))
