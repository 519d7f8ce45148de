-- The contents of the tables of a template file, key by key, as functions: None if they are not of the stated shape.
use Rattle.std.specs.Prelude.{ℕ, suc, ◌&&◌, ◌||◌, nat_le, nat_lt, nat_eq, if◌then◌else◌, Bool, true, false, not, List, [], ◌∷◌, length}
use Rattle.std.specs.Prelude.{codes, pos, Option, Some, None, is_some, is_none}
use Rattle.std.specs.List.{list_all}
use Rattle.std.specs.Str.{bytes_eq}
use Rattle.std.specs.Cmp.Lexicographic.{slice_cmp}
use Rattle.std.specs.Ordering.{nat_cmp, match_ordering}
use Rattle.toml.specs.Data.{Data, string, integer, boolean, array, table, Items, no_items, item, Members, no_members, member, get_member, as_array}
use Rattle.fast_value.specs.declared.kinds.Kind.{Kind}
use Rattle.fast_value.specs.declared.kinds.Kind.TheVariants.{UInt32, Int32, UInt64, Int64, Decimal, Ascii, Unicode, Bytes}
use Rattle.fast_tree.specs.declared.operators.Operator.{Operator}
use Rattle.fast_tree.specs.declared.operators.Operator.TheVariants.{None as no_operator, Constant, Default, Copy, Increment, Delta, Tail}
use Rattle.fast_tree.specs.meaning.AsWritten.{Written, plain, Declared, scalar, by_parts, group, sequence, reference, DeclaredList, no_more}
use Rattle.fast_tree.specs.meaning.AsWritten.{more, DeclaredTemplate}

-- the second step, if the first gave a value
infixl 10 ◌>>=◌
abbrev pub ◌>>=◌ : {A B : Type 0} → Option A → (A → Option B) → Option B
Some x >>= f = f x
None >>= f = None

-- the value, if the test passes
abbrev pub checked : {A : Type 0} → Bool → A → Option A
checked b x = if b then Some x else None

-- the byte may occur in a name
abbrev pub is_name_byte : ℕ → Bool
is_name_byte c = (nat_le 0x41 c && nat_le c 0x5A) || (nat_le 0x61 c && nat_le c 0x7A) ||
    (nat_le 0x30 c && nat_le c 0x39) || nat_eq c 0x5F || nat_eq c 0x2D || nat_eq c 0x2E

-- the string is a name
abbrev pub is_name : List ℕ → Bool
is_name s = list_all is_name_byte s && nat_le 1 (length s) && nat_le (length s) 64

-- the string names a dictionary
abbrev pub is_dictionary : List ℕ → Bool
is_dictionary s = is_name s && not (bytes_eq s (codes "type"))

-- one of the keys
abbrev pub is_one_of : List (List ℕ) → List ℕ → Bool
is_one_of [] k = false
is_one_of (key ∷ keys) k = bytes_eq key k || is_one_of keys k

-- the table has no key but these
abbrev pub has_only : List (List ℕ) → Members → Bool
has_only keys no_members = true
has_only keys (member k d ms) = is_one_of keys k && has_only keys ms

-- a string, or nothing
abbrev pub text_of : Option Data → Option (Option (List ℕ))
text_of None = Some None
text_of (Some (string s)) = Some (Some s)
text_of (Some d) = None

-- a boolean, or nothing, which is false
abbrev pub flag_of : Option Data → Option Bool
flag_of None = Some false
flag_of (Some (boolean b)) = Some b
flag_of (Some d) = None

-- an array, or nothing, which is empty
abbrev pub items_of : Option Data → Option Items
items_of None = Some no_items
items_of (Some (array xs)) = Some xs
items_of (Some d) = None

-- the string there has to be a name
abbrev pub name_of : Option Data → Option (List ℕ)
name_of o = text_of o >>= (λ t. t >>= (λ s. checked (is_name s) s))

-- the type of this name
abbrev pub kind_named : List ℕ → Option Kind
kind_named s =
    if bytes_eq s (codes "uInt32") then Some UInt32
    else if bytes_eq s (codes "int32") then Some Int32
    else if bytes_eq s (codes "uInt64") then Some UInt64
    else if bytes_eq s (codes "int64") then Some Int64
    else if bytes_eq s (codes "decimal") then Some Decimal
    else if bytes_eq s (codes "ascii") then Some Ascii
    else if bytes_eq s (codes "unicode") then Some Unicode
    else if bytes_eq s (codes "bytes") then Some Bytes
    else None

-- the operator of this name
abbrev pub operator_named : List ℕ → Option Operator
operator_named s =
    if bytes_eq s (codes "none") then Some no_operator
    else if bytes_eq s (codes "constant") then Some Constant
    else if bytes_eq s (codes "default") then Some Default
    else if bytes_eq s (codes "copy") then Some Copy
    else if bytes_eq s (codes "increment") then Some Increment
    else if bytes_eq s (codes "delta") then Some Delta
    else if bytes_eq s (codes "tail") then Some Tail
    else None

-- the operator, which is none if nothing is written
abbrev pub operator_or_none : Option (List ℕ) → Option Operator
operator_or_none None = Some no_operator
operator_or_none (Some s) = operator_named s

-- the operator at its key
abbrev pub operator_of : Option Data → Option Operator
operator_of o = text_of o >>= operator_or_none

-- a name, if something is written
abbrev pub name_or_none : Option (List ℕ) → Bool
name_or_none None = true
name_or_none (Some s) = is_name s

-- a dictionary's name, if something is written
abbrev pub dictionary_or_none : Option (List ℕ) → Bool
dictionary_or_none None = true
dictionary_or_none (Some s) = is_dictionary s

-- the operator allows the keys that are written
abbrev pub takes : Operator → Written → Bool
takes no_operator w = is_none w.value && is_none w.key && is_none w.dictionary
takes Constant w = is_none w.key && is_none w.dictionary
takes Default w = is_none w.key && is_none w.dictionary
takes operator w = name_or_none w.key && dictionary_or_none w.dictionary

-- the operator that the four keys write
abbrev pub written_of : Members → Option Written
written_of ms =
    operator_of (get_member (codes "op") ms) >>= (λ operator.
    text_of (get_member (codes "value") ms) >>= (λ value.
    text_of (get_member (codes "key") ms) >>= (λ key.
    text_of (get_member (codes "dictionary") ms) >>= (λ dictionary.
    let w : Written = record { operator = operator; value = value; key = key; dictionary = dictionary } in
    checked (takes operator w) w))))

-- a part's table, of these keys
abbrev pub part_of : List (List ℕ) → Option Data → Option Written
part_of keys None = Some plain
part_of keys (Some (table os)) = if has_only keys os then written_of os else None
part_of keys (Some d) = None

-- the keys of an operator, and those of the tables that have one
abbrev pub operator_keys : List (List ℕ)
operator_keys = codes "op" ∷ codes "value" ∷ codes "key" ∷ codes "dictionary" ∷ []

-- the name of a length, if it has one
abbrev pub own_name_of : Option Data → Option (Option (List ℕ))
own_name_of o = text_of o >>= (λ own. checked (name_or_none own) own)

-- a length: its name, if it has one, and its operator
abbrev pub length_of : Option Data → Option (Option (List ℕ) × Written)
length_of None = Some (None, plain)
length_of (Some (table os)) =
    if has_only (codes "name" ∷ operator_keys) os
    then own_name_of (get_member (codes "name") os) >>= (λ own. written_of os >>= (λ w. Some (own, w)))
    else None
length_of (Some d) = None

-- a field of a type
abbrev pub scalar_of : Kind → Members → Option Declared
scalar_of kind ms =
    if has_only (codes "kind" ∷ codes "name" ∷ codes "optional" ∷ operator_keys) ms
    then name_of (get_member (codes "name") ms) >>= (λ name.
    flag_of (get_member (codes "optional") ms) >>= (λ optional.
    written_of ms >>= (λ w. Some (scalar name optional kind w))))
    else None

-- a decimal by parts
abbrev pub parts_of : Members → Option Declared
parts_of ms =
    if has_only (codes "kind" ∷ codes "name" ∷ codes "optional" ∷ codes "exponent" ∷ codes "mantissa" ∷ []) ms
    then name_of (get_member (codes "name") ms) >>= (λ name.
    flag_of (get_member (codes "optional") ms) >>= (λ optional.
    part_of operator_keys (get_member (codes "exponent") ms) >>= (λ e.
    part_of operator_keys (get_member (codes "mantissa") ms) >>= (λ m. Some (by_parts name optional e m)))))
    else None

-- a group, by the value at its `fields`
abbrev pub group_of : Members → Option DeclaredList → Option Declared
group_of ms inner =
    if has_only (codes "kind" ∷ codes "name" ∷ codes "optional" ∷ codes "fields" ∷ []) ms
    then name_of (get_member (codes "name") ms) >>= (λ name.
    flag_of (get_member (codes "optional") ms) >>= (λ optional.
    inner >>= (λ ds. Some (group name optional ds))))
    else None

-- a sequence, by the value at its `fields`
abbrev pub sequence_of : Members → Option DeclaredList → Option Declared
sequence_of ms inner =
    if has_only (codes "kind" ∷ codes "name" ∷ codes "optional" ∷ codes "fields" ∷ codes "length" ∷ []) ms
    then name_of (get_member (codes "name") ms) >>= (λ name.
    flag_of (get_member (codes "optional") ms) >>= (λ optional.
    length_of (get_member (codes "length") ms) >>= (λ l.
    inner >>= (λ ds. Some (sequence name optional l.0 l.1 ds)))))
    else None

-- a reference
abbrev pub reference_of : Members → Option Declared
reference_of ms =
    if has_only (codes "kind" ∷ codes "name" ∷ []) ms
    then name_of (get_member (codes "name") ms) >>= (λ name. Some (reference name))
    else None

-- a decimal's table has a part
abbrev pub has_part : Members → Bool
has_part ms = is_some (get_member (codes "exponent") ms) || is_some (get_member (codes "mantissa") ms)

-- a field of a type, which is a decimal by parts if it has one
abbrev pub field_of : Kind → Members → Option Declared
field_of Decimal ms = if has_part ms then parts_of ms else scalar_of Decimal ms
field_of kind ms = scalar_of kind ms

-- the instruction of a table whose `kind` is this string
abbrev pub of_kind : List ℕ → Members → Option DeclaredList → Option Declared
of_kind kind ms inner =
    if bytes_eq kind (codes "group") then group_of ms inner
    else if bytes_eq kind (codes "sequence") then sequence_of ms inner
    else if bytes_eq kind (codes "ref") then reference_of ms
    else kind_named kind >>= (λ k. field_of k ms)

-- the instruction of a table
abbrev pub of_table : Members → Option DeclaredList → Option Declared
of_table ms inner = text_of (get_member (codes "kind") ms) >>= (λ t. t >>= (λ kind. of_kind kind ms inner))

-- one instruction in front of the others
abbrev pub in_front : Option Declared → Option DeclaredList → Option DeclaredList
in_front (Some d) (Some ds) = Some (more d ds)
in_front (Some d) None = None
in_front None ds = None

-- the instruction of a table, the value at its `fields`, and the instructions of an array's items
abbrev mutual
  pub declared_of : Data → Option Declared
  declared_of (table ms) = of_table ms (fields_of ms)
  declared_of d = None

  pub fields_of : Members → Option DeclaredList
  fields_of no_members = Some no_more
  fields_of (member k d ms) = match_ordering (slice_cmp nat_cmp (codes "fields") k) (fields_of ms) (array_fields d) (fields_of ms)

  pub array_fields : Data → Option DeclaredList
  array_fields (array xs) = all_fields xs
  array_fields d = None

  pub all_fields : Items → Option DeclaredList
  all_fields no_items = Some no_more
  all_fields (item d ds) = in_front (declared_of d) (all_fields ds)

-- the identifier, if there is one
abbrev pub id_of : Option Data → Option (Option ℕ)
id_of None = Some None
id_of (Some (integer (pos n))) = checked (nat_lt n 4294967296) (Some n)
id_of (Some d) = None

-- the dictionary of a template, which is the global one if none is written
abbrev pub dictionary_named : Option (List ℕ) → Option (List ℕ)
dictionary_named None = Some (codes "global")
dictionary_named (Some s) = checked (is_dictionary s) s

-- the dictionary at its key
abbrev pub dictionary_of : Option Data → Option (List ℕ)
dictionary_of o = text_of o >>= dictionary_named

-- the template of a table
abbrev pub template_of : Members → Option DeclaredTemplate
template_of ms =
    if has_only (codes "name" ∷ codes "id" ∷ codes "reset" ∷ codes "dictionary" ∷ codes "fields" ∷ []) ms
    then name_of (get_member (codes "name") ms) >>= (λ name.
    id_of (get_member (codes "id") ms) >>= (λ id.
    flag_of (get_member (codes "reset") ms) >>= (λ reset.
    dictionary_of (get_member (codes "dictionary") ms) >>= (λ dictionary.
    fields_of ms >>= (λ fields. Some (record { name = name; id = id; reset = reset; dictionary = dictionary; fields = fields }))))))
    else None

-- the template of an item
abbrev pub template_in : Data → Option DeclaredTemplate
template_in (table ms) = template_of ms
template_in d = None

-- the templates of an array's items
abbrev pub all_templates : Items → Option (List DeclaredTemplate)
all_templates no_items = Some []
all_templates (item d ds) = template_in d >>= (λ t. all_templates ds >>= (λ ts. Some (t ∷ ts)))

-- the number of members
abbrev pub members_count : Members → ℕ
members_count no_members = 0
members_count (member k d ms) = suc (members_count ms)

-- the number of items
abbrev pub items_count : Items → ℕ
items_count no_items = 0
items_count (item d ds) = suc (items_count ds)

-- each item is a table
abbrev pub are_tables : Items → Bool
are_tables no_items = true
are_tables (item (table ms) ds) = are_tables ds
are_tables (item d ds) = false

-- there are 1 to 4,294,967,295 items, each a table
abbrev pub are_templates : Items → Bool
are_templates xs = nat_le 1 (items_count xs) && nat_le (items_count xs) 4294967295 && are_tables xs

-- the tables of a document, which has no other key than `template`
abbrev pub tables_of : Members → Option Items
tables_of ms =
    if nat_eq (members_count ms) 1
    then get_member (codes "template") ms >>= as_array >>= (λ xs. checked (are_templates xs) xs)
    else None
