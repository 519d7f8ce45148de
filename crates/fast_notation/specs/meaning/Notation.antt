-- The TOML notation: which document writes which template set. A document that writes none is not of the stated shape.
use Rattle.std.specs.Prelude.{◌≡◌, ◌≢◌, ◌⊎◌, ℕ, ◌<◌, ◌≤◌, ◌^◌, Bool, false, List, [], ◌∷◌, length, Contains, codes, pos, Option, Some, None, IfSome, IsNone}
use Rattle.toml.specs.Data.{Data, string, integer, boolean, array, table, Items, no_items, item, Members, no_members, member, get_member}
use Rattle.fast_value.specs.declared.kinds.Kind.{Kind}
use Rattle.fast_value.specs.declared.kinds.Kind.TheVariants.{UInt32, Int32, UInt64, Int64, Decimal, Ascii, Unicode, Bytes}
use Rattle.fast_tree.specs.declared.operators.Operator.{Operator}
use Rattle.fast_tree.specs.declared.operators.Operator.TheVariants.{None as no_operator, Constant, Default, Copy, Increment, Delta, Tail}
use Rattle.fast_tree.specs.meaning.AsWritten.{Written, plain, Declared, scalar, by_parts, group, sequence, reference, DeclaredList, no_more}
use Rattle.fast_tree.specs.meaning.AsWritten.{more, DeclaredTemplate, IsName}

-- the name of a type in the notation
abbrev pub kind_name : Kind → List ℕ
kind_name UInt32 = codes "uInt32"
kind_name Int32 = codes "int32"
kind_name UInt64 = codes "uInt64"
kind_name Int64 = codes "int64"
kind_name Decimal = codes "decimal"
kind_name Ascii = codes "ascii"
kind_name Unicode = codes "unicode"
kind_name Bytes = codes "bytes"

-- the name of an operator in the notation
abbrev pub operator_name : Operator → List ℕ
operator_name no_operator = codes "none"
operator_name Constant = codes "constant"
operator_name Default = codes "default"
operator_name Copy = codes "copy"
operator_name Increment = codes "increment"
operator_name Delta = codes "delta"
operator_name Tail = codes "tail"

-- The table has no key but these.
abbrev pub HasOnly : List (List ℕ) → Members → Type 0
HasOnly keys no_members = Unit {0}
HasOnly keys (member k d ms) = Contains keys k × HasOnly keys ms

-- The key has the string, or is missing if there is none.
abbrev pub TextAt : List ℕ → Members → Option (List ℕ) → Type 0
TextAt key ms None = get_member key ms ≡ None
TextAt key ms (Some text) = get_member key ms ≡ Some (string text)

-- the key has a name
abbrev pub NameAt : List ℕ → Members → List ℕ → Type 0
NameAt key ms name = TextAt key ms (Some name) × IsName name

-- the key has a boolean, or is missing and false
abbrev pub FlagAt : List ℕ → Members → Bool → Type 0
FlagAt key ms b = (get_member key ms ≡ Some (boolean b)) ⊎ (get_member key ms ≡ None) × (b ≡ false)

-- the key has an array, or is missing and the array is empty
abbrev pub ItemsAt : List ℕ → Members → Items → Type 0
ItemsAt key ms ds = (get_member key ms ≡ Some (array ds)) ⊎ (get_member key ms ≡ None) × (ds ≡ no_items)

-- `type` names no dictionary.
abbrev pub IsDictionary : List ℕ → Type 0
IsDictionary text = IsName text × (text ≢ codes "type")

-- Only an operator has an initial value, and only one that keeps a value has a key or a dictionary.
abbrev pub IsInUseUnder : Operator → Written → Type 0
IsInUseUnder no_operator w = IsNone w.value × IsNone w.key × IsNone w.dictionary
IsInUseUnder Constant w = IsNone w.key × IsNone w.dictionary
IsInUseUnder Default w = IsNone w.key × IsNone w.dictionary
IsInUseUnder operator w = IfSome w.key IsName × IfSome w.dictionary IsDictionary

-- the keys of the operator are those that it allows
abbrev pub IsInUse : Written → Type 0
IsInUse w = IsInUseUnder w.operator w

-- the keys of an operator
abbrev pub operator_keys : List (List ℕ)
operator_keys = codes "op" ∷ codes "value" ∷ codes "key" ∷ codes "dictionary" ∷ []

-- The table's four keys write the operator.
pub record WritesOperator (ms : Members) (w : Written) : Type 0 where
  pub operator : TextAt (codes "op") ms (Some (operator_name w.operator)) ⊎ TextAt (codes "op") ms None × (w.operator ≡ no_operator)
  pub value : TextAt (codes "value") ms w.value
  pub key : TextAt (codes "key") ms w.key
  pub dictionary : TextAt (codes "dictionary") ms w.dictionary
  pub in_use : IsInUse w

-- A part's table; without one the part has no operator.
abbrev pub WritesPart : List ℕ → List (List ℕ) → Members → Written → Members → Type 0
WritesPart key keys ms w os = (get_member key ms ≡ Some (table os)) × HasOnly keys os × WritesOperator os w ⊎ (get_member key ms ≡ None)
    × (os ≡ no_members) × (w ≡ plain)

-- the type of a table
abbrev pub kind_key : Members → List ℕ → Type 0
kind_key ms text = TextAt (codes "kind") ms (Some text)

-- The table writes the instruction, and the items the instructions.
abbrev mutual
  pub Writes : Data → Declared → Type 0
  Writes d (scalar name optional kind w) = (ms : Members) × (d ≡ table ms) × HasOnly (codes "kind" ∷ codes "name" ∷ codes "optional" ∷ operator_keys) ms
      × kind_key ms (kind_name kind) × NameAt (codes "name") ms name × FlagAt (codes "optional") ms optional × WritesOperator ms w
  Writes d (by_parts name optional e m) = (ms es os : Members) × (d ≡ table ms)
      × HasOnly (codes "kind" ∷ codes "name" ∷ codes "optional" ∷ codes "exponent" ∷ codes "mantissa" ∷ []) ms
      × kind_key ms (codes "decimal") × NameAt (codes "name") ms name × FlagAt (codes "optional") ms optional
      × WritesPart (codes "exponent") operator_keys ms e es × WritesPart (codes "mantissa") operator_keys ms m os
      × ((get_member (codes "exponent") ms ≢ None) ⊎ (get_member (codes "mantissa") ms ≢ None))
  Writes d (group name optional ds) = (ms : Members) × (xs : Items) × (d ≡ table ms)
      × HasOnly (codes "kind" ∷ codes "name" ∷ codes "optional" ∷ codes "fields" ∷ []) ms
      × kind_key ms (codes "group") × NameAt (codes "name") ms name × FlagAt (codes "optional") ms optional × ItemsAt (codes "fields") ms xs × WritesAll xs ds
  Writes d (sequence name optional own w ds) = (ms os : Members) × (xs : Items) × (d ≡ table ms)
      × HasOnly (codes "kind" ∷ codes "name" ∷ codes "optional" ∷ codes "fields" ∷ codes "length" ∷ []) ms
      × kind_key ms (codes "sequence") × NameAt (codes "name") ms name × FlagAt (codes "optional") ms optional
      × ItemsAt (codes "fields") ms xs × WritesAll xs ds
      × WritesPart (codes "length") (codes "name" ∷ operator_keys) ms w os × TextAt (codes "name") os own × IfSome own IsName
  Writes d (reference name) = (ms : Members) × (d ≡ table ms) × HasOnly (codes "kind" ∷ codes "name" ∷ []) ms × kind_key ms (codes "ref")
      × NameAt (codes "name") ms name

  pub WritesAll : Items → DeclaredList → Type 0
  WritesAll xs no_more = xs ≡ no_items
  WritesAll xs (more d ds) = (x : Data) × (rest : Items) × (xs ≡ item x rest) × Writes x d × WritesAll rest ds

-- the identifier, if the template has one
abbrev pub IdAt : Members → Option ℕ → Type 0
IdAt ms None = get_member (codes "id") ms ≡ None
IdAt ms (Some id) = (get_member (codes "id") ms ≡ Some (integer (pos id))) × (id < 2 ^ 32)

-- a template's table
pub record WritesTemplate (ms : Members) (t : DeclaredTemplate) : Type 0 where
  pub items : Items
  pub only : HasOnly (codes "name" ∷ codes "id" ∷ codes "reset" ∷ codes "dictionary" ∷ codes "fields" ∷ []) ms
  pub name : NameAt (codes "name") ms t.name
  pub id : IdAt ms t.id
  pub reset : FlagAt (codes "reset") ms t.reset
  pub dictionary : TextAt (codes "dictionary") ms (Some t.dictionary) × IsDictionary t.dictionary ⊎ TextAt (codes "dictionary") ms None
      × (t.dictionary ≡ codes "global")
  pub fields_at : ItemsAt (codes "fields") ms items
  pub fields : WritesAll items t.fields

-- the tables write the templates, one each
abbrev pub WritesTemplates : Items → List DeclaredTemplate → Type 0
WritesTemplates xs [] = xs ≡ no_items
WritesTemplates xs (t ∷ ts) = (ms : Members) × (rest : Items) × (xs ≡ item (table ms) rest) × WritesTemplate ms t × WritesTemplates rest ts

-- The document has the one key `template`, whose tables write the templates, in order.
abbrev pub WritesSet : Members → List DeclaredTemplate → Type 0
WritesSet document ts = (xs : Items) × (document ≡ member (codes "template") (array xs) no_members) × WritesTemplates xs ts
    × (1 ≤ length ts) × (length ts < 2 ^ 32)
