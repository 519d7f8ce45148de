-- What the documents of template sets write.
use Rattle.std.proofs.Common.{refl, arith, inl, inr}
use Rattle.std.proofs.lemmas.List.Elements.{All-cons, All-nil}
use Rattle.std.specs.Prelude.{◌≡◌, ℕ, ◌≤◌, false, List, [], ◌∷◌, codes, Option, Some, None}
use Rattle.toml.specs.Parse.{parse_document}
use Rattle.toml.specs.Data.{Data, string, array, table, no_items, item, Members, no_members, member}
use Rattle.fast_value.specs.declared.kinds.Kind.{Kind}
use Rattle.fast_tree.specs.declared.operators.Operator.{Operator}
use Rattle.fast_tree.specs.meaning.AsWritten.{Declared, scalar, no_more, more, DeclaredTemplate, IsNameByte, IsName}
use Rattle.fast_notation.specs.declared.codes.StaticCode.{StaticCode}
use Rattle.fast_notation.specs.meaning.Firsts.{IsFirst}
use Rattle.fast_notation.specs.meaning.Refused.{StandsAt}
use Rattle.fast_notation.proofs.outcomes.Firsts.{written_first}
use Rattle.fast_examples.specs.meaning.Texts.{IsRefusedText}
use Rattle.fast_notation.specs.meaning.Notation.{kind_name, operator_name, IsInUse, Writes, WritesTemplate, WritesSet}

-- names of one letter
pub capital : (c : ℕ) → 0x41 ≤ c → c ≤ 0x5A → IsName (c ∷ [])
capital c g h = (All-cons IsNameByte c [] (inl (g, h)) (All-nil IsNameByte), omega arith, omega arith)

pub letter : (c : ℕ) → 0x61 ≤ c → c ≤ 0x7A → IsName (c ∷ [])
letter c g h = (All-cons IsNameByte c [] (inr (inl (g, h))) (All-nil IsNameByte), omega arith, omega arith)

-- a scalar x that is mandatory, with an operator, and perhaps a value
abbrev pub table_of : Kind → Operator → Members → Data
table_of kind o rest = table (member (codes "kind") (string (kind_name kind))
    (member (codes "name") (string (codes "x")) (member (codes "op") (string (operator_name o)) rest)))

abbrev pub scalar_of : Kind → Operator → Option (List ℕ) → Declared
scalar_of kind o v = scalar (codes "x") false kind (record { operator = o; value = v; key = None; dictionary = None })

pub writes_bare : (kind : Kind) (o : Operator) → IsInUse (record {
  operator = o;
  value = None;
  key = None;
  dictionary = None;
}) → Writes (table_of kind o no_members) (scalar_of kind o None)
writes_bare kind o u = (
  member (codes "kind") (string (kind_name kind)) (member (codes "name") (string (codes "x")) (member (codes "op") (string (operator_name o)) no_members)),
  refl,
  ((0, omega arith, refl), ((1, omega arith, refl), ((3, omega arith, refl), tt))),
  refl,
  (refl, letter 0x78 (omega arith) (omega arith)),
  inr (refl, refl),
  record { operator = inl refl; value = refl; key = refl; dictionary = refl; in_use = u },
)

pub writes_valued : (kind : Kind) (o : Operator) (v : List ℕ) → IsInUse (record {
  operator = o;
  value = Some v;
  key = None;
  dictionary = None;
}) → Writes (table_of kind o (member (codes "value") (string v) no_members)) (scalar_of kind o (Some v))
writes_valued kind o v u = (
  member (codes "kind") (string (kind_name kind)) (member (codes "name") (string (codes "x"))
      (member (codes "op") (string (operator_name o)) (member (codes "value") (string v) no_members))),
  refl,
  ((0, omega arith, refl), ((1, omega arith, refl), ((3, omega arith, refl), ((4, omega arith, refl), tt)))),
  refl,
  (refl, letter 0x78 (omega arith) (omega arith)),
  inr (refl, refl),
  record { operator = inl refl; value = refl; key = refl; dictionary = refl; in_use = u },
)

-- the table of a template with one field, and the template
abbrev pub one_field : List ℕ → Data → Members
one_field name field = member (codes "fields") (array (item field no_items)) (member (codes "name") (string name) no_members)

abbrev pub declared : List ℕ → Declared → DeclaredTemplate
declared name d = record { name = name; id = None; reset = false; dictionary = codes "global"; fields = more d no_more }

pub writes_one : (name : List ℕ) (field : Data) (d : Declared) → IsName name → Writes field d → WritesTemplate (one_field name field) (declared name d)
writes_one name field d n w = record {
  items = item field no_items;
  only = ((4, omega arith, refl), ((0, omega arith, refl), tt));
  name = (refl, n);
  id = refl;
  reset = inr (refl, refl);
  dictionary = inr (refl, refl);
  fields_at = inl refl;
  fields = (field, no_items, refl, w, refl);
}

-- a document of one template of one field
abbrev pub document_of : List ℕ → Data → Members
document_of name field = member (codes "template") (array (item (table (one_field name field)) no_items)) no_members

pub writes_set : (name : List ℕ) (field : Data) (d : Declared) → IsName name → Writes field d → WritesSet (document_of name field) (declared name d ∷ [])
writes_set name field d n w = (
  item (table (one_field name field)) no_items,
  refl,
  (one_field name field, no_items, refl, writes_one name field d n w, refl),
  omega arith,
  omega arith,
)

-- a text that is refused
pub refused_text : (text : List ℕ) (document : Members) (ts : List DeclaredTemplate) (code : StaticCode)
    → parse_document text ≡ Some document → WritesSet document ts → StandsAt ts code 0 → IsFirst ts code 0 → IsRefusedText text code
refused_text text document ts code reads shape stands first = (
  inr (record { document = document; written = ts; reads = reads; shape = shape; stands = stands }),
  written_first (parse_document text) document ts code (Some 0) reads shape stands first,
)
