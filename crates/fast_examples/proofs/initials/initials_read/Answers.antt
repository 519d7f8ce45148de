use Rattle.std.proofs.Common.{refl, arith, inl, inr}
use Rattle.std.proofs.lemmas.List.Elements.{All-cons, All-nil}
use Rattle.std.specs.Prelude.{◌≡◌, ℕ, ◌≤◌, Bool, true, false, All, List, [], ◌∷◌, codes, pos, negsuc, Option, Some, None}
use Rattle.toml.specs.Data.{string, integer, boolean, array, table, Items, no_items, item, Members, no_members, member}
use Rattle.toml.proofs.OnLiterals.{toml_on_literals}
use Rattle.fast_value.specs.declared.kinds.Kind.TheVariants.{UInt32, Int32}
use Rattle.fast_value.specs.declared.kinds.Kind.{Kind}
use Rattle.fast_value.specs.meaning.Kinds.{ScalarData, U, I}
use Rattle.fast_tree.specs.declared.operators.Operator.{Operator}
use Rattle.fast_tree.specs.declared.operators.Operator.TheVariants.{Constant, Default}
use Rattle.fast_tree.specs.meaning.AsWritten.{Written, scalar, no_more, more, DeclaredTemplate, Use, scalar_use}
use Rattle.fast_tree.specs.meaning.Entries.{Scope, scope_of, keeps_value, uses_from}
use Rattle.fast_notation.specs.meaning.Uses.{IsS2, IsS4, IsS5, IsInitialOf, IsField}
use Rattle.fast_notation.specs.meaning.InPlace.{nothing, a_field}
use Rattle.fast_notation.specs.meaning.Notation.{WritesAll, WritesTemplate}
use Rattle.fast_notation.specs.meaning.Checked.{IsTree, AreNarrowInside}
use Rattle.fast_examples.specs.meaning.Initials.{initials, without_entry, seven as seven_field, minus_three as minus_three_field, absent_by_default}
use Rattle.fast_examples.specs.meaning.Vectors.{at, template}
use Rattle.fast_tree.specs.meaning.Tree.{field, end, step, TemplateData, message_bits}
use Rattle.fast_tree.specs.meaning.Sizes.{body_depth, segment_limit, nesting_limit}
use Rattle.fast_examples.proofs.Documents.{capital, letter}
use Rattle.fast_examples.proofs.Numerals.{seven, minus_three}
use Rattle.fast_examples.proofs.initials.initials_read.Goals as goal

-- the fields as tables, whose keys are in order
abbrev c_at : Members
c_at = member (codes "kind") (string (codes "uInt32")) (member (codes "name") (string (codes "c"))
    (member (codes "op") (string (codes "constant")) (member (codes "optional") (boolean true)
    (member (codes "value") (string (codes "7")) no_members))))

abbrev d_at : Members
d_at = member (codes "kind") (string (codes "int32")) (member (codes "name") (string (codes "d"))
    (member (codes "op") (string (codes "default")) (member (codes "value") (string (codes "-3")) no_members)))

abbrev e_at : Members
e_at = member (codes "kind") (string (codes "uInt32")) (member (codes "name") (string (codes "e"))
    (member (codes "op") (string (codes "default")) (member (codes "optional") (boolean true) no_members)))

abbrev fields : Items
fields = item (table c_at) (item (table d_at) (item (table e_at) no_items))

abbrev template_at : Members
template_at = member (codes "fields") (array fields) (member (codes "id") (integer (pos 1)) (member (codes "name") (string (codes "V")) no_members))

-- the same as they are written
abbrev by : Operator → Option (List ℕ) → Written
by o v = record { operator = o; value = v; key = None; dictionary = None }

abbrev declared : DeclaredTemplate
declared = record {
  name = codes "V";
  id = Some 1;
  reset = false;
  dictionary = codes "global";
  fields = more (scalar (codes "c") true UInt32 (by Constant (Some (codes "7"))))
      (more (scalar (codes "d") false Int32 (by Default (Some (codes "-3"))))
      (more (scalar (codes "e") true UInt32 (by Default None)) no_more));
}

writes_fields : WritesAll fields declared.fields
writes_fields = (
  table c_at,
  item (table d_at) (item (table e_at) no_items),
  refl,
  (
    c_at,
    refl,
    ((0, omega arith, refl), ((1, omega arith, refl), ((3, omega arith, refl), ((2, omega arith, refl), ((4, omega arith, refl), tt))))),
    refl,
    (refl, letter 0x63 (omega arith) (omega arith)),
    inl refl,
    record { operator = inl refl; value = refl; key = refl; dictionary = refl; in_use = (refl, refl) },
  ),
  (
    table d_at,
    item (table e_at) no_items,
    refl,
    (
      d_at,
      refl,
      ((0, omega arith, refl), ((1, omega arith, refl), ((3, omega arith, refl), ((4, omega arith, refl), tt)))),
      refl,
      (refl, letter 0x64 (omega arith) (omega arith)),
      inr (refl, refl),
      record { operator = inl refl; value = refl; key = refl; dictionary = refl; in_use = (refl, refl) },
    ),
    (
      table e_at,
      no_items,
      refl,
      (
        e_at,
        refl,
        ((0, omega arith, refl), ((1, omega arith, refl), ((3, omega arith, refl), ((2, omega arith, refl), tt)))),
        refl,
        (refl, letter 0x65 (omega arith) (omega arith)),
        inl refl,
        record { operator = inl refl; value = refl; key = refl; dictionary = refl; in_use = (refl, refl) },
      ),
      refl,
    ),
  ),
)

writes_template : WritesTemplate template_at declared
writes_template = record {
  items = fields;
  only = ((4, omega arith, refl), ((1, omega arith, refl), ((0, omega arith, refl), tt)));
  name = (refl, capital 0x56 (omega arith) (omega arith));
  id = (refl, omega arith);
  reset = inr (refl, refl);
  dictionary = inr (refl, refl);
  fields_at = inl refl;
  fields = writes_fields;
}

abbrev document : Members
document = member (codes "template") (array (item (table template_at) no_items)) no_members

-- a field without entry
field_of : (o : Operator) (name : List ℕ) (optional : Bool) (kind : Kind) (text : Option (List ℕ)) (v : Option ScalarData)
    → keeps_value o ≡ false → IsInitialOf (scalar_use name optional kind (by o text)) text v
    → IsField [] (scope_of 0 declared) (scalar_use name optional kind (by o text)) (without_entry kind optional o v)
field_of o name optional kind text v k i = record { kind = refl; optional = refl; operator = refl; initial = i; entry = k }

abbrev IsSuited : Scope × Use → Type 0
IsSuited u = ¬ (IsS2 u.1) × ¬ (IsS4 u.1) × ¬ (IsS5 u.1)

abbrev c_used : Scope × Use
c_used = (scope_of 0 declared, scalar_use (codes "c") true UInt32 (by Constant (Some (codes "7"))))

abbrev d_used : Scope × Use
d_used = (scope_of 0 declared, scalar_use (codes "d") false Int32 (by Default (Some (codes "-3"))))

abbrev e_used : Scope × Use
e_used = (scope_of 0 declared, scalar_use (codes "e") true UInt32 (by Default None))

suited : All IsSuited (uses_from 0 (declared ∷ []))
suited = All-cons IsSuited c_used (d_used ∷ e_used ∷ []) (λ e. absurd (cc e), λ e. absurd (cc e.1), λ e. absurd (cc e.0))
    (All-cons IsSuited d_used (e_used ∷ []) (λ e. absurd (cc e), λ e. absurd (cc e.0), λ e. absurd (cc e.2))
    (All-cons IsSuited e_used [] (λ e. absurd (cc e), λ e. absurd (cc e.0), λ e. absurd (cc e.1)) (All-nil IsSuited)))

abbrev the_template : TemplateData
the_template = template (codes "V") 1 (step (field (at 0 (codes "c")) seven_field)
    (step (field (at 1 (codes "d")) minus_three_field) (step (field (at 2 (codes "e")) absent_by_default) end)))

is_tree : IsTree document initials
is_tree = record {
  written = declared ∷ [];
  entries = [];
  nodes = 3;
  shape = (item (table template_at) no_items, refl, (template_at, no_items, refl, writes_template, refl), omega arith, omega arith);
  names = λ i j d g h e. absurd (omega (arith, g, h));
  ids = λ i j d g h id e f. absurd (omega (arith, g, h));
  suited = suited;
  entries_of = inl (refl, inl (refl, inl (refl, refl)));
  in_place = (
    3,
    refl,
    refl,
    refl,
    a_field (field_of Constant (codes "c") true UInt32 (Some (codes "7")) (Some (U 7)) refl (seven, tt))
        (a_field (field_of Default (codes "d") false Int32 (Some (codes "-3")) (Some (I (negsuc 2))) refl (minus_three, tt))
        (a_field (field_of Default (codes "e") true UInt32 None None refl tt) nothing)),
    refl,
  );
  few_nodes = omega arith;
  shallow = All-cons (λ u. body_depth u.body ≤ nesting_limit) the_template [] (omega arith) (All-nil (λ u. body_depth u.body ≤ nesting_limit));
  narrow = All-cons (λ u. (message_bits u ≤ segment_limit) × AreNarrowInside u.body) the_template [] (omega arith, (tt, (tt, (tt, tt))))
      (All-nil (λ u. (message_bits u ≤ segment_limit) × AreNarrowInside u.body));
  entry_count = refl;
}

pub returns : goal.returns
unfolding toml_on_literals
returns c = (document, refl, is_tree)
