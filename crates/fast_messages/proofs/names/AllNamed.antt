-- All names of a set that was read can stand in lines.
use Rattle.std.proofs.Common.{◌≡◌, ℕ, zero, suc, ◌<◌, ◌≤◌, List, [], ◌∷◌, ◌++◌, refl, sym, ap, subst, ◌∙◌, append_assoc, arith, Bool, true, false, eq-eqb}
use Rattle.std.specs.Prelude.{All, Contains, slice_get, Some, nat_eq, if◌then◌else◌}
use Rattle.std.proofs.lemmas.List.Elements.{All-nil, All-cons, All-head, All-tail, All-append, All-weaker, All-contains, All-contains_itself}
use Rattle.toml.specs.Data.{Data, Items, Members}
use Rattle.fast_tree.specs.meaning.AsWritten.{Declared, scalar, by_parts, group as group_declared, sequence as sequence_declared, reference}
use Rattle.fast_tree.specs.meaning.AsWritten.{DeclaredList, no_more, more, DeclaredTemplate, IsName}
use Rattle.fast_tree.specs.meaning.Entries.{Entry, Scope}
use Rattle.fast_tree.specs.meaning.Tree.{Label, Body, end, step, TemplateData, Tree}
use Rattle.fast_notation.specs.meaning.Checked.{IsTree}
use Rattle.fast_notation.specs.meaning.InPlace.{◌then◌, label, InPlace, nothing, a_field, some_parts, a_group, a_sequence, a_reference, AreInPlace}
use Rattle.fast_notation.specs.meaning.Labels.{labels, body_labels, template_labels}
use Rattle.fast_notation.specs.meaning.Notation.{Writes, WritesAll, WritesTemplates}
use Rattle.fast_notation.proofs.nodes.BuiltTrees.{in_place-numbered, after_all}
use Rattle.fast_lines.specs.meaning.Lines.{name_among}
use Rattle.fast_messages.specs.meaning.Lined.{IsNamed, HasNames}
use Rattle.fast_messages.proofs.names.SetNames.{written_as}

-- all names in a written list of fields are names
abbrev mutual
  HasName : Declared → Type 0
  HasName (scalar name optional kind w) = IsName name
  HasName (by_parts name optional e m) = IsName name
  HasName (group_declared name optional ds) = IsName name × HaveNames ds
  HasName (sequence_declared name optional own w ds) = IsName name × HaveNames ds
  HasName (reference name) = Unit {0}

  HaveNames : DeclaredList → Type 0
  HaveNames no_more = Unit {0}
  HaveNames (more d ds) = HasName d × HaveNames ds

mutual
  one_written : (x : Data) (d : Declared) → Writes x d → HasName d
  one_written x (scalar name optional kind w) (ms, is, only, key, named, flag, operator) = named.1
  one_written x (by_parts name optional e m) h = h.6.1
  one_written x (group_declared name optional ds) (ms, xs, is, only, key, named, flag, items, fields) = (named.1, all_written xs ds fields)
  one_written x (sequence_declared name optional own w ds) h = (h.6.1, all_written h.2 ds h.9)
  one_written x (reference name) h = tt

  all_written : (xs : Items) (ds : DeclaredList) → WritesAll xs ds → HaveNames ds
  all_written xs no_more h = tt
  all_written xs (more d ds) (x, rest, is, first, later) = (one_written x d first, all_written rest ds later)

-- so in each template
record IsWell (t : DeclaredTemplate) : Type 0 where
  name : IsName t.name
  fields : HaveNames t.fields

abbrev AreWell : List DeclaredTemplate → Type 0
AreWell ts = (k : ℕ) (t : DeclaredTemplate) → slice_get ts k ≡ Some t → IsWell t

templates_written : (xs : Items) (ts : List DeclaredTemplate) → WritesTemplates xs ts → AreWell ts
templates_written xs [] h k t found = absurd (cc (found))
templates_written xs (u ∷ ts) (ms, rest, is, first, later) zero t found =
    let same : u ≡ t = cc (found) in
    subst IsWell same (record { name = first.name.1; fields = all_written first.items u.fields first.fields })
templates_written xs (u ∷ ts) (ms, rest, is, first, later) (suc k) t found = templates_written rest ts later k t found

-- the label of a node below a number, with a name
record IsLabel (m : ℕ) (l : Label) : Type 0 where
  below : l.node < m
  name : IsName l.name

wider : (k m : ℕ) (ls : List Label) → k ≤ m → All (IsLabel k) ls → All (IsLabel m) ls
wider k m ls le h = All-weaker (IsLabel k) (IsLabel m) (λ l i. record { below = omega (arith, le, i.below); name = i.name }) ls h

own : (n m : ℕ) (name : List ℕ) (ls : List Label) → suc n ≤ m → IsName name → All (IsLabel m) ls → All (IsLabel m) (label n name ∷ ls)
own n m name ls le h more_of = All-cons (IsLabel m) (label n name) ls (record { below = omega (arith, le); name = h }) more_of

labels_then : (b c : Body) → body_labels (b then c) ≡ body_labels b ++ body_labels c
labels_then end c = refl
labels_then (step i is) c = ap (λ (ls : List Label). labels i ++ ls) (labels_then is c) ∙ sym (append_assoc (labels i) (body_labels is) (body_labels c))

from_to : {ts : List DeclaredTemplate} {entries : List Entry} {chain : ℕ} {s : Scope} {ds : DeclaredList} {n m : ℕ} {body : Body}
    → InPlace ts entries chain s ds n body m → n ≤ m
from_to {n = n} {m = m} {body = body} h = after_all body n m (in_place-numbered h)

body_labelled : {ts : List DeclaredTemplate} {entries : List Entry} {chain : ℕ} {s : Scope} {ds : DeclaredList} {n m : ℕ} {body : Body}
    → AreWell ts → HaveNames ds → InPlace ts entries chain s ds n body m
    → All (IsLabel m) (body_labels body)
body_labelled {m = m} well named nothing = All-nil (IsLabel m)
body_labelled well named (a_field {n = n} {m = m} {name = name} {is = is} f rest) =
    own n m name (body_labels is) (from_to rest) named.0 (body_labelled well named.1 rest)
body_labelled well named (some_parts {n = n} {m = m} {name = name} {is = is} e f rest) =
    own n m name (body_labels is) (from_to rest) named.0 (body_labelled well named.1 rest)
body_labelled well named (a_group {n = n} {k = k} {m = m} {name = name} {body = body} {is = is} inner rest) =
    let within : suc n ≤ k = from_to inner in
    let outer : k ≤ m = from_to rest in
    own n m name (body_labels body ++ body_labels is) (omega (arith, within, outer)) named.0.0
    (All-append (IsLabel m) (body_labels body) (body_labels is) (wider k m (body_labels body) outer (body_labelled well named.0.1 inner))
    (body_labelled well named.1 rest))
body_labelled well named (a_sequence {n = n} {k = k} {m = m} {name = name} {body = body} {is = is} f inner rest) =
    let within : suc n ≤ k = from_to inner in
    let outer : k ≤ m = from_to rest in
    own n m name (body_labels body ++ body_labels is) (omega (arith, within, outer)) named.0.0
    (All-append (IsLabel m) (body_labels body) (body_labels is) (wider k m (body_labels body) outer (body_labelled well named.0.1 inner))
    (body_labelled well named.1 rest))
body_labelled well named (a_reference {k = k} {m = m} {body = body} {is = is} number t found same inner rest) =
    subst (All (IsLabel m)) (sym (labels_then body is))
    (All-append (IsLabel m) (body_labels body) (body_labels is)
    (wider k m (body_labels body) (from_to rest) (body_labelled well (well number t found).fields inner))
    (body_labelled well named.1 rest))

-- the templates from a number on
set_from_to : (all : List DeclaredTemplate) (entries : List Entry) (k : ℕ) (ts : List DeclaredTemplate) (n : ℕ) (us : List TemplateData)
    (m : ℕ) → AreInPlace all entries k ts n us m → n ≤ m
set_from_to all entries k [] n [] m h = omega (arith, h)
set_from_to all entries k [] n (u ∷ us) m h = absurd h
set_from_to all entries k (t ∷ ts) n [] m h = absurd h
set_from_to all entries k (t ∷ ts) n (u ∷ us) m (mid, name, id, reset, body, rest) =
    let first : n ≤ mid = from_to body in
    let later : mid ≤ m = set_from_to all entries (suc k) ts mid us m rest in
    omega (arith, first, later)

set_labelled : (all : List DeclaredTemplate) (entries : List Entry) (k : ℕ) (ts : List DeclaredTemplate) (n : ℕ) (us : List TemplateData)
    (m : ℕ) → AreWell all → AreWell ts → AreInPlace all entries k ts n us m
    → All (IsLabel m) (template_labels us)
set_labelled all entries k [] n [] m well named h = All-nil (IsLabel m)
set_labelled all entries k [] n (u ∷ us) m well named h = absurd h
set_labelled all entries k (t ∷ ts) n [] m well named h = absurd h
set_labelled all entries k (t ∷ ts) n (u ∷ us) m well named (mid, name, id, reset, body, rest) =
    All-append (IsLabel m) (body_labels u.body) (template_labels us)
    (wider mid m (body_labels u.body) (set_from_to all entries (suc k) ts mid us m rest) (body_labelled well (named 0 t refl).fields body))
    (set_labelled all entries (suc k) ts mid us m well (λ j v found. named (suc j) v found) rest)

-- the name that is found for a number is one of the labels
either : (b : Bool) (x y : List ℕ) → IsName x → IsName y → IsName (if b then x else y)
either true x y h k = h
either false x y h k = k

found_name : (m : ℕ) (ls : List Label) (l : Label) → All (IsLabel m) ls → Contains ls l → IsName (name_among l.node ls)
found_name m [] l labelled (k, inside, at) = absurd (omega (arith, inside))
found_name m (x ∷ ls) l labelled (zero, inside, at) =
    subst IsName (sym (ap (λ (b : Bool). if b then x.name else name_among l.node ls)
    (eq-eqb x.node l.node (ap (λ (z : Label). z.node) at)))) (All-head (IsLabel m) x ls labelled).name
found_name m (x ∷ ls) l labelled (suc k, inside, at) =
    either (nat_eq x.node l.node) x.name (name_among l.node ls) (All-head (IsLabel m) x ls labelled).name
    (found_name m ls l (All-tail (IsLabel m) x ls labelled) (k, omega (arith, inside), at))

pub all_named : (document : Members) (t : Tree) → IsTree document t → HasNames t
all_named document t is =
    let well : AreWell is.written = templates_written is.shape.0 is.written is.shape.2 in
    let ls = template_labels t.templates in
    let labelled : All (IsLabel is.nodes) ls = set_labelled is.written is.entries 0 is.written 0 t.templates is.nodes well well is.in_place in
    let few = is.few_nodes in
    record {
      nodes = All-weaker (Contains ls) (λ l. IsNamed t l.node)
          (λ l inside. let one : IsLabel is.nodes l = All-contains (IsLabel is.nodes) ls l labelled inside in
          let below : l.node < is.nodes = one.below in
          (omega (arith, few, below), found_name is.nodes ls l labelled inside)) ls (All-contains_itself ls);
      templates = λ n u found.
          let (d, at, same) = written_as is.written is.entries 0 is.written 0 t.templates is.nodes n u is.in_place found in
          subst IsName (sym same) (well n d at).name;
    }
