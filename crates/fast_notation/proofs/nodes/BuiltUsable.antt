-- The nodes that are built of sound uses are usable.
use Rattle.std.proofs.Common.{◌≡◌, ℕ, suc, List, [], ◌∷◌, ◌++◌, length, map, slice_get, refl, ap, sym, ◌∙◌, subst, arith, Option, Some, None, false, flat_map}
use Rattle.std.specs.Prelude.{Bool, true, not, All}
use Rattle.std.proofs.lemmas.Bool.{lt-ltb}
use Rattle.std.proofs.lemmas.List.Elements.{All-nil, All-cons, All-append, All-get_or}
use Rattle.std.proofs.lemmas.Option.{slice_get_within, get_or_from_slice_get}
use Rattle.std.specs.Cmp.Derive.{both_true}
use Rattle.fast_value.specs.declared.kinds.Kind.{Kind}
use Rattle.fast_value.specs.declared.kinds.Kind.TheVariants.{UInt32}
use Rattle.fast_value.specs.meaning.Kinds.{Family, integers, decimals, texts, family}
use Rattle.fast_tree.specs.declared.operators.Operator.{Operator}
use Rattle.fast_tree.specs.declared.operators.Operator.TheVariants.{None as no_operator, Constant, Default, Copy, Increment, Delta, Tail}
use Rattle.fast_tree.specs.declared.instructions.Node.{Node}
use Rattle.fast_tree.specs.declared.instructions.Template.{Template}
use Rattle.fast_tree.specs.meaning.AsWritten.{Written, DeclaredList, DeclaredTemplate, Use, scalar_use, exponent_use, mantissa_use, length_use, all_uses}
use Rattle.fast_notation.specs.device.Built.{top_numbers, spread_all, AreBuilt}
use Rattle.fast_tree.specs.meaning.Entries.{Entry, Scope, keeps_value, EntryNumber}
use Rattle.fast_notation.specs.meaning.InPlace.{InPlace, nothing, a_field, some_parts, a_group, a_sequence, a_reference, AreInPlace}
use Rattle.fast_tree.specs.meaning.NodeData.{a_field as a_field_data, a_decimal, a_group as a_group_data, a_sequence as a_sequence_data}
use Rattle.fast_tree.specs.meaning.NodeData.{NodeData, node_data, outline}
use Rattle.fast_notation.specs.device.Sound.{IsSound}
use Rattle.fast_tree.specs.meaning.Tree.{FieldData, Body, TemplateData}
use Rattle.fast_notation.specs.meaning.Uses.{suits, IsField}
use Rattle.fast_tree.specs.device.Usable.{is_texts, suits_tail, has_place, is_usable, is_uint32, is_int32, is_int64, is_usable_shape, AreUsable}
use Rattle.fast_notation.proofs.nodes.BuildingNeeds.{all_left, all_right, all_first, all_but_first}
use Rattle.fast_notation.proofs.nodes.BuiltLists.{spread-then}
use Rattle.fast_notation.proofs.lists.Lists.{mapped_get}

-- ---- one field

-- Only texts suit a tail.
suited_tail : (o : Operator) (k : Kind) → ¬ (suits o (family k) ≡ false) → suits_tail o k ≡ true
suited_tail Tail k h = of_family (family k) h
  where
    of_family : (f : Family) → ¬ (suits Tail f ≡ false) → is_texts f ≡ true
    of_family (integers range) h = absurd (h refl)
    of_family decimals h = absurd (h refl)
    of_family texts h = refl
suited_tail no_operator k h = refl
suited_tail Constant k h = refl
suited_tail Default k h = refl
suited_tail Copy k h = refl
suited_tail Increment k h = refl
suited_tail Delta k h = refl

-- The number of an entry is one of those of the set, in which the identifier has the first.
numbered_place : (entries : List Entry) (s : Scope) (u : Use) (o : Option ℕ) → EntryNumber entries s u o
    → has_place (suc (length entries)) (keeps_value u.written.operator) o ≡ true
numbered_place entries s u None h = ap not h
numbered_place entries s u (Some n) (k, e, keeps, is, at, same) =
    let inside = slice_get_within entries k e at in
    both_true keeps (lt-ltb n (suc (length entries)) (omega (arith, inside, same)))

-- the field of a sound use
usable_field : {entries : List Entry} {s : Scope} {u : Use} {f : FieldData} → IsSound u → IsField entries s u f → is_usable (suc (length entries)) f ≡ true
usable_field {entries = entries} {s = s} {u = u} {f = f} sound h =
    both_true (ap (λ o. has_place (suc (length entries)) (keeps_value o) f.entry) h.operator ∙ numbered_place entries s u f.entry h.entry)
    (ap (λ o. suits_tail o f.kind) h.operator ∙ ap (suits_tail u.written.operator) h.kind ∙ suited_tail u.written.operator u.kind sound.suited)

-- A length is an integer, whether or not it has a name.
length_kind : (name : List ℕ) (optional : Bool) (own : Option (List ℕ)) (w : Written) → (length_use name optional own w).kind ≡ UInt32
length_kind name optional None w = refl
length_kind name optional (Some own) w = refl

-- ---- bodies

-- the node can be run, among so many entries
abbrev IsUsableNode : List Entry → NodeData → Type 0
IsUsableNode entries x = is_usable_shape (suc (length entries)) x.shape ≡ true

usable_body : {ts : List DeclaredTemplate} {entries : List Entry} {chain : ℕ} {s : Scope} {ds : DeclaredList} {n m : ℕ} {b : Body}
    → All (λ t. All IsSound (all_uses t.fields)) ts → All IsSound (all_uses ds)
    → InPlace ts entries chain s ds n b m → All (IsUsableNode entries) (spread_all b)
usable_body {entries = entries} all here nothing = All-nil (IsUsableNode entries)
usable_body {entries = entries} all here (a_field {name = name} {optional = optional} {kind = kind} {w = w} {ds = ds} {f = f} {is = is} is_field rest) =
    let u = scalar_use name optional kind w in
    All-cons (IsUsableNode entries) (record {
      name = name;
      shape = a_field_data f;
    }) (spread_all is) (usable_field (all_first IsSound u (all_uses ds) here) is_field)
    (usable_body all (all_but_first IsSound u (all_uses ds) here) rest)
usable_body {entries = entries} all here (some_parts {name = name} {optional = optional} {v = v} {w = w} {ds = ds} {e = e} {f = f}
    {is = is} is_exponent is_mantissa rest) =
    let u = exponent_use name optional v in
    let m = mantissa_use name w in
    let later = all_but_first IsSound u (m ∷ all_uses ds) here in
    let usable_e = usable_field (all_first IsSound u (m ∷ all_uses ds) here) is_exponent in
    let usable_f = usable_field (all_first IsSound m (all_uses ds) later) is_mantissa in
    All-cons (IsUsableNode entries) (record { name = name; shape = a_decimal e f }) (spread_all is)
    (both_true (both_true usable_e (ap is_int32 is_exponent.kind)) (both_true usable_f (ap is_int64 is_mantissa.kind)))
    (usable_body all (all_but_first IsSound m (all_uses ds) later) rest)
usable_body {entries = entries} all here (a_group {name = name} {optional = optional} {inner = inner} {ds = ds} {body = body} {is = is} within rest) =
    All-cons (IsUsableNode entries) (record { name = name; shape = a_group_data optional (top_numbers body) }) (spread_all body ++ spread_all is) refl
    (All-append (IsUsableNode entries) (spread_all body) (spread_all is) (usable_body all (all_left IsSound (all_uses inner) (all_uses ds) here) within)
    (usable_body all (all_right IsSound (all_uses inner) (all_uses ds) here) rest))
usable_body {entries = entries} all here (a_sequence {name = name} {optional = optional} {own = own} {w = w} {inner = inner} {ds = ds}
    {f = f} {body = body} {is = is} is_length within rest) =
    let u = length_use name optional own w in
    let later = all_but_first IsSound u (all_uses inner ++ all_uses ds) here in
    let usable_f = usable_field (all_first IsSound u (all_uses inner ++ all_uses ds) here) is_length in
    All-cons (IsUsableNode entries) (record { name = name; shape = a_sequence_data f (top_numbers body) }) (spread_all body ++ spread_all is)
    (both_true usable_f (ap is_uint32 (is_length.kind ∙ length_kind name optional own w)))
    (All-append (IsUsableNode entries) (spread_all body) (spread_all is) (usable_body all (all_left IsSound (all_uses inner) (all_uses ds) later) within)
    (usable_body all (all_right IsSound (all_uses inner) (all_uses ds) later) rest))
usable_body {ts = ts} {entries = entries} all here (a_reference {ds = ds} {body = body} {is = is} number t found same within rest) =
    subst (All (IsUsableNode entries)) (sym (spread-then body is))
    (All-append (IsUsableNode entries) (spread_all body) (spread_all is) (usable_body all (sound_at ts number t found all) within) (usable_body all here rest))
  where
    sound_at : (ts : List DeclaredTemplate) (k : ℕ) (t : DeclaredTemplate) → slice_get ts k ≡ Some t
        → All (λ t. All IsSound (all_uses t.fields)) ts → All IsSound (all_uses t.fields)
    sound_at ts k t at h = subst (λ (x : DeclaredTemplate). All IsSound (all_uses x.fields)) (get_or_from_slice_get ts k t t at)
        (All-get_or (λ x. All IsSound (all_uses x.fields)) ts k t (slice_get_within ts k t at) h)

-- ---- the set

usable_templates : (all : List DeclaredTemplate) (entries : List Entry) (k : ℕ) (ts : List DeclaredTemplate) (n m : ℕ)
    (us : List TemplateData) → All (λ t. All IsSound (all_uses t.fields)) all
    → All (λ t. All IsSound (all_uses t.fields)) ts → AreInPlace all entries k ts n us m → All (IsUsableNode entries) (flat_map (λ u. spread_all u.body) us)
usable_templates all entries k [] n m [] sound here h = All-nil (IsUsableNode entries)
usable_templates all entries k [] n m (u ∷ us) sound here h = absurd h
usable_templates all entries k (t ∷ ts) n m [] sound here h = absurd h
usable_templates all entries k (t ∷ ts) n m (u ∷ us) sound here (mid, name, id, reset, body, rest) =
    All-append (IsUsableNode entries) (spread_all u.body) (flat_map (λ u. spread_all u.body) us)
    (usable_body sound (all_first (λ t. All IsSound (all_uses t.fields)) t ts here) body)
    (usable_templates all entries (suc k) ts mid m us sound (all_but_first (λ t. All IsSound (all_uses t.fields)) t ts here) rest)

-- The nodes of a set that is built of sound uses are usable.
pub built_usable : (all : List DeclaredTemplate) (entries : List Entry) (ns : List Node) (ts : List Template) → All (λ t. All IsSound (all_uses t.fields)) all
    → AreBuilt all entries all (map node_data ns) (map outline ts) → AreUsable (suc (length entries)) ns
built_usable all entries ns ts sound built n v found =
    let usable = subst (All (IsUsableNode entries)) (sym built.spread_into)
    (usable_templates all entries 0 all 0 (length (map node_data ns)) built.templates sound sound built.in_place) in
    let at = mapped_get node_data ns n v found in
    subst (IsUsableNode entries) (get_or_from_slice_get (map node_data ns) n (node_data v) (node_data v) at)
    (All-get_or (IsUsableNode entries) (map node_data ns) n (node_data v) (slice_get_within (map node_data ns) n (node_data v) at) usable)
