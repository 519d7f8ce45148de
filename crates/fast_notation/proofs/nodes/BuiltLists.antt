-- Nodes that are built, one instruction after the other.
use Rattle.std.proofs.Common.{◌≡◌, ℕ, ◌+◌, ◌<◌, zero, suc, Bool, List, [], ◌∷◌, ◌++◌, length, map, take, get_or, slice_get, slice_set, refl}
use Rattle.std.proofs.Common.{ap, sym, ◌∙◌, subst, arith, Option, Some, append_assoc, append-nil, length-append, Vec, Global}
use Rattle.std.specs.Vec.{with_items}
use Rattle.std.proofs.lemmas.List.{with_items_is}
use Rattle.std.proofs.lemmas.List.{take_more, map-append, length-map}
use Rattle.fast_tree.specs.declared.instructions.Node.{Node}
use Rattle.fast_tree.specs.declared.instructions.Shape.{Shape}
use Rattle.fast_notation.specs.declared.written.WrittenInstruction.{WrittenInstruction}
use Rattle.fast_tree.specs.meaning.AsWritten.{Written, Declared, scalar, by_parts, group as group_declared, sequence as sequence_declared}
use Rattle.fast_tree.specs.meaning.AsWritten.{reference, DeclaredList, no_more, more, DeclaredTemplate, scalar_use, exponent_use}
use Rattle.fast_tree.specs.meaning.AsWritten.{mantissa_use, length_use}
use Rattle.fast_value.specs.declared.kinds.Kind.{Kind}
use Rattle.fast_notation.specs.device.Built.{own_number, top_numbers, spread, spread_all, with_shape, data_of, IsBuilt}
use Rattle.fast_tree.specs.meaning.Entries.{Entry, Scope, scope_of}
use Rattle.fast_notation.specs.meaning.InPlace.{label, ◌then◌, InPlace, nothing, a_field, some_parts, a_group, a_sequence, a_reference}
use Rattle.fast_tree.specs.meaning.NodeData.{ShapeData, a_field as a_field_data, a_decimal, a_group as a_group_data}
use Rattle.fast_tree.specs.meaning.NodeData.{a_sequence as a_sequence_data, NodeData, node_data, shape_data}
use Rattle.fast_tree.specs.meaning.Tree.{FieldData, field, parts, group, sequence, Body, end, step}
use Rattle.fast_notation.specs.meaning.Uses.{IsField}
use Rattle.fast_notation.specs.device.WrittenSets.{list_of, instruction_data, fields_data}

-- ---- shapes

pub with_shape-set : (ns : List Node) (k : ℕ) (d : Node) (s : Shape) → k < length ns
    → map node_data (slice_set ns k (record { name = (get_or ns k d).name; shape = s })) ≡ with_shape (map node_data ns) k (shape_data s)
with_shape-set [] k d s inside = absurd (omega arith)
with_shape-set (x ∷ ns) zero d s inside = refl
with_shape-set (x ∷ ns) (suc k) d s inside = ap (λ xs. node_data x ∷ xs) (with_shape-set ns k d s (omega arith))

-- the shape of the node behind some
with_shape-behind : (old rest : List NodeData) (x : NodeData) (s : ShapeData) → with_shape (old ++ x ∷ rest) (length old) s ≡ old ++ record {
  name = x.name;
  shape = s;
} ∷ rest
with_shape-behind [] rest x s = refl
with_shape-behind (y ∷ old) rest x s = ap (λ xs. y ∷ xs) (with_shape-behind old rest x s)

-- ---- one body behind another

then-end : (b : Body) → b then end ≡ b
then-end end = refl
then-end (step i is) = ap (step i) (then-end is)

then-assoc : (b c d : Body) → (b then c) then d ≡ b then (c then d)
then-assoc end c d = refl
then-assoc (step i is) c d = ap (step i) (then-assoc is c d)

pub spread-then : (b c : Body) → spread_all (b then c) ≡ spread_all b ++ spread_all c
spread-then end c = refl
spread-then (step i is) c = ap (λ ns. spread i ++ ns) (spread-then is c) ∙ sym (append_assoc (spread i) (spread_all is) (spread_all c))

tops-then : (b c : Body) → top_numbers (b then c) ≡ top_numbers b ++ top_numbers c
tops-then end c = refl
tops-then (step i is) c = ap (λ ns. own_number i ∷ ns) (tops-then is c)

-- one list of instructions behind another
abbrev joined : DeclaredList → DeclaredList → DeclaredList
joined no_more es = es
joined (more d ds) es = more d (joined ds es)

list_of-append : (xs ys : List Declared) → list_of (xs ++ ys) ≡ joined (list_of xs) (list_of ys)
list_of-append [] ys = refl
list_of-append (x ∷ xs) ys = ap (more x) (list_of-append xs ys)

in_place-both : {ts : List DeclaredTemplate} {entries : List Entry} {chain : ℕ} {s : Scope} {ds es : DeclaredList} {n k m : ℕ} {b c : Body}
    → InPlace ts entries chain s ds n b k → InPlace ts entries chain s es k c m → InPlace ts entries chain s (joined ds es) n (b then c) m
in_place-both nothing h = h
in_place-both (a_field f rest) h = a_field f (in_place-both rest h)
in_place-both (some_parts e f rest) h = some_parts e f (in_place-both rest h)
in_place-both (a_group inner rest) h = a_group inner (in_place-both rest h)
in_place-both (a_sequence f inner rest) h = a_sequence f inner (in_place-both rest h)
in_place-both {ts = ts} {entries = entries} {s = s} {es = es} {n = n} {m = m} {c = c}
    (a_reference {chain = chain} {name = name} {ds = ds} {body = body} {is = is} number t found same inner rest) h =
    subst (λ b. InPlace ts entries (suc chain) s (more (reference name) (joined ds es)) n b m) (sym (then-assoc body is c))
    (a_reference number t found same inner (in_place-both rest h))

-- a node behind others
pub one_longer : (old : List NodeData) (x : NodeData) → length (old ++ x ∷ []) ≡ suc (length old)
one_longer old x = let l = length-append old (x ∷ []) in omega (arith, l)

-- the node in front of a body, with its shape, and the body's nodes
opened : (name : List ℕ) (x y : ShapeData) (b : Body) (old mid inner new : List NodeData) → mid ≡ old ++ record {
  name = name;
  shape = x;
} ∷ [] → inner ≡ mid ++ spread_all b → new ≡ with_shape inner (length old) y
    → new ≡ old ++ record { name = name; shape = y } ∷ spread_all b
opened name x y b old mid inner new first rest is =
    is
    ∙ ap (λ ns. with_shape ns (length old) y) (rest ∙ ap (λ ns. ns ++ spread_all b) first ∙ append_assoc old (record {
      name = name;
      shape = x;
    } ∷ []) (spread_all b))
    ∙ with_shape-behind old (spread_all b) (record { name = name; shape = x }) y

same_length : (ns : List NodeData) (k : ℕ) (y : ShapeData) → length (with_shape ns k y) ≡ length ns
same_length [] k y = refl
same_length (x ∷ ns) zero y = refl
same_length (x ∷ ns) (suc k) y = ap suc (same_length ns k y)

-- what the nodes are after one got its shape
pub same_items : (v : Vec Node Global) (ws : List Node) (k : ℕ) (y : ShapeData) → map node_data ws ≡ with_shape (data_of v) k y
    → data_of (with_items v ws) ≡ map node_data ws
same_items v ws k y is =
    let a = length-map ws node_data in
    let b = length-map v.items node_data in
    let e = ap length is ∙ same_length (data_of v) k y in
    let ok = v.ok in
    ap (map node_data) (with_items_is v ws (omega (arith, a, b, e, ok)))

module _ {ts : List DeclaredTemplate} {entries : List Entry} {chain : ℕ} {s : Scope} where
  pub built_none : (old : List NodeData) (before : List ℕ) → IsBuilt ts entries chain s no_more old old before before
  built_none old before = record { body = end; in_place = nothing; nodes = sym (append-nil old); numbers = sym (append-nil before) }

  built_both : (ds es : DeclaredList) (old mid new : List NodeData) (before between after : List ℕ)
      → IsBuilt ts entries chain s ds old mid before between → IsBuilt ts entries chain s es mid new between after
      → IsBuilt ts entries chain s (joined ds es) old new before after
  built_both ds es old mid new before between after a b = record {
    body = a.body then b.body;
    in_place = in_place-both a.in_place b.in_place;
    nodes = b.nodes ∙ ap (λ ns. ns ++ spread_all b.body) a.nodes ∙ append_assoc old (spread_all a.body) (spread_all b.body)
        ∙ ap (λ ns. old ++ ns) (sym (spread-then a.body b.body));
    numbers = b.numbers ∙ ap (λ ns. ns ++ top_numbers b.body) a.numbers ∙ append_assoc before (top_numbers a.body) (top_numbers b.body)
        ∙ ap (λ ns. before ++ ns) (sym (tops-then a.body b.body));
  }

  -- one instruction more
  pub built_more : (fs : List WrittenInstruction) (i : ℕ) (d : WrittenInstruction) (old mid new : List NodeData) (before between after : List ℕ) → i < length fs
      → IsBuilt ts entries chain s (fields_data (take i fs)) old mid before between
      → IsBuilt ts entries chain s (more (instruction_data (get_or fs i d)) no_more) mid new between after
      → IsBuilt ts entries chain s (fields_data (take (i + 1) fs)) old new before after
  built_more fs i d old mid new before between after inside a b =
      let one = get_or fs i d in
      let e : fields_data (take (i + 1) fs) ≡ joined (fields_data (take i fs)) (more (instruction_data one) no_more) =
      ap fields_data (take_more fs i d inside) ∙ ap list_of (map-append instruction_data (take i fs) (one ∷ []))
      ∙ list_of-append (map instruction_data (take i fs)) (instruction_data one ∷ []) in
      subst (λ ds. IsBuilt ts entries chain s ds old new before after) (sym e)
      (built_both (fields_data (take i fs)) (more (instruction_data one) no_more) old mid new before between after a b)

  pub built_field : (name : List ℕ) (optional : Bool) (kind : Kind) (w : Written) (f : FieldData) (old new : List NodeData)
      (before after : List ℕ) → IsField entries s (scalar_use name optional kind w) f
      → new ≡ old ++ record {
        name = name;
        shape = a_field_data f;
      } ∷ [] → after ≡ before ++ length old ∷ [] → IsBuilt ts entries chain s (more (scalar name optional kind w) no_more) old new before after
  built_field name optional kind w f old new before after is nodes numbers = record {
    body = step (field (label (length old) name) f) end;
    in_place = subst (InPlace ts entries chain s (more (scalar name optional kind w) no_more) (length old) (step (field (label (length old) name) f) end))
        (sym (ap length nodes ∙ one_longer old (record { name = name; shape = a_field_data f }))) (a_field is nothing);
    nodes = nodes;
    numbers = numbers;
  }

  pub built_parts : (name : List ℕ) (optional : Bool) (v w : Written) (e f : FieldData) (old new : List NodeData) (before after : List ℕ)
      → IsField entries s (exponent_use name optional v) e → IsField entries s (mantissa_use name w) f
      → new ≡ old ++ record {
        name = name;
        shape = a_decimal e f;
      } ∷ [] → after ≡ before ++ length old ∷ [] → IsBuilt ts entries chain s (more (by_parts name optional v w) no_more) old new before after
  built_parts name optional v w e f old new before after is_e is_f nodes numbers = record {
    body = step (parts (label (length old) name) e f) end;
    in_place = subst (InPlace ts entries chain s (more (by_parts name optional v w) no_more) (length old) (step (parts (label (length old) name) e f) end))
        (sym (ap length nodes ∙ one_longer old (record { name = name; shape = a_decimal e f }))) (some_parts is_e is_f nothing);
    nodes = nodes;
    numbers = numbers;
  }

  pub built_group : (name : List ℕ) (optional : Bool) (ds : DeclaredList) (x : ShapeData) (old mid inner new : List NodeData) (before after numbers : List ℕ)
      → mid ≡ old ++ record {
        name = name;
        shape = x;
      } ∷ [] → IsBuilt ts entries chain s ds mid inner [] numbers → new ≡ with_shape inner (length old) (a_group_data optional numbers)
      → after ≡ before ++ length old ∷ []
      → IsBuilt ts entries chain s (more (group_declared name optional ds) no_more) old new before after
  built_group name optional ds x old mid inner new before after numbers first h is own =
      let long : length mid ≡ suc (length old) = ap length first ∙ one_longer old (record { name = name; shape = x }) in
      let last : length inner ≡ length new = sym (ap length is ∙ same_length inner (length old) (a_group_data optional numbers)) in
      let shaped : new ≡ with_shape inner (length old) (a_group_data optional (top_numbers h.body)) = is
      ∙ ap (λ ns. with_shape inner (length old) (a_group_data optional ns)) h.numbers in
      record {
        body = step (group (label (length old) name) optional h.body) end;
        in_place = a_group (subst (λ n. InPlace ts entries chain s ds n h.body (length new)) long
            (subst (InPlace ts entries chain s ds (length mid) h.body) last h.in_place)) nothing;
        nodes = opened name x (a_group_data optional (top_numbers h.body)) h.body old mid inner new first h.nodes shaped
            ∙ ap (λ ns. old ++ record { name = name; shape = a_group_data optional (top_numbers h.body) } ∷ ns) (sym (append-nil (spread_all h.body)));
        numbers = own;
      }

  pub built_sequence : (name : List ℕ) (optional : Bool) (o : Option (List ℕ)) (w : Written) (f : FieldData) (ds : DeclaredList)
      (x : ShapeData) (old mid inner new : List NodeData) (before after numbers : List ℕ)
      → IsField entries s (length_use name optional o w) f
      → mid ≡ old ++ record {
        name = name;
        shape = x;
      } ∷ [] → IsBuilt ts entries chain s ds mid inner [] numbers → new ≡ with_shape inner (length old) (a_sequence_data f numbers)
      → after ≡ before ++ length old ∷ []
      → IsBuilt ts entries chain s (more (sequence_declared name optional o w ds) no_more) old new before after
  built_sequence name optional o w f ds x old mid inner new before after numbers is_f first h is own =
      let long : length mid ≡ suc (length old) = ap length first ∙ one_longer old (record { name = name; shape = x }) in
      let last : length inner ≡ length new = sym (ap length is ∙ same_length inner (length old) (a_sequence_data f numbers)) in
      let shaped : new ≡ with_shape inner (length old) (a_sequence_data f (top_numbers h.body)) = is
      ∙ ap (λ ns. with_shape inner (length old) (a_sequence_data f ns)) h.numbers in
      record {
        body = step (sequence (label (length old) name) f h.body) end;
        in_place = a_sequence is_f (subst (λ n. InPlace ts entries chain s ds n h.body (length new)) long
            (subst (InPlace ts entries chain s ds (length mid) h.body) last h.in_place)) nothing;
        nodes = opened name x (a_sequence_data f (top_numbers h.body)) h.body old mid inner new first h.nodes shaped
            ∙ ap (λ ns. old ++ record { name = name; shape = a_sequence_data f (top_numbers h.body) } ∷ ns) (sym (append-nil (spread_all h.body)));
        numbers = own;
      }

  pub built_reference : (name : List ℕ) (k : ℕ) (t : DeclaredTemplate) (old new : List NodeData) (before after : List ℕ)
      → slice_get ts k ≡ Some t → t.name ≡ name
      → IsBuilt ts entries chain (scope_of k t) t.fields old new before after
      → IsBuilt ts entries (suc chain) s (more (reference name) no_more) old new before after
  built_reference name k t old new before after found same h = record {
    body = h.body;
    in_place = subst (λ b. InPlace ts entries (suc chain) s (more (reference name) no_more) (length old) b (length new)) (then-end h.body)
        (a_reference k t found same h.in_place nothing);
    nodes = h.nodes;
    numbers = h.numbers;
  }
