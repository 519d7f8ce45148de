-- A text that is at fault stands for no tree.
use Rattle.std.proofs.Common.{◌≡◌, ◌≢◌, ◌⊎◌, inl, inr, ℕ, ◌+◌, ◌<◌, ◌≤◌, zero, suc, List, [], ◌∷◌, ◌++◌, length, take, slice_get, refl, ap}
use Rattle.std.proofs.Common.{sym, ◌∙◌, subst, arith, Option, Some, None}
use Rattle.std.specs.Prelude.{All, Any, AllPairs, Contains, sum_by, codes}
use Rattle.std.proofs.lemmas.Bool.{cases_order}
use Rattle.std.proofs.lemmas.List.Elements.{All-nil, All-cons, All-append}
use Rattle.std.proofs.lemmas.List.Sums.{sum_by-cons}
use Rattle.std.proofs.lemmas.Option.{slice_get_within, get_or_from_slice_get}
use Rattle.toml.specs.Data.{table, array, Items, no_items, Members, no_members, member, get_item}
use Rattle.fast_notation.specs.declared.codes.StaticCode.{StaticCode}
use Rattle.fast_notation.specs.declared.codes.StaticCode.TheVariants.{S1, S2, S3, S4, S5, D8, C1, C2, C3, C4, C5, C6, Memory}
use Rattle.fast_tree.specs.meaning.AsWritten.{DeclaredList, DeclaredTemplate, Use, all_uses, all_references, scalar_use, exponent_use, mantissa_use, length_use}
use Rattle.fast_notation.specs.device.Chains.{nodes_in}
use Rattle.fast_notation.specs.meaning.Checked.{AreNarrowInside, IsTree}
use Rattle.fast_tree.specs.meaning.Entries.{Entry, Scope, scope_of}
use Rattle.fast_notation.specs.meaning.Faults.{IsFaultAt}
use Rattle.fast_notation.specs.meaning.FivePasses.{IsAtFault}
use Rattle.fast_notation.specs.meaning.InPlace.{◌then◌, InPlace, nothing, a_field, some_parts, a_group, a_sequence, a_reference, AreInPlace}
use Rattle.fast_notation.specs.meaning.Notation.{WritesTemplate, WritesTemplates, WritesSet}
use Rattle.fast_notation.specs.device.Reading.{all_templates, items_count}
use Rattle.fast_notation.specs.meaning.Refused.{Reaches, IsBodyOf, StandsAt}
use Rattle.fast_tree.specs.meaning.Sizes.{body_depth, segment_limit, nesting_limit, node_limit}
use Rattle.fast_tree.specs.meaning.Tree.{FieldData, Body, end, step, uses_bit, operator_uses_bit, one_if, bits_of, message_bits, TemplateData, Tree}
use Rattle.fast_notation.specs.meaning.Unwritten.{AreTables, IsUnwritten}
use Rattle.fast_notation.specs.meaning.Uses.{IsS2, IsS3, IsS4, IsS5, IsField}
use Rattle.fast_notation.proofs.nodes.BuildingNeeds.{some_is, uses_of_template}
use Rattle.fast_notation.proofs.nodes.BuiltSets.{set_nodes}
use Rattle.fast_notation.proofs.references.InPlaceSizes.{in_place-depth}
use Rattle.fast_notation.proofs.texts.SetLaws.{written_template}

-- ---- a document writes one set

read_all : (xs : Items) (ts : List DeclaredTemplate) → WritesTemplates xs ts → all_templates xs ≡ Some ts
read_all xs [] h = ap all_templates h
read_all xs (t ∷ ts) (ms, rest, is, w, others) = ap all_templates is ∙ rw (written_template ms t w, read_all rest ts others) refl

pub one_set : (document : Members) (ts us : List DeclaredTemplate) → WritesSet document ts → WritesSet document us → ts ≡ us
one_set document ts us (xs, is, w, some, few) (ys, is_too, v, some_too, few_too) =
    let same : xs ≡ ys = same_array xs ys (sym is ∙ is_too) in
    some_is (sym (read_all xs ts w) ∙ ap all_templates same ∙ read_all ys us v)
  where
    same_array : (xs ys : Items) → member (codes "template") (array xs) no_members ≡ member (codes "template") (array ys) no_members → xs ≡ ys
    same_array xs ys e = cc

tables_written : (xs : Items) (ts : List DeclaredTemplate) → WritesTemplates xs ts → AreTables xs × (items_count xs ≡ length ts)
tables_written xs [] h = subst (λ ys. AreTables ys × (items_count ys ≡ 0)) (sym h) (tt, refl)
tables_written xs (t ∷ ts) (ms, rest, is, w, others) =
    let r = tables_written rest ts others in
    subst (λ ys. AreTables ys × (items_count ys ≡ suc (length ts))) (sym is) ((ms, refl, r.0), ap suc r.1)

written_at : (xs : Items) (ts : List DeclaredTemplate) (k : ℕ) (ms : Members) → WritesTemplates xs ts → get_item k xs ≡ Some (table ms)
    → (t : DeclaredTemplate) × WritesTemplate ms t
written_at xs [] k ms h found = absurd (nothing_there k (sym (ap (get_item k) h) ∙ found))
  where
    nothing_there : (k : ℕ) → get_item k no_items ≡ Some (table ms) → ⊥
    nothing_there zero e = cc
    nothing_there (suc k) e = cc
written_at xs (t ∷ ts) zero ms (ns, rest, is, w, others) found = (t, subst (λ m. WritesTemplate m t) (same_table (sym (ap (get_item 0) is) ∙ found)) w)
  where
    same_table : Some (table ns) ≡ Some (table ms) → ns ≡ ms
    same_table e = cc
written_at xs (t ∷ ts) (suc k) ms (ns, rest, is, w, others) found = written_at rest ts k ms others (sym (ap (get_item (suc k)) is) ∙ found)

-- a text that writes no set
not_unwritten : (read : Option Members) (code : StaticCode) (template : Option ℕ) (document : Members) (ts : List DeclaredTemplate)
    → code ≢ Memory → read ≡ Some document → WritesSet document ts → IsUnwritten read code template → ⊥
not_unwritten read S1 None document ts other is (xs, doc, w, some, few) h =
    let t = tables_written xs ts w in
    let n = t.1 in
    h document xs is (doc, t.0, omega (arith, n, some), omega (arith, n, few))
not_unwritten read S1 (Some k) document ts other is (ys, doc, w, some, few) (document_too, ms, xs, is_too, tables, found, none) =
    let same_document : document_too ≡ document = some_is (sym is_too ∙ is) in
    let same : xs ≡ ys = same_array xs ys (sym tables.0 ∙ same_document ∙ doc) in
    let t = written_at ys ts k ms w (sym (ap (get_item k) same) ∙ found) in
    none t.0 t.1
  where
    same_array : (xs ys : Items) → member (codes "template") (array xs) no_members ≡ member (codes "template") (array ys) no_members → xs ≡ ys
    same_array xs ys e = cc
not_unwritten read Memory template document ts other is w h = other refl
not_unwritten read S2 template document ts other is w h = h
not_unwritten read S3 template document ts other is w h = h
not_unwritten read S4 template document ts other is w h = h
not_unwritten read S5 template document ts other is w h = h
not_unwritten read D8 template document ts other is w h = h
not_unwritten read C1 template document ts other is w h = h
not_unwritten read C2 template document ts other is w h = h
not_unwritten read C3 template document ts other is w h = h
not_unwritten read C4 template document ts other is w h = h
not_unwritten read C5 template document ts other is w h = h
not_unwritten read C6 template document ts other is w h = h

-- ---- templates in place

-- what is in place of a template
pub in_place_of : (all : List DeclaredTemplate) (entries : List Entry) (k : ℕ) (ts : List DeclaredTemplate) (n m : ℕ)
    (us : List TemplateData) (i : ℕ) (t : DeclaredTemplate) → AreInPlace all entries k ts n us m
    → slice_get ts i ≡ Some t → (u : TemplateData) × (a b : ℕ) × (slice_get us i ≡ Some u)
    × InPlace all entries nesting_limit (scope_of (k + i) t) t.fields a u.body b
in_place_of all entries k [] n m us i t h found = absurd (cc)
in_place_of all entries k (s ∷ ts) n m [] i t h found = absurd h
in_place_of all entries k (s ∷ ts) n m (u ∷ us) zero t (mid, name, id, reset, body, rest) found =
    let is : s ≡ t = some_is found in (
      u,
      n,
      mid,
      refl,
      subst (λ v. InPlace all entries nesting_limit (scope_of (k + 0) v) v.fields n u.body mid) is
          (subst (λ j. InPlace all entries nesting_limit (scope_of j s) s.fields n u.body mid) (let e : k ≡ k + 0 = omega arith in e) body),
    )
in_place_of all entries k (s ∷ ts) n m (u ∷ us) (suc i) t (mid, name, id, reset, body, rest) found =
    let r = in_place_of all entries (suc k) ts mid m us i t rest found in (
      r.0,
      r.1,
      r.2,
      r.3,
      subst (λ j. InPlace all entries nesting_limit (scope_of j t) t.fields r.1 r.0.body r.2)
          (let e : suc k + i ≡ k + suc i = omega arith in e) r.4,
    )

-- each use has a field
fields_in_place : {ts : List DeclaredTemplate} {entries : List Entry} {chain : ℕ} {s : Scope} {ds : DeclaredList} {n m : ℕ} {b : Body}
    → InPlace ts entries chain s ds n b m → All (λ u. (f : FieldData) × IsField entries s u f) (all_uses ds)
fields_in_place {entries = entries} {s = s} nothing = All-nil (λ u. (f : FieldData) × IsField entries s u f)
fields_in_place {entries = entries} {s = s} (a_field {name = name} {optional = optional} {kind = kind} {w = w} {ds = ds} {f = f} is rest) =
    All-cons (λ u. (f : FieldData) × IsField entries s u f) (scalar_use name optional kind w) (all_uses ds) (f, is) (fields_in_place rest)
fields_in_place {entries = entries} {s = s} (some_parts {name = name} {optional = optional} {v = v} {w = w} {ds = ds} {e = e} {f = f} is_e is_f rest) =
    All-cons (λ u. (f : FieldData) × IsField entries s u f) (exponent_use name optional v) (mantissa_use name w ∷ all_uses ds) (e, is_e)
    (All-cons (λ u. (f : FieldData) × IsField entries s u f) (mantissa_use name w) (all_uses ds) (f, is_f) (fields_in_place rest))
fields_in_place {entries = entries} {s = s} (a_group {inner = inner} {ds = ds} body rest) =
    All-append (λ u. (f : FieldData) × IsField entries s u f) (all_uses inner) (all_uses ds) (fields_in_place body) (fields_in_place rest)
fields_in_place {entries = entries} {s = s} (a_sequence {name = name} {optional = optional} {own = own} {w = w} {inner = inner} {ds = ds}
    {f = f} is body rest) =
    All-cons (λ u. (f : FieldData) × IsField entries s u f) (length_use name optional own w) (all_uses inner ++ all_uses ds) (f, is)
    (All-append (λ u. (f : FieldData) × IsField entries s u f) (all_uses inner) (all_uses ds) (fields_in_place body) (fields_in_place rest))
fields_in_place (a_reference number t found same body rest) = fields_in_place rest

-- the template to which a reference leads, in place in a shorter chain
abbrev Leads : List DeclaredTemplate → List Entry → ℕ → List ℕ → Type 0
Leads ts entries chain name = (c number : ℕ) × (t : DeclaredTemplate) × (a b : ℕ) × (body : Body) × (chain ≡ suc c)
    × (slice_get ts number ≡ Some t) × (t.name ≡ name) × InPlace ts entries c (scope_of number t) t.fields a body b

references_in_place : {ts : List DeclaredTemplate} {entries : List Entry} {chain : ℕ} {s : Scope} {ds : DeclaredList} {n m : ℕ} {b : Body}
    → InPlace ts entries chain s ds n b m → All (Leads ts entries chain) (all_references ds)
references_in_place {ts = ts} {entries = entries} {chain = chain} nothing = All-nil (Leads ts entries chain)
references_in_place (a_field is rest) = references_in_place rest
references_in_place (some_parts is_e is_f rest) = references_in_place rest
references_in_place {ts = ts} {entries = entries} {chain = chain} (a_group {inner = inner} {ds = ds} body rest) =
    All-append (Leads ts entries chain) (all_references inner) (all_references ds) (references_in_place body) (references_in_place rest)
references_in_place {ts = ts} {entries = entries} {chain = chain} (a_sequence {inner = inner} {ds = ds} is body rest) =
    All-append (Leads ts entries chain) (all_references inner) (all_references ds) (references_in_place body) (references_in_place rest)
references_in_place {ts = ts} {entries = entries} (a_reference {chain = c} {n = n} {k = k} {name = name} {ds = ds} {body = b} number t found same body rest) =
    All-cons (Leads ts entries (suc c)) name (all_references ds) (c, number, t, n, k, b, refl, found, same, body) (references_in_place rest)

-- a name stands once
pub one_of_name : (ts : List DeclaredTemplate) (i j : ℕ) (t u : DeclaredTemplate) → AllPairs (λ a b. a.name ≢ b.name) ts
    → slice_get ts i ≡ Some t → slice_get ts j ≡ Some u → t.name ≡ u.name → i ≡ j
one_of_name ts i j t u apart at_i at_j same = elim (cases_order i j) [
  | inl e ↦ e
  | inr (inl h) ↦ absurd (before i j t u h at_i at_j same)
  | inr (inr h) ↦ absurd (before j i u t h at_j at_i (sym same))
]
  where
    before : (i j : ℕ) (t u : DeclaredTemplate) → i < j → slice_get ts i ≡ Some t → slice_get ts j ≡ Some u → t.name ≡ u.name → ⊥
    before i j t u h at_i at_j same =
        let e = get_or_from_slice_get ts i t t at_i in
        let f = get_or_from_slice_get ts j u t at_j in
        apart i j t h (slice_get_within ts j u at_j) (ap (λ (x : DeclaredTemplate). x.name) e ∙ same ∙ sym (ap (λ (x : DeclaredTemplate). x.name) f))

-- what holds of all holds of what is there
all_contained : {A : Type 0} (P : A → Type 0) (xs : List A) (x : A) → All P xs → Contains xs x → P x
all_contained P xs x h (k, inside, at) = subst P at (h k x inside)

-- no chain is longer than that in which a template is in place
reach_short : (ts : List DeclaredTemplate) (entries : List Entry) (m chain a b : ℕ) (t : DeclaredTemplate) (s : Scope) (n k : ℕ)
    (body : Body) → AllPairs (λ a b. a.name ≢ b.name) ts → Reaches ts m a b → slice_get ts a ≡ Some t
    → InPlace ts entries chain s t.fields n body k → m ≤ chain
reach_short ts entries zero chain a b t s n k body apart r at h = omega arith
reach_short ts entries (suc m) chain a b t s n k body apart (mid, t_too, u, at_a, at_mid, refers, onward) at h =
    let is : t_too ≡ t = some_is (sym at_a ∙ at) in
    let l = all_contained (Leads ts entries chain) (all_references t.fields) u.name (references_in_place h)
    (subst (λ (v : DeclaredTemplate). Contains (all_references v.fields) u.name) is refers) in
    let number : l.1 ≡ mid = one_of_name ts l.1 mid l.2 u apart l.7 at_mid l.8 in
    let same : slice_get ts mid ≡ Some l.2 = subst (λ j. slice_get ts j ≡ Some l.2) number l.7 in
    let r = reach_short ts entries m l.0 mid b l.2 (scope_of l.1 l.2) l.3 l.4 l.5 apart onward same l.9 in
    let e = l.6 in
    omega (arith, r, e)

-- round and round
reach_on : (ts : List DeclaredTemplate) (m n a b c : ℕ) → Reaches ts m a b → Reaches ts n b c → Reaches ts (m + n) a c
reach_on ts zero n a b c r s = subst (λ j. Reaches ts j a c) (let e : n ≡ zero + n = omega arith in e) (subst (λ j. Reaches ts n j c) (sym r) s)
reach_on ts (suc m) n a b c (mid, t, u, at_a, at_mid, refers, onward) s =
    subst (λ j. Reaches ts j a c) (let e : suc (m + n) ≡ suc m + n = omega arith in e) (mid, t, u, at_a, at_mid, refers, reach_on ts m n mid b c onward s)

abbrev pub rounds : ℕ → ℕ → ℕ
rounds n zero = 0
rounds n (suc r) = suc n + rounds n r

pub many_rounds : (n r : ℕ) → r ≤ rounds n r
many_rounds n zero = omega arith
many_rounds n (suc r) = let h = many_rounds n r in omega (arith, h)

pub reach_round : (ts : List DeclaredTemplate) (n k r : ℕ) → Reaches ts (suc n) k k → Reaches ts (rounds n r) k k
reach_round ts n k zero h = refl
reach_round ts n k (suc r) h = reach_on ts (suc n) (rounds n r) k k k h (reach_round ts n k r h)

-- ---- bits

bits-then : (b c : Body) → bits_of (b then c) ≡ bits_of b + bits_of c
bits-then end c = omega arith
bits-then (step i is) c = let e = bits-then is c in omega (arith, e)

narrow-then : (b c : Body) → AreNarrowInside b → AreNarrowInside c → AreNarrowInside (b then c)
narrow-then end c h i = i
narrow-then (step i is) c h j = (h.0, narrow-then is c h.1 j)

then-narrow : (b c : Body) → AreNarrowInside (b then c) → AreNarrowInside b × AreNarrowInside c
then-narrow end c h = (tt, h)
then-narrow (step i is) c h = let r = then-narrow is c h.1 in ((h.0, r.0), r.1)

-- the same use of an operator uses the same bits
same_bit : {es fs : List Entry} {s : Scope} {u : Use} {f g : FieldData} → IsField es s u f → IsField fs s u g → one_if (uses_bit f) ≡ one_if (uses_bit g)
same_bit {f = f} {g = g} h i = ap one_if (ap (λ o. operator_uses_bit o f.optional) (h.operator ∙ sym i.operator)
    ∙ ap (operator_uses_bit g.operator) (h.optional ∙ sym i.optional))

-- whatever entries there are, a template's segments have the same bits
pub same_bits : {ts : List DeclaredTemplate} {es fs : List Entry} {chain : ℕ} {s : Scope} {ds : DeclaredList} {n m j k : ℕ} {b c : Body}
    → AllPairs (λ a b. a.name ≢ b.name) ts
    → InPlace ts es chain s ds n b m → InPlace ts fs chain s ds j c k → (bits_of b ≡ bits_of c) × (AreNarrowInside b → AreNarrowInside c)
same_bits apart nothing nothing = (refl, λ h. h)
same_bits apart (a_field is rest) (a_field is_too rest_too) =
    let e = same_bit is is_too in
    let r = same_bits apart rest rest_too in
    let same = r.0 in
    (omega (arith, e, same), λ h. (tt, r.1 h.1))
same_bits apart (some_parts is_e is_f rest) (some_parts is_e_too is_f_too rest_too) =
    let e = same_bit is_e is_e_too in
    let f = same_bit is_f is_f_too in
    let r = same_bits apart rest rest_too in
    let same = r.0 in
    (omega (arith, e, f, same), λ h. (tt, r.1 h.1))
same_bits apart (a_group body rest) (a_group body_too rest_too) =
    let i = same_bits apart body body_too in
    let inner = i.0 in
    let r = same_bits apart rest rest_too in
    let same = r.0 in
    (omega (arith, same), λ h. (((let w = h.0.0 in omega (arith, w, inner)), i.1 h.0.1), r.1 h.1))
same_bits apart (a_sequence is body rest) (a_sequence is_too body_too rest_too) =
    let e = same_bit is is_too in
    let i = same_bits apart body body_too in
    let inner = i.0 in
    let r = same_bits apart rest rest_too in
    let same = r.0 in
    (omega (arith, e, same), λ h. (((let w = h.0.0 in omega (arith, w, inner)), i.1 h.0.1), r.1 h.1))
same_bits {ts = ts} {fs = fs} apart (a_reference {chain = chain} {body = b} {is = is} number t found same body rest)
    (a_reference {n = j} {k = k} {body = c} {is = js} number_too t_too found_too same_too body_too rest_too) =
    let number_is : number_too ≡ number = one_of_name ts number_too number t_too t apart found_too found (same_too ∙ sym same) in
    let t_is : t_too ≡ t = some_is (sym found_too ∙ ap (slice_get ts) number_is ∙ found) in
    let there = subst (λ v. InPlace ts fs chain (scope_of number v) v.fields j c k) t_is
    (subst (λ i. InPlace ts fs chain (scope_of i t_too) t_too.fields j c k) number_is body_too) in
    let i = same_bits apart body there in
    let r = same_bits apart rest rest_too in
    let first = i.0 in
    let last = r.0 in
    let e = bits-then b is in
    let f = bits-then c js in
    (omega (arith, first, last, e, f), λ h. (let p = then-narrow b is h in narrow-then c js (i.1 p.0) (r.1 p.1)))

-- ---- sums

pub sum_of_front : {A : Type 0} (f : A → ℕ) (xs : List A) (k : ℕ) → sum_by f (take k xs) ≤ sum_by f xs
sum_of_front f xs zero = omega arith
sum_of_front f [] (suc k) = omega arith
sum_of_front f (x ∷ xs) (suc k) =
    let a = sum_by-cons f x (take k xs) in
    let b = sum_by-cons f x xs in
    let r = sum_of_front f xs k in
    omega (arith, a, b, r)

-- ---- no code's condition stands in a set with a tree

module _ {document : Members} {tree : Tree} (h : IsTree document tree) where
  -- the uses of a template have no fault
  template_suited : (k : ℕ) (t : DeclaredTemplate) → slice_get h.written k ≡ Some t → All (λ u. ¬ (IsS2 u) × ¬ (IsS4 u) × ¬ (IsS5 u)) (all_uses t.fields)
  template_suited k t found = uses_of_template (λ s u. ¬ (IsS2 u) × ¬ (IsS4 u) × ¬ (IsS5 u)) 0 k h.written t h.suited found

  -- a template's body in the tree
  template_body : (k : ℕ) (t : DeclaredTemplate) → slice_get h.written k ≡ Some t
      → (u : TemplateData) × (a b : ℕ) × (slice_get tree.templates k ≡ Some u)
      × InPlace h.written h.entries nesting_limit (scope_of (0 + k) t) t.fields a u.body b
  template_body k t found = in_place_of h.written h.entries 0 h.written 0 h.nodes tree.templates k t h.in_place found

  no_unsuited : (P : Use → Type 0) (k : ℕ) (t : DeclaredTemplate) → slice_get h.written k ≡ Some t → All (λ u. ¬ (P u)) (all_uses t.fields)
      → Any P (all_uses t.fields) → ⊥
  no_unsuited P k t found all (j, u, inside, at, bad) = subst (λ v. ¬ (P v)) at (all j u inside) bad

  no_long_chain : (k b m : ℕ) → nesting_limit < m → Reaches h.written m k b → ⊥
  no_long_chain k b zero long r = omega (arith, long)
  no_long_chain k b (suc m) long r =
      let t = r.1 in
      let p = template_body k t r.3 in
      let short = reach_short h.written h.entries (suc m) nesting_limit k b t (scope_of (0 + k) t) p.1 p.2 p.0.body h.names r r.3 p.4 in
      omega (arith, short, long)

  no_deep_body : (k : ℕ) (body : Body) → IsBodyOf h.written k body → nesting_limit < body_depth body → ⊥
  no_deep_body k body (es, t, n, m, found, there) deep =
      let p = template_body k t found in
      let a = in_place-depth h.written es nesting_limit (scope_of k t) t.fields n m body h.names there in
      let b = in_place-depth h.written h.entries nesting_limit (scope_of (0 + k) t) t.fields p.1 p.2 p.0.body h.names p.4 in
      let e = get_or_from_slice_get tree.templates k p.0 p.0 p.3 in
      let limit : body_depth p.0.body ≤ nesting_limit = subst (λ (v : TemplateData). body_depth v.body ≤ nesting_limit) e
      (h.shallow k p.0 (slice_get_within tree.templates k p.0 p.3)) in
      omega (arith, a, b, limit, deep)

  no_wide_body : (k : ℕ) (body : Body) → IsBodyOf h.written k body → (segment_limit < suc (bits_of body)) ⊎ ¬ (AreNarrowInside body) → ⊥
  no_wide_body k body (es, t, n, m, found, there) wide =
      let p = template_body k t found in
      let here = subst (λ j. InPlace h.written h.entries nesting_limit (scope_of j t) t.fields p.1 p.0.body p.2) (let e : 0 + k ≡ k = omega arith in e) p.4 in
      let same = same_bits h.names here there in
      let bits = same.0 in
      let e = get_or_from_slice_get tree.templates k p.0 p.0 p.3 in
      let narrow : (message_bits p.0 ≤ segment_limit) × AreNarrowInside p.0.body =
      subst (λ (v : TemplateData). (message_bits v ≤ segment_limit) × AreNarrowInside v.body) e (h.narrow k p.0 (slice_get_within tree.templates k p.0 p.3)) in
      let limit = narrow.0 in
      elim wide [ inl w ↦ omega (arith, bits, limit, w) | inr w ↦ w (same.1 narrow.1) ]

  no_many_nodes : (k : ℕ) (es : List Entry) (us : List TemplateData) (n : ℕ) → AreInPlace h.written es 0 (take (suc k) h.written) 0 us n → node_limit < n → ⊥
  no_many_nodes k es us n there many =
      let a = set_nodes h.written es 0 (take (suc k) h.written) 0 n us h.names there in
      let b = set_nodes h.written h.entries 0 h.written 0 h.nodes tree.templates h.names h.in_place in
      let c = sum_of_front (λ (t : DeclaredTemplate). nodes_in h.written nesting_limit t.fields) h.written (suc k) in
      let few = h.few_nodes in
      omega (arith, a, b, c, few, many)

  nothing_stands : (code : StaticCode) (k : ℕ) → StandsAt h.written code k → ⊥
  nothing_stands S1 k s = s
  nothing_stands S2 k (t, found, bad) = no_unsuited IsS2 k t found (λ j d inside. (template_suited k t found j d inside).0) bad
  nothing_stands S3 k (t, found, bad) =
      let p = template_body k t found in
      no_unsuited IsS3 k t found (λ j d inside none. (let f = fields_in_place p.4 j d inside in none f.0.initial f.1.initial)) bad
  nothing_stands S4 k (t, found, bad) = no_unsuited IsS4 k t found (λ j d inside. (template_suited k t found j d inside).1) bad
  nothing_stands S5 k (t, found, bad) = no_unsuited IsS5 k t found (λ j d inside. (template_suited k t found j d inside).2) bad
  nothing_stands D8 k (t, found, (j, name, inside, at, unknown)) =
      let p = template_body k t found in
      let l = subst (Leads h.written h.entries nesting_limit) at (references_in_place p.4 j name inside) in
      unknown l.1 l.2 (slice_get_within h.written l.1 l.2 l.7) (ap (λ (v : DeclaredTemplate). v.name) (get_or_from_slice_get h.written l.1 l.2 l.2 l.7) ∙ l.8)
  nothing_stands C1 k (j, t, u, before, at_j, at_k, same) =
      let e = one_of_name h.written j k t u h.names at_j at_k same in
      omega (arith, e, before)
  nothing_stands C2 k (j, id, t, u, before, at_j, at_k, has, has_too) =
      let e = get_or_from_slice_get h.written j t t at_j in
      let f = get_or_from_slice_get h.written k u t at_k in
      h.ids j k t before (slice_get_within h.written k u at_k) id (ap (λ (x : DeclaredTemplate). x.id) e ∙ has)
      (ap (λ (x : DeclaredTemplate). x.id) f ∙ has_too)
  nothing_stands C3 k (n, r) =
      let long = many_rounds n 65 in
      no_long_chain k k (rounds n 65) (omega (arith, long)) (reach_round h.written n k 65 r)
  nothing_stands C4 k (inl (b, r)) = no_long_chain k b (suc nesting_limit) (omega arith) r
  nothing_stands C4 k (inr (body, is, deep)) = no_deep_body k body is deep
  nothing_stands C5 k (body, is, wide) = no_wide_body k body is wide
  nothing_stands C6 k (es, us, n, there, many) = no_many_nodes k es us n there many
  nothing_stands Memory k s = s

  no_fault_at : (code : StaticCode) (template : Option ℕ) → code ≢ Memory → IsFaultAt h.written code template → ⊥
  no_fault_at code (Some k) other s = nothing_stands code k s
  no_fault_at Memory None other s = other refl
  no_fault_at S1 None other s = s
  no_fault_at S2 None other s = s
  no_fault_at S3 None other s = s
  no_fault_at S4 None other s = s
  no_fault_at S5 None other s = s
  no_fault_at D8 None other s = s
  no_fault_at C1 None other s = s
  no_fault_at C2 None other s = s
  no_fault_at C3 None other s = s
  no_fault_at C4 None other s = s
  no_fault_at C5 None other s = s
  no_fault_at C6 None other s = s

-- A text in which the condition of a code stands, other than want of memory, stands for no tree.
pub no_tree : (read : Option Members) (code : StaticCode) (template : Option ℕ) → IsAtFault read code template → code ≢ Memory
    → (document : Members) (tree : Tree) → read ≡ Some document → IsTree document tree → ⊥
no_tree read code template (inl unwritten) other document tree is h = not_unwritten read code template document h.written other is h.shape unwritten
no_tree read code template (inr fault) other document tree is h =
    let same_document : fault.document ≡ document = some_is (sym fault.reads ∙ is) in
    let same : fault.written ≡ h.written = one_set document fault.written h.written
    (subst (λ d. WritesSet d fault.written) same_document fault.shape) h.shape in
    no_fault_at h code template other (subst (λ ts. IsFaultAt ts code template) same fault.stands)
