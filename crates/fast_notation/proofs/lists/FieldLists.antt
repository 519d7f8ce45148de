-- The instructions at the key `fields`, and those of the items of an array, one after the other.
use Rattle.std.proofs.Common.{◌≡◌, ◌≢◌, inl, inr, ℕ, ◌+◌, ◌<◌, ◌≤◌, max, List, [], ◌∷◌, ◌++◌, length, map, drop, get_or, refl, ap, sym, ◌∙◌}
use Rattle.std.proofs.Common.{arith, suc, zero, Option, Some, None, Ordering, Less, Equal, Greater, codes, nat_cmp, Bool, true, false}
use Rattle.std.specs.Prelude.{if◌then◌else◌}
use Rattle.std.specs.Ordering.{match_ordering}
use Rattle.std.specs.Cmp.Lexicographic.{slice_cmp}
use Rattle.std.specs.Str.{bytes_eq}
use Rattle.std.proofs.lemmas.Slice.Eq.{bytes_eq-Decides}
use Rattle.std.proofs.lemmas.Bool.{cases_Bool}
use Rattle.std.proofs.lemmas.List.{map-append, drop_all}
use Rattle.toml.specs.Data.{Data, string, integer, float, boolean, datetime, array, table, Items, no_items, Members, no_members, member}
use Rattle.toml.specs.Data.{get_member, as_table, depth, items_depth, members_depth}
use Rattle.toml.specs.View.{view, items_view}
use Rattle.toml.proofs.Views.{items_view-drop}
use Rattle.toml.specs.declared.value.Value.{Value}
use Rattle.fast_tree.specs.meaning.AsWritten.{Declared, DeclaredList, no_more}
use Rattle.fast_notation.specs.device.Reading.{◌>>=◌, has_only, text_of, of_kind, name_of, flag_of, length_of, items_of, in_front}
use Rattle.fast_notation.specs.device.Reading.{declared_of, fields_of, array_fields, all_fields, group_of, sequence_of, reference_of}
use Rattle.fast_notation.specs.device.Reading.{kind_named, field_of}
use Rattle.fast_notation.specs.device.WrittenSets.{list_of, instruction_data, fields_data}
use Rattle.fast_notation.specs.declared.written.WrittenInstruction.{WrittenInstruction}

-- what stands at `fields`
abbrev fields_at : Option Data → Option DeclaredList
fields_at None = Some no_more
fields_at (Some d) = array_fields d

at_ordering : (o : Ordering) (a : Option Data) (d : Data)
    → match_ordering o (fields_at a) (array_fields d) (fields_at a) ≡ fields_at (match_ordering o a (Some d) a)
at_ordering Less a d = refl
at_ordering Equal a d = refl
at_ordering Greater a d = refl

fields_found : (ms : Members) → fields_of ms ≡ fields_at (get_member (codes "fields") ms)
fields_found no_members = refl
fields_found (member k d ms) =
    ap (λ r. match_ordering (slice_cmp nat_cmp (codes "fields") k) r (array_fields d) r) (fields_found ms)
    ∙ at_ordering (slice_cmp nat_cmp (codes "fields") k) (get_member (codes "fields") ms) d

fields_items : (o : Option Data) (xs : Items) → items_of o ≡ Some xs → fields_at o ≡ all_fields xs
fields_items None xs e = ap all_fields (let s : no_items ≡ xs = cc in s)
fields_items (Some (array ys)) xs e = ap all_fields (let s : ys ≡ xs = cc in s)
fields_items (Some (string x)) xs e = absurd (cc)
fields_items (Some (integer x)) xs e = absurd (cc)
fields_items (Some (float x)) xs e = absurd (cc)
fields_items (Some (boolean x)) xs e = absurd (cc)
fields_items (Some (datetime x)) xs e = absurd (cc)
fields_items (Some (table x)) xs e = absurd (cc)

fields_no_items : (o : Option Data) → items_of o ≡ None → fields_at o ≡ None
fields_no_items None e = absurd (cc)
fields_no_items (Some (array ys)) e = absurd (cc)
fields_no_items (Some (string x)) e = refl
fields_no_items (Some (integer x)) e = refl
fields_no_items (Some (float x)) e = refl
fields_no_items (Some (boolean x)) e = refl
fields_no_items (Some (datetime x)) e = refl
fields_no_items (Some (table x)) e = refl

-- the instructions at `fields` are those of its items
pub fields_of_items : (ms : Members) (xs : Items) → items_of (get_member (codes "fields") ms) ≡ Some xs → fields_of ms ≡ all_fields xs
fields_of_items ms xs e = fields_found ms ∙ fields_items (get_member (codes "fields") ms) xs e

-- there are none where it holds no array
pub fields_of_none : (ms : Members) → items_of (get_member (codes "fields") ms) ≡ None → fields_of ms ≡ None
fields_of_none ms e = fields_found ms ∙ fields_no_items (get_member (codes "fields") ms) e

-- what stands at a key is less deep than the table
below_ordering : (o : Ordering) (a : Option Data) (d e : Data) (n : ℕ) → match_ordering o a (Some d) a ≡ Some e
    → (a ≡ Some e → depth e ≤ n) → depth e ≤ max (depth d) n
below_ordering Less a d e n found before = let h = before found in omega (arith, h)
below_ordering Greater a d e n found before = let h = before found in omega (arith, h)
below_ordering Equal a d e n found before = let h : depth d ≡ depth e = ap depth (let s : d ≡ e = cc in s) in omega (arith, h)

member_below : (k : List ℕ) (ms : Members) (e : Data) → get_member k ms ≡ Some e → depth e ≤ members_depth ms
member_below k no_members e found = absurd (cc)
member_below k (member l d ms) e found = below_ordering (slice_cmp nat_cmp k l) (get_member k ms) d e (members_depth ms) found (member_below k ms e)

items_below_at : (o : Option Data) (xs : Items) (n : ℕ) → items_of o ≡ Some xs → ((e : Data) → o ≡ Some e → depth e ≤ n) → items_depth xs ≤ n
items_below_at None xs n e below = let h : items_depth xs ≡ 0 = ap items_depth (let s : xs ≡ no_items = cc in s) in omega (arith, h)
items_below_at (Some (array ys)) xs n e below = let h : items_depth ys ≡ items_depth xs = ap items_depth (let s : ys ≡ xs = cc in s) in
    let b = below (array ys) refl in omega (arith, h, b)
items_below_at (Some (string x)) xs n e below = absurd (cc)
items_below_at (Some (integer x)) xs n e below = absurd (cc)
items_below_at (Some (float x)) xs n e below = absurd (cc)
items_below_at (Some (boolean x)) xs n e below = absurd (cc)
items_below_at (Some (datetime x)) xs n e below = absurd (cc)
items_below_at (Some (table x)) xs n e below = absurd (cc)

-- the items at a key are less deep than the table
pub items_below : (k : List ℕ) (ms : Members) (xs : Items) → items_of (get_member k ms) ≡ Some xs → items_depth xs ≤ members_depth ms
items_below k ms xs e = items_below_at (get_member k ms) xs (members_depth ms) e (member_below k ms)

-- an item is no deeper than the items
pub item_below : (vs : List Value) (i : ℕ) (d : Value) → i < length vs → depth (view (get_or vs i d)) ≤ items_depth (items_view vs)
item_below [] i d inside = absurd (omega arith)
item_below (v ∷ vs) zero d inside = omega arith
item_below (v ∷ vs) (suc i) d inside = let h = item_below vs i d (omega arith) in omega (arith, h)

-- instructions in front of the others
abbrev pub front : List Declared → Option DeclaredList → Option DeclaredList
front [] o = o
front (d ∷ ds) o = in_front (Some d) (front ds o)

front_push : (ds : List Declared) (d : Declared) (o : Option DeclaredList) → front (ds ++ d ∷ []) o ≡ front ds (in_front (Some d) o)
front_push [] d o = refl
front_push (e ∷ ds) d o = ap (in_front (Some e)) (front_push ds d o)

front_none : (ds : List Declared) → front ds None ≡ None
front_none [] = refl
front_none (d ∷ ds) = ap (in_front (Some d)) (front_none ds)

front_end : (ds : List Declared) → front ds (Some no_more) ≡ Some (list_of ds)
front_end [] = refl
front_end (d ∷ ds) = ap (in_front (Some d)) (front_end ds)

-- one item more is read
pub front_more : (fs : List WrittenInstruction) (w : WrittenInstruction) (vs : List Value) (i : ℕ) (d : Value) (all : Option DeclaredList) → i < length vs
    → declared_of (view (get_or vs i d)) ≡ Some (instruction_data w) → front (map instruction_data fs) (all_fields (items_view (drop i vs))) ≡ all
    → front (map instruction_data (fs ++ w ∷ [])) (all_fields (items_view (drop (i + 1) vs))) ≡ all
front_more fs w vs i d all inside read before =
    let rest = all_fields (items_view (drop (i + 1) vs)) in
    ap (λ ds. front ds rest) (map-append instruction_data fs (w ∷ []))
    ∙ front_push (map instruction_data fs) (instruction_data w) rest
    ∙ ap (λ o. front (map instruction_data fs) (in_front o rest)) (sym read)
    ∙ sym (ap (λ xs. front (map instruction_data fs) (all_fields xs)) (items_view-drop vs i d inside)) ∙ before

-- one item is not read
pub front_stops : (fs : List WrittenInstruction) (vs : List Value) (i : ℕ) (d : Value) (all : Option DeclaredList) → i < length vs
    → declared_of (view (get_or vs i d)) ≡ None → front (map instruction_data fs) (all_fields (items_view (drop i vs))) ≡ all → all ≡ None
front_stops fs vs i d all inside none before =
    let rest = all_fields (items_view (drop (i + 1) vs)) in
    sym before ∙ ap (λ xs. front (map instruction_data fs) (all_fields xs)) (items_view-drop vs i d inside)
    ∙ ap (λ o. front (map instruction_data fs) (in_front o rest)) none ∙ front_none (map instruction_data fs)

-- all items are read
pub front_ends : (fs : List WrittenInstruction) (vs : List Value) (i : ℕ) (all : Option DeclaredList) → length vs ≤ i
    → front (map instruction_data fs) (all_fields (items_view (drop i vs))) ≡ all → all ≡ Some (fields_data fs)
front_ends fs vs i all end before =
    sym before ∙ ap (λ ws. front (map instruction_data fs) (all_fields (items_view ws))) (drop_all i vs end) ∙ front_end (map instruction_data fs)

-- either way nothing
nothing_if : {A : Type 0} (b : Bool) (o : Option A) → o ≡ None → (if b then o else None) ≡ None
nothing_if true o e = e
nothing_if false o e = refl

-- a step behind which there is nothing
step_nothing : {A B : Type 0} (o : Option A) (f : A → Option B) → ((x : A) → f x ≡ None) → (o >>= f) ≡ None
step_nothing None f e = refl
step_nothing (Some x) f e = e x

-- a group of no instructions that can be read
pub group_of_none : (ms : Members) → group_of ms None ≡ None
group_of_none ms =
    nothing_if (has_only (codes "kind" ∷ codes "name" ∷ codes "optional" ∷ codes "fields" ∷ []) ms) _
    (step_nothing (name_of (get_member (codes "name") ms)) _ (λ name. step_nothing (flag_of (get_member (codes "optional") ms)) _ (λ optional. refl)))

-- a sequence of no instructions that can be read
pub sequence_of_none : (ms : Members) → sequence_of ms None ≡ None
sequence_of_none ms =
    nothing_if (has_only (codes "kind" ∷ codes "name" ∷ codes "optional" ∷ codes "fields" ∷ codes "length" ∷ []) ms) _
    (step_nothing (name_of (get_member (codes "name") ms)) _ (λ name. step_nothing (flag_of (get_member (codes "optional") ms)) _
    (λ optional. step_nothing (length_of (get_member (codes "length") ms)) _ (λ l. refl))))

-- the table of data that is one
pub table_is : (d : Data) (ms : Members) → as_table d ≡ Some ms → d ≡ table ms
table_is (table ns) ms e = ap table (let s : ns ≡ ms = cc in s)
table_is (array x) ms e = absurd (cc)
table_is (string x) ms e = absurd (cc)
table_is (integer x) ms e = absurd (cc)
table_is (float x) ms e = absurd (cc)
table_is (boolean x) ms e = absurd (cc)
table_is (datetime x) ms e = absurd (cc)

-- the instruction of a table of a kind, by what its `fields` hold
kind_read : (d : Data) (ms : Members) (t : Option (List ℕ)) (kind : List ℕ) (inner : Option DeclaredList) → as_table d ≡ Some ms
    → text_of (get_member (codes "kind") ms) ≡ Some t → t ≡ Some kind
    → fields_of ms ≡ inner → declared_of d ≡ of_kind kind ms inner
kind_read d ms t kind inner is_table text some fields =
    ap declared_of (table_is d ms is_table)
    ∙ ap (λ o. o >>= (λ s. s >>= (λ k. of_kind k ms (fields_of ms)))) text
    ∙ ap (λ s. s >>= (λ k. of_kind k ms (fields_of ms))) some
    ∙ ap (of_kind kind ms) fields

-- a group, a sequence, a reference, or a field of a kind
pub group_read : (d : Data) (ms : Members) (t : Option (List ℕ)) (kind : List ℕ) (inner : Option DeclaredList) → as_table d ≡ Some ms
    → text_of (get_member (codes "kind") ms) ≡ Some t
    → t ≡ Some kind → kind ≡ codes "group" → fields_of ms ≡ inner → declared_of d ≡ group_of ms inner
group_read d ms t kind inner is_table text some group fields = kind_read d ms t kind inner is_table text some fields ∙ ap (λ k. of_kind k ms inner) group

pub sequence_read : (d : Data) (ms : Members) (t : Option (List ℕ)) (kind : List ℕ) (inner : Option DeclaredList) → as_table d ≡ Some ms
    → text_of (get_member (codes "kind") ms) ≡ Some t
    → t ≡ Some kind → kind ≡ codes "sequence" → fields_of ms ≡ inner → declared_of d ≡ sequence_of ms inner
sequence_read d ms t kind inner is_table text some sequence fields = kind_read d ms t kind inner is_table text some fields
    ∙ ap (λ k. of_kind k ms inner) sequence

pub reference_read : (d : Data) (ms : Members) (t : Option (List ℕ)) (kind : List ℕ) → as_table d ≡ Some ms
    → text_of (get_member (codes "kind") ms) ≡ Some t → t ≡ Some kind
    → kind ≡ codes "ref" → declared_of d ≡ reference_of ms
reference_read d ms t kind is_table text some ref = kind_read d ms t kind (fields_of ms) is_table text some refl ∙ ap (λ k. of_kind k ms (fields_of ms)) ref

differs : (s t : List ℕ) → s ≢ t → bytes_eq s t ≡ false
differs s t other = elim (cases_Bool (bytes_eq s t)) as (λ _. bytes_eq s t ≡ false) [
  | inl same ↦ absurd (other ((bytes_eq-Decides s t).0 same))
  | inr e ↦ e
]

passed_over : {A : Type 0} (b : Bool) (x y : A) → b ≡ false → (if b then x else y) ≡ y
passed_over b x y e = ap (λ c. if c then x else y) e

pub other_read : (d : Data) (ms : Members) (t : Option (List ℕ)) (kind : List ℕ) → as_table d ≡ Some ms
    → text_of (get_member (codes "kind") ms) ≡ Some t → t ≡ Some kind
    → kind ≢ codes "group" → kind ≢ codes "sequence" → kind ≢ codes "ref" → declared_of d ≡ (kind_named kind >>= (λ k. field_of k ms))
other_read d ms t kind is_table text some not_group not_sequence not_ref =
    kind_read d ms t kind (fields_of ms) is_table text some refl
    ∙ passed_over (bytes_eq kind (codes "group")) _ _ (differs kind (codes "group") not_group)
    ∙ passed_over (bytes_eq kind (codes "sequence")) _ _ (differs kind (codes "sequence") not_sequence)
    ∙ passed_over (bytes_eq kind (codes "ref")) _ _ (differs kind (codes "ref") not_ref)

-- data without a table, and a table without a kind
pub no_table : (d : Data) → as_table d ≡ None → declared_of d ≡ None
no_table (table ms) e = absurd (cc)
no_table (array x) e = refl
no_table (string x) e = refl
no_table (integer x) e = refl
no_table (float x) e = refl
no_table (boolean x) e = refl
no_table (datetime x) e = refl

pub kind_unread : (d : Data) (ms : Members) → as_table d ≡ Some ms → text_of (get_member (codes "kind") ms) ≡ None → declared_of d ≡ None
kind_unread d ms is_table none = ap declared_of (table_is d ms is_table) ∙ ap (λ o. o >>= (λ s. s >>= (λ k. of_kind k ms (fields_of ms)))) none

pub no_kind : (d : Data) (ms : Members) (t : Option (List ℕ)) → as_table d ≡ Some ms → text_of (get_member (codes "kind") ms) ≡ Some t
    → t ≡ None → declared_of d ≡ None
no_kind d ms t is_table text none =
    ap declared_of (table_is d ms is_table)
    ∙ ap (λ o. o >>= (λ s. s >>= (λ k. of_kind k ms (fields_of ms)))) text
    ∙ ap (λ s. s >>= (λ k. of_kind k ms (fields_of ms))) none

-- a group's instructions can't be read
pub group_unread : (d : Data) (ms : Members) (t : Option (List ℕ)) (kind : List ℕ) → as_table d ≡ Some ms
    → text_of (get_member (codes "kind") ms) ≡ Some t → t ≡ Some kind
    → kind ≡ codes "group" → fields_of ms ≡ None → declared_of d ≡ None
group_unread d ms t kind is_table text some group none =
    kind_read d ms t kind None is_table text some none ∙ ap (λ k. of_kind k ms None) group ∙ group_of_none ms

-- a sequence's instructions can't be read
pub sequence_unread : (d : Data) (ms : Members) (t : Option (List ℕ)) (kind : List ℕ) → as_table d ≡ Some ms
    → text_of (get_member (codes "kind") ms) ≡ Some t → t ≡ Some kind
    → kind ≡ codes "sequence" → fields_of ms ≡ None → declared_of d ≡ None
sequence_unread d ms t kind is_table text some sequence none =
    kind_read d ms t kind None is_table text some none ∙ ap (λ k. of_kind k ms None) sequence ∙ sequence_of_none ms
