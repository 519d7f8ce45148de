-- The templates of the items of an array, one after the other.
use Rattle.std.proofs.Common.{◌≡◌, ℕ, ◌+◌, ◌<◌, ◌≤◌, List, [], ◌∷◌, ◌++◌, length, map, drop, get_or, refl, ap, sym, ◌∙◌, arith, suc, Option}
use Rattle.std.proofs.Common.{Some, None, Bool, true, false, append_assoc, ◌≢◌, codes, le-leb, nat_le, ◌&&◌, inl, inr}
use Rattle.std.proofs.lemmas.List.{map-append}
use Rattle.toml.specs.Data.{Data, Items, Members, get_item, get_member, as_array}
use Rattle.toml.specs.View.{view, items_view, members_view}
use Rattle.toml.proofs.Views.{items_view-drop, Entry}
use Rattle.toml.specs.declared.value.Value.{Value}
use Rattle.fast_tree.specs.meaning.AsWritten.{DeclaredTemplate}
use Rattle.fast_notation.specs.device.Reading.{◌>>=◌, checked, template_in, all_templates, members_count, items_count, are_tables, are_templates, tables_of}
use Rattle.fast_notation.specs.device.WrittenReading.{IsUnread}
use Rattle.fast_notation.specs.declared.keys.Unread.{Unread}
use Rattle.fast_notation.specs.declared.keys.Unread.TheVariants.{Shape, Memory}
use Rattle.fast_notation.specs.declared.codes.StaticFault.{StaticFault}
use Rattle.fast_notation.specs.declared.codes.StaticCode.TheVariants.{S1, Memory as NoMemory}
use Rattle.std.specs.Prelude.{if◌then◌else◌, nat_eq, is_some, IfSome, IsSome}
use Rattle.std.proofs.lemmas.Bool.{cases_lt}
use Rattle.std.proofs.lemmas.Bool.Decides.{nat_tests}
use Rattle.fast_notation.specs.device.WrittenSets.{written_data}
use Rattle.fast_notation.specs.declared.written.WrittenTemplate.{WrittenTemplate}

-- templates in front of the others
abbrev pub front : List DeclaredTemplate → Option (List DeclaredTemplate) → Option (List DeclaredTemplate)
front ts o = o >>= (λ us. Some (ts ++ us))

front_push : (ts : List DeclaredTemplate) (t : DeclaredTemplate) (o : Option (List DeclaredTemplate))
    → front (ts ++ t ∷ []) o ≡ front ts (o >>= (λ us. Some (t ∷ us)))
front_push ts t None = refl
front_push ts t (Some us) = ap Some (append_assoc ts (t ∷ []) us)

-- one item more is read
pub front_more : (ws : List WrittenTemplate) (w : WrittenTemplate) (vs : List Value) (i : ℕ) (d : Value) (all : Option (List DeclaredTemplate)) → i < length vs
    → template_in (view (get_or vs i d)) ≡ Some (written_data w) → front (map written_data ws) (all_templates (items_view (drop i vs))) ≡ all
    → front (map written_data (ws ++ w ∷ [])) (all_templates (items_view (drop (i + 1) vs))) ≡ all
front_more ws w vs i d all inside read before =
    let rest = all_templates (items_view (drop (i + 1) vs)) in
    ap (λ ts. front ts rest) (map-append written_data ws (w ∷ []))
    ∙ front_push (map written_data ws) (written_data w) rest
    ∙ ap (λ o. front (map written_data ws) (o >>= (λ t. rest >>= (λ us. Some (t ∷ us))))) (sym read)
    ∙ sym (ap (λ xs. front (map written_data ws) (all_templates xs)) (items_view-drop vs i d inside)) ∙ before

-- as many members as entries
pub members_count-view : (es : List Entry) → members_count (members_view es) ≡ length es
members_count-view [] = refl
members_count-view (e ∷ es) = ap suc (members_count-view es)

-- as many items as values
pub items_count-view : (vs : List Value) → items_count (items_view vs) ≡ length vs
items_count-view [] = refl
items_count-view (v ∷ vs) = ap suc (items_count-view vs)

-- the tables of a document
pub tables_found : (ms : Members) (d : Data) (xs : Items) → members_count ms ≡ 1 → get_member (codes "template") ms ≡ Some d
    → as_array d ≡ Some xs → are_templates xs ≡ true → tables_of ms ≡ Some xs
tables_found ms d xs one found is_array good = rw (one, found, is_array, good) refl

-- a document of more or fewer keys has none
pub tables_of_others : (ms : Members) → members_count ms ≢ 1 → tables_of ms ≡ None
tables_of_others ms other = ap (λ b. if b then get_member (codes "template") ms >>= as_array >>=
    (λ xs. checked (are_templates xs) xs) else None) (eqb-false other)
  where
    eqb-false : {n : ℕ} → n ≢ 1 → nat_eq n 1 ≡ false
    eqb-false h = grind (arith, nat_tests)

-- so many items, each a table
pub templates_are : (vs : List Value) → 1 ≤ length vs → length vs ≤ 4294967295 → are_tables (items_view vs) ≡ are_templates (items_view vs)
templates_are vs some few = rw (items_count-view vs, le-leb 1 (length vs) some, le-leb (length vs) 4294967295 few) refl

-- no items, or too many
pub no_templates : (vs : List Value) → length vs ≡ 0 → are_templates (items_view vs) ≡ false
no_templates [] e = refl
no_templates (v ∷ vs) e = absurd (omega (arith, e))

pub too_many_templates : (vs : List Value) → 4294967295 < length vs → are_templates (items_view vs) ≡ false
too_many_templates vs many =
    let c = items_count-view vs in
    let test : nat_le (items_count (items_view vs)) 4294967295 ≡ false = grind (arith, nat_tests, c, many) in
    ap (λ b. nat_le 1 (items_count (items_view vs)) && b && are_tables (items_view vs)) test
    ∙ never (nat_le 1 (items_count (items_view vs))) (are_tables (items_view vs))
  where
    never : (a b : Bool) → (a && false && b) ≡ false
    never true b = refl
    never false b = refl

-- the fault of an item that was not read
pub unread_fault : (f : Unread) (r : StaticFault) (xs : Items) (k : ℕ) (d : Data) → (f ≡ Shape → r ≡ record {
  code = S1;
  template = Some k;
}) → (f ≡ Memory → r ≡ record { code = NoMemory; template = None })
    → get_item k xs ≡ Some d → (f ≡ Shape → template_in d ≡ None) → IsUnread xs r.code r.template
unread_fault Shape r xs k d shape memory found none = rw (shape refl) (d, found, none refl)
unread_fault Memory r xs k d shape memory found none = rw (memory refl) tt

-- what was read before it
pub unread_first : (f : Unread) (r : StaticFault) (k : ℕ) (P : ℕ → Type 0) → (f ≡ Shape → r ≡ record {
  code = S1;
  template = Some k;
}) → (f ≡ Memory → r ≡ record { code = NoMemory; template = None })
    → P k → IfSome r.template (λ n. (r.code ≡ S1) × P n)
unread_first Shape r k P shape memory h = rw (shape refl) (refl, h)
unread_first Memory r k P shape memory h = rw (memory refl) tt

some_is : {A : Type 0} {a b : A} → Some a ≡ Some b → a ≡ b
some_is h = cc

-- one item more
pub read_more : (xs : Items) (k : ℕ) (d : Data) (t : DeclaredTemplate) → get_item k xs ≡ Some d → template_in d ≡ Some t
    → ((j : ℕ) (e : Data) → j < k → get_item j xs ≡ Some e → IsSome (template_in e))
    → (j : ℕ) (e : Data) → j < k + 1 → get_item j xs ≡ Some e → IsSome (template_in e)
read_more xs k d t found read before j e below at = elim (cases_lt j k) [
  | inl h ↦ before j e h at
  | inr h ↦
      let here : k ≡ j = omega (arith, h, below) in
      let same : d ≡ e = some_is (sym found ∙ ap (λ i. get_item i xs) here ∙ at) in
      ap is_some (ap template_in (sym same) ∙ read)
]
