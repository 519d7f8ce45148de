-- The templates and the sets that documents write: as they are computed, and as the notation defines them.
use Rattle.std.proofs.Common.{◌≡◌, ℕ, ◌<◌, ◌≤◌, ◌^◌, ◌⊎◌, inl, inr, List, [], ◌∷◌, length, refl, ap, sym, ◌∙◌, subst, arith, suc, zero}
use Rattle.std.proofs.Common.{Option, Some, None, true, ◌&&◌, codes, Ordering, Less, Equal, Greater, nat_cmp, nat_lt, nat_le, le-leb}
use Rattle.std.specs.Prelude.{nat_eq, pos, negsuc, IfSome, IsSome}
use Rattle.std.specs.Ordering.{match_ordering, is_eq}
use Rattle.std.specs.Cmp.Lexicographic.{slice_cmp}
use Rattle.std.proofs.lemmas.Map.Text.{is_eq-slice_cmp}
use Rattle.std.proofs.lemmas.Bool.{and_parts, false≢true}
use Rattle.std.proofs.lemmas.Bool.Decides.{nat_tests}
use Rattle.toml.specs.Data.{Data, string, integer, float, boolean, datetime, array, table, Items, no_items, item, Members, no_members}
use Rattle.toml.specs.Data.{member, get_member, get_item, as_array}
use Rattle.fast_notation.specs.declared.codes.StaticCode.{StaticCode}
use Rattle.fast_tree.specs.meaning.AsWritten.{DeclaredTemplate}
use Rattle.fast_notation.specs.meaning.Firsts.{IsFirstUnwritten}
use Rattle.fast_notation.specs.meaning.Notation.{TextAt, IsDictionary, IdAt, WritesTemplate, WritesTemplates, WritesSet}
use Rattle.fast_notation.specs.device.Reading.{◌>>=◌, has_only, text_of, flag_of, name_of, id_of, is_dictionary, dictionary_named}
use Rattle.fast_notation.specs.device.Reading.{dictionary_of, fields_of, template_of, template_in, all_templates, are_tables, are_templates}
use Rattle.fast_notation.specs.device.Reading.{items_count, members_count, tables_of}
use Rattle.fast_notation.specs.declared.codes.StaticCode.TheVariants.{S1, S2, S3, S4, S5, D8, C1, C2, C3, C4, C5, C6, Memory}
use Rattle.fast_notation.specs.meaning.Unwritten.{AreTables, HasTables, IsUnwritten}
use Rattle.fast_notation.specs.device.WrittenReading.{IsUnread}
use Rattle.fast_notation.proofs.lists.FieldLists.{fields_of_items}
use Rattle.fast_notation.proofs.texts.ReadingPieces.{some_after, some_if, some_is, same_text, keys_only, only_keys, text_there, there_text}
use Rattle.fast_notation.proofs.texts.ReadingPieces.{name_there, there_name, flag_there, there_flag, there_items, dictionary_passes}
use Rattle.fast_notation.proofs.texts.ReadingPieces.{passed_dictionary}
use Rattle.fast_notation.proofs.texts.ReadingLaws.{fields_write}
use Rattle.fast_notation.proofs.texts.WrittenLaws.{written_all}

-- the keys of a template
abbrev template_keys : List (List ℕ)
template_keys = codes "name" ∷ codes "id" ∷ codes "reset" ∷ codes "dictionary" ∷ codes "fields" ∷ []

-- identifiers
id_there : (ms : Members) (id : Option ℕ) → id_of (get_member (codes "id") ms) ≡ Some id → IdAt ms id
id_there ms id e = at (get_member (codes "id") ms) id e refl
  where
    below : (n : ℕ) → nat_lt n 4294967296 ≡ true → n < 4294967296
    below n h = grind (arith, nat_tests)

    at : (o : Option Data) (id : Option ℕ) → id_of o ≡ Some id → get_member (codes "id") ms ≡ o → IdAt ms id
    at None None e g = g
    at None (Some n) e g = absurd (cc)
    at (Some (integer (pos n))) None e g = let b = some_if (nat_lt n 4294967296) (Some (Some n)) None e in absurd (cc b.1)
    at (Some (integer (pos n))) (Some m) e g =
        let b = some_if (nat_lt n 4294967296) (Some (Some n)) (Some m) e in
        let same : n ≡ m = some_is (some_is b.1) in
        let small : n < 4294967296 = below n b.0 in
        (g ∙ ap (λ k. Some (integer (pos k))) same, subst (λ k. k < 4294967296) same small)
    at (Some (integer (negsuc n))) id e g = absurd (cc)
    at (Some (boolean r)) id e g = absurd (cc)
    at (Some (string x)) id e g = absurd (cc)
    at (Some (float x)) id e g = absurd (cc)
    at (Some (datetime x)) id e g = absurd (cc)
    at (Some (array x)) id e g = absurd (cc)
    at (Some (table x)) id e g = absurd (cc)

there_id : (ms : Members) (id : Option ℕ) → IdAt ms id → id_of (get_member (codes "id") ms) ≡ Some id
there_id ms None h = ap id_of h
there_id ms (Some n) h = ap id_of h.0 ∙ rw (test n h.1) refl
  where
    test : (n : ℕ) → n < 4294967296 → nat_lt n 4294967296 ≡ true
    test n h = grind (arith, nat_tests)

-- the dictionary of a template
dictionary_there : (ms : Members) (s : List ℕ) → dictionary_of (get_member (codes "dictionary") ms) ≡ Some s
    → TextAt (codes "dictionary") ms (Some s) × IsDictionary s ⊎ TextAt (codes "dictionary") ms None × (s ≡ codes "global")
dictionary_there ms s e =
    let t = some_after (text_of (get_member (codes "dictionary") ms)) dictionary_named s e in
    at t.0 (text_there (codes "dictionary") ms t.0 t.1) t.2
  where
    at : (t : Option (List ℕ)) → TextAt (codes "dictionary") ms t → dictionary_named t ≡ Some s
        → TextAt (codes "dictionary") ms (Some s) × IsDictionary s ⊎ TextAt (codes "dictionary") ms None × (s ≡ codes "global")
    at None h e = inr (h, sym (some_is e))
    at (Some r) h e =
        let b = some_if (is_dictionary r) (Some r) s e in
        let same : r ≡ s = some_is b.1 in
        inl (h ∙ ap (λ x. Some (string x)) same, subst IsDictionary same (passed_dictionary r b.0))

there_dictionary : (ms : Members) (s : List ℕ) → TextAt (codes "dictionary") ms (Some s) × IsDictionary s
    ⊎ TextAt (codes "dictionary") ms None × (s ≡ codes "global")
    → dictionary_of (get_member (codes "dictionary") ms) ≡ Some s
there_dictionary ms s (inl h) = rw (there_text (codes "dictionary") ms (Some s) h.0, dictionary_passes s h.1) refl
there_dictionary ms s (inr h) = rw (there_text (codes "dictionary") ms None h.0) (ap Some (sym h.1))

-- a template's table
pub template_written : (ms : Members) (t : DeclaredTemplate) → template_of ms ≡ Some t → WritesTemplate ms t
template_written ms t e =
    let b = some_if (has_only template_keys ms) _ t e in
    let n = some_after (name_of (get_member (codes "name") ms)) _ t b.1 in
    let i = some_after (id_of (get_member (codes "id") ms)) _ t n.2 in
    let r = some_after (flag_of (get_member (codes "reset") ms)) _ t i.2 in
    let d = some_after (dictionary_of (get_member (codes "dictionary") ms)) _ t r.2 in
    let f = some_after (fields_of ms) _ t d.2 in
    let w = fields_write ms f.0 f.1 in
    subst (WritesTemplate ms) (some_is f.2) (record {
      items = w.0;
      only = only_keys template_keys ms b.0;
      name = name_there (codes "name") ms n.0 n.1;
      id = id_there ms i.0 i.1;
      reset = flag_there (codes "reset") ms r.0 r.1;
      dictionary = dictionary_there ms d.0 d.1;
      fields_at = w.1;
      fields = w.2;
    })

pub written_template : (ms : Members) (t : DeclaredTemplate) → WritesTemplate ms t → template_of ms ≡ Some t
written_template ms t h =
    rw (
      keys_only template_keys ms h.only,
      there_name (codes "name") ms t.name h.name,
      there_id ms t.id h.id,
      there_flag (codes "reset") ms t.reset h.reset,
      there_dictionary ms t.dictionary h.dictionary,
      fields_of_items ms h.items (there_items (codes "fields") ms h.items h.fields_at),
      written_all t.fields h.items h.fields,
    ) refl

-- all templates
pub templates_written : (xs : Items) (ts : List DeclaredTemplate) → all_templates xs ≡ Some ts → WritesTemplates xs ts × (length ts ≡ items_count xs)
templates_written no_items ts e = subst (λ us. WritesTemplates no_items us × (length us ≡ 0)) (some_is e) (refl, refl)
templates_written (item d xs) ts e =
    let h = some_after (template_in d) _ ts e in
    let r = some_after (all_templates xs) _ ts h.2 in
    let rest = templates_written xs r.0 r.1 in
    let w = in_table d h.0 h.1 in
    subst (λ us. WritesTemplates (item d xs) us × (length us ≡ suc (items_count xs))) (some_is r.2)
    ((w.0, xs, ap (λ x. item x xs) w.1, w.2, rest.0), ap suc rest.1)
  where
    in_table : (d : Data) (t : DeclaredTemplate) → template_in d ≡ Some t → (ms : Members) × (d ≡ table ms) × WritesTemplate ms t
    in_table (table ms) t e = (ms, refl, template_written ms t e)
    in_table (array x) t e = absurd (cc)
    in_table (string x) t e = absurd (cc)
    in_table (integer x) t e = absurd (cc)
    in_table (float x) t e = absurd (cc)
    in_table (boolean x) t e = absurd (cc)
    in_table (datetime x) t e = absurd (cc)

-- tables
pub tables_are : (xs : Items) → are_tables xs ≡ true → AreTables xs
tables_are no_items e = tt
tables_are (item (table ms) xs) e = (ms, refl, tables_are xs e)
tables_are (item (array x) xs) e = absurd (false≢true e)
tables_are (item (string x) xs) e = absurd (false≢true e)
tables_are (item (integer x) xs) e = absurd (false≢true e)
tables_are (item (float x) xs) e = absurd (false≢true e)
tables_are (item (boolean x) xs) e = absurd (false≢true e)
tables_are (item (datetime x) xs) e = absurd (false≢true e)

are_the_tables : (xs : Items) → AreTables xs → are_tables xs ≡ true
are_the_tables no_items h = refl
are_the_tables (item d xs) h = ap (λ x. are_tables (item x xs)) h.1 ∙ are_the_tables xs h.2

-- the table at a number
pub table_at : (xs : Items) (k : ℕ) (d : Data) → AreTables xs → get_item k xs ≡ Some d → (ms : Members) × (d ≡ table ms)
table_at no_items zero d h e = absurd (cc)
table_at no_items (suc k) d h e = absurd (cc)
table_at (item x xs) zero d h e = (h.0, sym (some_is e) ∙ h.1)
table_at (item x xs) (suc k) d h e = table_at xs k d h.2 e

-- a document's tables
pub tables_there : (document : Members) (xs : Items) → tables_of document ≡ Some xs → HasTables document xs
tables_there document xs e =
    let b = some_if (nat_eq (members_count document) 1) _ xs e in
    let a = some_after (get_member (codes "template") document >>= as_array) _ xs b.1 in
    let d = some_after (get_member (codes "template") document) as_array a.0 a.1 in
    let c = some_if (are_templates a.0) (Some a.0) xs a.2 in
    let same : a.0 ≡ xs = some_is c.1 in
    let (counts, tables) = and_parts (nat_le 1 (items_count a.0) && nat_le (items_count a.0) 4294967295) (are_tables a.0) c.0 in
    let (some, few) = and_parts (nat_le 1 (items_count a.0)) (nat_le (items_count a.0) 4294967295) counts in
    subst (HasTables document) same (
      one_member document d.0 a.0 (one_is (members_count document) b.0) d.1 d.2,
      tables_are a.0 tables,
      at_least (items_count a.0) some,
      at_most (items_count a.0) few,
    )
  where
    one_is : (n : ℕ) → nat_eq n 1 ≡ true → n ≡ 1
    one_is n h = grind (arith, nat_tests)

    at_least : (n : ℕ) → nat_le 1 n ≡ true → 1 ≤ n
    at_least n h = grind (arith, nat_tests)

    at_most : (n : ℕ) → nat_le n 4294967295 ≡ true → n < 2 ^ 32
    at_most n h = grind (arith, nat_tests)

    an_array : (d : Data) (xs : Items) → as_array d ≡ Some xs → d ≡ array xs
    an_array (array ys) xs e = ap array (some_is e)
    an_array (table x) xs e = absurd (cc)
    an_array (string x) xs e = absurd (cc)
    an_array (integer x) xs e = absurd (cc)
    an_array (float x) xs e = absurd (cc)
    an_array (boolean x) xs e = absurd (cc)
    an_array (datetime x) xs e = absurd (cc)

    equal_at : (o : Ordering) (e d : Data) → match_ordering o None (Some e) None ≡ Some d → (is_eq o ≡ true) × (e ≡ d)
    equal_at Less e d h = absurd (cc)
    equal_at Equal e d h = (refl, some_is h)
    equal_at Greater e d h = absurd (cc)

    one_member : (ms : Members) (d : Data) (xs : Items) → members_count ms ≡ 1 → get_member (codes "template") ms ≡ Some d
        → as_array d ≡ Some xs → ms ≡ member (codes "template") (array xs) no_members
    one_member no_members d xs one found is_array = absurd (omega (arith, one))
    one_member (member k e no_members) d xs one found is_array =
        let h = equal_at (slice_cmp nat_cmp (codes "template") k) e d found in
        let key = same_text (codes "template") k (sym (is_eq-slice_cmp (codes "template") k) ∙ h.0) in
        ap (λ l. member l e no_members) (sym key) ∙ ap (λ x. member (codes "template") x no_members) (h.1 ∙ an_array d xs is_array)
    one_member (member k e (member l f ms)) d xs one found is_array = absurd (omega (arith, one))

pub there_tables : (document : Members) (xs : Items) → HasTables document xs → tables_of document ≡ Some xs
there_tables document xs h =
    ap tables_of h.0 ∙ rw (test 1 (items_count xs) h.2, test (items_count xs) 4294967295 (let s = h.3 in omega (arith, s)), are_the_tables xs h.1) refl
  where
    test : (m n : ℕ) → m ≤ n → nat_le m n ≡ true
    test m n h = le-leb m n h

-- a document's set
pub set_written : (document : Members) (xs : Items) (ts : List DeclaredTemplate) → HasTables document xs → all_templates xs ≡ Some ts → WritesSet document ts
set_written document xs ts h e =
    let w = templates_written xs ts e in
    let l = w.1 in
    (xs, h.0, w.0, (let s = h.2 in omega (arith, s, l)), (let s = h.3 in omega (arith, s, l)))

-- an item that is no template's table
pub unwritten_at : (read : Option Members) (document : Members) (xs : Items) → read ≡ Some document → HasTables document xs
    → (code : StaticCode) (template : Option ℕ)
    → IsUnread xs code template → IsUnwritten read code template
unwritten_at read document xs is h S1 (Some k) u =
    let t = table_at xs k u.0 h.1 u.1 in
    let none : template_of t.0 ≡ None = sym (ap template_in t.1) ∙ u.2 in
    (document, t.0, xs, is, h, u.1 ∙ ap Some t.1, λ w writes. absurd (no_template t.0 w none writes))
  where
    no_template : (ms : Members) (t : DeclaredTemplate) → template_of ms ≡ None → WritesTemplate ms t → ⊥
    no_template ms t none writes = none_is_some (sym none ∙ written_template ms t writes)
      where
        none_is_some : {A : Type 0} {x : A} → None ≡ Some x → ⊥
        none_is_some e = cc
unwritten_at read document xs is h Memory None u = tt
unwritten_at read document xs is h S1 None u = absurd u
unwritten_at read document xs is h S2 template u = absurd u
unwritten_at read document xs is h S3 template u = absurd u
unwritten_at read document xs is h S4 template u = absurd u
unwritten_at read document xs is h S5 template u = absurd u
unwritten_at read document xs is h D8 template u = absurd u
unwritten_at read document xs is h C1 template u = absurd u
unwritten_at read document xs is h C2 template u = absurd u
unwritten_at read document xs is h C3 template u = absurd u
unwritten_at read document xs is h C4 template u = absurd u
unwritten_at read document xs is h C5 template u = absurd u
unwritten_at read document xs is h C6 template u = absurd u
unwritten_at read document xs is h Memory (Some k) u = absurd u

-- a document without tables of templates
pub no_tables : (read : Option Members) (document : Members) → read ≡ Some document → tables_of document ≡ None → IsUnwritten read S1 None
no_tables read document is none other xs found h =
    let same : other ≡ document = some_is (sym found ∙ is) in
    none_is_some (sym none ∙ ap tables_of (sym same) ∙ there_tables other xs h)
  where
    none_is_some : {A : Type 0} {x : A} → None ≡ Some x → ⊥
    none_is_some e = cc

-- the tables before it write templates
pub written_before : (read : Option Members) (document : Members) (xs : Items) → read ≡ Some document → HasTables document xs
    → (code : StaticCode) (template : Option ℕ)
    → IfSome template (λ k. (code ≡ S1) × ((j : ℕ) (d : Data) → j < k → get_item j xs ≡ Some d → IsSome (template_in d)))
    → IfSome template (λ k. (code ≡ S1) × IsFirstUnwritten read k)
written_before read document xs is h code None first = tt
written_before read document xs is h code (Some k) (is_code, first) = (
  is_code,
  λ other ms ys j is_too tables below found.
      let same_document : other ≡ document = some_is (sym is_too ∙ is) in
      let same : ys ≡ xs = same_array ys xs (sym tables.0 ∙ same_document ∙ h.0) in
      some_template ms (template_of ms) refl (first j (table ms) below (ap (get_item j) (sym same) ∙ found)),
)
  where
    same_array : (xs ys : Items) → member (codes "template") (array xs) no_members ≡ member (codes "template") (array ys) no_members → xs ≡ ys
    same_array xs ys e = cc

    some_template : (ms : Members) (o : Option DeclaredTemplate) → template_of ms ≡ o → IsSome o → (t : DeclaredTemplate) × WritesTemplate ms t
    some_template ms None e some = absurd (false≢true some)
    some_template ms (Some t) e some = (t, template_written ms t e)
