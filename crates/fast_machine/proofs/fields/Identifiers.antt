-- The template that an identifier names, and the field of the identifier.
use Rattle.std.proofs.Common.{refl, sym, ap, ◌∙◌, subst, arith, inl, inr}
use Rattle.std.specs.Prelude.{◌≡◌, ◌≢◌, ℕ, zero, suc, ◌+◌, ◌<◌, ◌≤◌, Bool, true, false, ◌&&◌, not, nat_le, nat_eq, nat_abs, if◌then◌else◌}
use Rattle.std.specs.Prelude.{IsTrue, ◌↔◌, map, List, [], ◌∷◌, length, drop, slice_get, Option, Some, None, option_map, Result, Ok, Err}
use Rattle.std.proofs.lemmas.Bool.Decides.{eqb_tells}
use Rattle.fast_wire.specs.meaning.Maps.{bytes_for, bits, first_bit, later_bits}
use Rattle.fast_value.specs.meaning.Kinds.{ScalarData, integer_of}
use Rattle.fast_value.specs.meaning.Limits.{Bounds}
use Rattle.fast_value.specs.declared.codes.Code.{Code}
use Rattle.fast_value.specs.declared.codes.Code.TheVariants.{D9, R7, R8}
use Rattle.fast_value.specs.declared.settings.Limits.{Limits}
use Rattle.fast_tree.specs.meaning.Tree.{Instruction, identifier, message_bits}
use Rattle.fast_tree.specs.declared.instructions.Template.{Template}
use Rattle.fast_tree.specs.meaning.Nodes.{field_data, template_data, instructions_from}
use Rattle.fast_dict.specs.meaning.Dictionary.{PreviousData, Dictionary, previous_at, write_at}
use Rattle.fast_dict.specs.meaning.Operators.{Outcome, nothing, decide}
use Rattle.fast_dict.specs.meaning.Slots.{slots_dictionary, slots_terms, slots_sized}
use Rattle.fast_dict.specs.meaning.Stores.{Terms}
use Rattle.fast_cursor.specs.device.Cursors.{CursorData, bits_left, resting}
use Rattle.fast_stream.specs.meaning.Fields.{field_term}
use Rattle.fast_stream.specs.meaning.Grammar.{Grammar, narrow, ◌>>=◌, of_result}
use Rattle.fast_stream.specs.device.GrammarReaders.{settles_reader, judged_map, spare, reader_of}
use Rattle.fast_stream.specs.meaning.Messages.{State, begin, found, has_id, with_id, template_of}
use Rattle.fast_stream.specs.device.Continuations.{message_behind_then, message_of_then}
use Rattle.fast_machine.specs.device.Passing.{identified_then}
use Rattle.fast_stream.specs.device.Readers.{Reader, Done, Stop, bind}
use Rattle.fast_units.specs.device.Settling.{Serves}
use Rattle.fast_units.specs.device.Taking.{Turns, Stays}
use Rattle.fast_units.specs.device.UnitFronts.{IsSent}
use Rattle.fast_stream.specs.meaning.Units.{width_checked}
use Rattle.fast_machine.specs.device.Positions.{Set, tree_in, behind_map, bit_of, IsSupplied}
use Rattle.fast_machine.specs.declared.machine.Machine.{Machine}
use Rattle.fast_machine.proofs.fields.SentFields.{field_sent}
use Rattle.fast_units.proofs.Turning.{turns_as, turns_done, turns_stop, stays_as, stays_on}

-- Two tests of one fact are the same.
pub same_test : {P : Type 0} (b t : Bool) → (IsTrue b ↔ P) → (t ≡ true → P) × (P → t ≡ true) → b ≡ t
same_test true t h d = sym (d.1 (h.0 refl))
same_test false true h d = absurd (let k : false ≡ true = h.1 (d.0 refl) in cc k)
same_test false false h d = refl

has_id-other : (own : Option ℕ) (id : ℕ) → own ≢ Some id → has_id own id ≡ false
has_id-other None id h = refl
has_id-other (Some k) id h = elim (eqb_tells k id) [ inl t ↦ absurd (h (ap Some t.1)) | inr t ↦ t.0 ]

same_eq : (n : ℕ) → nat_eq n n ≡ true
same_eq n = elim (eqb_tells n n) [ inl t ↦ t.0 | inr t ↦ absurd (t.1 refl) ]

has_id-own : (own : Option ℕ) (id : ℕ) → own ≡ Some id → has_id own id ≡ true
has_id-own own id h = ap (λ o. has_id o id) h ∙ same_eq id

-- No template has the identifier.
with_id-none : (id k : ℕ) (is : List Instruction) (ts : List Template)
    → ((j : ℕ) (t : Template) → slice_get ts j ≡ Some t → t.id ≢ Some id) → with_id id k (map (template_data is) ts) ≡ Err D9
with_id-none id k is [] h = refl
with_id-none id k is (t ∷ ts) h = ap (λ b. if b then Ok (k, template_data is t) else with_id id (suc k) (map (template_data is) ts))
    (has_id-other t.id id (h 0 t refl)) ∙ with_id-none id (suc k) is ts (λ j u e. h (suc j) u e)

-- The first template that has the identifier.
with_id-first : (id k : ℕ) (is : List Instruction) (ts : List Template) (i : ℕ) (t : Template) → slice_get ts i ≡ Some t → t.id ≡ Some id
    → ((j : ℕ) (u : Template) → j < i → slice_get ts j ≡ Some u → u.id ≢ Some id) → with_id id k (map (template_data is) ts) ≡ Ok (i + k, template_data is t)
with_id-first id k is [] i t e found first = absurd (cc e)
with_id-first id k is (u ∷ us) zero t e found first =
    let same : u ≡ t = cc e in
    let none : 0 + k ≡ k = omega arith in
    ap (λ b. if b then Ok (k, template_data is u) else with_id id (suc k) (map (template_data is) us))
    (has_id-own u.id id (ap (λ (v : Template). v.id) same ∙ found))
    ∙ ap (λ (v : Template). Ok (k, template_data is v)) same ∙ ap (λ n. Ok (n, template_data is t)) (sym none)
with_id-first id k is (u ∷ us) (suc i) t e found first =
    let more : i + suc k ≡ suc i + k = omega arith in
    ap (λ b. if b then Ok (k, template_data is u) else with_id id (suc k) (map (template_data is) us)) (has_id-other u.id id (first 0 u (omega arith) refl))
    ∙ with_id-first id (suc k) is us i t e found (λ j v h at_j. first (suc j) v (omega arith) at_j)
    ∙ ap (λ n. Ok (n, template_data is t)) more

-- the identifier of a value, if there is one
abbrev pub id_of : Option ScalarData → Option ℕ
id_of v = option_map (λ x. nat_abs (integer_of x)) v

-- The identifier is no template's.
pub named_none : (set : Set) (v : Option ScalarData) → ((id j : ℕ) (t : Template) → id_of v ≡ Some id → slice_get set.templates j ≡ Some t
    → t.id ≢ Some id) → template_of (tree_in set) v ≡ Err D9
named_none set None h = refl
named_none set (Some v) h = with_id-none (nat_abs (integer_of v)) 0 (instructions_from 0 set.nodes) set.templates
    (λ j t e. h (nat_abs (integer_of v)) j t refl e)

-- It is that of a template.
pub named_first : (set : Set) (v : Option ScalarData) (id i : ℕ) (t : Template) → id_of v ≡ Some id → slice_get set.templates i ≡ Some t → t.id ≡ Some id
    → ((j : ℕ) (u : Template) → j < i → slice_get set.templates j ≡ Some u → u.id ≢ Some id)
    → template_of (tree_in set) v ≡ Ok (i, template_data (instructions_from 0 set.nodes) t)
named_first set None id i t e found own first = absurd (cc e)
named_first set (Some v) id i t e found own first =
    let same : nat_abs (integer_of v) ≡ id = cc e in
    let is = instructions_from 0 set.nodes in
    let none : i + 0 ≡ i = omega arith in
    ap (λ n. with_id n 0 (map (template_data is) set.templates)) same
    ∙ with_id-first id 0 is set.templates i t found own first
    ∙ ap (λ n. Ok (n, template_data is t)) none

-- the width of a map, as the machine tests it
abbrev tested : Bool → Result (Unit {0}) Code
tested b = if b then Ok tt else Err R8

tested-no : (b : Bool) → not b ≡ true → tested b ≡ Err R8
tested-no true h = absurd (cc h)
tested-no false h = refl

tested-yes : (b : Bool) → not b ≡ false → tested b ≡ Ok tt
tested-yes true h = refl
tested-yes false h = absurd (cc h)

width-wide : (s : Bool) (n : ℕ) (m : List ℕ) → (s && not (nat_le (length m) (bytes_for n))) ≡ true → width_checked s n m ≡ Err R8
width-wide true n m h = tested-no (nat_le (length m) (bytes_for n)) h
width-wide false n m h = absurd (cc h)

width-fits : (s : Bool) (n : ℕ) (m : List ℕ) → (s && not (nat_le (length m) (bytes_for n))) ≡ false → width_checked s n m ≡ Ok tt
width-fits true n m h = tested-yes (nat_le (length m) (bytes_for n)) h
width-fits false n m h = refl

-- A map has more bytes than a segment of so many bits can use, in strict mode; and any other.
pub narrow-wide : {A : Type 0} (s : Bool) (n : ℕ) (m : List ℕ) (g : Grammar A) → (s && not (nat_le (length m) (bytes_for n))) ≡ true
    → reader_of s (narrow n m g) ≡ Stop R8
narrow-wide s n m g h = ap (λ (v : Result (Unit {0}) Code). bind (settles_reader v) (λ _. reader_of s g)) (width-wide s n m h)

pub narrow-fits : {A : Type 0} (s : Bool) (n : ℕ) (m : List ℕ) (g : Grammar A) → (s && not (nat_le (length m) (bytes_for n))) ≡ false
    → reader_of s (narrow n m g) ≡ reader_of s g
narrow-fits s n m g h = ap (λ (v : Result (Unit {0}) Code). bind (settles_reader v) (λ _. reader_of s g)) (width-fits s n m h)

-- A whole map whose last of more than seven bits are zero, in strict mode; and any other.
pub map_spare : (s : Bool) (w : List ℕ) (k : List ℕ → Reader Dictionary) → (s && spare w) ≡ true → bind (settles_reader (judged_map s w)) k ≡ Stop R7
unfolding judged_map
map_spare s w k e = ap (λ b. bind (settles_reader (if b then Err R7 else Ok w)) k) e

pub map_judged : (s : Bool) (w : List ℕ) (k : List ℕ → Reader Dictionary) → (s && spare w) ≡ false → bind (settles_reader (judged_map s w)) k ≡ k w
unfolding judged_map
map_judged s w k e = ap (λ b. bind (settles_reader (if b then Err R7 else Ok w)) k) e

module _ (set : Set) (s : Bool) (l : Bounds) (m : List ℕ) (v : Option ScalarData) (st : State) where
  -- Behind an identifier that is no template's.
  pub behind_unknown : template_of (tree_in set) v ≡ Err D9 → reader_of s (message_behind_then (tree_in set) l m (v, st)) ≡ Stop D9
  behind_unknown e = ap (λ r. reader_of s (of_result r >>= (λ u. narrow (message_bits u.1) m (message_of_then l u.0 u.1 st)))) e

  -- Behind that of a template: its segment must not want a narrower map, and then its message begins.
  pub behind_known : (i : ℕ) (t : Template) → template_of (tree_in set) v ≡ Ok (i, template_data (instructions_from 0 set.nodes) t)
      → reader_of s (message_behind_then (tree_in set) l m (v, st))
      ≡ reader_of s (narrow (message_bits (template_data (instructions_from 0 set.nodes) t)) m
      (message_of_then l i (template_data (instructions_from 0 set.nodes) t) st))
  behind_known i t e = ap (λ r. reader_of s (of_result r >>= (λ u. narrow (message_bits u.1) m (message_of_then l u.0 u.1 st)))) e

-- The dictionary serves the identifier.
serves_identifier : (entries : ℕ) (terms : Terms) → 1 ≤ entries → Serves entries terms identifier
serves_identifier entries terms h = record {
  kept = refl;
  within = λ e i. (let j : 0 ≡ e = cc i in omega (arith, h, j));
  tail = λ i. absurd (cc i);
  texts_fit = λ e i k. absurd (cc k);
  initial_fits = λ e i. tt;
}

module _ (set : Set) (l : Limits) (m : Machine) (h : IsSupplied set l m) where
  entries_there : 1 ≤ length (slots_dictionary m.slots)
  entries_there = let n = slots_sized m.slots in let e = h.entries in let some = h.some_entry in omega (arith, n, e, some)

  pub identifier_served : Serves (length (slots_dictionary m.slots)) (slots_terms m.slots) (field_data m.identifier)
  identifier_served = subst (λ f. Serves (length (slots_dictionary m.slots)) (slots_terms m.slots) f) (sym h.identifier)
      (serves_identifier (length (slots_dictionary m.slots)) (slots_terms m.slots) entries_there)

-- A cursor whose map is whole has used no bit.
pub unused_bits : (c : CursorData) → c ≡ record (resting c) { map = c.map } → bits_left c ≡ bits c.map
unused_bits c e = ap (λ (d : CursorData). drop d.used (bits c.map)) e

-- An identifier that stands in the stream.
pub identifier_sent : (st : State) → first_bit st.bits ≡ true → IsSent identifier (bit_of identifier st)
identifier_sent st h = record { varies = λ e. absurd (cc e); as_sent = λ l p. ap (λ b. field_term l identifier p b) h }

-- One that does not.
not_sent : (l : Bounds) (p : PreviousData) → field_term l identifier p false ≡ of_result (decide identifier p false nothing)
unfolding field_term
not_sent l p = refl

pub identifier_unsent : (l : Bounds) (p : PreviousData) (st : State) → first_bit st.bits ≡ false
    → field_term l identifier p (bit_of identifier st) ≡ of_result (decide identifier p (bit_of identifier st) nothing)
identifier_unsent l p st h = ap (λ b. field_term l identifier p b) h ∙ not_sent l p ∙ ap (λ b. of_result (decide identifier p b nothing)) (sym h)

pub decided_unsent : (p : PreviousData) (st : State) (r : Result Outcome Code) → first_bit st.bits ≡ false
    → decide identifier p false nothing ≡ r → decide identifier p (bit_of identifier st) nothing ≡ r
decided_unsent p st r h e = ap (λ b. decide identifier p b nothing) h ∙ e

-- What is read behind an identifier, by the outcome of its field and by what the machine keeps.
pub identified_by : (set : Set) (s : Bool) (l : Bounds) (d d' : Dictionary) (c : CursorData) (o : Outcome) (v : Option ScalarData)
    → c ≡ record (resting c) { map = c.map } → o.value ≡ v → d' ≡ write_at identifier.entry o.next d
    → reader_of s (message_behind_then (tree_in set) l c.map (found identifier (begin d (bits c.map)) o)) ≡ reader_of s (identified_then set l v d' c)
identified_by set s l d d' c o v e value dictionary =
    ap (λ x. reader_of s (message_behind_then (tree_in set) l c.map (
      x,
      record {
        context = record { dictionary = write_at identifier.entry o.next d; counted = 0 };
        bits = later_bits (bits c.map);
      },
    ))) value
    ∙ ap (λ x. reader_of s (message_behind_then (tree_in set) l c.map (
      v,
      record {
        context = record { dictionary = x; counted = 0 };
        bits = later_bits (bits c.map);
      },
    ))) (sym dictionary)
    ∙ ap (λ b. reader_of s (message_behind_then (tree_in set) l c.map (
      v,
      record {
        context = record { dictionary = d'; counted = 0 };
        bits = later_bits b;
      },
    ))) (sym (unused_bits c e))

-- What an identifier that stands in the stream turns to, it turns to in front of what follows it.
module _ (set : Set) (s : Bool) (l : Bounds) (d : Dictionary) (m : List ℕ) (bit : first_bit (bits m) ≡ true) where
  -- the field of the identifier
  abbrev pub sent_reader : Reader Outcome
  sent_reader = reader_of s (field_term l identifier (previous_at identifier.entry d) true)

  sent_same : reader_of s (behind_map set l d m) ≡ bind sent_reader
      (λ o. reader_of s (message_behind_then (tree_in set) l m (found identifier (begin d (bits m)) o)))
  sent_same = field_sent s l identifier (begin d (bits m)) (message_behind_then (tree_in set) l m) (identifier_sent (begin d (bits m)) bit)

  pub sent_turns : (w : List ℕ) (o : Outcome) → Turns sent_reader w (Done o)
      → Turns (reader_of s (behind_map set l d m)) w (reader_of s
      (message_behind_then (tree_in set) l m (found identifier (begin d (bits m)) o)))
  sent_turns w o h = turns_as sent_same refl (turns_done (λ x. reader_of s (message_behind_then (tree_in set) l m (found identifier (begin d (bits m)) x))) h)

  pub sent_stops : (w : List ℕ) (c : Code) → Turns sent_reader w (Stop c) → Turns (reader_of s (behind_map set l d m)) w (Stop c)
  sent_stops w c h = turns_as sent_same refl (turns_stop (λ x. reader_of s (message_behind_then (tree_in set) l m (found identifier (begin d (bits m)) x))) h)

  pub sent_stays : (w : List ℕ) → Stays sent_reader w → Stays (reader_of s (behind_map set l d m)) w
  sent_stays w h = stays_as sent_same (stays_on (λ x. reader_of s (message_behind_then (tree_in set) l m (found identifier (begin d (bits m)) x))) h)
