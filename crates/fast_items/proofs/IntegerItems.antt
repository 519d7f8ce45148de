-- Fields of integers as items: what is sent, what a delta gives, and what is left where nothing is sent.
use Rattle.std.proofs.Common.{refl, sym, ap, ◌∙◌, subst}
use Rattle.std.specs.Prelude.{◌≡◌, ◌≢◌, ℕ, Bool, true, false, List, ℤ, Option, Some, None, IfSome, option_map, Ok}
use Rattle.fast_fronts.specs.device.Fronts.{IsFirstInt}
use Rattle.fast_wire.specs.meaning.Integers.{delta_range}
use Rattle.fast_fronts.specs.declared.fronts.First.TheVariants as First
use Rattle.fast_value.specs.declared.codes.Code.TheVariants.{D6}
use Rattle.fast_value.specs.declared.kinds.Kind.{Kind}
use Rattle.fast_value.specs.meaning.Kinds.{ScalarData, family, integers, integer_of, value_of_integer}
use Rattle.fast_tree.specs.declared.operators.Operator.{Operator}
use Rattle.fast_tree.specs.declared.operators.Operator.TheVariants as Op
use Rattle.fast_tree.specs.meaning.Entries.{keeps_value}
use Rattle.fast_tree.specs.meaning.Tree.{FieldData}
use Rattle.fast_dict.specs.declared.entry.Entry.{Entry}
use Rattle.fast_dict.specs.declared.slots.Slots.{Slots}
use Rattle.fast_dict.specs.meaning.Entry.{with_text}
use Rattle.fast_dict.specs.meaning.Dictionary.{Dictionary, PreviousData, empty, assigned, previous_at, write_at}
use Rattle.fast_dict.specs.meaning.Operators.{decide, range_of, unsent, nothing, gives_none, integer_step, incremented, next_value}
use Rattle.fast_dict.specs.meaning.Slots.{slots_dictionary}
use Rattle.fast_dict.specs.meaning.Stores.{Terms}
use Rattle.fast_stream.specs.meaning.Fields.{sent_integer}
use Rattle.fast_units.specs.device.Settling.{Serves}
use Rattle.fast_units.specs.device.Deciding.{number_data, sent_number, source_of, IsDecided}
use Rattle.fast_items.specs.device.FieldsAs.{IsSentItem, IsUnsentItem}
use Rattle.fast_items.specs.device.IntegerItems.{item_held, KeepsItem, IsBehindDelta, IsDefaultItem}
use Rattle.fast_units.specs.declared.fields.Number.{Number}
use Rattle.fast_units.specs.declared.source.ValueSource.TheVariants as From
use Rattle.fast_items.specs.declared.taken.TakenItem.{TakenItem}
use Rattle.fast_units.proofs.Deciding.{decided_as, write_same, absent_decided, value_decided, null_decided, none_decided, own_decided}
use Rattle.fast_units.proofs.Deciding.{next_decided, unsent_copied, unsent_increased, default_decided, no_entry, item_value}
use Rattle.fast_units.proofs.ShortIntegers.{no_texts, item_unit, delta_unit}

-- A number, or NULL, that is sent under no delta, where the entry, if there is one, holds it.
pub item_kept : {n : ℕ} {t : Terms} (f : FieldData) → Serves n t f → family f.kind ≡ integers (range_of f.kind) → (old new : Dictionary) (item : Option Number)
    → f.operator ≢ Op.Delta → f.operator ≢ Op.Constant → new ≡ write_at f.entry (item_held f.kind item) old
    → IsDecided (decide f (previous_at f.entry old) true (sent_number item)) f old new (Ok (source_of item))
item_kept f serves is old new None no_delta no_constant kept = null_decided f serves (no_texts f is) old new no_delta no_constant kept
item_kept f serves is old new (Some x) no_delta no_constant kept =
    value_decided f serves (no_texts f is) old new (number_data x) (source_of (Some x)) no_delta no_constant kept (item_value (Some x) f)

-- the fields of a kind of integers are fields of integers
kind_integers : (f : FieldData) (kind : Kind) → f.kind ≡ kind → family kind ≡ integers (range_of kind) → family f.kind ≡ integers (range_of f.kind)
kind_integers f kind same is = subst (λ k. family k ≡ integers (range_of k)) (sym same) is

-- An integer, or NULL, that is whole in the piece, and that the entry holds, is each field that is so.
pub sent_item : (kind : Kind) (optional : Bool) (operator : Operator) (entry : ℕ) (strict : Bool) (rest : List ℕ) (old new : Slots)
    (x : Option ℤ) (r : TakenItem)
    → family kind ≡ integers (range_of kind) → operator ≢ Op.Delta → operator ≢ Op.Constant
    → IsFirstInt (λ y. y) strict (range_of kind) optional (First.Whole x r.bytes) rest → sent_number r.item ≡ sent_integer kind x
    → KeepsItem kind operator entry old new r.item → IsSentItem kind optional operator entry strict rest old new r
sent_item kind optional operator entry strict rest old new x r is no_delta no_constant first same keeps f l scratch so serves =
    let none_delta : f.operator ≢ Op.Delta = subst (λ o. o ≢ Op.Delta) (sym so.operator) no_delta in
    let none_constant : f.operator ≢ Op.Constant = subst (λ o. o ≢ Op.Constant) (sym so.operator) no_constant in
    let of_integers = kind_integers f kind so.kind is in
    let kept : slots_dictionary new ≡ write_at f.entry (item_held f.kind r.item) (slots_dictionary old) =
    subst (λ k. slots_dictionary new ≡ write_at f.entry (item_held k r.item) (slots_dictionary old)) (sym so.kind) (keeps f optional so serves) in
    item_unit kind optional strict l f rest (slots_dictionary old) (slots_dictionary new) scratch x r.bytes (sent_number r.item) (source_of r.item)
    (sym so.kind) (sym so.optional) of_integers none_delta none_constant first same
    (item_kept f serves of_integers (slots_dictionary old) (slots_dictionary new) r.item none_delta none_constant kept)

-- So is a delta that is whole in the piece, where the entry then holds the sum, and NULL, which changes nothing.
pub sent_change : (kind : Kind) (optional : Bool) (entry : ℕ) (strict : Bool) (rest : List ℕ) (old new : Slots) (delta : ℤ) (n : Number) (bytes : ℕ)
    → family kind ≡ integers (range_of kind) → IsFirstInt (λ y. y) strict delta_range optional (First.Whole (Some delta) bytes) rest
    → IsBehindDelta kind entry delta old new n → IsSentItem kind optional Op.Delta entry strict rest old new (record { item = Some n; bytes = bytes })
sent_change kind optional entry strict rest old new delta n bytes is first behind f l scratch so serves =
    delta_unit optional strict l f rest (slots_dictionary old) (slots_dictionary new) scratch (Some delta) bytes
    (integer_step f (previous_at f.entry (slots_dictionary old)) delta) (source_of (Some n))
    (sym so.optional) (kind_integers f kind so.kind is) so.operator first refl (behind f so.kind (so.entry refl))

pub sent_null : (kind : Kind) (optional : Bool) (entry : ℕ) (strict : Bool) (rest : List ℕ) (slots : Slots) (bytes : ℕ)
    → family kind ≡ integers (range_of kind) → IsFirstInt (λ y. y) strict delta_range optional (First.Whole None bytes) rest
    → IsSentItem kind optional Op.Delta entry strict rest slots slots (record { item = None; bytes = bytes })
sent_null kind optional entry strict rest slots bytes is first f l scratch so serves =
    delta_unit optional strict l f rest (slots_dictionary slots) (slots_dictionary slots) scratch None bytes
    (gives_none (previous_at f.entry (slots_dictionary slots))) From.Absent
    (sym so.optional) (kind_integers f kind so.kind is) so.operator first refl (none_decided f (slots_dictionary slots))

-- What a field's entry holds, by what is looked at.
pub held_at : (f : FieldData) (d : Dictionary) (held : Entry) (entry : ℕ) (p : PreviousData) → f.entry ≡ Some entry
    → ((text : List ℕ) × (with_text held text ≡ previous_at (Some entry) d))
    → ((text : List ℕ) → with_text held text ≡ p) → previous_at f.entry d ≡ p
held_at f d held entry p at (text, is) same = ap (λ e. previous_at e d) at ∙ sym is ∙ same text

-- Nothing is sent, and the entry is empty: absent, if the field may be.
pub left_absent : (f : FieldData) (d : Dictionary) → decide f (previous_at f.entry d) false nothing ≡ unsent f (previous_at f.entry d)
    → f.optional ≡ true → previous_at f.entry d ≡ empty
    → IsDecided (decide f (previous_at f.entry d) false nothing) f d d (Ok From.Absent)
left_absent f d as_unsent optional none =
    decided_as f d d (Ok From.Absent) (as_unsent ∙ ap (unsent f) none) (absent_decided f d d D6 optional (sym (write_same f.entry empty d none)))

-- Under copy it is what the entry holds.
pub copied_item : (kind : Kind) (optional : Bool) (entry : ℕ) (slots : Slots) (held : Entry) (r : Option (Option Number))
    → ((text : List ℕ) × (with_text held text ≡ previous_at (Some entry) (slots_dictionary slots)))
    → IfSome r (λ item. (text : List ℕ) → with_text held text ≡ item_held kind item) → (r ≡ Some None → optional ≡ true)
    → IfSome r (IsUnsentItem kind optional Op.Copy entry slots slots)
copied_item kind optional entry slots held None at is absent = tt
copied_item kind optional entry slots held (Some None) at is absent = λ f so serves.
    let d = slots_dictionary slots in
    left_absent f d (unsent_copied f (previous_at f.entry d) false so.operator refl) (so.optional ∙ absent refl)
    (held_at f d held entry empty (so.entry refl) at is)
copied_item kind optional entry slots held (Some (Some n)) at is absent = λ f so serves.
    let d = slots_dictionary slots in
    let other : f.operator ≢ Op.Increment = subst (λ o. o ≢ Op.Increment) (sym so.operator) (λ e. absurd (cc e)) in
    let own : previous_at f.entry d ≡ assigned f.kind (number_data n) =
    held_at f d held entry (assigned kind (number_data n)) (so.entry refl) at is ∙ ap (λ k. assigned k (number_data n)) (sym so.kind) in
    decided_as f d d (Ok (source_of (Some n))) (unsent_copied f (previous_at f.entry d) false so.operator refl)
    (own_decided f d (number_data n) (source_of (Some n)) other own (item_value (Some n) f))

-- Under increment it is the number behind the one that the entry holds, which it then holds.
pub increased_item : (kind : Kind) (optional : Bool) (entry : ℕ) (old new : Slots) (v : ScalarData) (n : Number)
    → previous_at (Some entry) (slots_dictionary old) ≡ assigned kind v → number_data n ≡ value_of_integer kind (incremented (range_of kind) (integer_of v))
    → slots_dictionary new ≡ write_at (Some entry) (assigned kind (number_data n)) (slots_dictionary old)
    → IsUnsentItem kind optional Op.Increment entry old new (Some n)
increased_item kind optional entry old new v n held next kept f so serves =
    let d = slots_dictionary old in
    let e = slots_dictionary new in
    let at = so.entry refl in
    let own : previous_at f.entry d ≡ assigned kind v = ap (λ x. previous_at x d) at ∙ held in
    let next_number : number_data n ≡ next_value f.operator f.kind v =
    next ∙ ap (λ k. value_of_integer k (incremented (range_of k) (integer_of v))) (sym so.kind) ∙ ap (λ o. next_value o f.kind v) (sym so.operator) in
    let there : e ≡ write_at f.entry (assigned f.kind (next_value f.operator f.kind v)) d =
    kept ∙ ap (λ x. write_at x (assigned kind (number_data n)) d) (sym at) ∙ ap (λ k. write_at f.entry (assigned k (number_data n)) d) (sym so.kind)
    ∙ ap (λ x. write_at f.entry (assigned f.kind x) d) next_number in
    decided_as f d e (Ok (source_of (Some n))) (unsent_increased f (previous_at f.entry d) false so.operator refl)
    (next_decided f d e kind v (source_of (Some n)) own (sym so.kind) there
    (λ scratch piece. sym (item_value (Some n) f e scratch piece ∙ ap Some next_number)))

-- Under default it is the initial value, whatever the entry holds.
pub default_item : (f : FieldData) (item : Option Number) → f.initial ≡ option_map number_data item → IsDefaultItem f item
default_item f item initial d terms operator serves =
    let (o, decided, settled) = default_decided f d false (no_entry f serves (ap keeps_value operator)) operator refl in (
      o,
      decided,
      λ scratch piece. record {
        value = (settled scratch piece).value ∙ initial ∙ sym (item_value item f d scratch piece);
        dictionary = (settled scratch piece).dictionary;
      },
    )
