-- Values that are lent: from the node, from the entry that keeps them, from the scratch, or from the piece.
use Rattle.std.proofs.Common.{refl, sym, ap, ◌∙◌, subst, inl, inr}
use Rattle.std.specs.Prelude.{◌≡◌, ◌≢◌, ◌⊎◌, ℕ, ◌<◌, Bool, true, false, List, [], length, take, drop, slice_get, Option, Some, Ok, if◌then◌else◌}
use Rattle.fast_wire.specs.meaning.Maps.{first_bit}
use Rattle.fast_value.specs.declared.kinds.Kind.{Kind}
use Rattle.fast_value.specs.declared.settings.Limits.{Limits}
use Rattle.fast_value.specs.meaning.Kinds.{ScalarData}
use Rattle.fast_value.specs.meaning.Limits.{bounds}
use Rattle.fast_tree.specs.declared.instructions.FieldInstruction.{FieldInstruction}
use Rattle.fast_tree.specs.declared.instructions.Node.{Node}
use Rattle.fast_tree.specs.declared.instructions.Shape.TheVariants as Shape
use Rattle.fast_tree.specs.declared.operators.Operator.{Operator}
use Rattle.fast_tree.specs.declared.operators.Operator.TheVariants.{Constant, Default, Copy, Tail}
use Rattle.fast_tree.specs.meaning.Nodes.{field_data}
use Rattle.fast_tree.specs.meaning.Entries.{keeps_value}
use Rattle.fast_tree.specs.meaning.Tree.{FieldData, operator_uses_bit, uses_bit}
use Rattle.fast_template.specs.declared.sets.Templates.{Templates}
use Rattle.fast_program.specs.declared.ops.Op.{Op}
use Rattle.fast_program.specs.device.Codes.{constant_field, field_of as a_field}
use Rattle.fast_dict.specs.declared.slots.Slots.{Slots}
use Rattle.fast_dict.specs.meaning.Dictionary.{previous_at}
use Rattle.fast_dict.specs.meaning.Operators.{decide, nothing}
use Rattle.fast_dict.specs.meaning.Slots.{slots_dictionary, slots_terms, slots_sized}
use Rattle.fast_units.specs.declared.scratch.Scratch.{Scratch}
use Rattle.fast_units.specs.declared.source.ValueSource.{ValueSource}
use Rattle.fast_units.specs.declared.source.ValueSource.TheVariants as From
use Rattle.fast_units.specs.device.Deciding.{needs_bytes, IsDecided}
use Rattle.fast_items.specs.device.FieldsAs.{IsFieldAs, GivesWhole, reader_in}
use Rattle.fast_units.specs.device.Settling.{value_at}
use Rattle.fast_items.specs.device.TextItems.{IsUnsentText}
use Rattle.fast_units.proofs.Deciding.{stands_unsent, constant_decided, default_decided, no_entry}
use Rattle.fast_cursor.specs.declared.place.Place.{Place}
use Rattle.fast_cursor.specs.device.Cursors.{bits_left}
use Rattle.fast_cursor.specs.device.Places.{at_place}
use Rattle.fast_machine.specs.declared.machine.Machine.{Machine}
use Rattle.fast_loop.specs.declared.spot.Spot.{Spot}
use Rattle.fast_machine.specs.device.Positions.{placed, Set, set_of, state_in, bit_of, IsAtField}
use Rattle.fast_loop.specs.device.Arms.{IsAtSpot, IsArmOp, IsFieldTaken, IsFieldUnsent}
use Rattle.fast_loop.proofs.arms.Fields.{field_of, as_coded, at_field, is_sent, bit_clear, served}
use Rattle.fast_machine.proofs.fields.Heads.{field_head}
use Rattle.fast_machine.proofs.fields.FieldNodes.{served_node}
use Rattle.fast_machine.proofs.steps.FieldTurns.{serves_here}

-- A dictionary keeps its entries.
pub entry_kept : (e : ℕ) (old new : Slots) → slots_terms new ≡ slots_terms old → e < length (slots_dictionary old) → e < length (slots_dictionary new)
entry_kept e old new terms there = subst (λ n. e < n) (slots_sized old ∙ sym (ap (λ t. t.entries) terms) ∙ sym (slots_sized new)) there

-- A field of which nothing is sent, by what is decided for it and where its value stands.
pub value_unsent : (set : Set) (l : Limits) (m : Machine) (p : Place) (node : ℕ) (f : FieldData) (bit : Bool) (slots : Slots)
    (source : ValueSource) (scratch piece : List ℕ) (value : Option ScalarData) → IsAtSpot set l m p
    → IsAtField set (at_place m.cursor p) node f → bit ≡ bit_of f (state_in (slots_dictionary m.slots) m.counted (at_place m.cursor p))
    → needs_bytes f.operator bit ≡ false
    → slots_terms slots ≡ slots_terms m.slots → IsDecided (decide f (previous_at f.entry (slots_dictionary m.slots)) bit nothing) f
    (slots_dictionary m.slots) (slots_dictionary slots) (Ok source)
    → value ≡ value_at source f (slots_dictionary slots) scratch piece
    → IsFieldUnsent set l m (record m { slots = slots }) p node f bit value
value_unsent set l m p node f bit slots source scratch piece value spot at is_bit unneeded terms (outcome, decided, settled) stands = record {
  spot = spot;
  kept = refl;
  terms = terms;
  at = at;
  is_bit = is_bit;
  unsent = stands_unsent f bit (bounds l) _ unneeded;
  outcome = outcome;
  decided = decided;
  is_value = (settled scratch piece).value ∙ sym stands;
  next = (settled scratch piece).dictionary;
}

-- A text that stands whole in the piece.
pub text_taken : (t : Templates) (l : Limits) (m : Machine) (from : Spot) (op : Op) (kind : Kind) (operator : Operator) (optional : Bool)
    (spot : IsAtSpot (set_of t) l m from.place) (at : IsArmOp (set_of t) from.place op (a_field kind operator optional)) (x : Node)
    (found : slice_get t.nodes.items op.node ≡ Some x) (slots : Slots) (text : Scratch) (source : ValueSource) (first n : ℕ)
    (scratch : List ℕ) (value : Option ScalarData)
    → operator ≢ Constant → (operator_uses_bit operator optional ≡ false)
    ⊎ (first_bit (bits_left (at_place m.cursor from.place)) ≡ true)
    → slots_terms slots ≡ slots_terms m.slots → text.capacity ≡ m.text.capacity
    → GivesWhole (reader_in m.slots l.strict (bounds l) (field_of t l m from.place op kind operator optional spot at x found))
    (field_of t l m from.place op kind operator optional spot at x found) from.rest.bytes.now (slots_dictionary m.slots)
    (slots_dictionary slots) scratch source first n
    → value ≡ value_at source (field_of t l m from.place op kind operator optional spot at x found) (slots_dictionary slots) scratch
    (drop first (take n from.rest.bytes.now))
    → IsFieldTaken (set_of t) l m (record m {
      slots = slots;
      text = text;
    }) from op.node (field_of t l m from.place op kind operator optional spot at x found) value n
text_taken t l m from op kind operator optional spot at x found slots text source first n scratch value varies stands terms
    room (some, within, gives) is_value = record {
      spot = spot;
      kept = refl;
      terms = terms;
      room = room;
      at = at_field t l m from.place op kind operator optional spot at x found;
      sent = is_sent t l m from.place op kind operator optional spot at x found varies stands;
      some = some;
      within = within;
      outcome = gives.outcome;
      turns = gives.turns;
      is_value = gives.settled.value ∙ sym is_value;
      next = gives.settled.dictionary;
    }

-- It uses no bit.
pub constant_bit : (i : FieldInstruction) → i.operator ≡ Constant → i.optional ≡ false → uses_bit (field_data i) ≡ false
constant_bit i operator optional = ap (λ o. operator_uses_bit o i.optional) operator ∙ ap (operator_uses_bit Constant) optional

-- A constant that is there.
pub constant_unsent : (t : Templates) (l : Limits) (m : Machine) (p : Place) (op : Op) (i : FieldInstruction) (x : Node)
    (value : Option ScalarData) → IsAtSpot (set_of t) l m p → IsArmOp (set_of t) p op constant_field → slice_get t.nodes.items op.node ≡ Some x
    → x.shape ≡ Shape.Field i
    → i.operator ≡ Constant → i.optional ≡ false → value ≡ (field_data i).initial → IsFieldUnsent (set_of t) l m m p op.node (field_data i) true value
constant_unsent t l m p op i x value spot at found shape operator optional is_value =
    let f = field_data i in
    let serves = serves_here (set_of t) l (placed m p) f spot.can.supplied
    (served_node (set_of t) l (placed m p) op.node x (Shape.Field i) spot.can.supplied found shape) in
    value_unsent (set_of t) l m p op.node f true m.slots From.Initial [] [] value spot (field_head t (at_place m.cursor p) op.node x at.first found i shape)
    (sym (ap (λ b. if b then first_bit (bits_left (at_place m.cursor p)) else true) (constant_bit i operator optional)))
    (ap (λ o. needs_bytes o true) operator) refl
    (constant_decided f (slots_dictionary m.slots) true (no_entry f serves (ap keeps_value operator)) operator refl) is_value

-- Under copy and tail a value is kept, and a clear bit says that nothing is sent.
pub keeps_text : (operator : Operator) → (operator ≡ Copy) ⊎ (operator ≡ Tail) → (keeps_value operator ≡ true) × (needs_bytes operator false ≡ false)
keeps_text operator (inl e) = (ap keeps_value e, ap (λ o. needs_bytes o false) e)
keeps_text operator (inr e) = (ap keeps_value e, ap (λ o. needs_bytes o false) e)

module _ (t : Templates) (l : Limits) (m : Machine) (p : Place) (op : Op) (kind : Kind) (operator : Operator) (optional : Bool)
    (spot : IsAtSpot (set_of t) l m p) (at : IsArmOp (set_of t) p op (a_field kind operator optional)) (x : Node)
    (found : slice_get t.nodes.items op.node ≡ Some x) where
  abbrev its_field : FieldData
  its_field = field_of t l m p op kind operator optional spot at x found

  its_own : IsFieldAs its_field kind optional operator op.entry
  its_own = as_coded t l m p op kind operator optional spot at x found

  -- A field that uses a bit, which is clear.
  bit_unsent : (source : ValueSource) (scratch piece : List ℕ) (value : Option ScalarData) → operator_uses_bit operator optional ≡ true
      → needs_bytes operator false ≡ false → first_bit (bits_left (at_place m.cursor p)) ≡ false
      → IsDecided (decide its_field (previous_at its_field.entry (slots_dictionary m.slots)) false nothing) its_field
      (slots_dictionary m.slots) (slots_dictionary m.slots) (Ok source)
      → value ≡ value_at source its_field (slots_dictionary m.slots) scratch piece → IsFieldUnsent (set_of t) l m m p op.node its_field false value
  bit_unsent source scratch piece value uses unneeded clear decided is_value =
      value_unsent (set_of t) l m p op.node its_field false m.slots source scratch piece value spot
      (at_field t l m p op kind operator optional spot at x found)
      (bit_clear t l m p op kind operator optional spot at x found uses clear)
      (ap (λ o. needs_bytes o false) its_own.operator ∙ unneeded) refl decided is_value

  -- The initial value, under default.
  pub initial_unsent : (value : Option ScalarData) → operator ≡ Default → first_bit (bits_left (at_place m.cursor p)) ≡ false
      → value ≡ its_field.initial → IsFieldUnsent (set_of t) l m m p op.node its_field false value
  initial_unsent value default clear is_value =
      let own : its_field.operator ≡ Default = its_own.operator ∙ default in
      bit_unsent From.Initial [] [] value (ap (λ o. operator_uses_bit o optional) default) (ap (λ o. needs_bytes o false) default) clear
      (default_decided its_field (slots_dictionary m.slots) false
      (no_entry its_field (served t l m p op kind operator optional spot at x found) (ap keeps_value own)) own refl) is_value

  -- A text that the entry holds, or none, under copy and tail.
  pub text_unsent : (source : ValueSource) (scratch piece : List ℕ) (value : Option ScalarData) → (operator ≡ Copy) ⊎ (operator ≡ Tail)
      → operator_uses_bit operator optional ≡ true → first_bit (bits_left (at_place m.cursor p)) ≡ false
      → IsUnsentText kind optional op.entry m.slots source → value ≡ value_at source its_field (slots_dictionary m.slots) scratch piece
      → IsFieldUnsent (set_of t) l m m p op.node its_field false value
  text_unsent source scratch piece value keeps uses clear h is_value =
      bit_unsent source scratch piece value uses (keeps_text operator keeps).1 clear (h its_field operator keeps its_own) is_value
