-- The field that an op names, at the place where the machine's loop stands.
use Rattle.std.proofs.Common.{refl, sym, ap, ◌∙◌, subst}
use Rattle.std.specs.Prelude.{◌≡◌, ◌≢◌, ◌⊎◌, Bool, true, false, [], length, slice_get, Option, Some, Ok, option_map, if◌then◌else◌}
use Rattle.fast_wire.specs.meaning.Maps.{first_bit}
use Rattle.fast_value.specs.declared.kinds.Kind.{Kind}
use Rattle.fast_value.specs.declared.settings.Limits.{Limits}
use Rattle.fast_value.specs.meaning.Limits.{bounds}
use Rattle.fast_tree.specs.declared.instructions.FieldInstruction.{FieldInstruction}
use Rattle.fast_tree.specs.declared.instructions.Node.{Node}
use Rattle.fast_tree.specs.declared.instructions.Shape.TheVariants as Shape
use Rattle.fast_tree.specs.declared.operators.Operator.{Operator}
use Rattle.fast_tree.specs.declared.operators.Operator.TheVariants.{None, Constant, Default, Copy, Increment, Delta, Tail}
use Rattle.fast_tree.specs.meaning.Nodes.{field_data}
use Rattle.fast_tree.specs.meaning.Tree.{FieldData, operator_uses_bit, uses_bit}
use Rattle.fast_template.specs.declared.sets.Templates.{Templates}
use Rattle.fast_program.specs.declared.ops.Op.{Op}
use Rattle.fast_program.specs.device.Codes.{Claim, field_of as a_field}
use Rattle.fast_dict.specs.declared.slots.Slots.{Slots}
use Rattle.fast_dict.specs.meaning.Dictionary.{previous_at}
use Rattle.fast_dict.specs.meaning.Operators.{decide, nothing}
use Rattle.fast_dict.specs.meaning.Slots.{slots_dictionary, slots_terms}
use Rattle.fast_units.specs.declared.fields.Number.{Number}
use Rattle.fast_items.specs.declared.taken.TakenItem.{TakenItem}
use Rattle.fast_units.specs.device.Deciding.{needs_bytes, number_data, source_of, IsDecided}
use Rattle.fast_items.specs.device.FieldsAs.{IsFieldAs, IsEntryFor, IsSentItem, IsUnsentItem}
use Rattle.fast_units.specs.device.Settling.{Serves}
use Rattle.fast_units.specs.device.UnitFronts.{IsSent}
use Rattle.fast_units.proofs.Deciding.{item_value, stands_unsent}
use Rattle.fast_cursor.specs.declared.place.Place.{Place}
use Rattle.fast_cursor.specs.device.Cursors.{bits_left}
use Rattle.fast_cursor.specs.device.Places.{at_place}
use Rattle.fast_machine.specs.declared.machine.Machine.{Machine}
use Rattle.fast_loop.specs.declared.spot.Spot.{Spot}
use Rattle.fast_machine.specs.device.Positions.{placed, set_of, bit_of, IsAtField}
use Rattle.fast_loop.specs.device.Arms.{IsAtSpot, IsArmOp, IsFieldTaken, IsFieldUnsent}
use Rattle.fast_machine.proofs.fields.Heads.{field_head}
use Rattle.fast_machine.proofs.fields.QuickFields.{sent_by_bit, node_here}
use Rattle.fast_machine.proofs.fields.FieldNodes.{served_node}
use Rattle.fast_machine.proofs.steps.FieldTurns.{serves_here, state_of}

-- One shape is one field.
pub same_field : (f g : FieldInstruction) → Shape.Field f ≡ Shape.Field g → f ≡ g
same_field f g e = cc e

-- A field that uses a bit needs no bytes where the bit is clear.
pub unneeded : (operator : Operator) (optional : Bool) → operator ≢ Constant → operator_uses_bit operator optional ≡ true → needs_bytes operator false ≡ false
unneeded None optional varies uses = absurd (cc uses)
unneeded Constant optional varies uses = absurd (varies refl)
unneeded Default optional varies uses = refl
unneeded Copy optional varies uses = refl
unneeded Increment optional varies uses = refl
unneeded Delta optional varies uses = absurd (cc uses)
unneeded Tail optional varies uses = refl

-- the node of an op
pub op_node : (t : Templates) (m : Machine) (p : Place) (op : Op) {claim : Claim} → IsArmOp (set_of t) p op claim
    → (x : Node) × (slice_get t.nodes.items op.node ≡ Some x)
op_node t m p op at = node_here t (at_place m.cursor p) op.node at.first at.below

module _ (t : Templates) (l : Limits) (m : Machine) (p : Place) (op : Op) (kind : Kind) (operator : Operator) (optional : Bool)
    (spot : IsAtSpot (set_of t) l m p) (at : IsArmOp (set_of t) p op (a_field kind operator optional)) (x : Node)
    (found : slice_get t.nodes.items op.node ≡ Some x) where
  -- the field
  abbrev pub instruction : FieldInstruction
  instruction = (at.is x found).0

  abbrev pub field_of : FieldData
  field_of = field_data instruction

  pub shape_is : x.shape ≡ Shape.Field instruction
  shape_is = (at.is x found).1

  pub as_coded : IsFieldAs field_of kind optional operator op.entry
  as_coded = record { kind = (at.is x found).2; optional = (at.is x found).4; operator = (at.is x found).3; entry = (at.is x found).5 }

  pub at_field : IsAtField (set_of t) (at_place m.cursor p) op.node field_of
  at_field = field_head t (at_place m.cursor p) op.node x at.first found instruction shape_is

  pub served : Serves (length (slots_dictionary m.slots)) (slots_terms m.slots) field_of
  served = serves_here (set_of t) l (placed m p) field_of spot.can.supplied
      (served_node (set_of t) l (placed m p) op.node x (Shape.Field instruction) spot.can.supplied found shape_is)

  pub entry_there : IsEntryFor m.slots operator op.entry
  entry_there keeps = served.within op.entry (as_coded.entry keeps)

  pub uses_as : uses_bit field_of ≡ operator_uses_bit operator optional
  uses_as = ap (λ o. operator_uses_bit o field_of.optional) as_coded.operator ∙ ap (operator_uses_bit operator) as_coded.optional

  -- It stands in the stream.
  pub is_sent : operator ≢ Constant → (operator_uses_bit operator optional ≡ false) ⊎ (first_bit (bits_left (at_place m.cursor p)) ≡ true)
      → IsSent field_of (bit_of field_of (state_of (placed m p)))
  is_sent varies stands = sent_by_bit field_of (state_of (placed m p)) (operator_uses_bit operator optional)
      (subst (λ o. o ≢ Constant) (sym as_coded.operator) varies) uses_as stands

  -- Its bit is clear.
  pub bit_clear : operator_uses_bit operator optional ≡ true → first_bit (bits_left (at_place m.cursor p)) ≡ false
      → false ≡ bit_of field_of (state_of (placed m p))
  bit_clear uses clear = sym (ap (λ b. if b then first_bit (bits_left (at_place m.cursor p)) else true) (uses_as ∙ uses) ∙ clear)

-- A number that stands whole in the piece.
pub item_taken : (t : Templates) (l : Limits) (m : Machine) (from : Spot) (op : Op) (kind : Kind) (operator : Operator) (optional : Bool)
    (spot : IsAtSpot (set_of t) l m from.place) (at : IsArmOp (set_of t) from.place op (a_field kind operator optional)) (x : Node)
    (found : slice_get t.nodes.items op.node ≡ Some x) (slots : Slots) (r : TakenItem) → operator ≢ Constant → (operator_uses_bit operator optional ≡ false)
    ⊎ (first_bit (bits_left (at_place m.cursor from.place)) ≡ true) → slots_terms slots ≡ slots_terms m.slots
    → IsSentItem kind optional operator op.entry l.strict from.rest.bytes.now m.slots slots r
    → IsFieldTaken (set_of t) l m (record m { slots = slots }) from op.node
    (field_of t l m from.place op kind operator optional spot at x found) (option_map number_data r.item) r.bytes
item_taken t l m from op kind operator optional spot at x found slots r varies stands terms h =
    let f = field_of t l m from.place op kind operator optional spot at x found in
    let (some, within, gives) = h f (bounds l) [] (as_coded t l m from.place op kind operator optional spot at x found)
    (served t l m from.place op kind operator optional spot at x found) in
    record {
      spot = spot;
      kept = refl;
      terms = terms;
      room = refl;
      at = at_field t l m from.place op kind operator optional spot at x found;
      sent = is_sent t l m from.place op kind operator optional spot at x found varies stands;
      some = some;
      within = within;
      outcome = gives.outcome;
      turns = gives.turns;
      is_value = gives.settled.value ∙ item_value r.item f (slots_dictionary slots) [] _;
      next = gives.settled.dictionary;
    }

-- A number of which nothing is sent, or none, by what is decided for this field.
pub decided_unsent : (t : Templates) (l : Limits) (m : Machine) (p : Place) (op : Op) (kind : Kind) (operator : Operator) (optional : Bool)
    (spot : IsAtSpot (set_of t) l m p) (at : IsArmOp (set_of t) p op (a_field kind operator optional)) (x : Node)
    (found : slice_get t.nodes.items op.node ≡ Some x)
    (slots : Slots) (item : Option Number) → operator_uses_bit operator optional ≡ true → needs_bytes operator false ≡ false
    → first_bit (bits_left (at_place m.cursor p)) ≡ false → slots_terms slots ≡ slots_terms m.slots
    → IsDecided (decide (field_of t l m p op kind operator optional spot at x found)
    (previous_at (field_of t l m p op kind operator optional spot at x found).entry (slots_dictionary m.slots)) false nothing)
    (field_of t l m p op kind operator optional spot at x found) (slots_dictionary m.slots) (slots_dictionary slots)
    (Ok (source_of item))
    → IsFieldUnsent (set_of t) l m (record m { slots = slots }) p op.node
    (field_of t l m p op kind operator optional spot at x found) false (option_map number_data item)
decided_unsent t l m p op kind operator optional spot at x found slots item uses unneeded clear terms (outcome, decided, settled) =
    let f = field_of t l m p op kind operator optional spot at x found in
    let same = as_coded t l m p op kind operator optional spot at x found in
    record {
      spot = spot;
      kept = refl;
      terms = terms;
      at = at_field t l m p op kind operator optional spot at x found;
      is_bit = bit_clear t l m p op kind operator optional spot at x found uses clear;
      unsent = stands_unsent f false (bounds l) _ (ap (λ o. needs_bytes o false) same.operator ∙ unneeded);
      outcome = outcome;
      decided = decided;
      is_value = (settled [] []).value ∙ item_value item f (slots_dictionary slots) [] [];
      next = (settled [] []).dictionary;
    }

-- The same by what is decided for each field that is so.
pub item_unsent : (t : Templates) (l : Limits) (m : Machine) (p : Place) (op : Op) (kind : Kind) (operator : Operator) (optional : Bool)
    (spot : IsAtSpot (set_of t) l m p) (at : IsArmOp (set_of t) p op (a_field kind operator optional)) (x : Node)
    (found : slice_get t.nodes.items op.node ≡ Some x)
    (slots : Slots) (item : Option Number) → operator_uses_bit operator optional ≡ true → needs_bytes operator false ≡ false
    → first_bit (bits_left (at_place m.cursor p)) ≡ false → slots_terms slots ≡ slots_terms m.slots
    → IsUnsentItem kind optional operator op.entry m.slots slots item
    → IsFieldUnsent (set_of t) l m (record m { slots = slots }) p op.node
    (field_of t l m p op kind operator optional spot at x found) false (option_map number_data item)
item_unsent t l m p op kind operator optional spot at x found slots item uses unneeded clear terms h =
    decided_unsent t l m p op kind operator optional spot at x found slots item uses unneeded clear terms
    (h (field_of t l m p op kind operator optional spot at x found)
    (as_coded t l m p op kind operator optional spot at x found) (served t l m p op kind operator optional spot at x found))
