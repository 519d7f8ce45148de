use Rattle.std.proofs.Common.{sym, ap, ◌∙◌, subst}
use Rattle.std.specs.Prelude.{◌≡◌, ℕ, List, [], ◌∷◌, None, length}
use Rattle.fast_tree.specs.meaning.Numbers.{numbers_of, AreBelow}
use Rattle.fast_tree.specs.meaning.Nodes.{body_among}
use Rattle.fast_tree.specs.declared.instructions.Node.{Node}
use Rattle.fast_tree.specs.declared.instructions.Shape.TheVariants.{Field, Decimal, Sequence}
use Rattle.fast_cursor.specs.device.Segments.{first_node}
use Rattle.fast_stream.specs.meaning.Messages.{State}
use Rattle.fast_dict.specs.meaning.Slots.{slots_dictionary}
use Rattle.fast_value.specs.declared.settings.Limits.{Limits}
use Rattle.fast_fields.specs.declared.carry.Carry.{Carry}
use Rattle.fast_machine.specs.device.Positions.{set_of, state_in, CanTake, BeginsWithField}
use Rattle.fast_machine.specs.declared.machine.Waiting.{Waiting}
use Rattle.fast_machine.proofs.machines.UnitTaken.{can_take_field}
use Rattle.fast_machine.proofs.fields.FieldNodes.{at_field_node, at_parts_node, at_sequence_node, no_group, first_below, served_node}
use Rattle.fast_machine.proofs.machine.Machine.take_instruction.Goals as goal

-- Where there is no instruction, none begins with a field.
none_begins : (l : Limits) (nodes : List Node) (ns : List ℕ) (s : State) (carry : Carry) → first_node ns ≡ None
    → BeginsWithField l (body_among nodes ns) s carry → ⊥
none_begins l nodes [] s carry e h = h
none_begins l nodes (n ∷ ns) s carry e h = absurd (cc e)

pub returns-in_default-clause-taken : goal.returns-in_default-clause-taken
returns-in_default-clause-taken g c =
    let m = c.args.self.now in
    let can = can_take_field (set_of c.args.templates.now) c.args.limits.now m c.requires.waits c.requires.ready in
    absurd (none_begins c.args.limits.now (set_of c.args.templates.now).nodes m.cursor.left (state_in (slots_dictionary m.slots) m.counted m.cursor) m.carry
    (sym c.next.ensures ∙ c.in_default.is) can.2)

pub returns-in_default-clause-turns : goal.returns-in_default-clause-turns
returns-in_default-clause-turns g c =
    let m = c.args.self.now in
    let can = can_take_field (set_of c.args.templates.now) c.args.limits.now m c.requires.waits c.requires.ready in
    absurd (none_begins c.args.limits.now (set_of c.args.templates.now).nodes m.cursor.left (state_in (slots_dictionary m.slots) m.counted m.cursor) m.carry
    (sym c.next.ensures ∙ c.in_default.is) can.2)

pub take_exponent-requires-clause-next : goal.take_exponent-requires-clause-next
take_exponent-requires-clause-next g c =
    let set = set_of c.args.templates.now in
    let l = c.args.limits.now in
    let m = c.args.self.now in
    let n = c.in-Some.number in
    let v = c.node.result.now in
    let later = c.args.templates.now.nodes_name_later_nodes in
    let first = sym c.next.ensures ∙ c.in-Some.is in
    at_parts_node set m.cursor n v later first c.node.ensures.found c.in-Decimal.exponent c.in-Decimal.mantissa c.in-Decimal.is

pub take_length-requires-clause-next : goal.take_length-requires-clause-next
take_length-requires-clause-next g c =
    let set = set_of c.args.templates.now in
    let l = c.args.limits.now in
    let m = c.args.self.now in
    let n = c.in-Some.number in
    let v = c.node.result.now in
    let later = c.args.templates.now.nodes_name_later_nodes in
    let first = sym c.next.ensures ∙ c.in-Some.is in
    at_sequence_node set m.cursor n v later first c.node.ensures.found c.in-Sequence.length c.in-Sequence.body _ c.in-Sequence.is
    ((c.body_start-start.ensures v c.node.ensures.found).nodes ∙ ap numbers_of c.in-Sequence.is)

pub take_length-requires-clause-node : goal.take_length-requires-clause-node
take_length-requires-clause-node g c =
    let set = set_of c.args.templates.now in
    let l = c.args.limits.now in
    let m = c.args.self.now in
    let n = c.in-Some.number in
    let v = c.node.result.now in
    let later = c.args.templates.now.nodes_name_later_nodes in
    let first = sym c.next.ensures ∙ c.in-Some.is in
    let can = subst (λ (w : Waiting). CanTake w set l m) c.requires.waits c.requires.ready.takes in
    first_below _ m.cursor.left n can.0.below first

pub returns-in-Group-clause-taken : goal.returns-in-Group-clause-taken
returns-in-Group-clause-taken g c =
    let set = set_of c.args.templates.now in
    let l = c.args.limits.now in
    let m = c.args.self.now in
    let n = c.in-Some.number in
    let v = c.node.result.now in
    let later = c.args.templates.now.nodes_name_later_nodes in
    let first = sym c.next.ensures ∙ c.in-Some.is in
    let can = subst (λ (w : Waiting). CanTake w set l m) c.requires.waits c.requires.ready.takes in
    absurd (no_group set m.cursor n v later first c.node.ensures.found c.args.limits.now
    (state_in (slots_dictionary m.slots) m.counted m.cursor) m.carry c.in-Group.optional c.in-Group.body c.in-Group.is can.2)

pub returns-in-Decimal-clause-taken : goal.returns-in-Decimal-clause-taken
returns-in-Decimal-clause-taken g c = c.take_exponent.ensures.taken

pub returns-in-Sequence-clause-taken : goal.returns-in-Sequence-clause-taken
returns-in-Sequence-clause-taken g c = c.take_length.ensures.taken

pub returns-in-Decimal-clause-turns : goal.returns-in-Decimal-clause-turns
returns-in-Decimal-clause-turns g c = c.take_exponent.ensures.turns

pub returns-in-Sequence-clause-turns : goal.returns-in-Sequence-clause-turns
returns-in-Sequence-clause-turns g c = c.take_length.ensures.turns

pub node-requires : goal.node-requires
node-requires g c =
    let m = c.args.self.now in
    let can = can_take_field (set_of c.args.templates.now) c.args.limits.now m c.requires.waits c.requires.ready in
    first_below _ m.cursor.left c.in-Some.number can.0.below (sym c.next.ensures ∙ c.in-Some.is)

pub take_exponent-requires-clause-waits : goal.take_exponent-requires-clause-waits
take_exponent-requires-clause-waits g c = c.requires.waits

pub take_exponent-requires-clause-ready : goal.take_exponent-requires-clause-ready
take_exponent-requires-clause-ready g c = c.requires.ready

pub take_exponent-requires-clause-some : goal.take_exponent-requires-clause-some
take_exponent-requires-clause-some g c = c.requires.some

pub take_exponent-requires-clause-exponent : goal.take_exponent-requires-clause-exponent
take_exponent-requires-clause-exponent g c =
    (served_node (set_of c.args.templates.now) c.args.limits.now c.args.self.now c.in-Some.number c.node.result.now
    (Decimal c.in-Decimal.exponent c.in-Decimal.mantissa) c.requires.ready.supplied c.node.ensures.found c.in-Decimal.is).0

pub take_exponent-requires-clause-mantissa : goal.take_exponent-requires-clause-mantissa
take_exponent-requires-clause-mantissa g c =
    (served_node (set_of c.args.templates.now) c.args.limits.now c.args.self.now c.in-Some.number c.node.result.now
    (Decimal c.in-Decimal.exponent c.in-Decimal.mantissa) c.requires.ready.supplied c.node.ensures.found c.in-Decimal.is).1

pub body_start-start-requires : goal.body_start-start-requires
body_start-start-requires g c =
    let m = c.args.self.now in
    let can = can_take_field (set_of c.args.templates.now) c.args.limits.now m c.requires.waits c.requires.ready in
    first_below _ m.cursor.left c.in-Some.number can.0.below (sym c.next.ensures ∙ c.in-Some.is)

pub take_length-requires-clause-waits : goal.take_length-requires-clause-waits
take_length-requires-clause-waits g c = c.requires.waits

pub take_length-requires-clause-ready : goal.take_length-requires-clause-ready
take_length-requires-clause-ready g c = c.requires.ready

pub take_length-requires-clause-some : goal.take_length-requires-clause-some
take_length-requires-clause-some g c = c.requires.some

pub take_length-requires-clause-run : goal.take_length-requires-clause-run
take_length-requires-clause-run g c = (c.body_start-start.ensures c.node.result.now c.node.ensures.found).run

pub take_length-requires-clause-serves : goal.take_length-requires-clause-serves
take_length-requires-clause-serves g c =
    (served_node (set_of c.args.templates.now) c.args.limits.now c.args.self.now c.in-Some.number c.node.result.now
    (Sequence c.in-Sequence.length c.in-Sequence.body) c.requires.ready.supplied c.node.ensures.found c.in-Sequence.is).0

pub take_length-requires-clause-below : goal.take_length-requires-clause-below
take_length-requires-clause-below g c =
    subst (AreBelow (length (set_of c.args.templates.now).nodes))
    (sym (c.body_start-start.ensures c.node.result.now c.node.ensures.found).nodes) (λ k within. (c.node.ensures.body k within).1)

pub take_length-requires-clause-body : goal.take_length-requires-clause-body
take_length-requires-clause-body g c = λ x found. (c.body_start-start.ensures x found).nodes

pub returns-in-Group-clause-turns : goal.returns-in-Group-clause-turns
returns-in-Group-clause-turns g c =
    let set = set_of c.args.templates.now in
    let m = c.args.self.now in
    let first = sym c.next.ensures ∙ c.in-Some.is in
    let can = can_take_field set c.args.limits.now m c.requires.waits c.requires.ready in
    absurd (no_group set m.cursor c.in-Some.number c.node.result.now c.args.templates.now.nodes_name_later_nodes first c.node.ensures.found c.args.limits.now
    (state_in (slots_dictionary m.slots) m.counted m.cursor) m.carry c.in-Group.optional c.in-Group.body c.in-Group.is can.2)

pub take_field-requires-clause-waits : goal.take_field-requires-clause-waits
take_field-requires-clause-waits g c = c.requires.waits

pub take_field-requires-clause-ready : goal.take_field-requires-clause-ready
take_field-requires-clause-ready g c = c.requires.ready

pub take_field-requires-clause-some : goal.take_field-requires-clause-some
take_field-requires-clause-some g c = c.requires.some

pub take_field-requires-clause-next : goal.take_field-requires-clause-next
take_field-requires-clause-next g c =
    at_field_node (set_of c.args.templates.now) c.args.self.now.cursor c.in-Some.number c.node.result.now c.args.templates.now.nodes_name_later_nodes
    (sym c.next.ensures ∙ c.in-Some.is) c.node.ensures.found c.in-Field.field c.in-Field.is

pub take_field-requires-clause-serves : goal.take_field-requires-clause-serves
take_field-requires-clause-serves g c =
    served_node (set_of c.args.templates.now) c.args.limits.now c.args.self.now c.in-Some.number c.node.result.now (Field c.in-Field.field)
    c.requires.ready.supplied c.node.ensures.found c.in-Field.is

pub returns-in-Field-clause-taken : goal.returns-in-Field-clause-taken
returns-in-Field-clause-taken g c = c.take_field.ensures.taken

pub returns-in-Field-clause-turns : goal.returns-in-Field-clause-turns
returns-in-Field-clause-turns g c = c.take_field.ensures.turns
