-- The field of the next instruction.
use Rattle.std.proofs.Common.{sym, ◌∙◌}
use Rattle.fast_tree.specs.meaning.Nodes.{field_data}
use Rattle.fast_tree.specs.declared.instructions.Shape.TheVariants.{Field}
use Rattle.fast_machine.specs.device.Positions.{set_of}
use Rattle.fast_machine.proofs.fields.Heads.{field_head}
use Rattle.fast_machine.proofs.fields.FieldNodes.{first_below, served_node}
use Rattle.fast_machine.proofs.machine.Machine.next_field.Goals as goal

pub node-requires : goal.node-requires
node-requires c = first_below _ c.args.self.now.cursor.left c.in_ok-number.number c.requires.turn.placed.below (sym c.next.ensures ∙ c.in_ok-number.was)

pub returns-clause-next : goal.returns-clause-next
returns-clause-next c =
    field_head c.args.templates.now c.args.self.now.cursor c.in_ok-number.number c.node.result.now (sym c.next.ensures ∙ c.in_ok-number.was)
    c.node.ensures.found c.in-Field.field c.in-Field.is

pub returns-clause-serves : goal.returns-clause-serves
returns-clause-serves c =
    served_node (set_of c.args.templates.now) c.args.limits c.args.self.now c.in_ok-number.number c.node.result.now (Field c.in-Field.field)
    c.requires.turn.supplied c.node.ensures.found c.in-Field.is
