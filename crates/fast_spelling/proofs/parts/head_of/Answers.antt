-- Each shape has its head.
use Rattle.std.proofs.Common.{inl, ap, sym}
use Rattle.fast_tree.specs.declared.instructions.Shape.TheVariants.{Field, Decimal, Group, Sequence}
use Rattle.fast_template.specs.meaning.Flat.{nodes_of}
use Rattle.fast_spelling.specs.device.Nodes.{head_in}
use Rattle.fast_spelling.proofs.encodings.Instructions.{at_shape, short_at}
use Rattle.fast_spelling.proofs.parts.head_of.Goals as goal

pub returns-in-Field-clause-head : goal.returns-in-Field-clause-head
returns-in-Field-clause-head c = sym (ap head_in (at_shape (nodes_of c.args.templates.now) c.args.node c.node.result.now
    (Field c.in-Field.field) c.node.ensures.found c.node.ensures.body c.in-Field.is))

pub returns-in-Field-clause-initial : goal.returns-in-Field-clause-initial
returns-in-Field-clause-initial c = λ m none long. short_at (nodes_of c.args.templates.now) c.args.node c.node.result.now
    (Field c.in-Field.field) m c.node.ensures.found c.in-Field.is none long

pub returns-in-Decimal-clause-head : goal.returns-in-Decimal-clause-head
returns-in-Decimal-clause-head c = sym (ap head_in (at_shape (nodes_of c.args.templates.now) c.args.node c.node.result.now
    (Decimal c.in-Decimal.exponent c.in-Decimal.mantissa) c.node.ensures.found c.node.ensures.body c.in-Decimal.is))

pub returns-in-Decimal-clause-initial : goal.returns-in-Decimal-clause-initial
returns-in-Decimal-clause-initial c = λ m none long. short_at (nodes_of c.args.templates.now) c.args.node c.node.result.now
    (Decimal c.in-Decimal.exponent c.in-Decimal.mantissa) m c.node.ensures.found c.in-Decimal.is none (inl long)

pub returns-in-Sequence-clause-head : goal.returns-in-Sequence-clause-head
returns-in-Sequence-clause-head c = sym (ap head_in (at_shape (nodes_of c.args.templates.now) c.args.node c.node.result.now
    (Sequence c.in-Sequence.length c.in-Sequence.body) c.node.ensures.found c.node.ensures.body c.in-Sequence.is))

pub returns-in-Sequence-clause-initial : goal.returns-in-Sequence-clause-initial
returns-in-Sequence-clause-initial c = λ m none long. short_at (nodes_of c.args.templates.now) c.args.node c.node.result.now
    (Sequence c.in-Sequence.length c.in-Sequence.body) m c.node.ensures.found c.in-Sequence.is none long

pub returns-in-Group-clause-head : goal.returns-in-Group-clause-head
returns-in-Group-clause-head c = sym (ap head_in (at_shape (nodes_of c.args.templates.now) c.args.node c.node.result.now
    (Group c.in-Group.optional c.in-Group.body) c.node.ensures.found c.node.ensures.body c.in-Group.is))
