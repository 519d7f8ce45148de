-- The field of a node whose form tells that it is one.
use Rattle.std.proofs.Common.{◌≡◌, ◌∙◌, ap, sym, subst}
use Rattle.std.specs.Prelude.{Some}
use Rattle.fast_tree.specs.declared.instructions.Node.{Node}
use Rattle.fast_tree.specs.declared.instructions.Shape.TheVariants.{Field}
use Rattle.fast_tree.specs.meaning.Nodes.{label_of}
use Rattle.fast_template.specs.meaning.Flat.{nodes_of, tree_of}
use Rattle.fast_spelling.specs.device.Forms.{IsFieldOf}
use Rattle.fast_spelling.proofs.encodings.Instructions.{at_shape, short_at, usable_at}
use Rattle.fast_spelling.proofs.checking.nodes.field_at.Goals as goal
use Rattle.fast_spelling.proofs.checking.nodes.field_at.Goals.{In-Field}

pub returns-clause-instruction : goal.returns-clause-instruction
returns-clause-instruction c = (
  label_of c.args.here.now.node c.node.result.now,
  at_shape (nodes_of c.args.plan.now.templates.now) c.args.here.now.node c.node.result.now
      (Field c.in-Field.field) c.node.ensures.found c.node.ensures.body c.in-Field.is,
)

pub returns-clause-usable : goal.returns-clause-usable
returns-clause-usable c = usable_at (tree_of c.args.plan.now.templates.now).entries c.node.result.now
    (Field c.in-Field.field) c.in-Field.is c.node.ensures.usable

pub returns-clause-initial : goal.returns-clause-initial
returns-clause-initial c = λ m none long. short_at (nodes_of c.args.plan.now.templates.now) c.args.here.now.node c.node.result.now
    (Field c.in-Field.field) m c.node.ensures.found c.in-Field.is none long

is_field : (c : In-Field) → IsFieldOf c.args.kind c.args.operator (Field c.in-Field.field)
is_field c = subst (IsFieldOf c.args.kind c.args.operator) c.in-Field.is (c.requires.form c.node.result.now c.node.ensures.found)

pub returns-clause-kind : goal.returns-clause-kind
returns-clause-kind c = (is_field c).0

pub returns-clause-operator : goal.returns-clause-operator
returns-clause-operator c = (is_field c).1

some_is : (x y : Node) → Some x ≡ Some y → x ≡ y
some_is x y e = cc

pub returns-clause-shape : goal.returns-clause-shape
returns-clause-shape c = λ x found. ap (λ (n : Node). n.shape) (some_is x c.node.result.now (sym found ∙ c.node.ensures.found)) ∙ c.in-Field.is
