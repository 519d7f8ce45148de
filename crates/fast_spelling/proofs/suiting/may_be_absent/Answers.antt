-- Absence, by the shape.
use Rattle.std.proofs.Common.{refl}
use Rattle.std.specs.Prelude.{None}
use Rattle.fast_tree.specs.declared.instructions.Shape.TheVariants.{Field, Decimal, Group, Sequence}
use Rattle.fast_template.specs.meaning.Flat.{nodes_of}
use Rattle.fast_spelling.proofs.limits.Suited.{suits_at}
use Rattle.fast_spelling.proofs.suiting.may_be_absent.Goals as goal

pub returns-in-Field : goal.returns-in-Field
returns-in-Field c = suits_at (nodes_of c.args.templates.now) c.args.node c.node.result.now
    (Field c.in-Field.field) c.node.ensures.found c.node.ensures.body c.in-Field.is c.in-Field.field.optional None None refl
    (λ h. h, λ h. h)

pub returns-in-Decimal : goal.returns-in-Decimal
returns-in-Decimal c = suits_at (nodes_of c.args.templates.now) c.args.node c.node.result.now
    (Decimal c.in-Decimal.exponent c.in-Decimal.mantissa) c.node.ensures.found c.node.ensures.body c.in-Decimal.is
    c.in-Decimal.exponent.optional None None refl (λ h. h, λ h. h)

pub returns-in-Group : goal.returns-in-Group
returns-in-Group c = suits_at (nodes_of c.args.templates.now) c.args.node c.node.result.now
    (Group c.in-Group.optional c.in-Group.body) c.node.ensures.found c.node.ensures.body c.in-Group.is c.in-Group.optional None None refl
    (λ h. h, λ h. h)

pub returns-in-Sequence : goal.returns-in-Sequence
returns-in-Sequence c = suits_at (nodes_of c.args.templates.now) c.args.node c.node.result.now
    (Sequence c.in-Sequence.length c.in-Sequence.body) c.node.ensures.found c.node.ensures.body c.in-Sequence.is
    c.in-Sequence.length.optional None None refl (λ h. h, λ h. h)
