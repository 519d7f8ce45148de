use Rattle.std.proofs.Common.{◌≡◌, inl, inr}
use Rattle.std.proofs.lemmas.Bool.Decides.{Decides-eqb}
use Rattle.std.proofs.lemmas.Slice.Eq.{slice_eq-Decides}
use Rattle.fast_tree.specs.declared.instructions.Shape.TheVariants.{Field, Decimal, Group, Sequence}
use Rattle.fast_template.specs.meaning.Flat.{tree_of}
use Rattle.fast_lines.specs.meaning.Lines.{node_name}
use Rattle.fast_messages.specs.device.Naming.{IsValue}
use Rattle.fast_messages.proofs.names.Named.{fails_there, called_there}
use Rattle.fast_messages.proofs.naming.is_value_called.Goals as goal

pub returns-in-Field : goal.returns-in-Field
returns-in-Field c =
    let same = slice_eq-Decides Decides-eqb _ _ _ c.eq.ensures in
    elim c.in-Field.is [
      | inl w ↦ called_there c.args.templates.now c.args.node c.node-of.result.now c.node-of.ensures.found c.node-of.ensures.body IsValue
          (Field w.0) w.1 c.eq.result c.args.name.now c.as_bytes.result.now tt same c.as_bytes.ensures.value
      | inr w ↦ called_there c.args.templates.now c.args.node c.node-of.result.now c.node-of.ensures.found c.node-of.ensures.body IsValue
          (Decimal w.0 w.1) w.2 c.eq.result c.args.name.now c.as_bytes.result.now tt same c.as_bytes.ensures.value
    ]

pub returns-in-Group : goal.returns-in-Group
returns-in-Group c = elim c.in-Group.is [
  | inl w ↦ fails_there c.args.templates.now c.args.node c.node-of.result.now c.node-of.ensures.found c.node-of.ensures.body IsValue
      (Group w.0 w.1) w.2 (c.args.name.now ≡ node_name (tree_of c.args.templates.now) c.args.node) (λ h. h)
  | inr w ↦ fails_there c.args.templates.now c.args.node c.node-of.result.now c.node-of.ensures.found c.node-of.ensures.body IsValue
      (Sequence w.0 w.1) w.2 (c.args.name.now ≡ node_name (tree_of c.args.templates.now) c.args.node) (λ h. h)
]
