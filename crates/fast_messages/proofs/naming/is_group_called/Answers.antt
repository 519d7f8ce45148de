use Rattle.std.proofs.Common.{◌≡◌, inl, inr}
use Rattle.std.proofs.lemmas.Bool.Decides.{Decides-eqb}
use Rattle.std.proofs.lemmas.Slice.Eq.{slice_eq-Decides}
use Rattle.fast_tree.specs.declared.instructions.Shape.TheVariants.{Field, Decimal, Group, Sequence}
use Rattle.fast_template.specs.meaning.Flat.{tree_of}
use Rattle.fast_lines.specs.meaning.Lines.{node_name}
use Rattle.fast_messages.specs.device.Naming.{IsGroup}
use Rattle.fast_messages.proofs.names.Named.{fails_there, called_there}
use Rattle.fast_messages.proofs.naming.is_group_called.Goals as goal

pub returns-in-Group : goal.returns-in-Group
returns-in-Group c = called_there c.args.templates.now c.args.node c.node-of.result.now c.node-of.ensures.found c.node-of.ensures.body
    IsGroup (Group c.in-Group.optional c.in-Group.body) c.in-Group.is c.eq.result c.args.name.now c.as_bytes.result.now tt
    (slice_eq-Decides Decides-eqb _ _ _ c.eq.ensures) c.as_bytes.ensures.value

pub returns-in-Field : goal.returns-in-Field
returns-in-Field c = elim c.in-Field.is [
  | inl w ↦ fails_there c.args.templates.now c.args.node c.node-of.result.now c.node-of.ensures.found c.node-of.ensures.body IsGroup
      (Field w.0) w.1 (c.args.name.now ≡ node_name (tree_of c.args.templates.now) c.args.node) (λ h. h)
  | inr w ↦ elim w [
    | inl u ↦ fails_there c.args.templates.now c.args.node c.node-of.result.now c.node-of.ensures.found c.node-of.ensures.body IsGroup
        (Decimal u.0 u.1) u.2 (c.args.name.now ≡ node_name (tree_of c.args.templates.now) c.args.node) (λ h. h)
    | inr u ↦ fails_there c.args.templates.now c.args.node c.node-of.result.now c.node-of.ensures.found c.node-of.ensures.body IsGroup
        (Sequence u.0 u.1) u.2 (c.args.name.now ≡ node_name (tree_of c.args.templates.now) c.args.node) (λ h. h)
  ]
]
