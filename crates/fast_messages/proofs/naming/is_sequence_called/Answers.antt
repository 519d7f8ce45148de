use Rattle.std.proofs.Common.{◌≡◌, inl, inr}
use Rattle.std.proofs.lemmas.Bool.Decides.{Decides-eqb}
use Rattle.std.proofs.lemmas.Slice.Eq.{slice_eq-Decides}
use Rattle.fast_tree.specs.declared.instructions.Shape.TheVariants.{Field, Decimal, Group, Sequence}
use Rattle.fast_template.specs.meaning.Flat.{tree_of}
use Rattle.fast_lines.specs.meaning.Lines.{node_name}
use Rattle.fast_messages.specs.device.Naming.{IsSequence}
use Rattle.fast_messages.proofs.names.Named.{fails_there, called_there}
use Rattle.fast_messages.proofs.naming.is_sequence_called.Goals as goal

pub returns-in-Sequence : goal.returns-in-Sequence
returns-in-Sequence c = called_there c.args.templates.now c.args.node c.node-of.result.now c.node-of.ensures.found c.node-of.ensures.body
    IsSequence (Sequence c.in-Sequence.length c.in-Sequence.body) c.in-Sequence.is c.eq.result c.args.name.now c.as_bytes.result.now tt
    (slice_eq-Decides Decides-eqb _ _ _ c.eq.ensures) c.as_bytes.ensures.value

pub returns-in-Field : goal.returns-in-Field
returns-in-Field c = elim c.in-Field.is [
  | inl w ↦ fails_there c.args.templates.now c.args.node c.node-of.result.now c.node-of.ensures.found c.node-of.ensures.body IsSequence
      (Field w.0) w.1 (c.args.name.now ≡ node_name (tree_of c.args.templates.now) c.args.node) (λ h. h)
  | inr w ↦ elim w [
    | inl u ↦ fails_there c.args.templates.now c.args.node c.node-of.result.now c.node-of.ensures.found c.node-of.ensures.body IsSequence
        (Decimal u.0 u.1) u.2 (c.args.name.now ≡ node_name (tree_of c.args.templates.now) c.args.node) (λ h. h)
    | inr u ↦ fails_there c.args.templates.now c.args.node c.node-of.result.now c.node-of.ensures.found c.node-of.ensures.body IsSequence
        (Group u.0 u.1) u.2 (c.args.name.now ≡ node_name (tree_of c.args.templates.now) c.args.node) (λ h. h)
  ]
]
