-- The step of a node says of its field what stands there.
use Rattle.std.proofs.Common.{◌≡◌, ◌∙◌, ap, sym, subst}
use Rattle.std.specs.Prelude.{Some, is_some}
use Rattle.fast_tree.specs.declared.instructions.FieldInstruction.{FieldInstruction}
use Rattle.fast_tree.specs.meaning.Entries.{keeps_value}
use Rattle.fast_tree.specs.meaning.Nodes.{field_data}
use Rattle.fast_tree.specs.meaning.Tree.{field}
use Rattle.fast_tree.specs.meaning.Usable.{IsUsable}
use Rattle.fast_dict.specs.meaning.EntryTexts.{IsLongText}
use Rattle.fast_template.specs.meaning.Flat.{tree_of}
use Rattle.fast_spelling.specs.declared.forms.Step.{Step}
use Rattle.fast_spelling.proofs.rules.FormsTold.{entry_there, entry_missing}
use Rattle.fast_spelling.proofs.rules.Heads.{field_step}
use Rattle.fast_spelling.proofs.checking.nodes.known_at.Goals as goal
use Rattle.fast_spelling.proofs.checking.nodes.known_at.Goals.{then-keeps, else-keeps}

pub invariant_of-result : goal.invariant_of-result
invariant_of-result c =
    let h = field_step c.args.plan.now c.args.here.now c.args.kind c.args.operator c.requires.node c.requires.form in
    let kept : keeps_value c.args.operator ≡ is_some h.field.entry = ap keeps_value (sym h.known.under) ∙ h.known.usable.kept in
    let told = sym kept ∙ sym c.keeps.ensures.value in
    record {
      there = h.has;
      same_kind = ap (λ (g : FieldInstruction). g.kind) h.there ∙ h.known.of_kind;
      same_nullable = ap (λ (g : FieldInstruction). g.optional) h.there ∙ ap (λ (s : Step). s.nullable) h.step;
      same_entry = ap (λ (g : FieldInstruction). g.entry) h.there ∙ elim c.if-keeps.branch [
        | then-keeps w ↦ entry_there h.field.entry (told ∙ w.if-keeps.true) ∙ ap Some (ap (λ (s : Step). s.entry) h.step) ∙ sym w.result-is
        | else-keeps w ↦ entry_missing h.field.entry (told ∙ w.if-keeps.false) ∙ sym w.result-is
      ];
    }

pub returns-clause-kind : goal.returns-clause-kind
returns-clause-kind c =
    let h = field_step c.args.plan.now c.args.here.now c.args.kind c.args.operator c.requires.node c.requires.form in
    ap (λ (g : FieldInstruction). g.kind) h.there ∙ h.known.of_kind

pub returns-clause-operator : goal.returns-clause-operator
returns-clause-operator c =
    let h = field_step c.args.plan.now c.args.here.now c.args.kind c.args.operator c.requires.node c.requires.form in
    ap (λ (g : FieldInstruction). g.operator) h.there ∙ h.known.under

pub returns-clause-instruction : goal.returns-clause-instruction
returns-clause-instruction c =
    let h = field_step c.args.plan.now c.args.here.now c.args.kind c.args.operator c.requires.node c.requires.form in
    let at = h.known.instruction in
    (at.0, at.1 ∙ ap (λ (g : FieldInstruction). field at.0 (field_data g)) (sym h.there))

pub returns-clause-usable : goal.returns-clause-usable
returns-clause-usable c =
    let h = field_step c.args.plan.now c.args.here.now c.args.kind c.args.operator c.requires.node c.requires.form in
    subst (λ (g : FieldInstruction). IsUsable (tree_of c.args.plan.now.templates.now).entries (field_data g)) (sym h.there) h.known.usable

pub returns-clause-initial : goal.returns-clause-initial
returns-clause-initial c = λ m none long.
    let h = field_step c.args.plan.now c.args.here.now c.args.kind c.args.operator c.requires.node c.requires.form in
    h.known.initial m none (subst (λ (g : FieldInstruction). IsLongText m (field_data g).initial) h.there long)
