-- The integer is written as it is, and the dictionary is left as it was.
use Rattle.std.proofs.Common.{◌≡◌, ◌∙◌, ap, sym, refl, subst, arith, [], ◌∷◌, length}
use Rattle.std.specs.Prelude.{Bool, true, false, pos, Option, Some, if◌then◌else◌}
use Rattle.std.proofs.lemmas.List.{append-nil}
use mathlib.Core.List.{not-mem-nil}
use Rattle.fast_wire.specs.meaning.Shortest.{IsShortest}
use Rattle.fast_value.specs.declared.kinds.Kind.{Kind}
use Rattle.fast_value.specs.meaning.Kinds.{ScalarData, U, text_of}
use Rattle.fast_value.specs.meaning.Messages.{ItemData, one}
use Rattle.fast_value.specs.meaning.Values.{scalar_data, value_data}
use Rattle.fast_tree.specs.declared.operators.Operator.{Operator}
use Rattle.fast_tree.specs.declared.operators.Operator.TheVariants.{None as no_operator}
use Rattle.fast_tree.specs.meaning.Tree.{FieldData, Instruction, field, operator_uses_bit, uses_bit}
use Rattle.fast_dict.specs.meaning.Dictionary.{PreviousData, previous_at, write_at}
use Rattle.fast_dict.specs.meaning.Operators.{value}
use Rattle.fast_template.specs.meaning.Flat.{nodes_of, field_data}
use Rattle.fast_spelling.specs.declared.forms.Step.{Step}
use Rattle.fast_spelling.specs.device.Drafts.{SpellsItem}
use Rattle.fast_spelling.specs.device.Fields.{IsSuited, next_by}
use Rattle.fast_spelling.specs.device.Nodes.{instruction_in}
use Rattle.fast_spelling.specs.meaning.Suiting.{IsRight, Suits}
use Rattle.fast_spelling.proofs.encodings.Instructions.{encodes_as, field_encodes}
use Rattle.fast_spelling.proofs.rules.FieldsWritten.{field_done}
use Rattle.fast_spelling.proofs.rules.Heads.{field_step}
use Rattle.fast_spelling.proofs.rules.Usual.{plain_ruled, value_sendable, write_back}
use Rattle.fast_spelling.proofs.checking.fields.try_plain_unsigned.Goals as goal

pub returns-clause-suits : goal.returns-clause-suits
returns-clause-suits c =
    let h = (field_step c.args.plan.now c.args.here.now c.args.kind no_operator c.requires.node c.requires.form).known in
    let v = value_data c.args.value.now in
    subst (λ (i : Instruction). Suits i (Some (one v))) (sym h.instruction.1)
    (subst (λ (k : Kind). IsRight k v) (sym h.of_kind) (c.in-Some-U.ensures.right refl))

pub returns-clause-ok : goal.returns-clause-ok
returns-clause-ok c =
    let nodes = nodes_of c.args.plan.now.templates.now in
    let step = c.args.here.now.step in
    let l = c.args.plan.now.limits in
    let d = c.args.work.now.ledger.now in
    let old = c.args.work.now.draft in
    let there = field_step c.args.plan.now c.args.here.now c.args.kind no_operator c.requires.node c.requires.form in
    let i = there.field in
    let h = there.known in
    let f : FieldData = field_data i in
    let v = value_data c.args.value.now in
    let y : Option ItemData = Some (one v) in
    let nullable : f.optional ≡ step.nullable = ap (λ (s : Step). s.nullable) there.step in
    let is : U c.in-Some-U.number ≡ v = sym (ap scalar_data c.in-Some-U.field-0-is) ∙ c.in-Some-U.ensures.value in
    let w = c.in_ok-write_unsigned_as.ensures in
    let spelled : SpellsItem f (value v) w.0 = subst (λ (z : ScalarData). SpellsItem f (value z) w.0) is
    (subst (λ (b : Bool). IsShortest false b (Some (pos c.in-Some-U.number)) w.0) (sym nullable) w.2) in
    let right : IsRight f.kind v = subst (λ (k : Kind). IsRight k v) (sym h.of_kind) (c.in-Some-U.ensures.right refl) in
    let none : length (text_of v) ≡ 0 = ap length (c.in-Some-U.ensures.short refl) in
    let small = c.requires.ready.small in
    let suited : IsSuited l.max_text f (Some v) = (right, omega (arith, none)) in
    let p : PreviousData = previous_at f.entry d in
    let unused : uses_bit f ≡ false = ap (λ (o : Operator). operator_uses_bit o f.optional) h.under in
    let kept : d ≡ write_at f.entry (next_by f.operator f.kind p (Some v)) d =
    sym (ap (λ (o : Operator). write_at f.entry (next_by o f.kind p (Some v)) d) h.under ∙ write_back f.entry d) in
    let says = field_done l f d p (Some v) true (value v) [] w.0 d refl h.usable.tail suited (plain_ruled f p v h.under)
    (value_sendable f.kind v l.max_text small right (omega (arith, none))) spelled
    (ap (λ (u : Bool). if u then true ∷ [] else []) (sym unused)) kept in
    let new = record old { bytes = c.write_unsigned_as.new.bytes } in
    encodes_as l (instruction_in nodes c.args.here.now.node) (field h.instruction.0 f) y y d old new d h.instruction.1 refl
    (field_encodes l h.instruction.0 f v d old new d ([], w.0, sym (append-nil old.bits), w.1, says))

pub branch-write_unsigned_as-requires : goal.branch-write_unsigned_as-requires
branch-write_unsigned_as-requires c κs = (λ a m. absurd (not-mem-nil m), λ a m. absurd (not-mem-nil m))

pub from_residual-requires : goal.from_residual-requires
from_residual-requires c κs = (λ a m. absurd (not-mem-nil m), (λ a m. absurd (not-mem-nil m), λ a m. absurd (not-mem-nil m)))
