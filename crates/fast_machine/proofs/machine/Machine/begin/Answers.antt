-- A turn by the node that is next. What the whole needs of each kind, it has.
use Rattle.fast_machine.proofs.fields.Heads.{node_within, field_head, parts_head, group_head, sequence_head}
use Rattle.std.proofs.Common.{◌≡◌, ℕ, List, sym, ap, ◌∙◌, subst}
use Rattle.fast_tree.specs.meaning.Numbers.{numbers_of, AreBelow, AreBetween}
use Rattle.fast_machine.proofs.machine.Machine.begin.Goals as goal

-- The nodes of a run are those that its node names.
run_below : (own limit : ℕ) (ns ms : List ℕ) → AreBetween own limit ms → ns ≡ ms → AreBelow limit ns
run_below own limit ns ms h e = subst (λ (xs : List ℕ). AreBelow limit xs) (sym e) (λ k b. (h k b).1)

pub begin_field-requires-clause-next : goal.begin_field-requires-clause-next
begin_field-requires-clause-next g c = field_head c.args.templates.now c.args.self.now.cursor c.in-Some.number c.node.result.now
    (sym c.next.ensures ∙ c.in-Some.is) c.node.ensures.found c.in-Field.field c.in-Field.is

pub begin_decimal-requires-clause-next : goal.begin_decimal-requires-clause-next
begin_decimal-requires-clause-next g c =
    parts_head c.args.templates.now c.args.self.now.cursor c.in-Some.number c.node.result.now
    (sym c.next.ensures ∙ c.in-Some.is) c.node.ensures.found c.in-Decimal.exponent c.in-Decimal.mantissa c.in-Decimal.is

pub begin_group-requires-clause-next : goal.begin_group-requires-clause-next
begin_group-requires-clause-next g c =
    group_head c.args.templates.now c.args.self.now.cursor c.in-Some.number c.node.result.now
    (sym c.next.ensures ∙ c.in-Some.is) c.node.ensures.found c.in-Group.optional c.in-Group.body _ c.in-Group.is
    ((c.body_start-start.ensures c.node.result.now c.node.ensures.found).nodes ∙ ap numbers_of c.in-Group.is)

pub begin_group-requires-clause-node : goal.begin_group-requires-clause-node
begin_group-requires-clause-node g c = node_within c.args.templates.now c.args.self.now.cursor c.in-Some.number c.node.result.now
    (sym c.next.ensures ∙ c.in-Some.is) c.node.ensures.found

pub begin_sequence-requires-clause-next : goal.begin_sequence-requires-clause-next
begin_sequence-requires-clause-next g c =
    sequence_head c.args.templates.now c.args.self.now.cursor c.in-Some.number c.node.result.now
    (sym c.next.ensures ∙ c.in-Some.is) c.node.ensures.found c.in-Sequence.length c.in-Sequence.body _ c.in-Sequence.is
    ((c.body_start-start-in-Sequence.ensures c.node.result.now c.node.ensures.found).nodes ∙ ap numbers_of c.in-Sequence.is)

pub begin_sequence-requires-clause-node : goal.begin_sequence-requires-clause-node
begin_sequence-requires-clause-node g c = node_within c.args.templates.now c.args.self.now.cursor c.in-Some.number c.node.result.now
    (sym c.next.ensures ∙ c.in-Some.is) c.node.ensures.found

pub body_start-start-requires : goal.body_start-start-requires
body_start-start-requires g c = node_within c.args.templates.now c.args.self.now.cursor c.in-Some.number c.node.result.now
    (sym c.next.ensures ∙ c.in-Some.is) c.node.ensures.found

pub begin_group-requires-clause-run : goal.begin_group-requires-clause-run
begin_group-requires-clause-run g c = (c.body_start-start.ensures c.node.result.now c.node.ensures.found).run

pub begin_group-requires-clause-below : goal.begin_group-requires-clause-below
begin_group-requires-clause-below g c = run_below c.in-Some.number _ _ (numbers_of c.node.result.now.shape) c.node.ensures.body
    (c.body_start-start.ensures c.node.result.now c.node.ensures.found).nodes

pub body_start-start-requires-in-Sequence : goal.body_start-start-requires-in-Sequence
body_start-start-requires-in-Sequence g c = node_within c.args.templates.now c.args.self.now.cursor c.in-Some.number c.node.result.now
    (sym c.next.ensures ∙ c.in-Some.is) c.node.ensures.found

pub begin_sequence-requires-clause-run : goal.begin_sequence-requires-clause-run
begin_sequence-requires-clause-run g c = (c.body_start-start-in-Sequence.ensures c.node.result.now c.node.ensures.found).run

pub begin_sequence-requires-clause-below : goal.begin_sequence-requires-clause-below
begin_sequence-requires-clause-below g c = run_below c.in-Some.number _ _ (numbers_of c.node.result.now.shape) c.node.ensures.body
    (c.body_start-start-in-Sequence.ensures c.node.result.now c.node.ensures.found).nodes
