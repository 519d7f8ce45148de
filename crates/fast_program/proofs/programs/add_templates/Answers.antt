use Rattle.std.proofs.Common.{refl, sym, ◌∙◌, subst, List, ◌≡◌, length, take, Some, slice_get, add-one, arith}
use Rattle.std.proofs.lemmas.List.{length-take-le, take_all}
use Rattle.std.proofs.lemmas.Option.{slice_get_read}
use Rattle.fast_tree.specs.declared.instructions.Node.{Node}
use Rattle.fast_tree.specs.declared.instructions.Template.{Template}
use Rattle.fast_tree.specs.meaning.Numbers.{AreBelow}
use Rattle.fast_program.specs.declared.ops.Op.{Op}
use Rattle.fast_program.specs.declared.starts.Start.{Start}
use Rattle.fast_program.specs.device.Runs.{Begins}
use Rattle.fast_program.specs.device.Starts.{IsStartOf}
use Rattle.fast_program.specs.device.Programs.{AreStarts}
use Rattle.fast_program.proofs.StartLists.{one_more_start, order_more, kept_starts, kept_start, as_many_starts, extends_both, extends_none}
use Rattle.fast_program.proofs.StartLists.{no_starts, order_none}
use Rattle.fast_program.proofs.programs.add_templates.Goals as goal

pub add_body-requires-clause-rests : goal.add_body-requires-clause-rests
add_body-requires-clause-rests c = c.loop-number.invariant.0.kept 0 _ c.requires.rests

pub loop-number-preserved : goal.loop-number-preserved
loop-number-preserved c =
    let (extends, starts, order) = c.loop-number.invariant in
    let ns : List Node = c.args.nodes.now in
    let ts : List Template = c.args.templates.now in
    let i = c.loop-number.number in
    let t : Template = c.index-templates-number.result in
    let before : List Op = c.loop-number.ops.items in
    let now : List Op = c.add_body.new.ops.items in
    let found : slice_get ts i ≡ Some t = slice_get_read ts (length ts) i t refl c.loop-number-test.true c.index-templates-number.is in
    let at = c.in_ok-at.at in
    let run : Begins now at t.body.items = subst (Begins now at) c.deref.ensures.value c.in_ok-at.ensures.begins in
    let start : Start = c.of.result in
    let is : IsStartOf now start t = record {
      body = subst (λ n. Begins now n t.body.items) (sym c.of.ensures.at) run;
      id = c.of.ensures.id;
      reset = c.of.ensures.reset;
    } in
    let long : length c.loop-number.starts.items ≡ i = as_many_starts IsStartOf before c.loop-number.starts.items (take i ts) starts
    ∙ length-take-le i ts c.loop-number.auto.number-end in
    let more = one_more_start IsStartOf now i c.loop-number.starts.items ts start t found
    (kept_starts IsStartOf before now c.loop-number.starts.items _ (kept_start ns before now c.in_ok-at.ensures.extends) starts) is in (
      extends_both ns c.args.ops.now.items before now extends c.in_ok-at.ensures.extends,
      rw (c.in_ok-push.ensures.items, add-one) more,
      rw c.in_ok-push.ensures.items (order_more c.loop-number.starts.items start order (c.of.ensures.number ∙ sym long)),
    )

pub loop-number-init : goal.loop-number-init
loop-number-init c =
    let none = c.in_ok-starts.ensures.items in (
      extends_none c.args.nodes.now c.args.ops.now.items,
      no_starts IsStartOf c.args.ops.now.items c.in_ok-starts.starts.items none,
      order_none c.in_ok-starts.starts.items none,
    )

pub add_body-requires-clause-few : goal.add_body-requires-clause-few
add_body-requires-clause-few c = c.requires.few

pub add_body-requires-clause-below : goal.add_body-requires-clause-below
add_body-requires-clause-below c =
    let ts : List Template = c.args.templates.now in
    let i = c.loop-number.number in
    let t : Template = c.index-templates-number.result in
    subst (AreBelow (length c.args.nodes.now)) (sym c.deref.ensures.value)
    (c.requires.below i t (slice_get_read ts (length ts) i t refl c.loop-number-test.true c.index-templates-number.is))

pub returns-clause-starts : goal.returns-clause-starts
returns-clause-starts c =
    subst (AreStarts IsStartOf c.loop-number.ops.items c.loop-number.starts.items)
    (take_all c.loop-number.number c.args.templates.now (omega (arith, c.loop-number-test.false))) c.loop-number.invariant.1

pub returns-clause-order : goal.returns-clause-order
returns-clause-order c = c.loop-number.invariant.2

pub returns-clause-extends : goal.returns-clause-extends
returns-clause-extends c = c.loop-number.invariant.0
