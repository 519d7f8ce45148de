use Rattle.std.proofs.Common.{refl, sym, subst, arith, List, ◌≡◌, length, Some, slice_get, add-one}
use Rattle.std.proofs.lemmas.List.{take_all}
use Rattle.std.proofs.lemmas.Option.{slice_get_read}
use Rattle.fast_tree.specs.declared.instructions.Node.{Node}
use Rattle.fast_tree.specs.meaning.Numbers.{AreBelow}
use Rattle.fast_program.specs.declared.ops.Op.{Op}
use Rattle.fast_program.specs.device.Runs.{Begins}
use Rattle.fast_program.specs.device.Programs.{AreStarts, BeginsNode}
use Rattle.fast_program.proofs.StartLists.{one_more_start, kept_starts, kept_node, extends_both, extends_none, no_starts}
use Rattle.fast_program.proofs.programs.add_bodies.Goals as goal

pub add_body-requires-clause-rests : goal.add_body-requires-clause-rests
add_body-requires-clause-rests c = c.loop-node.invariant.0.kept 0 _ c.requires.rests

pub loop-node-preserved : goal.loop-node-preserved
loop-node-preserved c =
    let (extends, starts) = c.loop-node.invariant in
    let ns : List Node = c.args.nodes.now in
    let i = c.loop-node.node-index in
    let x : Node = c.node-item.result in
    let before : List Op = c.loop-node.ops.items in
    let now : List Op = c.add_body.new.ops.items in
    let found : slice_get ns i ≡ Some x = slice_get_read ns (length ns) i x refl c.loop-node-test.true c.node-item.is in
    let begins : BeginsNode now c.in_ok-start.start x = subst (Begins now c.in_ok-start.start) c.body_of.ensures c.in_ok-start.ensures.begins in
    let more = one_more_start BeginsNode now i c.loop-node.starts.items ns c.in_ok-start.start x found
    (kept_starts BeginsNode before now c.loop-node.starts.items _ (kept_node ns before now c.in_ok-start.ensures.extends) starts)
    begins in
    (extends_both ns c.args.ops.now.items before now extends c.in_ok-start.ensures.extends, rw (c.in_ok-push.ensures.items, add-one) more)

pub loop-node-init : goal.loop-node-init
loop-node-init c = (
  extends_none c.args.nodes.now c.args.ops.now.items,
  no_starts BeginsNode c.args.ops.now.items c.in_ok-starts.starts.items c.in_ok-starts.ensures.items,
)

pub add_body-requires-clause-few : goal.add_body-requires-clause-few
add_body-requires-clause-few c = c.requires.few

pub add_body-requires-clause-below : goal.add_body-requires-clause-below
add_body-requires-clause-below c =
    let ns : List Node = c.args.nodes.now in
    let i = c.loop-node.node-index in
    let x : Node = c.node-item.result in
    let later = c.requires.later i x (slice_get_read ns (length ns) i x refl c.loop-node-test.true c.node-item.is) in
    subst (AreBelow (length ns)) (sym c.body_of.ensures) (λ k inside. (later k inside).1)

pub returns-clause-starts : goal.returns-clause-starts
returns-clause-starts c =
    subst (AreStarts BeginsNode c.loop-node.ops.items c.loop-node.starts.items)
    (take_all c.loop-node.node-index c.args.nodes.now (omega (arith, c.loop-node-test.false))) c.loop-node.invariant.1

pub returns-clause-extends : goal.returns-clause-extends
returns-clause-extends c = c.loop-node.invariant.0
