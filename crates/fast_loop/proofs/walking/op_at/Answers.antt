-- An op of the program is one of its node.
use Rattle.std.proofs.Common.{refl, sym, ap, ◌∙◌, subst}
use Rattle.std.specs.Prelude.{List, slice_get, ◌≡◌, Some}
use Rattle.fast_tree.specs.declared.instructions.Node.{Node}
use Rattle.fast_program.specs.declared.ops.Op.{Op}
use Rattle.fast_program.specs.device.Ops.{IsOpOf}
use Rattle.fast_program.specs.device.Programs.{SuitNodes}
use Rattle.fast_program.proofs.Claims.{claimed}
use Rattle.fast_cursor.specs.device.Segments.{first_node}
use Rattle.fast_machine.specs.device.Positions.{set_of}
use Rattle.fast_loop.proofs.arms.Ops.{found_below, get_behind}
use Rattle.fast_loop.proofs.walking.op_at.Goals as goal

pub returns-clause-op : goal.returns-clause-op
returns-clause-op c more =
    let nodes = (set_of c.args.templates.now).nodes in
    let op = c.op.result.now in
    let program = c.args.machine.now.cursor.ops in
    let (n, within, is) = c.requires.spot.place.ahead.end in
    let there : slice_get program n ≡ Some op = sym (get_behind program n) ∙ ap (λ (ahead : List Op). slice_get ahead 0) (sym is) ∙ c.op.ensures.here in
    let suits : SuitNodes program nodes = subst (λ (ops : List Op). SuitNodes ops nodes)
    (c.program.ensures.is ∙ sym c.requires.spot.can.supplied.program) c.program.ensures.suits in
    let (x, found, is_of) = suits n op there more in
    record {
      below = found_below nodes op.node x found;
      first = ap first_node (c.op.ensures.more more);
      is = λ y got. let same : x ≡ y = cc in claimed op op.node y.shape op.code (subst (λ (z : Node). IsOpOf op op.node z.shape) same is_of) refl;
    }
