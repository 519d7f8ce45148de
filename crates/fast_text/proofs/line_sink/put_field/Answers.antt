use Rattle.std.proofs.Common.{[]}
use Rattle.std.proofs.lemmas.Option.{slice_get-get_or}
use Rattle.fast_text.proofs.Writing.{writes_both, writes_same}
use Rattle.fast_text.proofs.line_sink.put_field.Goals as goal

pub put_front-requires : goal.put_front-requires
put_front-requires g c = (c.requires.each c.args.node _ (slice_get-get_or c.args.fronts.now c.args.node (record {
  cells = [];
  len = 0;
}) c.if-place-fronts.true)).short

pub returns-then-fronts-place-gt0 : goal.returns-then-fronts-place-gt0
returns-then-fronts-place-gt0 g c =
    let front = c.requires.each c.args.node _ (slice_get-get_or c.args.fronts.now c.args.node (record { cells = []; len = 0 }) c.if-place-fronts.true) in
    writes_same (front.made c.if-fronts-place-gt0.true) c.put_front.ensures

pub returns-else-place-fronts : goal.returns-else-place-fronts
returns-else-place-fronts g c = writes_both (writes_both c.put.ensures c.put_node.ensures) c.put-else-place-fronts.ensures
