use Rattle.std.proofs.Common.{◌≡◌, ◌+◌, suc, take, refl, ap, arith, add-one, sym, None}
use Rattle.std.specs.Prelude.{sum_by}
use Rattle.std.proofs.lemmas.List.Sums.{sum_by_more}
use Rattle.fast_notation.specs.device.Extents.{known_nodes}
use Rattle.fast_notation.proofs.chains.check_nodes.Goals as goal

pub returns-then-nodes-room-clause-fault : goal.returns-then-nodes-room-clause-fault
returns-then-nodes-room-clause-fault c =
    let k = c.loop-k.k in
    let more = sum_by_more known_nodes c.args.extents.now k None c.loop-k-test.true in
    let next : sum_by known_nodes (take (suc k) c.args.extents.now) ≡ sum_by known_nodes (take (k + 1) c.args.extents.now) =
    ap (λ n. sum_by known_nodes (take n c.args.extents.now)) (sym (add-one k)) in
    let here = c.known_nodes-nodes.ensures in
    (k, refl, refl, c.loop-k-test.true, omega (arith, more, next, here, c.loop-k.invariant))

pub returns-then-nodes-room-clause-first : goal.returns-then-nodes-room-clause-first
returns-then-nodes-room-clause-first c = (c.loop-k.k, refl, refl, omega (arith, c.loop-k.invariant))
