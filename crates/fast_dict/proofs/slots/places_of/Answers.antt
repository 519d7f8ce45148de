-- A mark that is set takes the next slot.
use Rattle.std.proofs.Common.{ap, sym, ◌∙◌, ◌+◌, ◌++◌, arith, append-nil}
use Rattle.std.proofs.lemmas.List.{drop_all}
use Rattle.fast_dict.specs.device.Places.{places_from}
use Rattle.fast_dict.proofs.Placing.{place_more, place_none, room_more, room_none}
use Rattle.fast_dict.proofs.slots.places_of.Goals as goal
use Rattle.fast_dict.proofs.slots.places_of.Goals.{then-mark+in_ok-push, else-mark+in_ok-push-2}

pub loop-mark-preserved : goal.loop-mark-preserved
loop-mark-preserved c =
    elim c.if-mark.branch [
      | then-mark+in_ok-push w ↦ record {
        placed = rw (w.places-is, w.in_ok-push.ensures.items, w.next-is)
            (place_more c.args.size c.loop-mark.next c.args.marks.now c.loop-mark.mark-index _ c.loop-mark.places.items _
            c.loop-mark-test.true w.if-mark.true c.loop-mark.invariant.placed);
        room = rw w.next-is (room_more c.args.size c.loop-mark.next _ c.args.marks.now c.loop-mark.mark-index _ c.loop-mark-test.true
            w.if-mark.true c.loop-mark.invariant.room);
        count = rw (w.places-is, w.in_ok-push.ensures.len) (ap (λ n. n + 1) c.loop-mark.invariant.count);
      }
      | else-mark+in_ok-push-2 w ↦ record {
        placed = rw (w.places-is, w.in_ok-push-2.ensures.items, w.next-is)
            (place_none c.args.size c.loop-mark.next c.args.marks.now c.loop-mark.mark-index _ c.loop-mark.places.items _
            c.loop-mark-test.true w.if-mark.false c.loop-mark.invariant.placed);
        room = rw w.next-is (room_none c.args.size c.loop-mark.next _ c.args.marks.now c.loop-mark.mark-index _ c.loop-mark-test.true
            w.if-mark.false c.loop-mark.invariant.room);
        count = rw (w.places-is, w.in_ok-push-2.ensures.len) (ap (λ n. n + 1) c.loop-mark.invariant.count);
      }
    ]

pub loop-mark-init : goal.loop-mark-init
loop-mark-init c =
    let none = c.in_ok-places.ensures.items in
    record {
      placed = ap (λ ps. ps ++ places_from c.args.size 0 c.args.marks.now) none;
      room = omega arith;
      count = c.in_ok-places.ensures.len;
    }

pub overflow_add-next : goal.overflow_add-next
overflow_add-next c =
    let room = room_more c.args.size c.loop-mark.next _ c.args.marks.now c.loop-mark.mark-index _ c.loop-mark-test.true c.if-mark.true
    c.loop-mark.invariant.room in
    let all = c.requires in
    omega (arith, room, all)

pub returns-clause-items : goal.returns-clause-items
returns-clause-items c =
    let places = c.loop-mark.places.items in
    let none = drop_all c.loop-mark.mark-index c.args.marks.now c.loop-mark-test.false in
    sym (append-nil places) ∙ ap (λ ms. places ++ places_from c.args.size c.loop-mark.next ms) (sym none) ∙ c.loop-mark.invariant.placed

pub returns-clause-len : goal.returns-clause-len
returns-clause-len c =
    let count = c.loop-mark.invariant.count in
    let above = c.loop-mark-test.false in
    let below = c.loop-mark.auto.mark-index-end in
    omega (arith, count, above, below)
