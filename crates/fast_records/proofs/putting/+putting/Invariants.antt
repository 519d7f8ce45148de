-- What is put of the slots, and of the elements, so far.
use Rattle.std.proofs.Common.{◌+◌, ◌≤◌, ◌*◌, drop, length, map}
use Rattle.fast_stream.specs.meaning.Handed.{event_data}
use Rattle.fast_tree.specs.meaning.Nodes.{body_among}
use Rattle.fast_template.specs.meaning.Flat.{nodes_of}
use Rattle.fast_records.specs.device.Putting.{IsPutTo, ArePutTo}
use Rattle.fast_records.specs.device.Due.{IsLeft, AreLeft}
use Rattle.fast_records.proofs.putting.+putting.Given as goal

abbrev pub invariant-put_body-loop-node : goal.invariant-put_body-loop-node
invariant-put_body-loop-node l =
    IsPutTo (body_among (nodes_of l.templates) l.body) l.slots.items (body_among (nodes_of l.templates) (drop l.node-index l.body))
    (map event_data (drop l.fn.at l.given)) (map event_data (drop l.place l.given))
    × IsLeft (body_among (nodes_of l.templates) l.body) (body_among (nodes_of l.templates) (drop l.node-index l.body)) l.end
    (map event_data (drop l.fn.at l.given)) (map event_data (drop l.place l.given))
    × (l.fn.at ≤ length l.given → l.place ≤ length l.given)

abbrev pub invariant-put_rows-loop-i : goal.invariant-put_rows-loop-i
invariant-put_rows-loop-i l =
    ArePutTo (body_among (nodes_of l.templates) l.body) l._i l.rows.items (map event_data (drop l.fn.at l.given)) (map event_data (drop l.place l.given))
    × AreLeft (body_among (nodes_of l.templates) l.body) l.count l._i (map event_data (drop l.fn.at l.given)) (map event_data (drop l.place l.given))
    × (l.fn.at ≤ length l.given → l.place ≤ length l.given)

abbrev pub decreases-put_body : goal.decreases-put_body
decreases-put_body l = 3 * length (drop l.at l.given.now) + 2

abbrev pub decreases-put_slot : goal.decreases-put_slot
decreases-put_slot l = 3 * length (drop l.at l.given.now) + 1

abbrev pub decreases-put_rows : goal.decreases-put_rows
decreases-put_rows l = 3 * length (drop l.at l.given.now) + 2
