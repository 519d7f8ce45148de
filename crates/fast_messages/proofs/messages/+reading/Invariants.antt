-- What is read of the slots, and of the elements, so far.
use Rattle.std.proofs.Common.{◌+◌, ◌*◌, ◌≤◌, drop, length}
use Rattle.fast_tree.specs.meaning.Nodes.{body_among}
use Rattle.fast_template.specs.meaning.Flat.{nodes_of, tree_of}
use Rattle.fast_messages.specs.device.Cursors.{ahead}
use Rattle.fast_messages.specs.device.Progress.{IsReadTo, AreReadTo}
use Rattle.fast_messages.proofs.messages.+reading.Given as goal

abbrev pub invariant-read_body-loop-i : goal.invariant-read_body-loop-i
invariant-read_body-loop-i l = IsReadTo (tree_of l.templates) (body_among (nodes_of l.templates) l.body) l.slots.items
    (body_among (nodes_of l.templates) (drop l.i l.body)) l.fn.at l.place

abbrev pub invariant-read_rows-loop-rows : goal.invariant-read_rows-loop-rows
invariant-read_rows-loop-rows l = record {
  read : AreReadTo (tree_of l.templates) (body_among (nodes_of l.templates) l.body) l.rows.items l.fn.at l.place;
  few : length l.rows.items ≤ l.count;
}

abbrev pub decreases-read_rows-loop-rows : goal.decreases-read_rows-loop-rows
decreases-read_rows-loop-rows l = length (ahead l.place)

abbrev pub decreases-read_body : goal.decreases-read_body
decreases-read_body l = 3 * length (ahead l.at) + 2

abbrev pub decreases-read_item : goal.decreases-read_item
decreases-read_item l = 3 * length (ahead l.at) + 1

abbrev pub decreases-read_rows : goal.decreases-read_rows
decreases-read_rows l = 3 * length (ahead l.at) + 2
