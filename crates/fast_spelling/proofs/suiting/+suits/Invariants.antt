-- What suits from a place on decides for all.
use Rattle.std.proofs.Common.{◌+◌, ◌*◌, drop}
use Rattle.std.specs.Prelude.{◌↔◌, option_map}
use Rattle.fast_value.specs.meaning.Views.{item_data, slots_data, elements_data}
use Rattle.fast_template.specs.meaning.Flat.{nodes_of}
use Rattle.fast_tree.specs.meaning.Nodes.{body_among}
use Rattle.fast_spelling.specs.meaning.Suiting.{SuitsBody, AreRight}
use Rattle.fast_spelling.proofs.limits.Depths.{item_depth, option_depth, slots_depth, rows_depth}
use Rattle.fast_spelling.proofs.suiting.+suits.Given as goal

abbrev pub invariant-suits_body-loop-i : goal.invariant-suits_body-loop-i
invariant-suits_body-loop-i l =
    SuitsBody (body_among (nodes_of l.templates) (drop l.i l.body)) (slots_data (drop l.i l.slots))
    ↔ SuitsBody (body_among (nodes_of l.templates) l.body) (slots_data l.slots)

abbrev pub invariant-suits_rows-loop-row : goal.invariant-suits_rows-loop-row
invariant-suits_rows-loop-row l =
    AreRight (SuitsBody (body_among (nodes_of l.templates) l.body)) (elements_data (drop l.row-index l.rows))
    ↔ AreRight (SuitsBody (body_among (nodes_of l.templates) l.body)) (elements_data l.rows)

abbrev pub decreases-suits_body : goal.decreases-suits_body
decreases-suits_body l = 4 * slots_depth (slots_data l.slots.now) + 2

abbrev pub decreases-suits_slot : goal.decreases-suits_slot
decreases-suits_slot l = 4 * option_depth (option_map item_data l.slot.now) + 1

abbrev pub decreases-suits_item : goal.decreases-suits_item
decreases-suits_item l = 4 * item_depth (item_data l.item.now)

abbrev pub decreases-suits_rows : goal.decreases-suits_rows
decreases-suits_rows l = 4 * rows_depth (elements_data l.rows.now) + 3
