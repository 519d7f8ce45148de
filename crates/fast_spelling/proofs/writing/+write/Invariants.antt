-- What is written of the slots, and of the elements, so far.
use Rattle.std.proofs.Common.{◌+◌, ◌*◌, drop}
use Rattle.fast_value.specs.meaning.Views.{item_data, slots_data, elements_data}
use Rattle.fast_template.specs.meaning.Flat.{nodes_of}
use Rattle.fast_tree.specs.meaning.Nodes.{body_among}
use Rattle.fast_spelling.specs.device.Nodes.{IsReady, Keeps}
use Rattle.fast_spelling.specs.device.Progress.{IsWritten, AreWritten}
use Rattle.fast_spelling.specs.meaning.Suiting.{SuitsBody, AreRight, AreWithinLimits, RowsWithinLimits}
use Rattle.fast_spelling.proofs.limits.Depths.{item_depth, slots_depth}
use Rattle.fast_spelling.proofs.writing.+write.Given as goal

abbrev pub invariant-write_body-loop-i : goal.invariant-write_body-loop-i
invariant-write_body-loop-i l = record {
  written : IsWritten l.limits (body_among (nodes_of l.templates) l.body) (slots_data l.slots) l.fn.ledger.now l.fn.draft
      (body_among (nodes_of l.templates) (drop l.i l.body)) (slots_data (drop l.i l.slots)) l.ledger.now l.draft;
  suits : SuitsBody (body_among (nodes_of l.templates) (drop l.i l.body)) (slots_data (drop l.i l.slots));
  fits : AreWithinLimits l.limits (slots_data (drop l.i l.slots));
  ready : IsReady l.templates l.limits l.ledger;
  keeps : Keeps l.fn.ledger l.ledger;
}

abbrev pub invariant-write_item-loop-row : goal.invariant-write_item-loop-row
invariant-write_item-loop-row l = record {
  written : AreWritten l.limits (body_among (nodes_of l.templates) l.body.items)
      (elements_data l.row-items) l.initial.ledger.now l.initial.draft (elements_data (drop l.row-index l.row-items)) l.ledger.now l.draft;
  right : AreRight (SuitsBody (body_among (nodes_of l.templates) l.body.items)) (elements_data (drop l.row-index l.row-items));
  fits : RowsWithinLimits l.limits (elements_data (drop l.row-index l.row-items));
  ready : IsReady l.templates l.limits l.ledger;
  keeps : Keeps l.fn.ledger l.ledger;
}

abbrev pub decreases-write_body : goal.decreases-write_body
decreases-write_body l = 2 * slots_depth (slots_data l.slots.now) + 1

abbrev pub decreases-write_item : goal.decreases-write_item
decreases-write_item l = 2 * item_depth (item_data l.item.now)
