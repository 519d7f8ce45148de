-- What is written of the slots, and of the elements, so far; the whole suits and fits if the rest does.
use Rattle.std.proofs.Common.{◌≡◌, ◌+◌, ◌*◌, drop}
use Rattle.fast_value.specs.meaning.Messages.{count, total, rows_total}
use Rattle.fast_value.specs.meaning.Views.{item_data, slots_data, elements_data}
use Rattle.fast_template.specs.meaning.Flat.{nodes_of}
use Rattle.fast_tree.specs.meaning.Nodes.{body_among}
use Rattle.fast_spelling.specs.device.Nodes.{IsReady, Keeps}
use Rattle.fast_spelling.specs.device.Progress.{IsWritten, AreWritten}
use Rattle.fast_spelling.specs.meaning.Suiting.{SuitsBody, AreRight, AreWithinLimits, RowsWithinLimits}
use Rattle.fast_spelling.proofs.limits.Depths.{item_depth, slots_depth}
use Rattle.fast_spelling.proofs.checking.+check.Given as goal

abbrev pub invariant-try_body-loop-i : goal.invariant-try_body-loop-i
invariant-try_body-loop-i l = record {
  written : IsWritten l.plan.limits (body_among (nodes_of l.plan.templates.now) l.body)
      (slots_data l.slots) l.fn.work.ledger.now l.fn.work.draft (body_among (nodes_of l.plan.templates.now) (drop l.i l.body))
      (slots_data (drop l.i l.slots)) l.work.ledger.now l.work.draft;
  suits : SuitsBody (body_among (nodes_of l.plan.templates.now) (drop l.i l.body)) (slots_data (drop l.i l.slots))
      → SuitsBody (body_among (nodes_of l.plan.templates.now) l.body) (slots_data l.slots);
  fits : AreWithinLimits l.plan.limits (slots_data (drop l.i l.slots)) → AreWithinLimits l.plan.limits (slots_data l.slots);
  sum : l.work.room + total (slots_data l.slots) ≡ l.fn.work.room + total (slots_data (drop l.i l.slots));
  ready : IsReady l.plan.templates.now l.plan.limits l.work.ledger;
  keeps : Keeps l.fn.work.ledger l.work.ledger;
}

abbrev pub invariant-try_item-loop-row : goal.invariant-try_item-loop-row
invariant-try_item-loop-row l = record {
  written : AreWritten l.plan.limits (body_among (nodes_of l.plan.templates.now) l.body.items)
      (elements_data l.row-items) l.initial.work.ledger.now l.initial.work.draft
      (elements_data (drop l.row-index l.row-items)) l.work.ledger.now l.work.draft;
  right : AreRight (SuitsBody (body_among (nodes_of l.plan.templates.now) l.body.items)) (elements_data (drop l.row-index l.row-items))
      → AreRight (SuitsBody (body_among (nodes_of l.plan.templates.now) l.body.items)) (elements_data l.row-items);
  fits : RowsWithinLimits l.plan.limits (elements_data (drop l.row-index l.row-items)) → RowsWithinLimits l.plan.limits (elements_data l.row-items);
  sum : l.work.room + (count (elements_data l.row-items) + rows_total (elements_data l.row-items)) ≡ l.fn.work.room + rows_total
      (elements_data (drop l.row-index l.row-items));
  ready : IsReady l.plan.templates.now l.plan.limits l.work.ledger;
  keeps : Keeps l.fn.work.ledger l.work.ledger;
}

abbrev pub decreases-try_body : goal.decreases-try_body
decreases-try_body l = 4 * slots_depth (slots_data l.slots.now) + 2

abbrev pub decreases-try_item : goal.decreases-try_item
decreases-try_item l = 4 * item_depth (item_data l.item.now)

abbrev pub decreases-try_segment : goal.decreases-try_segment
decreases-try_segment l = 4 * slots_depth (slots_data l.slots.now) + 3
